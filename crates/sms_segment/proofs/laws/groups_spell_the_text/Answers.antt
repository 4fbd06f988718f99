use Rattle.std.proofs.lemmas.List.Elements.{All-from_recursion}
use Rattle.sms_segment.specs.Laws.{IsGroup}
use Rattle.sms_segment.proofs.Grouping.{concat-groups, each-group}
use Rattle.sms_segment.proofs.laws.groups_spell_the_text.Goals as goal

pub returns : goal.returns
returns c = λ coding units. (concat-groups coding units, All-from_recursion (IsGroup coding) _ (each-group coding units))
