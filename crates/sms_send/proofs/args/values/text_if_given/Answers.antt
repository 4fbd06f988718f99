use Rattle.std.proofs.Common.{rules, refl, sym, ◌≡◌, ◌∙◌, None, Some}
use Rattle.std.specs.Prelude.{option_map, string_bytes}
use Rattle.clap.specs.Words.{found_of}
use Rattle.clap.proofs.WalkLemmas.{first_value-rows}
use Rattle.sms_send.proofs.args.values.text_if_given.Goals as goal

pub returns-in-Ok-clause-given : goal.returns-in-Ok-clause-given
returns-in-Ok-clause-given c =
    let some : option_map (λ s. s.now) c.get_str.result ≡ Some (string_bytes c.in-Ok.text) = search rules in
    sym (c.get_str.ensures ∙ first_value-rows (found_of c.args.matches.now) c.args.word.now) ∙ some

pub returns-in-None-clause-given : goal.returns-in-None-clause-given
returns-in-None-clause-given c =
    let none : option_map (λ s. s.now) c.get_str.result ≡ None = rw c.in-None.is refl in
    sym (c.get_str.ensures ∙ first_value-rows (found_of c.args.matches.now) c.args.word.now) ∙ none
