use Rattle.std.proofs.Common.{◌≡◌, ◌++◌, ◌∷◌, [], ap, sym, ◌∙◌, get_or, List, ℕ, take, rules, arith}
use Rattle.std.proofs.lemmas.Option.{slice_get-get_or}
use Rattle.std.specs.Prelude.{Bool, if◌then◌else◌}
use Rattle.sms_journal.specs.DenseMap.{value_at}
use Rattle.sms_files.proofs.Lists.{take_whole}
use Rattle.sms_journal.specs.Rounds.{is_left, is_left_by, left_after}
use Rattle.sms_journal.proofs.Rounds.{left_more}
use Rattle.sms_journal.proofs.notes.starts.left_after.Goals as goal

pub loop-index-preserved : goal.loop-index-preserved
loop-index-preserved c = λ notes has.
    let given = c.args.given.now in
    let i = get_or given c.loop-index.index-index 0 in
    let there = slice_get-get_or given c.loop-index.index-index 0 (omega arith) in
    let says : c.is_left_by-is_left.result ≡ is_left_by (value_at c.args.starts.now i) = search rules in
    let is : c.is_left_by-is_left.result ≡ is_left notes i = says ∙ ap is_left_by (has i) in
    c.in_ok-add_left.ensures
    ∙ ap (λ (l : List ℕ). l ++ (if c.is_left_by-is_left.result then i ∷ [] else [])) (c.loop-index.invariant notes has)
    ∙ ap (λ (b : Bool). left_after notes (take c.loop-index.index-index given) ++ (if b then i ∷ [] else [])) is
    ∙ sym (left_more notes given c.loop-index.index-index i there)

pub returns : goal.returns
returns c = λ notes has. c.loop-index.invariant notes has ∙ ap (left_after notes) (take_whole c.args.given.now c.loop-index.index-index (omega arith))
