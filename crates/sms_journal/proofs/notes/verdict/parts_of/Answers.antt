use Rattle.std.proofs.Common.{ℕ, sym, subst}
use Rattle.std.specs.Prelude.{IfSome, IsNone, Option}
use Rattle.sms_journal.specs.Lawful.{HasParts}
use Rattle.sms_journal.proofs.Verdicts.{no_parts, parts_found}
use Rattle.sms_journal.proofs.notes.verdict.parts_of.Goals as goal

pub returns-clause-found : goal.returns-clause-found
returns-clause-found c =
    subst (λ (o : Option ℕ). IfSome o (HasParts c.args.rules.now c.args.size c.args.messages.now c.args.index)) (sym c.parts_by.ensures)
    (parts_found c.args.rules.now c.args.size c.args.messages.now c.args.index c.in_ok-verdict.verdict c.in_ok-verdict.ensures)

pub returns-clause-none : goal.returns-clause-none
returns-clause-none c = λ none.
    no_parts c.args.rules.now c.args.size c.args.messages.now c.args.index c.in_ok-verdict.verdict c.in_ok-verdict.ensures (subst (λ (o : Option ℕ). IsNone o) c.parts_by.ensures none)
