use Rattle.std.proofs.Common.{◌≡◌, ℕ, None, subst, sym}
use Rattle.std.specs.Prelude.{Option, slice_get}
use Rattle.sms_journal.specs.Sums.{IsGrown, parts_in}
use Rattle.sms_journal.proofs.Adding.{unpaid_grown}
use Rattle.sms_journal.proofs.notes.rows.add_message.Goals as goal

pub returns-in-None-clause-grown : goal.returns-in-None-clause-grown
returns-in-None-clause-grown c = λ i.
    let none : c.args.account ≡ None = c.in-None.is in
    subst (λ (a : Option ℕ). IsGrown i a (parts_in c.args.ends.now) (slice_get c.args.sums.now.items i) (slice_get c.args.sums.now.items i)) (sym none)
    (unpaid_grown i (parts_in c.args.ends.now) (slice_get c.args.sums.now.items i))
