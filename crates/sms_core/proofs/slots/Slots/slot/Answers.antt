use Rattle.std.proofs.Common.{◌≡◌, ◌∙◌, ◌==◌, ap, sym, get_or, is_some, nat_lt, not, arith}
use Rattle.std.proofs.lemmas.List.{get_or_past}
use Rattle.sms_core.specs.declared.mark.Mark.TheVariants.{Empty}
use Rattle.sms_core.specs.declared.slots.Slot.{Slot}
use Rattle.sms_core.specs.declared.slots.Slot.TheVariants.{Free}
use Rattle.sms_core.specs.Holds.{holders_of}
use Rattle.sms_core.specs.Slots.{Table, worker_in, mark_in, is_of}
use Rattle.sms_core.specs.State.{find_holder, times_held}
use Rattle.sms_core.proofs.Table.{find-slots, is_held-slots, is_of-slots, mark_at}
use Rattle.sms_core.proofs.slots.Slots.slot.Goals as goal

pub returns-then-slot-lt-MOST_SLOTS-clause-holder : goal.returns-then-slot-lt-MOST_SLOTS-clause-holder
returns-then-slot-lt-MOST_SLOTS-clause-holder c =
    find-slots c.self.inside.slots c.args.slot ∙ ap (λ (t : Table). find_holder c.args.slot t.holds) c.self.view_is

pub returns-then-slot-lt-MOST_SLOTS-clause-held : goal.returns-then-slot-lt-MOST_SLOTS-clause-held
returns-then-slot-lt-MOST_SLOTS-clause-held c =
    is_held-slots c.self.inside.slots c.args.slot ∙ ap (λ (t : Table). nat_lt 0 (holders_of c.args.slot t.holds)) c.self.view_is

pub returns-then-slot-lt-MOST_SLOTS-clause-worker : goal.returns-then-slot-lt-MOST_SLOTS-clause-worker
returns-then-slot-lt-MOST_SLOTS-clause-worker c = λ worker.
    ap (λ (t : Table). not (times_held worker c.args.slot t.holds == 0)) (sym c.self.view_is) ∙ is_of-slots c.self.inside.slots worker c.args.slot

pub returns-then-slot-lt-MOST_SLOTS-clause-mark : goal.returns-then-slot-lt-MOST_SLOTS-clause-mark
returns-then-slot-lt-MOST_SLOTS-clause-mark c =
    sym (mark_at c.self.inside.slots c.args.slot) ∙ ap (λ (t : Table). get_or t.marks c.args.slot Empty) c.self.view_is

pub returns-else-slot-lt-MOST_SLOTS-clause-holder : goal.returns-else-slot-lt-MOST_SLOTS-clause-holder
returns-else-slot-lt-MOST_SLOTS-clause-holder c =
    let past : get_or c.self.inside.slots c.args.slot Free ≡ Free = get_or_past c.self.inside.slots c.args.slot Free (omega (arith, c.self.invariant)) in
    sym (ap worker_in past) ∙ find-slots c.self.inside.slots c.args.slot ∙ ap (λ (t : Table). find_holder c.args.slot t.holds) c.self.view_is

pub returns-else-slot-lt-MOST_SLOTS-clause-held : goal.returns-else-slot-lt-MOST_SLOTS-clause-held
returns-else-slot-lt-MOST_SLOTS-clause-held c =
    let past : get_or c.self.inside.slots c.args.slot Free ≡ Free = get_or_past c.self.inside.slots c.args.slot Free (omega (arith, c.self.invariant)) in
    sym (ap (λ (s : Slot). is_some (worker_in s)) past) ∙ is_held-slots c.self.inside.slots c.args.slot
    ∙ ap (λ (t : Table). nat_lt 0 (holders_of c.args.slot t.holds)) c.self.view_is

pub returns-else-slot-lt-MOST_SLOTS-clause-worker : goal.returns-else-slot-lt-MOST_SLOTS-clause-worker
returns-else-slot-lt-MOST_SLOTS-clause-worker c = λ worker.
    let past : get_or c.self.inside.slots c.args.slot Free ≡ Free = get_or_past c.self.inside.slots c.args.slot Free (omega (arith, c.self.invariant)) in
    ap (λ (t : Table). not (times_held worker c.args.slot t.holds == 0)) (sym c.self.view_is) ∙ is_of-slots c.self.inside.slots worker c.args.slot ∙ ap (is_of worker) past

pub returns-else-slot-lt-MOST_SLOTS-clause-mark : goal.returns-else-slot-lt-MOST_SLOTS-clause-mark
returns-else-slot-lt-MOST_SLOTS-clause-mark c =
    let past : get_or c.self.inside.slots c.args.slot Free ≡ Free = get_or_past c.self.inside.slots c.args.slot Free (omega (arith, c.self.invariant)) in
    sym (ap mark_in past) ∙ sym (mark_at c.self.inside.slots c.args.slot) ∙ ap (λ (t : Table). get_or t.marks c.args.slot Empty) c.self.view_is
