use Rattle.std.proofs.Common.{◌≡◌, ◌∙◌, ap, sym, true, get_or, slice_get, map, arith, eq-eqb}
use Rattle.std.proofs.lemmas.List.{length-map}
use Rattle.sms_core.specs.declared.mark.Mark.TheVariants.{Empty, Open}
use Rattle.sms_core.specs.declared.slots.Slot.TheVariants.{Free}
use Rattle.sms_core.specs.Holds.{holders_of}
use Rattle.sms_core.specs.Marks.{waits_for}
use Rattle.sms_core.specs.Slots.{Table, worker_in, mark_in}
use Rattle.sms_core.specs.Steps.{some_waits_for}
use Rattle.sms_core.proofs.Table.{none_waits_below, some_waits_at, slice_get-at, mark_at, worker_at, idle, free_holder}
use Rattle.sms_core.proofs.slots.Slots.waiting.Goals as goal

pub returns-then-waiting-number-clause-exists : goal.returns-then-waiting-number-clause-exists
returns-then-waiting-number-clause-exists c =
    let ss = c.self.inside.slots in let slot = c.loop-slot.slot in
    let is : get_or (map mark_in ss) slot Empty ≡ Open c.in-Open.request c.in-Open.waiting = mark_at ss slot ∙ sym c.mark.ensures ∙ c.in-Open.is in
    let waits : waits_for c.args.number (get_or (map mark_in ss) slot Empty) ≡ true = ap (waits_for c.args.number) is ∙ eq-eqb c.in-Open.waiting c.args.number c.if-waiting-number.true in
    sym (ap (λ (t : Table). some_waits_for c.args.number t.marks) (sym c.self.view_is) ∙ some_waits_at c.args.number (map mark_in ss) slot waits)

pub returns-then-waiting-number-clause-open : goal.returns-then-waiting-number-clause-open
returns-then-waiting-number-clause-open c =
    let ss = c.self.inside.slots in let slot = c.loop-slot.slot in
    let is : get_or (map mark_in ss) slot Empty ≡ Open c.in-Open.request c.args.number =
    mark_at ss slot ∙ sym c.mark.ensures ∙ c.in-Open.is ∙ ap (Open c.in-Open.request) c.if-waiting-number.true in
    ap (λ (t : Table). slice_get t.marks slot) (sym c.self.view_is) ∙ slice_get-at (map mark_in ss) slot (Open c.in-Open.request c.args.number) is (λ e. absurd (cc))

pub returns-then-waiting-number-clause-held : goal.returns-then-waiting-number-clause-held
returns-then-waiting-number-clause-held c = λ none.
    let ss = c.self.inside.slots in let slot = c.loop-slot.slot in
    let free = free_holder slot (map worker_in ss) (ap (λ (t : Table). holders_of slot t.holds) c.self.view_is ∙ none) in
    let empty : mark_in (get_or ss slot Free) ≡ Empty = idle (get_or ss slot Free) (sym (worker_at ss slot) ∙ free) in
    absurd (cc (empty, c.mark.ensures, c.in-Open.is))

pub returns-clause-exists : goal.returns-clause-exists
returns-clause-exists c =
    let ss = c.self.inside.slots in
    sym (ap (λ (t : Table). some_waits_for c.args.number t.marks) (sym c.self.view_is)
    ∙ none_waits_below c.args.number (map mark_in ss) (λ k lt. ap (waits_for c.args.number) (mark_at ss k) ∙ c.loop-slot.invariant k (omega (arith, lt, length-map ss mark_in, c.self.invariant))))
