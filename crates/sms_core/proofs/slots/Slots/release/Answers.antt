use Rattle.std.proofs.Common.{◌≡◌, ◌∙◌, ◌+◌, ℕ, List, Option, ap, sym, get_or, map, arith}
use Rattle.std.proofs.Math.Seq.{map-set_same}
use Rattle.std.proofs.lemmas.List.{map-set, length-map}
use Rattle.sms_core.specs.declared.mark.Mark.TheVariants.{Empty}
use Rattle.sms_core.specs.declared.slots.Slot.TheVariants.{Free}
use Rattle.sms_core.specs.Holds.{weigh}
use Rattle.sms_core.specs.Slots.{Table, pairs_from, worker_in, mark_in}
use Rattle.sms_core.specs.State.{times_held}
use Rattle.sms_core.proofs.Table.{own_holder, held_inside, releases-pairs, mark_at}
use Rattle.sms_core.proofs.slots.Slots.release.Goals as goal

pub bounds-self-inside-slot : goal.bounds-self-inside-slot
bounds-self-inside-slot c =
    let ss = c.self.inside.slots in
    let own = own_holder c.args.worker c.args.slot (map worker_in ss) (λ e. c.requires.held (ap (λ (t : Table). times_held c.args.worker c.args.slot t.holds) (sym c.self.view_is) ∙ e)) in
    let below = held_inside c.args.slot (map worker_in ss) (λ e. absurd (cc (own, e))) in
    omega (arith, below, length-map ss worker_in, c.self.invariant)

pub returns-clause-holds : goal.returns-clause-holds
returns-clause-holds c = λ f.
    let ss = c.self.inside.slots in let worker = c.args.worker in let slot = c.args.slot in
    let own = own_holder worker slot (map worker_in ss) (λ e. c.requires.held (ap (λ (t : Table). times_held worker slot t.holds) (sym c.self.view_is) ∙ e)) in
    let below = held_inside slot (map worker_in ss) (λ e. absurd (cc (own, e))) in
    ap (λ (t : Table). weigh f t.holds) (sym c.self.view_is) ∙ releases-pairs worker slot (map worker_in ss) below own f
    ∙ ap (λ (x : List (Option ℕ)). weigh f (pairs_from 0 x) + f (worker, slot)) (sym (map-set worker_in ss slot Free))

pub returns-clause-marks : goal.returns-clause-marks
returns-clause-marks c =
    let ss = c.self.inside.slots in let slot = c.args.slot in
    let empty : mark_in (get_or ss slot Free) ≡ Empty = sym (mark_at ss slot) ∙ ap (λ (t : Table). get_or t.marks slot Empty) c.self.view_is ∙ c.requires.empty in
    map-set_same mark_in ss slot Free Free (sym empty) ∙ ap (λ (t : Table). t.marks) c.self.view_is
