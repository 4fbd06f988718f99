use Rattle.std.proofs.Common.{◌∙◌, ap, sym, length, map, set, arith}
use Rattle.std.proofs.Math.Seq.{map-set_same}
use Rattle.std.proofs.lemmas.List.{map-set, length-map}
use Rattle.sms_core.specs.declared.slots.Slot.TheVariants.{Free}
use Rattle.sms_core.specs.Holds.{holders_of}
use Rattle.sms_core.specs.Slots.{Table, pairs_from, worker_in, mark_in}
use Rattle.sms_core.proofs.Table.{held_inside, held_holder, worker_at}
use Rattle.sms_core.proofs.slots.Slots.set_mark.Goals as goal

pub bounds-self-inside-slot : goal.bounds-self-inside-slot
bounds-self-inside-slot c =
    let ss = c.self.inside.slots in
    let held = held_holder c.args.slot (map worker_in ss) (λ e. c.requires (ap (λ (t : Table). holders_of c.args.slot t.holds) (sym c.self.view_is) ∙ e)) in
    let below = held_inside c.args.slot (map worker_in ss) held in
    omega (arith, below, length-map ss worker_in, c.self.invariant)

pub bounds-self-inside-slot-2 : goal.bounds-self-inside-slot-2
bounds-self-inside-slot-2 c =
    let ss = c.self.inside.slots in
    let held = held_holder c.args.slot (map worker_in ss) (λ e. c.requires (ap (λ (t : Table). holders_of c.args.slot t.holds) (sym c.self.view_is) ∙ e)) in
    let below = held_inside c.args.slot (map worker_in ss) held in
    omega (arith, below, length-map ss worker_in, c.self.invariant)

pub with_mark-requires : goal.with_mark-requires
with_mark-requires c = λ e.
    let ss = c.self.inside.slots in
    held_holder c.args.slot (map worker_in ss) (λ z. c.requires (ap (λ (t : Table). holders_of c.args.slot t.holds) (sym c.self.view_is) ∙ z)) (worker_at ss c.args.slot ∙ ap worker_in e)

pub returns-clause-holds : goal.returns-clause-holds
returns-clause-holds c =
    let ss = c.self.inside.slots in
    ap (pairs_from 0) (map-set_same worker_in ss c.args.slot c.with_mark.result Free c.with_mark.ensures.worker) ∙ ap (λ (t : Table). t.holds) c.self.view_is

pub returns-clause-marks : goal.returns-clause-marks
returns-clause-marks c =
    let ss = c.self.inside.slots in
    map-set mark_in ss c.args.slot c.with_mark.result ∙ ap (set (map mark_in ss) c.args.slot) c.with_mark.ensures.mark ∙ ap (λ (t : Table). set t.marks c.args.slot c.args.mark) c.self.view_is

pub returns-clause-inside : goal.returns-clause-inside
returns-clause-inside c =
    let ss = c.self.inside.slots in
    let held = held_holder c.args.slot (map worker_in ss) (λ e. c.requires (ap (λ (t : Table). holders_of c.args.slot t.holds) (sym c.self.view_is) ∙ e)) in
    let below = held_inside c.args.slot (map worker_in ss) held in
    omega (arith, below, length-map ss worker_in, length-map ss mark_in, ap (λ (t : Table). length t.marks) c.self.view_is)
