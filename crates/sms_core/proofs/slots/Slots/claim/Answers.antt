use Rattle.std.proofs.Common.{◌≡◌, ◌∙◌, ◌+◌, ◌<◌, ℕ, List, Option, ap, sym, None, get_or, length, map, arith}
use Rattle.std.proofs.Math.Seq.{map-set_same}
use Rattle.std.proofs.lemmas.List.{map-set, length-map}
use Rattle.sms_core.specs.declared.mark.Mark.TheVariants.{Empty}
use Rattle.sms_core.specs.declared.slots.Slot.TheVariants.{Free, Held}
use Rattle.sms_core.specs.Holds.{holders_of, weigh}
use Rattle.sms_core.specs.Slots.{Table, pairs_from, worker_in, mark_in}
use Rattle.sms_core.proofs.Table.{free_holder, claims-pairs, idle, mark_at, worker_at}
use Rattle.sms_core.proofs.slots.Slots.claim.Goals as goal

pub returns-clause-holds : goal.returns-clause-holds
returns-clause-holds c =
    let ss = c.self.inside.slots in let worker = c.args.worker in let slot = c.args.slot in
    let hs = map worker_in ss in
    let free : get_or hs slot None ≡ None = free_holder slot hs (ap (λ (t : Table). holders_of slot t.holds) c.self.view_is ∙ c.requires.free) in
    let below : slot < length hs = omega (arith, c.requires.inside, c.self.invariant, length-map ss worker_in) in (
      c.requires.free,
      λ f. ap (λ (x : List (Option ℕ)). weigh f (pairs_from 0 x)) (map-set worker_in ss slot (Held worker Empty))
          ∙ claims-pairs worker slot hs below free f ∙ ap (λ (t : Table). weigh f t.holds + f (worker, slot)) c.self.view_is,
    )

pub returns-clause-marks : goal.returns-clause-marks
returns-clause-marks c =
    let ss = c.self.inside.slots in let slot = c.args.slot in
    let free = free_holder slot (map worker_in ss) (ap (λ (t : Table). holders_of slot t.holds) c.self.view_is ∙ c.requires.free) in
    map-set_same mark_in ss slot (Held c.args.worker Empty) Free (sym (idle (get_or ss slot Free) (sym (worker_at ss slot) ∙ free))) ∙ ap (λ (t : Table). t.marks) c.self.view_is

pub returns-clause-empty : goal.returns-clause-empty
returns-clause-empty c =
    let ss = c.self.inside.slots in let slot = c.args.slot in
    let free = free_holder slot (map worker_in ss) (ap (λ (t : Table). holders_of slot t.holds) c.self.view_is ∙ c.requires.free) in
    ap (λ (t : Table). get_or t.marks slot Empty) (sym c.self.view_is) ∙ mark_at ss slot ∙ idle (get_or ss slot Free) (sym (worker_at ss slot) ∙ free)
