use Rattle.std.proofs.Common.{◌≡◌, ◌+◌, List, ℕ, length, sym, ap, ◌∙◌, subst, arith}
use Rattle.std.proofs.lemmas.List.{length_push}
use Rattle.sms_window.specs.declared.view.View.{View}
use Rattle.sms_window.specs.OpenSlots.{IsOpen}
use Rattle.sms_window.proofs.OpenSlots.{one_last}
use Rattle.sms_bind.proofs.follower.Follower.give_back.Goals as goal

pub release-requires-clause-held : goal.release-requires-clause-held
release-requires-clause-held c =
    let base = c.self.inside.began.value.view.slots in
    let slots = c.self.inside.seat.view.slots in
    let o = subst (λ (l : List ℕ). IsOpen base l slots) c.in-Some.ensures.items c.self.invariant.slots in
    let t = one_last base slots c.in-Some.slot c.pop.new.self.items o in
    (t.within, t.held)

pub invariant_of-self : goal.invariant_of-self
invariant_of-self c =
    let base = c.self.inside.began.value.view.slots in
    let slots = c.self.inside.seat.view.slots in
    let rest = c.pop.new.self.items in
    let o = subst (λ (l : List ℕ). IsOpen base l slots) c.in-Some.ensures.items c.self.invariant.slots in
    let t = one_last base slots c.in-Some.slot rest o in
    let n : length c.self.inside.claimed.items ≡ length rest + 1 = ap length c.in-Some.ensures.items ∙ length_push rest c.in-Some.slot in
    let few = c.self.invariant.few in
    let room = c.self.invariant.room in
    let same = c.in-Some.ensures.capacity in
    record {
      good = c.self.invariant.good;
      slots = subst (IsOpen base rest) (sym (ap (λ (v : View). v.slots) c.release.ensures.freed.after)) t.rest;
      few = omega (arith, few, n);
      room = omega (arith, room, same);
    }
