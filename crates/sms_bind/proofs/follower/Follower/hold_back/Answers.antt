use Rattle.std.proofs.Common.{◌≡◌, ◌+◌, ◌≤◌, List, ℕ, length, sym, ap, ◌∙◌, subst, rules, arith}
use Rattle.std.proofs.lemmas.List.{length_push}
use Rattle.sms_window.specs.declared.view.View.{View}
use Rattle.sms_window.specs.OpenSlots.{IsOpen}
use Rattle.sms_window.proofs.OpenSlots.{one_more}
use Rattle.sms_bind.proofs.follower.Follower.hold_back.Goals as goal

pub invariant_of-self : goal.invariant_of-self
invariant_of-self c =
    let base = c.self.inside.began.value.view.slots in
    let old = c.self.inside.seat.view.slots in
    let new = c.try_claim.new.seat.view.slots in
    let claimed = c.self.inside.claimed.items in
    let got = c.in-Got.ensures.claimed in
    let room : length claimed + 1 ≤ c.self.inside.most = search rules in
    let n : length c.push_reserved.new.self.items ≡ length claimed + 1 = ap length c.push_reserved.ensures.items ∙ length_push claimed c.in-Got.slot in
    let most = c.self.invariant.room in
    let same = c.push_reserved.ensures.capacity in
    record {
      good = c.self.invariant.good;
      slots = subst (λ (l : List ℕ). IsOpen base l new) (sym c.push_reserved.ensures.items)
          (one_more base old new c.in-Got.slot claimed c.self.invariant.slots got.now.0 got.claim.1.free (ap (λ (v : View). v.slots) got.after));
      few = omega (arith, n, room);
      room = omega (arith, most, same);
    }
