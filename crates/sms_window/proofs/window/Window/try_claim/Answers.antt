use Rattle.std.proofs.Common.{◌≡◌, ℕ, ◌+◌, ◌^◌, sym, ap, ◌∙◌, subst, arith}
use Rattle.std.specs.Int.{bit_at}
use Rattle.sms_window.specs.declared.view.View.{View}
use Rattle.sms_window.specs.SeatState.{SeatState}
use Rattle.sms_window.specs.Outcome.{GotSlot}
use Rattle.sms_window.proofs.Allows.{load_window_allows, exchange_claim_allows}
use Rattle.sms_window.proofs.Calls.{or_bit, least_clear, live, got}
use Rattle.sms_window.proofs.window.Window.try_claim.Goals as goal

pub load-found-requires : goal.load-found-requires
load-found-requires c = (ap (λ (p : SeatState). p.window) c.seat.view_is ∙ c.requires.same_window ∙ sym c.self.view_is, (let i = c.self.invariant in omega arith), load_window_allows _ _ _ _)

pub compare_exchange-now-requires : goal.compare_exchange-now-requires
compare_exchange-now-requires c =
    let (same_table, same_id, (looked, carried)) = c.load-found.ensures in
    let t = least_clear c.load-found.result c.trailing_ones-slot.result c.trailing_ones-slot.ensures c.load-found.type_inv c.if-found.false in
    let b = or_bit c.load-found.result c.trailing_ones-slot.result t.inside c.load-found.type_inv t.clear in
    let i = c.seat.invariant in
    let family : c.load-found.new.seat.me.0.family ≡ c.seat.inside.family = ap (λ (v : View). v.family) looked.after ∙ sym i.family in (
      same_table ∙ ap (λ (p : SeatState). p.window) c.seat.view_is ∙ c.requires.same_window ∙ sym c.self.view_is,
      (let w = c.self.invariant in omega arith),
      exchange_claim_allows _ _ _ _ _ _ c.trailing_ones-slot.result t.inside c.load-found.type_inv t.clear b.0 (live c.load-found.new.seat.me.0.family c.seat.inside.name (ap (λ (w : ℕ). bit_at w c.seat.inside.name) family ∙ i.has_own)),
    )

pub invariant_of-seat-then-now-found : goal.invariant_of-seat-then-now-found
invariant_of-seat-then-now-found c =
    let (same_table, same_id, (looked, carried)) = c.load-found.ensures in
    let (one_table, one_id, (exchanged, kept)) = c.compare_exchange-now.ensures in
    let t = least_clear c.load-found.result c.trailing_ones-slot.result c.trailing_ones-slot.ensures c.load-found.type_inv c.if-found.false in
    let b = or_bit c.load-found.result c.trailing_ones-slot.result t.inside c.load-found.type_inv t.clear in
    let g = got c.seat.inside.seat.me.0 _ _ _ _ c.trailing_ones-slot.result _ looked.after exchanged c.if-now-found.true t.inside t.clear t.least b.0 in
    let i = c.seat.invariant in
    let s = or_bit c.seat.inside.slots c.trailing_ones-slot.result t.inside (omega arith) (ap (λ (w : ℕ). bit_at w c.trailing_ones-slot.result) i.slots ∙ g.claim.1.free) in
    record {
      empty = kept ∙ carried ∙ i.empty;
      name = i.name ∙ sym (ap (λ (v : View). v.name) g.after);
      family = i.family ∙ sym (ap (λ (v : View). v.family) g.after);
      slots = s.0 ∙ ap (λ (w : ℕ). w + 2 ^ c.trailing_ones-slot.result) i.slots ∙ sym (ap (λ (v : View). v.slots) g.after);
      small = i.small;
      has_own = i.has_own;
    }

pub returns-then-now-found-clause-claimed : goal.returns-then-now-found-clause-claimed
returns-then-now-found-clause-claimed c =
    let (same_table, same_id, (looked, carried)) = c.load-found.ensures in
    let (one_table, one_id, (exchanged, kept)) = c.compare_exchange-now.ensures in
    let t = least_clear c.load-found.result c.trailing_ones-slot.result c.trailing_ones-slot.ensures c.load-found.type_inv c.if-found.false in
    let b = or_bit c.load-found.result c.trailing_ones-slot.result t.inside c.load-found.type_inv t.clear in
    subst (λ (p : SeatState). GotSlot p.view c.trailing_ones-slot.result c.compare_exchange-now.new.seat.me.0) c.seat.view_is
    (got c.seat.inside.seat.me.0 _ _ _ _ c.trailing_ones-slot.result _ looked.after exchanged c.if-now-found.true t.inside t.clear t.least b.0)
