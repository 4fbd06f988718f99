use Rattle.std.proofs.Common.{◌+◌, ◌≡◌, ℕ, ◌-◌, ◌*◌, ◌^◌, ◌≤◌, ◌%◌, sym, ap, ◌∙◌, subst, arith}
use Rattle.std.specs.Int.{bit_at, w64, leading_zeros}
use Rattle.atomic_table.specs.Table.{Me}
use Rattle.sms_window.specs.declared.view.View.{View}
use Rattle.sms_window.specs.SeatState.{SeatState}
use Rattle.sms_window.specs.Seats.{name_to_give, CanSplit, giver, given}
use Rattle.sms_window.proofs.Seats.{splits_keeps, bit_given}
use Rattle.sms_window.proofs.Allows.{load_window_allows}
use Rattle.sms_window.proofs.Calls.{live}
use Rattle.sms_window.proofs.window.Window.split.Goals as goal

pub load-seat-inside-requires : goal.load-seat-inside-requires
load-seat-inside-requires c = (ap (λ (p : SeatState). p.window) c.seat.view_is ∙ c.requires.same_window ∙ sym c.self.view_is, (let i = c.self.invariant in omega arith), load_window_allows _ _ _ _)

pub split_seat-new-requires : goal.split_seat-new-requires
split_seat-new-requires c =
    let i = c.seat.invariant in
    let (same_table, same_id, (looked, carried)) = c.load-seat-inside.ensures in
    let family = ap (λ (v : View). v.family) looked.after ∙ sym i.family in
    let can = subst (λ (p : SeatState). CanSplit p.view) (sym c.seat.view_is) c.requires.names in (
      same_table ∙ ap (λ (p : SeatState). p.window) c.seat.view_is ∙ c.requires.same_window ∙ sym c.self.view_is,
      (let w = c.self.invariant in omega arith),
      splits_keeps _ _ _ (live _ c.seat.inside.name (ap (λ (w : ℕ). bit_at w c.seat.inside.name) family ∙ i.has_own)) (subst (λ (v : View). CanSplit v) (sym looked.after) can),
    )

pub overflow_sub-seat : goal.overflow_sub-seat
overflow_sub-seat c =
    let i = c.seat.invariant in
    let can : CanSplit c.seat.inside.seat.me.0 = subst (λ (p : SeatState). CanSplit p.view) (sym c.seat.view_is) c.requires.names in
    let g = bit_given _ _ _ _ _ i (omega arith) can in
    let e = i.family in
    let le = g.0.fits in
    subst (λ (m : ℕ). m ≤ c.seat.inside.family) (sym g.1) (omega arith)

pub invariant_of-seat : goal.invariant_of-seat
invariant_of-seat c =
    let i = c.seat.invariant in
    let v = c.seat.inside.seat.me.0 in
    let can : CanSplit v = subst (λ (p : SeatState). CanSplit p.view) (sym c.seat.view_is) c.requires.names in
    let g = bit_given _ _ _ _ _ i (omega arith) can in
    let k : ℕ = 63 - leading_zeros w64 (c.seat.inside.family - 1 * 2 ^ c.seat.inside.name % 2 ^ 64) in
    let rest : c.seat.inside.family - 1 * 2 ^ k % 2 ^ 64 ≡ v.family - 2 ^ name_to_give v = λ j. i.family j - g.1 j in
    let (one_table, one_id, left, other_table, right) = c.split_seat-new.ensures in
    let (same_table, same_id, (looked, carried)) = c.load-seat-inside.ensures in
    let now = ap (λ (m : Me (Unit {0}) View). m.0) left ∙ ap giver looked.after in
    record {
      empty = ap (λ (m : Me (Unit {0}) View). m.1) left ∙ carried ∙ i.empty;
      name = i.name ∙ sym (ap (λ (w : View). w.name) now);
      family = rest ∙ sym (ap (λ (w : View). w.family) now);
      slots = i.slots ∙ sym (ap (λ (w : View). w.slots) now);
      small = i.small;
      has_own = (λ j. bit_at (rest j) (i.name j)) ∙ g.0.stays;
    }

pub returns-clause-family : goal.returns-clause-family
returns-clause-family c =
    let i = c.seat.invariant in
    let v = c.seat.inside.seat.me.0 in
    let can : CanSplit v = subst (λ (p : SeatState). CanSplit p.view) (sym c.seat.view_is) c.requires.names in
    let g = bit_given _ _ _ _ _ i (omega arith) can in
    let (one_table, one_id, left, other_table, right) = c.split_seat-new.ensures in
    let (same_table, same_id, (looked, carried)) = c.load-seat-inside.ensures in
    let one = ap (λ (m : Me (Unit {0}) View). m.0.family) left ∙ ap (λ (w : View). (giver w).family) looked.after in
    let two = ap (λ (m : Me (Unit {0}) View). m.0.family) right ∙ ap (λ (w : View). (given w).family) looked.after in
    let was = ap (λ (p : SeatState). p.view.family) c.seat.view_is in
    (λ k. one k + two k) ∙ (let le = g.0.fits in omega arith)
