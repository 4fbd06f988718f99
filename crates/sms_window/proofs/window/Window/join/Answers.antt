use Rattle.std.proofs.Common.{ℕ, sym, ap, ◌∙◌, arith}
use Rattle.std.specs.Int.{bit_at}
use Rattle.sms_window.specs.SeatState.{SeatState}
use Rattle.sms_window.proofs.Joins.{joins_keeps}
use Rattle.sms_window.proofs.Allows.{load_window_allows}
use Rattle.sms_window.proofs.Calls.{live}
use Rattle.sms_window.proofs.window.Window.join.Goals as goal

pub join_seat-requires : goal.join_seat-requires
join_seat-requires c =
    let i = c.seat.invariant in
    let j = c.other.invariant in
    let w = c.self.invariant in (
      ap (λ (p : SeatState). p.window) c.seat.view_is ∙ c.requires.same_window.0 ∙ sym c.self.view_is,
      ap (λ (p : SeatState). p.window) c.other.view_is ∙ c.requires.same_window.1 ∙ sym c.self.view_is,
      j.empty,
      omega arith,
      joins_keeps _ _ _ _ _ (live _ c.seat.inside.name (ap (λ (w : ℕ). bit_at w c.seat.inside.name) (sym i.family) ∙ i.has_own)) (live _ c.other.inside.name (ap (λ (w : ℕ). bit_at w c.other.inside.name) (sym j.family) ∙ j.has_own)),
    )

pub load-requires : goal.load-requires
load-requires c =
    let e = c.join_seat.ensures in
    (e.0 ∙ ap (λ (p : SeatState). p.window) c.seat.view_is ∙ c.requires.same_window.0 ∙ sym c.self.view_is, (let i = c.self.invariant in omega arith), load_window_allows _ _ _ _)
