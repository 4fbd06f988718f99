use Rattle.std.proofs.Common.{◌≤◌, ℕ, sym, ap, ◌∙◌, subst}
use Rattle.sms_core.specs.Numbers.{times}
use Rattle.std.specs.Int.{bit_at}
use Rattle.sms_window.specs.SeatState.{SeatState}
use Rattle.sms_window.specs.Outcome.{IsEnd}
use Rattle.sms_window.proofs.Ends.{closes, closes_once}
use Rattle.sms_window.proofs.Calls.{live}
use Rattle.sms_window.proofs.window.Window.close.Goals as goal

pub returns-clause-end : goal.returns-clause-end
returns-clause-end c =
    let i = c.seat.invariant in
    let (full_words, full_slots, final) = c.close_with-closed.ensures.values in
    subst (λ (p : SeatState). IsEnd p.view c.word-held.result c.word-next.result) c.seat.view_is
    (closes _ _ _ c.seat.inside.seat.id c.seat.inside.seat.me.0 final (live _ c.seat.inside.name (ap (λ (w : ℕ). bit_at w c.seat.inside.name) (sym i.family) ∙ i.has_own))
    c.word-held.result c.word-next.result c.word-held.ensures c.word-next.ensures)

pub returns-clause-once : goal.returns-clause-once
returns-clause-once c n =
    let (full_words, full_slots, final) = c.close_with-closed.ensures.values in
    subst (λ (p : SeatState). times n p.view.numbers ≤ 1) c.seat.view_is (closes_once _ _ _ c.seat.inside.seat.id c.seat.inside.seat.me.0 final n)
