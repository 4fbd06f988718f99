use Rattle.std.proofs.Common.{◌≡◌, ℕ, sym, ap, ◌∙◌, arith}
use Rattle.std.specs.Int.{bit_at}
use Rattle.sms_window.specs.declared.view.View.{View}
use Rattle.sms_window.specs.SeatState.{SeatState}
use Rattle.sms_window.proofs.Allows.{load_number_allows, exchange_draw_allows}
use Rattle.sms_window.proofs.Calls.{live}
use Rattle.sms_window.proofs.window.Window.try_draw.Goals as goal

pub load-found-requires : goal.load-found-requires
load-found-requires c = (ap (λ (p : SeatState). p.window) c.seat.view_is ∙ c.requires.same_window ∙ sym c.self.view_is, (let i = c.self.invariant in omega arith), load_number_allows _ _ _ _)

pub compare_exchange-now-requires : goal.compare_exchange-now-requires
compare_exchange-now-requires c =
    let (same_table, same_id, (looked, carried)) = c.load-found.ensures in
    let i = c.seat.invariant in
    let family : c.load-found.new.seat.me.0.family ≡ c.seat.inside.family = ap (λ (v : View). v.family) looked.after ∙ sym i.family in (
      same_table ∙ ap (λ (p : SeatState). p.window) c.seat.view_is ∙ c.requires.same_window ∙ sym c.self.view_is,
      (let w = c.self.invariant in omega arith),
      exchange_draw_allows _ _ _ _ _ _ (omega arith) (omega arith) (live c.load-found.new.seat.me.0.family c.seat.inside.name (ap (λ (w : ℕ). bit_at w c.seat.inside.name) family ∙ i.has_own)),
    )
