use Rattle.std.proofs.Common.{ℕ, ◌-◌, ◌^◌, sym, ap, ◌∙◌, subst, arith}
use Rattle.std.specs.Int.{bit_at}
use Rattle.sms_window.specs.declared.view.View.{View}
use Rattle.sms_window.specs.SeatState.{SeatState}
use Rattle.sms_window.specs.Seats.{Holds}
use Rattle.sms_window.specs.Outcome.{FreedSlot}
use Rattle.sms_window.proofs.Allows.{fetch_release_allows}
use Rattle.sms_window.proofs.Calls.{live, mask_is, and_clear, freed}
use Rattle.sms_window.proofs.window.Window.release.Goals as goal

pub fetch_and-seat-inside-requires : goal.fetch_and-seat-inside-requires
fetch_and-seat-inside-requires c =
    let i = c.seat.invariant in
    let held : Holds c.seat.inside.seat.me.0 c.args.slot = subst (λ (p : SeatState). Holds p.view c.args.slot) (sym c.seat.view_is) c.requires.held in (
      ap (λ (p : SeatState). p.window) c.seat.view_is ∙ c.requires.same_window ∙ sym c.self.view_is,
      (let w = c.self.invariant in omega arith),
      fetch_release_allows _ _ _ _ _ c.args.slot held (mask_is c.args.slot held.0) (live c.seat.inside.seat.me.0.family c.seat.inside.name (ap (λ (w : ℕ). bit_at w c.seat.inside.name) (sym i.family) ∙ i.has_own)),
    )

pub invariant_of-seat : goal.invariant_of-seat
invariant_of-seat c =
    let i = c.seat.invariant in
    let (same_table, same_id, (fetched, carried)) = c.fetch_and-seat-inside.ensures in
    let held : Holds c.seat.inside.seat.me.0 c.args.slot = subst (λ (p : SeatState). Holds p.view c.args.slot) (sym c.seat.view_is) c.requires.held in
    let r = freed _ _ _ c.args.slot _ fetched held.0 (mask_is c.args.slot held.0) in
    let s = and_clear c.seat.inside.slots c.args.slot held.0 (omega arith) (ap (λ (w : ℕ). bit_at w c.args.slot) i.slots ∙ held.1) in
    record {
      empty = carried ∙ i.empty;
      name = i.name ∙ sym (ap (λ (v : View). v.name) r.after);
      family = i.family ∙ sym (ap (λ (v : View). v.family) r.after);
      slots = s ∙ ap (λ (w : ℕ). w - 2 ^ c.args.slot) i.slots ∙ sym (ap (λ (v : View). v.slots) r.after);
      small = i.small;
      has_own = i.has_own;
    }

pub returns-clause-freed : goal.returns-clause-freed
returns-clause-freed c =
    let (same_table, same_id, (fetched, carried)) = c.fetch_and-seat-inside.ensures in
    let inside = c.requires.held.0 in
    subst (λ (p : SeatState). FreedSlot p.view c.args.slot c.fetch_and-seat-inside.new.seat.me.0) c.seat.view_is (freed _ _ _ c.args.slot _ fetched inside (mask_is c.args.slot inside))
