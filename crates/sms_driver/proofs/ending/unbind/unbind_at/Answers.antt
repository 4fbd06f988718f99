use Rattle.std.proofs.Common.{arith, ◌∙◌, ◌<◌, sym, ap, length, Some}
use Rattle.std.proofs.lemmas.Option.{slice_get-get_or}
use Rattle.sms_driver.proofs.Places.{asks_at, same_length, at_place, kept_at}
use Rattle.sms_driver.proofs.ending.unbind.unbind_at.Goals as goal

pub unbind-requires : goal.unbind-requires
unbind-requires g c = record {
  same_window =
      ap (λ s. s.seat.window) c.index_mut-driver_seat.ensures.value
      ∙ at_place (λ s. s.seat.window) (λ b. b.window) c.args.driver_seats.now.items c.args.shared_binds.now c.args.bind c.index_mut-driver_seat.result.now c.index-shared_binds-bind.result c.requires.exists c.requires.driver_seats
      ∙ ap (λ b. b.window) (sym c.index-shared_binds-bind.is);
}

pub returns-clause-driver_seats : goal.returns-clause-driver_seats
returns-clause-driver_seats g c =
    kept_at (λ s. s.seat.window) c.args.driver_seats.now.items c.args.bind c.unbind.new.driver_seat c.index_mut-driver_seat.result.now (c.unbind.ensures.window ∙ ap (λ s. s.seat.window) c.index_mut-driver_seat.ensures.value)

pub returns-clause-asked : goal.returns-clause-asked
returns-clause-asked g c =
    let long = same_length (λ s. s.seat.window) (λ b. b.window) c.args.driver_seats.now.items c.args.shared_binds.now c.requires.driver_seats in
    let here : c.args.bind < length c.args.shared_binds.now = c.requires.exists in
    let low : c.args.bind < length c.args.driver_seats.now.items = omega arith in
    asks_at c.args.bind c.args.driver_seats.now.items c.index_mut-driver_seat.result.now c.unbind.new.driver_seat
    (slice_get-get_or c.args.driver_seats.now.items c.args.bind c.index_mut-driver_seat.result.now low ∙ ap Some (sym c.index_mut-driver_seat.ensures.value)) c.unbind.ensures.asked
