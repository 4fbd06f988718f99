use Rattle.std.proofs.Common.{rules, arith, ◌∙◌, ◌≤◌, length}
use Rattle.sms_driver.proofs.Places.{all_tried, asks_all, asks_more, same_length}
use Rattle.sms_driver.proofs.ending.unbind.unbind_all.Goals as goal

pub unbind_at-requires : goal.unbind_at-requires
unbind_at-requires g c = record { exists = search rules; driver_seats = c.loop-bind.invariant.windows ∙ c.requires.driver_seats }

pub loop-bind-preserved : goal.loop-bind-preserved
loop-bind-preserved g c =
    let i = c.loop-bind.invariant in
    record {
      windows = c.unbind_at.ensures.driver_seats ∙ i.windows;
      asked = asks_more c.loop-bind.bind _ c.loop-bind.driver_seats.items _ (same_length (λ s. s.seat.window) (λ s. s.seat.window) c.loop-bind.driver_seats.items _ i.windows) i.asked c.unbind_at.ensures.asked;
    }

pub returns-clause-asked : goal.returns-clause-asked
returns-clause-asked g c =
    let i = c.loop-bind.invariant in
    let long = same_length (λ s. s.seat.window) (λ b. b.window) _ c.args.shared_binds.now c.requires.driver_seats in
    let all : length c.args.shared_binds.now ≤ c.loop-bind.bind = search rules in
    asks_all c.loop-bind.bind _ c.loop-bind.driver_seats.items (omega (arith, long, all)) i.asked

pub returns-clause-tried : goal.returns-clause-tried
returns-clause-tried g c =
    let i = c.loop-bind.invariant in
    let long = same_length (λ s. s.seat.window) (λ b. b.window) _ c.args.shared_binds.now c.requires.driver_seats in
    let all : length c.args.shared_binds.now ≤ c.loop-bind.bind = search rules in
    all_tried _ c.loop-bind.driver_seats.items (same_length (λ s. s.seat.window) (λ s. s.seat.window) c.loop-bind.driver_seats.items _ i.windows) (asks_all c.loop-bind.bind _ c.loop-bind.driver_seats.items (omega (arith, long, all)) i.asked)
