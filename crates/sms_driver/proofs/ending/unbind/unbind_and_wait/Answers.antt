use Rattle.std.proofs.Common.{ap, length, ◌∙◌}
use Rattle.sms_driver.proofs.Places.{same_length}
use Rattle.sms_driver.proofs.ending.unbind.unbind_and_wait.Goals as goal

pub wait_until_down-requires-clause-length : goal.wait_until_down-requires-clause-length
wait_until_down-requires-clause-length g c =
    ap length c.as_slice.ensures.value ∙ same_length (λ s. s.seat.window) (λ b. b.window) c.unbind_all.new.driver_seats.items c.args.shared_binds.now (c.unbind_all.ensures.driver_seats ∙ c.requires.driver_seats)
