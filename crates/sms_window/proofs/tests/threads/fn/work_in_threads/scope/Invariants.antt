use Rattle.std.proofs.Common.{◌≡◌, All, vec_len}
use Rattle.sms_window.proofs.tests.threads.fn.work_in_threads.scope.Given as goal

abbrev pub invariant-loop-seat : goal.invariant-loop-seat
invariant-loop-seat g l = record { seats : All (λ s. s.window ≡ l.window.now) l.seats.items; handles : All (λ h. h.promise.0.value ≡ l.window.now) l.handles.items }

abbrev pub decreases-loop-seat : goal.decreases-loop-seat
decreases-loop-seat g l = vec_len l.seats
