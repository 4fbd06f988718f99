use Rattle.std.proofs.Common.{◌≡◌, ◌+◌, ◌≤◌, []}
use Rattle.sms_window.specs.Drawing.{HasDrawn}
use Rattle.sms_worker.proofs.steps.attempt.draw.Given as goal

abbrev pub invariant-loop : goal.invariant-loop
invariant-loop l = record {
  window : l.seat.window ≡ l.initial.seat.window;
  slots : l.seat.view.slots ≡ l.initial.seat.view.slots;
  risen : l.initial.seat.view.seen + l.counter ≤ l.seat.view.seen;
  drew : HasDrawn l.initial.seat.view [] l.seat.view;
}
