use Rattle.std.proofs.Common.{◌≡◌, ℕ, [], vec_len}
use Rattle.sms_window.specs.OpenSlots.{IsOpen}
use Rattle.sms_window.specs.Drawing.{HasDrawn}
use Rattle.sms_worker.specs.Keeps.{slots_of}
use Rattle.sms_worker.proofs.entry.work.release_all.Given as goal

abbrev pub invariant-loop-last : goal.invariant-loop-last
invariant-loop-last g l = record {
  same_window : l.seat.window ≡ l.initial.seat.window;
  some : (base : ℕ) × IsOpen base (slots_of l.opened.items) l.seat.view.slots;
  all : (base : ℕ) → IsOpen base (slots_of l.initial.opened.items) l.initial.seat.view.slots → IsOpen base (slots_of l.opened.items) l.seat.view.slots;
  numbers : HasDrawn l.initial.seat.view [] l.seat.view;
}

abbrev pub decreases-loop-last : goal.decreases-loop-last
decreases-loop-last g l = vec_len l.opened
