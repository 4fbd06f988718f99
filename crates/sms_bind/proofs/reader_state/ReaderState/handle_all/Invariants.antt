use Rattle.std.proofs.Common.{◌≡◌, ◌+◌, ◌≤◌, length, drop, None}
use Rattle.std.specs.List.{concat}
use Rattle.sms_pdu.specs.Streams.{Went}
use Rattle.sms_inbox.specs.Arrivals.{deliveries}
use Rattle.sms_bind.specs.Deeds.{IsWithin}
use Rattle.sms_bind.specs.Follows.{Follows}
use Rattle.sms_bind.specs.ReaderStates.{Handled}
use Rattle.sms_bind.proofs.reader_state.ReaderState.handle_all.Given as goal

abbrev pub invariant-loop-frame : goal.invariant-loop-frame
invariant-loop-frame g l = record {
  follows : Follows l.initial.self.follower l.self.follower;
  session : l.self.session ≡ l.initial.self.session;
  within : IsWithin l.self.counts;
  keeps : l.self.keeps ≡ l.initial.self.keeps;
  same : (g.D.ReaderDevice.keeps l.device ≡ g.D.ReaderDevice.keeps l.initial.device) × (g.D.ReaderDevice.watch l.device ≡ g.D.ReaderDevice.watch l.initial.device);
  once : g.D.ReaderDevice.kept l.device + length (deliveries (drop l.frame-index l.frames)) ≤ g.D.ReaderDevice.kept l.initial.device + length (deliveries l.frames);
  went : Went (Handled l.initial.self.session None l.initial.self l.self) (concat l.frames) (concat (drop l.frame-index l.frames));
  room : l.self.counts.frames ≤ l.initial.self.counts.frames + l.frame-index;
}
