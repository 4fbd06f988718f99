use Rattle.std.proofs.Common.{◌≡◌, ◌+◌, ◌≤◌, length, None}
use Rattle.sms_pdu.specs.Streams.{Went}
use Rattle.sms_bind.specs.Deeds.{IsWithin}
use Rattle.sms_bind.specs.Follows.{Follows}
use Rattle.sms_bind.specs.ReaderStates.{Handled}
use Rattle.sms_bind.proofs.reader_state.ReaderState.handle_stream.Given as goal

abbrev pub invariant-loop-length : goal.invariant-loop-length
invariant-loop-length g l = record {
  follows : Follows l.initial.self.follower l.self.follower;
  same : l.self.session ≡ l.initial.self.session;
  within : IsWithin l.self.counts;
  keeps : l.self.keeps ≡ l.initial.self.keeps;
  went : Went (Handled l.initial.self.session None l.initial.self l.self) l.stream l.left;
  room : l.self.counts.frames + length l.left ≤ l.initial.self.counts.frames + length l.stream;
}

abbrev pub decreases-loop-length : goal.decreases-loop-length
decreases-loop-length g l = length l.left
