use Rattle.std.proofs.Common.{◌≡◌, ◌+◌, ◌-◌, ◌*◌, ◌<◌, ◌≤◌, ◌^◌, length, None}
use Rattle.sms_pdu.specs.Frame.{IsBad}
use Rattle.sms_pdu.specs.Devices.{device, faults_of, failures_of}
use Rattle.sms_pdu.specs.Streams.{Reads, going}
use Rattle.sms_pdu.specs.Turn.{Turned}
use Rattle.sms_bind.specs.Deeds.{IsWithin}
use Rattle.sms_bind.specs.Follows.{Follows}
use Rattle.sms_bind.specs.ReaderStates.{Handled}
use Rattle.sms_bind.specs.Turns.{TookTurns}
use Rattle.sms_bind.proofs.reader_state.ReaderState.read_turns.Given as goal

abbrev pub invariant-loop-turn : goal.invariant-loop-turn
invariant-loop-turn g l = record {
  follows : Follows l.fn.self.follower l.self.follower;
  same : l.self.session ≡ l.fn.self.session;
  within : IsWithin l.self.counts;
  keeps : g.D.ReaderDevice.keeps l.device ≡ g.D.ReaderDevice.keeps l.fn.device;
  reads : Reads (Handled l.fn.self.session None l.fn.self l.self) l.fn.held.items (g.R.Read.remaining (device l.fn.reader)) (g.R.Read.remaining (device l.reader)) going l.held.items;
  turned : Turned l._turn (Unit {0}) (g.R.Read.remaining (device l.fn.reader)) (g.R.Read.remaining (device l.reader)) (faults_of l.fn.reader) (faults_of l.reader);
  took : faults_of l.fn.reader + l._turn < 2 ^ 64 → TookTurns l._turn (faults_of l.reader - faults_of l.fn.reader) (g.R.Read.remaining (device l.fn.reader)) (g.R.Read.remaining (device l.reader));
  faults : faults_of l.fn.reader ≤ faults_of l.reader;
  failures : failures_of l.reader ≡ failures_of l.fn.reader;
  piece : length l.piece.items ≡ 65536;
  good : ¬ IsBad l.held.items;
  room : l.self.counts.frames + length l.held.items ≤ l.fn.self.counts.frames + 70000 + 65536 * l._turn;
}
