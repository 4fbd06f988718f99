use Rattle.std.proofs.Common.{◌≡◌, ◌≤◌, [], length, None}
use Rattle.sms_pdu.specs.Devices.{device, faults_of, failures_of}
use Rattle.sms_pdu.specs.Frame.{IsBad}
use Rattle.sms_pdu.specs.Streams.{Reads, going}
use Rattle.sms_pdu.specs.Turn.{Turned}
use Rattle.sms_centre.specs.Stops.{Written}
use Rattle.sms_centre.proofs.centre.Centre.serve_turns.Given as goal

abbrev pub invariant-loop-turn : goal.invariant-loop-turn
invariant-loop-turn g l = record {
  reads : Reads (Written l.fn.self l.self None (g.W.Write.contents (device l.fn.writer)) (g.W.Write.contents (device l.writer))) [] (g.R.Read.remaining (device l.fn.reader)) (g.R.Read.remaining (device l.reader)) going l.buffers.held.items;
  good : ¬ IsBad l.buffers.held.items;
  turned : Turned l._turn (Unit {0}) (g.R.Read.remaining (device l.fn.reader)) (g.R.Read.remaining (device l.reader)) (faults_of l.fn.reader) (faults_of l.reader);
  faults : faults_of l.fn.reader ≤ faults_of l.reader;
  failures : failures_of l.reader ≡ failures_of l.fn.reader;
  wrote : faults_of l.writer ≡ faults_of l.fn.writer;
  piece : length l.buffers.piece.items ≡ 65536;
}
