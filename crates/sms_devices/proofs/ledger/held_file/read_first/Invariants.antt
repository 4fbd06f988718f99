use Rattle.std.proofs.Common.{◌≤◌, length}
use Rattle.sms_devices.proofs.ledger.held_file.read_first.Given as goal

abbrev pub invariant-loop-piece : goal.invariant-loop-piece
invariant-loop-piece l = l.count ≤ length l.first
