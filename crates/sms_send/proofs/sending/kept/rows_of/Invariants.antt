use Rattle.std.proofs.Common.{◌≡◌, take}
use Rattle.sms_send.proofs.sending.kept.rows_of.Given as goal

abbrev pub invariant-loop-row : goal.invariant-loop-row
invariant-loop-row l = l.copy.items ≡ take l.row-index l.rows
