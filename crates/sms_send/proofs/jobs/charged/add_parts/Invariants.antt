use Rattle.std.proofs.Common.{◌≡◌, ◌++◌, ◌+◌, drop}
use Rattle.sms_send.specs.Delivered.{charged_from}
use Rattle.sms_send.proofs.jobs.charged.add_parts.Given as goal

abbrev pub invariant-loop-place : goal.invariant-loop-place
invariant-loop-place l = l.parts.items ++ charged_from l.message (l.place + 1) (drop l.place l.segments) ≡ l.initial.parts.items ++ charged_from l.message 1 l.segments
