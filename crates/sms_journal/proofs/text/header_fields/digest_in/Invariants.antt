use Rattle.std.proofs.Common.{◌≡◌, length, take}
use Rattle.sms_journal.specs.Heads.{octets_in}
use Rattle.sms_journal.proofs.text.header_fields.digest_in.Given as goal

abbrev pub invariant-loop-place : goal.invariant-loop-place
invariant-loop-place l = (length l.digest ≡ 32) × (take l.place l.digest ≡ take l.place (octets_in l.field))
