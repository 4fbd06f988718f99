use Rattle.std.proofs.Common.{◌≡◌, ◌++◌, length}
use Rattle.std.specs.Prelude.{string_bytes}
use Rattle.sms_inbox.specs.Escape.{octets_text}
use Rattle.sms_inbox.proofs.escape.write_octets.Given as goal

abbrev pub invariant-loop-left : goal.invariant-loop-left
invariant-loop-left l = string_bytes l.text ++ octets_text l.left ≡ string_bytes l.fn.text ++ octets_text l.octets

abbrev pub decreases-loop-left : goal.decreases-loop-left
decreases-loop-left l = length l.left
