use Rattle.std.proofs.Common.{◌≡◌, ◌++◌, drop}
use Rattle.std.specs.Prelude.{string_bytes}
use Rattle.sms_inbox.specs.Escape.{octets_text}
use Rattle.sms_inbox.proofs.escape.write_each.Given as goal

abbrev pub invariant-loop-octet : goal.invariant-loop-octet
invariant-loop-octet l = string_bytes l.text ++ octets_text (drop l.octet-index l.octets) ≡ string_bytes l.fn.text ++ octets_text l.octets
