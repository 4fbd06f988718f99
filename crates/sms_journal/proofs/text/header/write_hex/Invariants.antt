use Rattle.std.proofs.Common.{◌≡◌, ◌++◌, drop}
use Rattle.std.specs.Prelude.{string_bytes}
use Rattle.sms_journal.specs.Text.{hex_text}
use Rattle.sms_journal.proofs.text.header.write_hex.Given as goal

abbrev pub invariant-loop-octet : goal.invariant-loop-octet
invariant-loop-octet l = string_bytes l.text ++ hex_text (drop l.octet-index l.octets) ≡ string_bytes l.initial.text ++ hex_text l.octets
