use Rattle.std.proofs.Common.{◌≡◌, ◌++◌, drop}
use Rattle.std.specs.Prelude.{string_bytes}
use Rattle.sms_journal.specs.Text.{id_text}
use Rattle.sms_journal.proofs.text.note_line.write_id_octets.Given as goal

abbrev pub invariant-loop-octet : goal.invariant-loop-octet
invariant-loop-octet l = string_bytes l.text ++ id_text (drop l.octet-index l.octets) ≡ string_bytes l.initial.text ++ id_text l.octets
