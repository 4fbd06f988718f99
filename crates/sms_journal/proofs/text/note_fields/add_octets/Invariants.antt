use Rattle.std.proofs.Common.{◌≡◌, ◌++◌, drop}
use Rattle.sms_journal.specs.Reading.{octets_in}
use Rattle.sms_journal.specs.declared.text.note_fields.Escape.TheVariants.{Plain}
use Rattle.sms_journal.proofs.text.note_fields.add_octets.Given as goal

abbrev pub invariant-loop-octet : goal.invariant-loop-octet
invariant-loop-octet l = l.out.items ++ octets_in l.escape (drop l.octet-index l.field) ≡ l.initial.out.items ++ octets_in Plain l.field
