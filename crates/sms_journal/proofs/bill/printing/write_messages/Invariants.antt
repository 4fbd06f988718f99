use Rattle.std.proofs.Common.{◌≡◌, ◌++◌, drop}
use Rattle.std.specs.Prelude.{flat_map, string_bytes}
use Rattle.sms_journal.specs.Bill.{billed, line_in}
use Rattle.sms_journal.proofs.bill.printing.write_messages.Given as goal

abbrev pub invariant-loop-place : goal.invariant-loop-place
invariant-loop-place l =
    string_bytes l.text ++ flat_map (line_in l.source.listing) (billed l.source.openings.now l.source.times.now l.source.notes.now (drop l.place l.messages) (drop l.place l.ends))
    ≡ string_bytes l.initial.text ++ flat_map (line_in l.source.listing) (billed l.source.openings.now l.source.times.now l.source.notes.now l.messages l.ends)
