use Rattle.std.proofs.Common.{◌≡◌, ◌+◌, drop}
use Rattle.sms_book.specs.Openings.{names_of}
use Rattle.sms_files.specs.Accounts.{taken_flaw}
use Rattle.sms_files.proofs.tables.accounts.taken_by.Given as goal

abbrev pub invariant-loop-place : goal.invariant-loop-place
invariant-loop-place l = taken_flaw 2 l.name (names_of l.openings) ≡ taken_flaw (l.place + 2) l.name (names_of (drop l.place l.openings))
