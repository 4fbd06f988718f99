use Rattle.std.proofs.Common.{◌≡◌, take}
use Rattle.sms_book.specs.Openings.{credits_of, names_of}
use Rattle.sms_journal.specs.Left.{free_in}
use Rattle.sms_journal.proofs.further.credits.openings_left.Given as goal

abbrev pub invariant-loop-place : goal.invariant-loop-place
invariant-loop-place l = record {
  names : names_of l.left.items ≡ take l.place (names_of l.openings);
  credits : credits_of l.left.items ≡ take l.place (free_in l.rows);
}
