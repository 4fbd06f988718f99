use Rattle.std.proofs.Common.{◌≡◌, ◌≤◌, length, map, take, vec_capacity}
use Rattle.sms_book.specs.Openings.{opening_row}
use Rattle.sms_book.proofs.room.opening_rows.Given as goal

abbrev pub invariant-loop-topped : goal.invariant-loop-topped
invariant-loop-topped l = (l.rows.items ≡ map opening_row (take l.topped-index l.credits)) × (length l.credits ≤ vec_capacity l.rows)
