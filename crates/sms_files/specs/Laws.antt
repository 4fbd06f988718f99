-- What is true of the line on the way, whatever is sent.
use Rattle.std.specs.Prelude.{ℕ, ◌+◌, ◌*◌, ◌<◌, ◌≤◌, List, length}
use Rattle.sms_message.specs.declared.ends.MessageEnd.{MessageEnd}
use Rattle.sms_files.specs.Messages.{most_messages}
use Rattle.sms_files.specs.declared.report.tally.Tally.{Tally}
use Rattle.sms_files.specs.declared.report.tally.WayLine.{WayLine}
use Rattle.sms_files.specs.Tally.{both, tally_of, way_text}

-- how many messages a tally counts
abbrev pub counted_in : Tally → ℕ
counted_in tally = tally.charged + tally.refused + tally.unanswered

-- of these messages each is counted once at most
abbrev pub EachIsCountedOnce : Type 0
EachIsCountedOnce = (ends : List (MessageEnd (List ℕ))) (waiting : ℕ) → counted_in (tally_of ends waiting) ≤ length ends

-- two tallies together count no more than each for itself
abbrev pub TogetherCountNoMore : Type 0
TogetherCountNoMore = (one other : Tally) → counted_in (both one other) ≤ counted_in one + counted_in other

-- a year of 365 days, in milliseconds
abbrev pub year : ℕ
year = 365 * 24 * 60 * 60 * 1_000

-- with as many messages as a file has at the most it leaves one of 80 columns free, where more than 10 milliseconds and no more
-- than a year have passed
abbrev pub LineFitsARow : Type 0
LineFitsARow = (line : WayLine) → counted_in line.tally ≤ most_messages → line.all ≤ most_messages → 10 < line.ms → line.ms ≤ year → length (way_text line) < 80
