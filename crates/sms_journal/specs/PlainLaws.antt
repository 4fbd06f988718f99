-- What is left of a messages file with references, read as the messages file that it is.
use Rattle.std.specs.Prelude.{◌≡◌, ◌≢◌, ℕ, Bool, true, false, List, [], ◌∷◌, ◌++◌, Option, option_map, is_some, codes}
use Rattle.sms_files.specs.Fields.{Record, records_of}
use Rattle.sms_files.specs.Messages.{messages_fault}
use Rattle.sms_files.specs.Records.{Trouble}
use Rattle.sms_files.specs.Refs.{plain_header, refs_fault}
use Rattle.sms_journal.specs.PlainFiles.{heading_of, plain_lines, plain_rows, rows_behind}
use Rattle.sms_journal.specs.declared.plain.Heading.TheVariants.{WithRefs}

-- its records: the header of a messages file, and what is left of each record
abbrev pub PlainLinesAreRead : Type 0
PlainLinesAreRead = (quoted : Bool) (rs : List Record) → records_of (codes "account,source,destination,text\n" ++ plain_lines quoted rs) ≡ plain_header ∷ plain_rows quoted rs

-- the number of a faulty record
abbrev pub place_in : Option Trouble → Option ℕ
place_in trouble = option_map (λ (t : Trouble). t.0) trouble

-- the first record that isn't one of a messages file with references is the first that is none of what is left
abbrev pub PlainFaultsArePlaced : Type 0
PlainFaultsArePlaced = (rs : List Record) → heading_of rs ≡ WithRefs → place_in (messages_fault (plain_header ∷ plain_rows false (rows_behind rs))) ≡ place_in (refs_fault rs)

-- and where the quote of the last is open, there is one
abbrev pub OpenQuotesAreFaults : Type 0
OpenQuotesAreFaults = (rs : List Record) → rs ≢ [] → is_some (messages_fault (plain_header ∷ plain_rows true rs)) ≡ true
