-- What `bill` and `doubtful` print of a run, and why they fail.
use Rattle.std.specs.Prelude.{◌≡◌, ◌⊎◌, Bool, true, false, List, ℕ, Option, String, string_bytes}
use Rattle.std.specs.declared.alloc.Global.{Global}
use Rattle.sms_files.specs.Inputs.{Told}
use Rattle.sms_journal.specs.declared.bill.listing.Columns.{Columns}
use Rattle.sms_journal.specs.declared.bill.listing.Columns.TheVariants.{Usual, WithRefs}
use Rattle.sms_journal.specs.declared.bill.listing.Listing.{Listing}
use Rattle.sms_journal.specs.Listings.{IsFaultOfRunListing, ListsRun as PrintsRun}
use Rattle.sms_send.specs.Noted.{IsHeld}
use Rattle.sms_send.specs.Recovered.{FailsWith}
use Rattle.sms_send.specs.Refs.{FailsRefs, IsWithoutRefs}
use Rattle.sms_send.specs.Runs.{IsRun, FailsRunFiles, tariff_in}
use Rattle.sms_send.specs.declared.args.send_args.ListArgs.{ListArgs}
use Rattle.sms_send.specs.declared.faults.fault.Fault.{Fault}
use Rattle.sms_send.specs.declared.files.run_files.RunFiles.{RunFiles}

-- this is listed of what the journal of the run says, and was written
abbrev pub ListsRun : RunFiles → Columns → Option (List ℕ) → Option (List ℕ) → Type 0
ListsRun run columns old new = PrintsRun run.config.items run.named.accounts.items run.named.messages.items (tariff_in run.named) run.written.items columns old new

abbrev pub FailsListing : RunFiles → Columns → Option (List ℕ) → Option (List ℕ) → Fault → Type 0
FailsListing run columns old new =
    FailsWith (IsFaultOfRunListing run.config.items run.named.accounts.items run.named.messages.items (tariff_in run.named) run.written.items columns old new)

-- the columns are these references behind those of the listing
abbrev pub AreWith : Listing → List (String Global) → Columns → Type 0
AreWith listing refs (Usual other) = ⊥
AreWith listing refs (WithRefs other behind) = (other ≡ listing) × (behind.now ≡ refs)

-- the same as it was asked for: of a run as it stands, or of one whose messages have references
abbrev pub ListsAsked : Listing → Bool → RunFiles → Option (List ℕ) → Option (List ℕ) → Type 0
ListsAsked listing false run old new = ListsRun run (Usual listing) old new
ListsAsked listing true run old new =
    (plain : RunFiles) × (refs : List (String Global)) × IsWithoutRefs run plain refs × (columns : Columns) × AreWith listing refs columns × ListsRun plain columns old new

abbrev pub FailsAsked : Listing → Bool → RunFiles → Option (List ℕ) → Option (List ℕ) → Fault → Type 0
FailsAsked listing false run old new fault = FailsListing run (Usual listing) old new fault
FailsAsked listing true run old new fault =
    FailsRefs run fault
    ⊎ ((plain : RunFiles) × (refs : List (String Global)) × IsWithoutRefs run plain refs × (columns : Columns) × AreWith listing refs columns × FailsListing plain columns old new fault)

-- the run that an order names was listed
abbrev pub ListsBy : (List ℕ → Option Told → Type 0) → ListArgs → Option (List ℕ) → Option (List ℕ) → Type 0
ListsBy finds order old new = (run : RunFiles) × IsRun finds (string_bytes order.config) (string_bytes order.journal) run × ListsAsked order.listing order.refs run old new

-- why it wasn't: the fault is of the files, or of what they say; and before that, the journal is held
abbrev pub FailsListFree : (List ℕ → Option Told → Type 0) → ListArgs → Option (List ℕ) → Option (List ℕ) → Fault → Type 0
FailsListFree finds order old new fault =
    FailsRunFiles finds order.config order.journal fault
    ⊎ ((run : RunFiles) × IsRun finds (string_bytes order.config) (string_bytes order.journal) run × FailsAsked order.listing order.refs run old new fault)

abbrev pub FailsListJob : (List ℕ → Type 0) → (List ℕ → Option Told → Type 0) → ListArgs → Option (List ℕ) → Option (List ℕ) → Fault → Type 0
FailsListJob holds finds order old new fault = IsHeld holds (string_bytes order.journal) fault ⊎ FailsListFree finds order old new fault
