-- What is listed of a run, by its files and its journal.
use Rattle.std.specs.Prelude.{◌≡◌, ◌⊎◌, ℕ, false, List, Option}
use Rattle.std.specs.Io.KnownBytes.{Appends}
use Rattle.sms_files.specs.Output.{WritesFront}
use Rattle.sms_journal.specs.declared.bill.listing.Columns.{Columns}
use Rattle.sms_journal.specs.declared.notes.note.Note.{Note}
use Rattle.sms_journal.specs.declared.recovery.fault.RecoveryFault.{RecoveryFault}
use Rattle.sms_journal.specs.declared.recovery.fault.RecoveryFault.TheVariants as faults
use Rattle.sms_journal.specs.declared.recovery.resuming.JournaledRun.{JournaledRun}
use Rattle.sms_journal.specs.declared.text.header.JournalKind.TheVariants.{Run, Trial}
use Rattle.sms_journal.specs.Bill.{listing_of}
use Rattle.sms_journal.specs.Faults.{out_of_memory, output_failed}
use Rattle.sms_journal.specs.Lines.{IsBadLine}
use Rattle.sms_journal.specs.Resuming.{IsFaultOfRun, IsRunOfJournal}
use Rattle.sms_journal.specs.TimedLines.{AreTimedNotes, IsBehindFirst}

-- these are the notes of the lines behind the journal's first, and their times
pub record AreTimedBehind (journal times : List ℕ) (notes : List Note) : Type 0 where
  pub behind : List ℕ
  pub is : IsBehindFirst journal behind
  pub timed : AreTimedNotes behind times notes

-- or the line in this record is the first that isn't one of a note
abbrev pub IsFaultBehind : List ℕ → RecoveryFault → Type 0
IsFaultBehind journal fault = (fault ≡ out_of_memory) ⊎ ((k : ℕ) × (behind : List ℕ) × (fault ≡ faults.Journal k) × IsBehindFirst journal behind × IsBadLine k behind)

-- ---- of a run that was read

-- the text lists its parts, by the times in its journal, which isn't a trial's
pub record IsListed (run : JournaledRun) (journal : List ℕ) (listing : Columns) (text : List ℕ) : Type 0 where
  pub kind : run.kind ≡ Run
  pub times : List ℕ
  pub notes : List Note
  pub timed : AreTimedBehind journal times notes
  pub lists : text ≡ listing_of listing run.openings.items times notes run.messages.items run.ends.items

abbrev pub IsFaultOfListing : JournaledRun → List ℕ → RecoveryFault → Type 0
IsFaultOfListing run journal fault = ((fault ≡ faults.Trial) × (run.kind ≡ Trial)) ⊎ IsFaultBehind journal fault

pub record PrintsListing (run : JournaledRun) (journal : List ℕ) (listing : Columns) (old new : Option (List ℕ)) : Type 0 where
  pub text : List ℕ
  pub is : IsListed run journal listing text
  pub written : Appends old new text

-- the output failed after part of it
pub record IsListingCut (run : JournaledRun) (journal : List ℕ) (listing : Columns) (old new : Option (List ℕ)) : Type 0 where
  pub text : List ℕ
  pub is : IsListed run journal listing text
  pub front : WritesFront old new text

abbrev pub IsFaultOfPrinting : JournaledRun → List ℕ → Columns → Option (List ℕ) → Option (List ℕ) → RecoveryFault → Type 0
IsFaultOfPrinting run journal listing old new fault = IsFaultOfListing run journal fault ⊎ ((fault ≡ output_failed) × IsListingCut run journal listing old new)

-- ---- of a run's files and journal

pub record ListsRun (config accounts messages : List ℕ) (tariff : Option (List ℕ)) (journal : List ℕ) (listing : Columns) (old new : Option (List ℕ)) : Type 0 where
  pub run : JournaledRun
  pub is : IsRunOfJournal config accounts messages tariff journal run
  pub prints : PrintsListing run journal listing old new

abbrev pub IsFaultOfRunListing : List ℕ → List ℕ → List ℕ → Option (List ℕ) → List ℕ → Columns → Option (List ℕ) → Option (List ℕ) → RecoveryFault → Type 0
IsFaultOfRunListing config accounts messages tariff journal listing old new fault =
    IsFaultOfRun config accounts messages tariff journal false fault
    ⊎ ((run : JournaledRun) × IsRunOfJournal config accounts messages tariff journal run × IsFaultOfPrinting run journal listing old new fault)
