-- What is recovered from a run's journal.
use Rattle.std.specs.Prelude.{◌≡◌, ◌⊎◌, ℕ, ◌+◌, Bool, true, false, List, Option, Some, None, length, slice_get}
use Rattle.std.specs.Io.KnownBytes.{Appends}
use Rattle.std.specs.List.{AllZip}
use Rattle.sms_core.specs.declared.row.Row.{Row}
use Rattle.sms_core.specs.Rows.{IsBalanced}
use Rattle.sms_book.specs.declared.opening.Opening.{Opening}
use Rattle.sms_message.specs.declared.message.Message.{Message}
use Rattle.sms_message.specs.declared.rules.Rules.{Rules}
use Rattle.sms_files.specs.declared.config.limits.Limits.{Limits}
use Rattle.sms_files.specs.declared.input.Input.{Input as TheInput}
use Rattle.sms_journal.specs.declared.text.digests.RunFile.{RunFile}
use Rattle.sms_journal.specs.declared.text.digests.FileTies.{FileTies}
use Rattle.sms_journal.specs.declared.text.header.JournalKind.{JournalKind}
use Rattle.sms_journal.specs.declared.text.header.JournalKind.TheVariants.{Trial}
use Rattle.sms_journal.specs.declared.notes.note.Note.{Note}
use Rattle.sms_journal.specs.declared.notes.run_size.RunSize.{RunSize}
use Rattle.sms_message.specs.declared.ends.MessageEnd.{MessageEnd}
use Rattle.sms_journal.specs.Digests.{digests_of, keys_of}
use Rattle.sms_journal.specs.Rounds.{IsFirstRunFault, IsRunEnd, IsRunJournal}
use Rattle.sms_journal.specs.Lines.{IsBadRecord, IsJournalText, IsOfOthers}
use Rattle.sms_journal.specs.Sums.{AreCovered, recovered_row}
use Rattle.sms_files.specs.Output.{WritesFront}
use Rattle.sms_journal.specs.Files.{Reads, IsFaultOfFiles}
use Rattle.sms_files.specs.Report.{report_of, ends_status}
use Rattle.sms_files.specs.RunRules.{IsRulesOf}
use Rattle.sms_journal.specs.declared.recovery.fault.RecoveryFault.{RecoveryFault}
use Rattle.sms_journal.specs.Faults.{out_of_memory, output_failed}
use Rattle.sms_journal.specs.declared.recovery.fault.RecoveryFault.TheVariants as variants
use Rattle.sms_journal.specs.declared.recovery.fault.RecoveryFault.TheVariants.{Journal, OtherFiles, Overdrawn}
use Rattle.sms_journal.specs.declared.recovery.recovering.Recovered.{Recovered}

-- a row for each account, over the ends of the messages, and it balances
pub record AreRecoveredRows (openings : List Opening) (ms : List Message) (ends : List (MessageEnd (Unit {0}))) (rows : List Row) : Type 0 where
  pub count : length rows ≡ length openings
  pub each : (i : ℕ) (row : Row) → slice_get rows i ≡ Some row → (o : Opening) → slice_get openings i ≡ Some o → row ≡ recovered_row o.credits i ms ends
  pub balanced : (i : ℕ) (row : Row) → slice_get rows i ≡ Some row → IsBalanced row

-- what a run of these messages would have reported that can have noted this, if all its lines had gone down then
pub record IsRecovered (rules : Rules) (size : RunSize) (openings : List Opening) (ms : List Message) (notes : List Note) (ends : List (MessageEnd (Unit {0}))) (rows : List Row) : Type 0 where
  pub lawful : IsRunJournal rules size ms notes
  pub tells : AllZip (IsRunEnd rules notes) ms ends
  pub rows_are : AreRecoveredRows openings ms ends rows

-- the report of that was written, and nothing else, and the status is by it
pub record Recovers (rules : Rules) (size : RunSize) (openings : List Opening) (ms : List Message) (notes : List Note) (old new : Option (List ℕ)) (status : ℕ) : Type 0 where
  pub ends : List (MessageEnd (Unit {0}))
  pub rows : List Row
  pub is : IsRecovered rules size openings ms notes ends rows
  pub written : Appends old new (report_of openings ends rows)
  pub status_is : status ≡ ends_status ends

-- the notes are not those of a run: the first that isn't stands in this record, after the header
abbrev pub IsFaultOfNotes : Rules → RunSize → List Message → List Note → RecoveryFault → Type 0
IsFaultOfNotes rules size ms notes fault = (fault ≡ out_of_memory) ⊎ ((k : ℕ) × (fault ≡ Journal (k + 2)) × IsFirstRunFault rules size ms notes k)

-- the ends that they say are not covered by the accounts
pub record IsOverdrawn (rules : Rules) (size : RunSize) (openings : List Opening) (ms : List Message) (notes : List Note) : Type 0 where
  pub lawful : IsRunJournal rules size ms notes
  pub ends : List (MessageEnd (Unit {0}))
  pub tells : AllZip (IsRunEnd rules notes) ms ends
  pub overdrawn : ¬ AreCovered openings ms ends

-- why there is no report of notes
abbrev pub IsFaultOfReport : Rules → RunSize → List Opening → List Message → List Note → RecoveryFault → Type 0
IsFaultOfReport rules size openings ms notes fault = IsFaultOfNotes rules size ms notes fault ⊎ ((fault ≡ Overdrawn) × IsOverdrawn rules size openings ms notes)

-- the output failed after part of the report
pub record IsCutOff (rules : Rules) (size : RunSize) (openings : List Opening) (ms : List Message) (notes : List Note) (old new : Option (List ℕ)) : Type 0 where
  pub ends : List (MessageEnd (Unit {0}))
  pub rows : List Row
  pub is : IsRecovered rules size openings ms notes ends rows
  pub front : WritesFront old new (report_of openings ends rows)

-- what a fault says of notes
abbrev pub IsFaultOfRecovery : Rules → RunSize → List Opening → List Message → List Note → Option (List ℕ) → Option (List ℕ) → RecoveryFault → Type 0
IsFaultOfRecovery rules size openings ms notes old new fault =
    IsFaultOfNotes rules size ms notes fault
    ⊎ ((fault ≡ Overdrawn) × IsOverdrawn rules size openings ms notes)
    ⊎ ((fault ≡ output_failed) × IsCutOff rules size openings ms notes old new)

-- ---- of an input

-- how large the first round of a run of this input is: as the journal's first line says, or as the config does
abbrev pub sized : ℕ → Limits → Option (ℕ × ℕ) → RunSize
sized accounts limits None = record { accounts = accounts; binds = limits.binds; workers = limits.workers }
sized accounts limits (Some first) = record { accounts = accounts; binds = first.0; workers = first.1 }

abbrev pub size_in : TheInput → Option (ℕ × ℕ) → RunSize
size_in input first = sized (length input.openings.items) input.config.limits first

-- the rules are those of the input
pub record RecoversInput (input : TheInput) (first : Option (ℕ × ℕ)) (notes : List Note) (old new : Option (List ℕ)) (status : ℕ) : Type 0 where
  pub rules : Rules
  pub says : IsRulesOf input.config.retry input.config.limits input.config.flags input.tariff 0 rules
  pub recovers : Recovers rules (size_in input first) input.openings.items input.messages.items notes old new status

pub record IsFaultOfInput (input : TheInput) (first : Option (ℕ × ℕ)) (notes : List Note) (old new : Option (List ℕ)) (fault : RecoveryFault) : Type 0 where
  pub rules : Rules
  pub says : IsRulesOf input.config.retry input.config.limits input.config.flags input.tariff 0 rules
  pub tells : IsFaultOfRecovery rules (size_in input first) input.openings.items input.messages.items notes old new fault

-- ---- of a journal

-- a journal of this kind is taken: that of a trial only where it is asked for
abbrev pub IsTaken : Bool → JournalKind → Type 0
IsTaken trial kind = kind ≡ Trial → trial ≡ true

-- why the journal's text is refused: its first faulty record is this, or it is of other files, or it is the journal of a trial, which wasn't asked for
abbrev pub IsFaultOfText : FileTies → Bool → List ℕ → RecoveryFault → Type 0
IsFaultOfText files trial journal fault =
    (fault ≡ out_of_memory)
    ⊎ ((k : ℕ) × (fault ≡ Journal k) × IsBadRecord files journal k)
    ⊎ ((what : RunFile) × (fault ≡ OtherFiles what) × IsOfOthers files journal what)
    ⊎ ((fault ≡ variants.Trial) × (trial ≡ false) × (first : Option (ℕ × ℕ)) × (notes : List Note) × IsJournalText files journal Trial first notes)

-- what a journal of these files may be tied to
abbrev pub ties_in : List ℕ → List ℕ → List ℕ → Option (List ℕ) → TheInput → FileTies
ties_in config accounts messages tariff input = record { digests = digests_of config accounts messages tariff; keys = keys_of input.config }

-- the input was read, and the journal of a run of files with these digests, or of a trial, and what is recovered of it was written
pub record RecoversJournal (config accounts messages : List ℕ) (tariff : Option (List ℕ)) (journal : List ℕ) (trial : Bool) (old new : Option (List ℕ)) (recovered : Recovered) : Type 0 where
  pub input : TheInput
  pub read : Reads config accounts messages tariff input
  pub first : Option (ℕ × ℕ)
  pub notes : List Note
  pub text : IsJournalText (ties_in config accounts messages tariff input) journal recovered.kind first notes
  pub taken : IsTaken trial recovered.kind
  pub recovers : RecoversInput input first notes old new recovered.status

-- what a fault says: it is of the input, of the journal's text, or of its notes
abbrev pub IsFaultOfJournal : List ℕ → List ℕ → List ℕ → Option (List ℕ) → List ℕ → Bool → Option (List ℕ) → Option (List ℕ) → RecoveryFault → Type 0
IsFaultOfJournal config accounts messages tariff journal trial old new fault =
    IsFaultOfFiles config accounts messages tariff fault
    ⊎ ((input : TheInput) × Reads config accounts messages tariff input × IsFaultOfText (ties_in config accounts messages tariff input) trial journal fault)
    ⊎ ((input : TheInput) × Reads config accounts messages tariff input × (kind : JournalKind) × IsTaken trial kind × (first : Option (ℕ × ℕ)) × (notes : List Note) × IsJournalText (ties_in config accounts messages tariff input) journal kind first notes × IsFaultOfInput input first notes old new fault)
