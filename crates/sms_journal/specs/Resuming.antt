-- What the journal of a run says of it, so that the run may go on.
use Rattle.std.specs.Prelude.{◌≡◌, ◌≢◌, ◌⊎◌, ℕ, ◌+◌, ◌≤◌, Bool, true, List, Option, Some, length, slice_get}
use Rattle.sms_message.specs.declared.fields.Fields.{Fields}
use Rattle.sms_message.specs.declared.rules.Rules.{Rules}
use Rattle.sms_files.specs.SubmitFields.{with_fields}
use Rattle.sms_files.specs.declared.fault.InputFault.{InputFault}
use Rattle.sms_files.specs.declared.fault.Source.TheVariants.{Messages}
use Rattle.sms_files.specs.declared.flaw.Flaw.TheVariants.{OpenQuote}
use Rattle.sms_files.specs.declared.input.Input.{Input as TheInput}
use Rattle.sms_files.specs.Records.{IsBadRecord}
use Rattle.sms_files.specs.Quoting.{EndsQuoted}
use Rattle.sms_files.specs.RunRules.{IsRulesOf}
use Rattle.sms_journal.specs.declared.notes.note.Note.{Note}
use Rattle.sms_journal.specs.declared.notes.note.Note.TheVariants.{Begun, Sent, Unsent, Heard, Refused, End, Round}
use Rattle.sms_journal.specs.declared.text.header.JournalKind.{JournalKind}
use Rattle.sms_journal.specs.declared.recovery.fault.RecoveryFault.{RecoveryFault}
use Rattle.sms_journal.specs.declared.recovery.fault.RecoveryFault.TheVariants.{Input}
use Rattle.sms_journal.specs.declared.recovery.resuming.JournaledRun.{JournaledRun}
use Rattle.sms_journal.specs.Digests.{digests_of, keyed, keys_of}
use Rattle.sms_journal.specs.Files.{Reads, IsFaultOfFiles}
use Rattle.sms_journal.specs.Lines.{IsJournalText}
use Rattle.sms_journal.specs.Recovering.{IsFaultOfReport, IsFaultOfText, IsRecovered, size_in, ties_in}
use Rattle.sms_journal.specs.Rounds.{first_round, going_after}

-- so many of a text's octets are its whole lines: the last of them is a line feed, and none stands behind them
pub record AreWhole (text : List ℕ) (whole : ℕ) : Type 0 where
  pub within : whole ≤ length text
  pub last : (k : ℕ) → whole ≡ k + 1 → slice_get text k ≡ Some 10
  pub cut : (k : ℕ) → whole ≤ k → slice_get text k ≢ Some 10

-- the number of the round that goes on after a note
abbrev pub number_by : ℕ → Note → ℕ
number_by number (Begun i) = number
number_by number (Sent request i p) = number
number_by number (Unsent request) = number
number_by number (Heard by reply) = number
number_by number (Refused i refusal) = number
number_by number (End status) = number
number_by number (Round next binds workers) = next

-- a run with these fields in place of its own
abbrev pub run_with_fields : Fields → JournaledRun → JournaledRun
run_with_fields fields run = record run { config = with_fields fields run.config }

-- ---- of an input

-- it has the parts of the input
pub record HasParts (input : TheInput) (run : JournaledRun) : Type 0 where
  pub config : run.config ≡ input.config
  pub openings : run.openings.items ≡ input.openings.items
  pub messages : run.messages.items ≡ input.messages.items
  pub tariff : run.tariff ≡ input.tariff

-- a run of this input noted this: what it would have reported, if all its lines had gone down then, and how many rounds it had
pub record IsNotedRun (input : TheInput) (first : Option (ℕ × ℕ)) (notes : List Note) (run : JournaledRun) : Type 0 where
  pub parts : HasParts input run
  pub rules : Rules
  pub says : IsRulesOf input.config.retry input.config.limits input.config.flags input.tariff 0 rules
  pub is : IsRecovered rules (size_in input first) input.openings.items input.messages.items notes run.ends.items run.rows.items
  pub rounds : run.rounds ≡ (going_after (first_round (size_in input first) input.messages.items) notes).number

pub record IsFaultOfNotedRun (input : TheInput) (first : Option (ℕ × ℕ)) (notes : List Note) (fault : RecoveryFault) : Type 0 where
  pub rules : Rules
  pub says : IsRulesOf input.config.retry input.config.limits input.config.flags input.tariff 0 rules
  pub tells : IsFaultOfReport rules (size_in input first) input.openings.items input.messages.items notes fault

-- ---- of a journal

-- the input was read, and the journal of a run of files with these digests, or of a trial
pub record IsRunOfJournal (config accounts messages : List ℕ) (tariff : Option (List ℕ)) (journal : List ℕ) (run : JournaledRun) : Type 0 where
  pub input : TheInput
  pub read : Reads config accounts messages tariff input
  pub first : Option (ℕ × ℕ)
  pub notes : List Note
  pub text : IsJournalText (ties_in config accounts messages tariff input) journal run.kind first notes
  pub digests : run.digests ≡ keyed (keys_of input.config) (digests_of config accounts messages tariff)
  pub whole : AreWhole journal run.whole
  pub is : IsNotedRun input first notes run

-- the messages file ends within a quote, of which this input was read
abbrev pub IsOpenQuote : List ℕ → TheInput → RecoveryFault → Type 0
IsOpenQuote messages input fault = (f : InputFault) × EndsQuoted messages × IsBadRecord Messages (length input.messages.items + 1) OpenQuote f × (fault ≡ Input f)

-- what a fault says: it is of the input, strictly of a messages file that ends within a quote, of the journal's text, or of its notes
abbrev pub IsFaultOfRun : List ℕ → List ℕ → List ℕ → Option (List ℕ) → List ℕ → Bool → RecoveryFault → Type 0
IsFaultOfRun config accounts messages tariff journal strict fault =
    IsFaultOfFiles config accounts messages tariff fault
    ⊎ ((input : TheInput) × Reads config accounts messages tariff input
    × (((strict ≡ true) × IsOpenQuote messages input fault)
    ⊎ (IsFaultOfText (ties_in config accounts messages tariff input) true journal fault
    ⊎ ((kind : JournalKind) × (first : Option (ℕ × ℕ)) × (notes : List Note) × IsJournalText (ties_in config accounts messages tariff input) journal kind first notes × IsFaultOfNotedRun input first notes fault))))
