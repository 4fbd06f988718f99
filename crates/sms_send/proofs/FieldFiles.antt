-- A config, and a run, whose fields are read from a file of their own.
use Rattle.std.proofs.Common.{◌≡◌, ◌⊎◌, inl, inr, sym, subst, ap, ℕ, false, List, Option, Some, Result, Ok, Err, String, Global}
use Rattle.std.specs.Prelude.{IfOk, is_some, string_bytes}
use Rattle.sms_files.specs.ConfigFaults.{IsConfig, SaysConfig}
use Rattle.sms_files.specs.Inputs.{Told}
use Rattle.sms_files.specs.SubmitFields.{with_fields}
use Rattle.sms_files.specs.declared.config.Config.{Config}
use Rattle.sms_files.specs.declared.input.Input.{Input}
use Rattle.sms_journal.specs.Files.{Reads}
use Rattle.sms_journal.specs.Resuming.{IsNotedRun, IsRunOfJournal, run_with_fields}
use Rattle.sms_journal.specs.declared.notes.note.Note.{Note}
use Rattle.sms_journal.specs.declared.recovery.resuming.JournaledRun.{JournaledRun}
use Rattle.sms_message.specs.declared.fields.Fields.{Fields}
use Rattle.toml.specs.Data.{Members}
use Rattle.sms_send.specs.Words.{bytes_of}
use Rattle.sms_send.specs.ConfigFiles.{IsConfigFile}
use Rattle.sms_send.specs.FieldFiles.{AreFieldsAt, FailsFields}
use Rattle.sms_send.specs.LedgerJobs.{IsLedgerRun}
use Rattle.sms_send.specs.LedgerResuming.{ledger_run_with}
use Rattle.sms_send.specs.Opened.{FailsReadingFile}
use Rattle.sms_send.specs.Resumed.{IsJournaled, IsJournaledBy}
use Rattle.sms_send.specs.Runs.{IsRun}
use Rattle.sms_send.specs.declared.args.send_args.ResumeArgs.{ResumeArgs}
use Rattle.sms_send.specs.declared.faults.fault.Fault.{Fault}
use Rattle.sms_send.specs.declared.faults.fault.Fault.TheVariants.{OutOfMemory}
use Rattle.sms_send.specs.declared.files.config_file.ConfigFile.{ConfigFile}
use Rattle.sms_send.specs.declared.files.run_files.RunFiles.{RunFiles}
use Rattle.sms_send.specs.declared.jobs.ledger_run.LedgerRun.{LedgerRun as TheRun}

-- what the keys of a config say of it they say whatever its fields are
says_as_ever : (t : Members) (config : Config) (fields : Fields) → SaysConfig t config → SaysConfig t (with_fields fields config)
says_as_ever t config fields s = record { connection = s.connection; limits = s.limits; retry = s.retry; flags = s.flags; files = s.files; answers = s.answers }

pub config_as_ever : (octets : List ℕ) (config : Config) (fields : Fields) → IsConfig octets config → IsConfig octets (with_fields fields config)
config_as_ever octets config fields (t, spelled, good) = (t, spelled, (good.0, says_as_ever t config fields good.1))

-- a config that was read, with its fields
pub config_fielded : (finds : List ℕ → Option Told → Type 0) (name : List ℕ) (file : ConfigFile) (fields : Fields) (config : Config) → config ≡ with_fields fields file.config
    → IsConfigFile finds name file → IsConfigFile finds name (record { octets = file.octets; config = config })
config_fielded finds name file fields config same is = record {
  octets_are = is.octets_are;
  says = subst (λ (k : Config). IsConfig file.octets.items k) (sym same) (config_as_ever file.octets.items file.config fields is.says);
}

-- ---- a run by its journal

abbrev input_with : Fields → Input → Input
input_with fields input = record input { config = with_fields fields input.config }

reads_as_ever : (config accounts messages : List ℕ) (tariff : Option (List ℕ)) (input : Input) (fields : Fields) → Reads config accounts messages tariff input → Reads config accounts messages tariff (input_with fields input)
reads_as_ever config accounts messages tariff input fields is = record {
  config_says = config_as_ever config input.config fields is.config_says;
  openings = is.openings;
  messages_are = is.messages_are;
  tariff_is = is.tariff_is;
}

noted_as_ever : (input : Input) (first : Option (ℕ × ℕ)) (notes : List Note) (run : JournaledRun) (fields : Fields) → IsNotedRun input first notes run → IsNotedRun (input_with fields input) first notes (run_with_fields fields run)
noted_as_ever input first notes run fields is = record {
  parts = record { config = ap (with_fields fields) is.parts.config; openings = is.parts.openings; messages = is.parts.messages; tariff = is.parts.tariff };
  rules = is.rules;
  says = is.says;
  is = is.is;
  rounds = is.rounds;
}

run_as_ever : (config accounts messages : List ℕ) (tariff : Option (List ℕ)) (journal : List ℕ) (run : JournaledRun) (fields : Fields)
    → IsRunOfJournal config accounts messages tariff journal run → IsRunOfJournal config accounts messages tariff journal (run_with_fields fields run)
run_as_ever config accounts messages tariff journal run fields is = record {
  input = input_with fields is.input;
  read = reads_as_ever config accounts messages tariff is.input fields is.read;
  first = is.first;
  notes = is.notes;
  text = is.text;
  digests = is.digests;
  whole = is.whole;
  is = noted_as_ever is.input is.first is.notes run fields is.is;
}

-- what a journal says of its run it says whatever the run's fields are
pub journaled_as_ever : (files : RunFiles) (run with : JournaledRun) → with ≡ run_with_fields with.config.fields run → IsJournaled files run → IsJournaled files with
journaled_as_ever files run with same (is, kind) =
    subst (λ (r : JournaledRun). IsJournaled files r) (sym same) (run_as_ever _ _ _ _ _ run with.config.fields is, kind)

-- and of a run of a ledger
pub ledger_run_fielded : (files : RunFiles) (read with : TheRun) → with ≡ ledger_run_with with.run.config.fields read → IsLedgerRun files read → IsLedgerRun files with
ledger_run_fielded files read with same is =
    subst (λ (r : TheRun). IsLedgerRun files r) (sym same)
    (record { name = is.name; accounts = is.accounts; journaled = run_as_ever _ _ _ _ _ read.run with.run.config.fields is.journaled })

-- so it is of what a run is read as, with the fields that an order wants
pub runs_fielded : (finds : List ℕ → Option Told → Type 0) (order : ResumeArgs) (files : RunFiles) (run : JournaledRun) (result : Result JournaledRun Fault)
    → IsRun finds (string_bytes order.config) (string_bytes order.journal.name) files → is_some files.run ≡ false → IsJournaled files run
    → IfOk result (λ with. with ≡ run_with_fields with.config.fields run) → IfOk result (λ with. AreFieldsAt finds (bytes_of order.fields) with.config.fields)
    → IfOk result (IsJournaledBy finds order)
runs_fielded finds order files run (Ok with) is none journaled same fields = (files, is, none, journaled_as_ever files run with same journaled, fields)
runs_fielded finds order files run (Err fault) is none journaled same fields = tt

-- ---- the fields themselves

-- the file of the name has no octets
pub no_octets : (finds : List ℕ → Option Told → Type 0) (name : List ℕ) (text : String Global) (fault : Fault) → string_bytes text ≡ name → (fault ≡ OutOfMemory) ⊎ FailsReadingFile finds text fault → FailsFields finds (Some name) fault
no_octets finds name text fault same (inl memory) = inl memory
no_octets finds name text fault same (inr fails) = inr (inl (text, same, fails))
