-- What was written of a quote, from an input to the job.
use Rattle.std.proofs.Common.{◌≡◌, ◌∙◌, inl, inr, sym, subst, ℕ, List, Option, None, Some, Result, Ok, Err}
use Rattle.std.specs.Prelude.{◌||◌, Bool, false, OnOk, String, string_bytes, if◌then◌else◌}
use Rattle.std.specs.Io.KnownBytes.{Appends}
use Rattle.std.specs.declared.alloc.Global.{Global}
use Rattle.std.proofs.lemmas.Option.{IfSome_then}
use Rattle.sms_files.specs.ConfigFaults.{IsConfig, TellsConfig}
use Rattle.sms_files.specs.Inputs.{IsFaultOfFiles, IsInput, Told, TellsInput}
use Rattle.sms_files.specs.declared.config.Config.{Config}
use Rattle.sms_files.specs.declared.config.FileNames.{FileNames}
use Rattle.sms_files.specs.declared.fault.InputFault.{InputFault}
use Rattle.sms_files.specs.declared.fault.InputFault.TheVariants as input
use Rattle.sms_files.specs.declared.input.Input.{Input}
use Rattle.sms_files.specs.Output.{WritesFront}
use Rattle.sms_send.specs.ConfigFiles.{IsConfigFile, OfConfig}
use Rattle.sms_send.specs.Faults.{IsReadFault, fault_of_input, output_failed}
use Rattle.sms_send.specs.FullNames.{AreLinesIfKept}
use Rattle.sms_send.specs.Opened.{FailsOpeningFiles}
use Rattle.sms_send.specs.Quoted.{AreLinesAt, FailsQuote, FailsQuoteJob, BeginsAsAsked, HasQuote, BeginsNamedWarnings, BeginsQuote, PrintsQuote, Quotes, QuotesAsAsked, QuotesFiles, BeginsWarnings, QuotesNamed}
use Rattle.sms_send.specs.Reading.{IsInputBy, IsRead, IsUnread}
use Rattle.sms_send.specs.declared.faults.fault.Fault.{Fault}
use Rattle.sms_send.specs.declared.faults.fault.Fault.TheVariants.{OutOfMemory}
use Rattle.sms_send.specs.declared.files.config_file.ConfigFile.{ConfigFile}
use Rattle.sms_send.proofs.ConfigFiles.{AreOpen, of_config, read_open, unread_open}

pub on_ok_both : {T E P Q R : Type 0} (r : Result T E) → (P → Q → R) → OnOk r P → OnOk r Q → OnOk r R
on_ok_both (Ok x) f p q = f p q
on_ok_both (Err e) f p q = tt

-- a quote that was written, and one after whose beginning the output failed
pub printed : (given : Input) (text out : List ℕ) (old new : Option (List ℕ)) → HasQuote given text → out ≡ text → Appends old new out → PrintsQuote given old new
printed given text out old new quote same written = record { text = text; quote = quote; written = subst (Appends old new) same written }

pub printed_front : (given : Input) (text out : List ℕ) (old new : Option (List ℕ)) → HasQuote given text → out ≡ text → WritesFront old new out → BeginsQuote given old new
printed_front given text out old new quote same front = record { text = text; quote = quote; front = subst (WritesFront old new) same front }

-- a fault of what is read is none of the output
never_output : (f : InputFault) → fault_of_input f ≡ output_failed → ⊥
never_output (input.Unreadable source error) e = cc
never_output (input.BadRecord source place detail) e = cc
never_output (input.NotToml flaw) e = cc
never_output (input.BadKey key found) e = cc
never_output (input.OutOfMemory refused) e = cc

pub read_is_no_output : {A : Type 0} (P : InputFault → Type 0) (fault : Fault) → IsReadFault P fault → fault ≡ output_failed → A
read_is_no_output P fault (f, holds, told) is = absurd (never_output f (sym told ∙ is))

-- so is one of memory
pub memory_is_no_output : {A : Type 0} (fault : Fault) → fault ≡ OutOfMemory → fault ≡ output_failed → A
memory_is_no_output fault told is = let bad = sym told ∙ is in cc

-- ---- by a config of these octets

input_by : (octets : List ℕ) (config : Config) (accounts messages : Told) (tariff : Option Told) (given : Input) → IsConfig octets config → IsInputBy config accounts messages tariff given → IsInput octets accounts messages tariff given
input_by octets config accounts messages tariff given says read = record {
  config_says = subst (λ (k : Config). IsConfig octets k) (sym read.config_is) says;
  openings = read.files.openings;
  messages_are = read.files.messages_are;
  tariff_is = read.files.tariff_is;
}

pub octets_quoted : (octets : List ℕ) (config : Config) (accounts messages : Told) (tariff : Option Told) (lines : List ℕ) (old new error_old error_new : Option (List ℕ)) → IsConfig octets config
    → Quotes (IsInputBy config accounts messages tariff) lines old new error_old error_new → Quotes (IsInput octets accounts messages tariff) lines old new error_old error_new
octets_quoted octets config accounts messages tariff lines old new error_old error_new says quotes =
    record { input = quotes.input; read = input_by octets config accounts messages tariff quotes.input says quotes.read; printed = quotes.printed; warned = quotes.warned }

pub octets_front : (octets : List ℕ) (config : Config) (accounts messages : Told) (tariff : Option Told) (lines : List ℕ) (error_old error_new : Option (List ℕ)) → IsConfig octets config
    → BeginsWarnings (IsInputBy config accounts messages tariff) lines error_old error_new → BeginsWarnings (IsInput octets accounts messages tariff) lines error_old error_new
octets_front octets config accounts messages tariff lines error_old error_new says front =
    record { input = front.input; read = input_by octets config accounts messages tariff front.input says front.read; front = front.front }

pub octets_fail : (octets : List ℕ) (config : Config) (accounts messages : Told) (tariff : Option Told) (old new : Option (List ℕ)) (fault : Fault) → IsConfig octets config
    → FailsQuote (IsInputBy config accounts messages tariff) (IsReadFault (IsFaultOfFiles accounts messages tariff)) old new fault
    → FailsQuote (IsInput octets accounts messages tariff) (IsReadFault (TellsInput octets accounts messages tariff)) old new fault
octets_fail octets config accounts messages tariff old new fault says (inl (f, is, same)) = inl (f, inr ((config, says), is), same)
octets_fail octets config accounts messages tariff old new fault says (inr (given, read, fails)) = inr (given, input_by octets config accounts messages tariff given says read, fails)

pub config_fails : (octets : List ℕ) (accounts messages : Told) (tariff : Option Told) (fault : Fault) → IsReadFault (TellsConfig octets) fault → IsReadFault (TellsInput octets accounts messages tariff) fault
config_fails octets accounts messages tariff fault (f, is, same) = (f, inl is, same)

-- ---- by a config and files that were opened by its names

-- the lines of a name that is kept where details are wanted
pub names_told : (is_full : List ℕ → List ℕ → Type 0) (at_length : Bool) (name shown : List ℕ) (kept : Option (List ℕ)) (names : FileNames) (lines told : List ℕ)
    → kept ≡ (if at_length then Some shown else None) → shown ≡ name → told ≡ lines → AreLinesIfKept is_full kept names lines → AreLinesAt is_full at_length name names told
names_told is_full at_length name shown kept names lines told one two three holds =
    subst (λ (n : List ℕ). AreLinesIfKept is_full (if at_length then Some n else None) names told) two
    (subst (λ (k : Option (List ℕ)). AreLinesIfKept is_full k names told) one (subst (λ (l : List ℕ). AreLinesIfKept is_full kept names l) (sym three) holds))

pub named_quoted : (finds : List ℕ → Option Told → Type 0) (is_full : List ℕ → List ℕ → Type 0) (at_length : Bool) (name : List ℕ) (file : ConfigFile) (config : Config) (accounts messages : Told) (tariff : Option Told) (lines : List ℕ) (old new error_old error_new : Option (List ℕ))
    → IsConfigFile finds name file → AreOpen finds file.config config accounts messages tariff → AreLinesAt is_full at_length name file.config.files lines
    → Quotes (IsInputBy config accounts messages tariff) lines old new error_old error_new → OfConfig finds name (QuotesNamed finds is_full at_length name old new error_old error_new)
named_quoted finds is_full at_length name file config accounts messages tariff lines old new error_old error_new is opened named quotes =
    of_config finds name file (QuotesNamed finds is_full at_length name old new error_old error_new) is
    (lines, named, record { input = quotes.input; read = read_open finds false false file.config config accounts messages tariff quotes.input opened quotes.read; printed = quotes.printed; warned = quotes.warned })

pub named_front : (finds : List ℕ → Option Told → Type 0) (is_full : List ℕ → List ℕ → Type 0) (at_length : Bool) (name : List ℕ) (file : ConfigFile) (config : Config) (accounts messages : Told) (tariff : Option Told) (lines : List ℕ) (error_old error_new : Option (List ℕ))
    → IsConfigFile finds name file → AreOpen finds file.config config accounts messages tariff → AreLinesAt is_full at_length name file.config.files lines
    → BeginsWarnings (IsInputBy config accounts messages tariff) lines error_old error_new → OfConfig finds name (BeginsNamedWarnings finds is_full at_length name error_old error_new)
named_front finds is_full at_length name file config accounts messages tariff lines error_old error_new is opened named front =
    of_config finds name file (BeginsNamedWarnings finds is_full at_length name error_old error_new) is
    (lines, named, record { input = front.input; read = read_open finds false false file.config config accounts messages tariff front.input opened front.read; front = front.front })

-- why there is no quote of a config that was read
fails_by : (finds : List ℕ → Option Told → Type 0) (name : String Global) (file : ConfigFile) (old new : Option (List ℕ)) (fault : Fault)
    → IsConfigFile finds (string_bytes name) file → FailsQuote (IsRead finds false false file.config) (IsUnread finds false false file.config) old new fault → FailsQuoteJob finds name old new fault
fails_by finds name file old new fault is fails =
    inr (of_config finds (string_bytes name) file (λ config. FailsQuote (IsRead finds false false config) (IsUnread finds false false config) old new fault) is fails)

pub missing_fails : (finds : List ℕ → Option Told → Type 0) (name : String Global) (file : ConfigFile) (old new : Option (List ℕ)) (fault : Fault)
    → IsConfigFile finds (string_bytes name) file → FailsOpeningFiles finds file.config.files fault → FailsQuoteJob finds name old new fault
missing_fails finds name file old new fault is missing = fails_by finds name file old new fault is (inl (inl missing))

pub files_fail : (finds : List ℕ → Option Told → Type 0) (name : String Global) (file : ConfigFile) (config : Config) (accounts messages : Told) (tariff : Option Told) (old new : Option (List ℕ)) (fault : Fault)
    → IsConfigFile finds (string_bytes name) file → AreOpen finds file.config config accounts messages tariff
    → FailsQuote (IsInputBy config accounts messages tariff) (IsReadFault (IsFaultOfFiles accounts messages tariff)) old new fault → FailsQuoteJob finds name old new fault
files_fail finds name file config accounts messages tariff old new fault is opened (inl unread) =
    fails_by finds name file old new fault is (inl (unread_open finds false false file.config config accounts messages tariff fault opened unread))
files_fail finds name file config accounts messages tariff old new fault is opened (inr (given, read, fails)) =
    fails_by finds name file old new fault is (inr (given, read_open finds false false file.config config accounts messages tariff given opened read, fails))

-- ---- as it was asked for

pub job_quotes : (finds : List ℕ → Option Told → Type 0) (is_full : List ℕ → List ℕ → Type 0) (at_length : Bool) (name : List ℕ) (old new error_old error_new : Option (List ℕ))
    → OfConfig finds name (QuotesNamed finds is_full at_length name old new error_old error_new) → OfConfig finds name (QuotesFiles finds old new)
job_quotes finds is_full at_length name old new error_old error_new (told, found, holds) =
    (told, found, IfSome_then told holds (λ octets so. (so.0, so.1, (so.2.2.input, so.2.2.read, so.2.2.printed))))

pub quotes_asked : (finds : List ℕ → Option Told → Type 0) (is_full : List ℕ → List ℕ → Type 0) (wants : Bool → Type 0) (name : String Global) (verbose details at_length : Bool) (old new error_old error_new : Option (List ℕ))
    → wants details → at_length ≡ (details || verbose) → OfConfig finds (string_bytes name) (QuotesNamed finds is_full at_length (string_bytes name) old new error_old error_new)
    → QuotesAsAsked finds is_full wants name verbose old new error_old error_new
quotes_asked finds is_full wants name verbose details at_length old new error_old error_new wanted same quotes =
    (details, wanted, subst (λ (b : Bool). OfConfig finds (string_bytes name) (QuotesNamed finds is_full b (string_bytes name) old new error_old error_new)) same quotes)

pub front_asked : (finds : List ℕ → Option Told → Type 0) (is_full : List ℕ → List ℕ → Type 0) (wants : Bool → Type 0) (name : String Global) (verbose details at_length : Bool) (error_old error_new : Option (List ℕ))
    → wants details → at_length ≡ (details || verbose) → OfConfig finds (string_bytes name) (BeginsNamedWarnings finds is_full at_length (string_bytes name) error_old error_new)
    → BeginsAsAsked finds is_full wants name verbose error_old error_new
front_asked finds is_full wants name verbose details at_length error_old error_new wanted same front =
    (details, wanted, subst (λ (b : Bool). OfConfig finds (string_bytes name) (BeginsNamedWarnings finds is_full b (string_bytes name) error_old error_new)) same front)
