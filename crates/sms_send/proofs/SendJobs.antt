-- What was sent by a config, or why nothing was.
use Rattle.std.proofs.Common.{◌≡◌, ◌⊎◌, inl, inr, refl, sym, subst, Bool, true, false, List, ℕ, Option}
use Rattle.std.specs.Prelude.{◌||◌, is_some, string_bytes}
use Rattle.sms_devices.specs.Centres.{CentreAt}
use Rattle.sms_files.specs.Inputs.{Told}
use Rattle.sms_files.specs.declared.config.Config.{Config}
use Rattle.sms_files.specs.declared.input.Input.{Input}
use Rattle.sms_send.specs.Words.{bytes_of}
use Rattle.sms_send.specs.ConfigFiles.{FailsReadingConfig, IsConfigFile, OfConfig}
use Rattle.sms_send.specs.FieldFiles.{AreFieldsAt, FailsFields}
use Rattle.sms_send.specs.InboxFiles.{LacksInbox}
use Rattle.sms_send.specs.Opened.{FailsOpeningFiles}
use Rattle.sms_send.specs.Reached.{centre_in}
use Rattle.sms_send.specs.Reading.{FailsReading, IsRead, IsReadFrom}
use Rattle.sms_send.specs.SendJobs.{FailsBy, FailsInput, FailsSendJob, SendsBy}
use Rattle.sms_send.specs.Sent.{SendsInput}
use Rattle.sms_send.specs.declared.args.send_args.Again.{Again}
use Rattle.sms_send.specs.declared.args.send_args.JournalFile.{JournalFile}
use Rattle.sms_send.specs.declared.args.send_args.SendArgs.{SendArgs}
use Rattle.sms_send.specs.declared.faults.fault.Fault.{Fault}
use Rattle.sms_send.specs.declared.files.config_file.ConfigFile.{ConfigFile}
use Rattle.sms_send.specs.declared.sending.target.TargetKind.{TargetKind}
use Rattle.sms_send.proofs.ConfigFiles.{AreOpen, of_config, read_open, unread_open}

pub or_false : (b : Bool) → b ≡ (b || false)
or_false true = refl
or_false false = refl

pub or_true : (b : Bool) → true ≡ (b || true)
or_true true = refl
or_true false = refl

-- what the files say was sent
pub sends_by : (finds : List ℕ → Option Told → Type 0) (tells : CentreAt → Bool → ℕ → ℕ → Told) (name : List ℕ) (kind : TargetKind) (file : ConfigFile) (centre : CentreAt) (config : Config) (accounts messages : Told) (tariff : Option Told)
    (wanted : Option (List ℕ)) (again : Option Again) (whole strict noted has : Bool) (given : Input) (old new : Option (List ℕ)) (status : ℕ)
    → IsConfigFile finds name file → AreFieldsAt finds wanted file.config.fields → AreOpen finds file.config config accounts messages tariff → centre ≡ centre_in kind file.config → whole ≡ (strict || noted) → has ≡ noted
    → IsReadFrom whole strict config accounts messages tariff given → SendsInput (tells centre noted) again strict given old new status
    → OfConfig finds name (SendsBy finds tells kind wanted again strict has old new status)
sends_by finds tells name kind file centre config accounts messages tariff wanted again whole strict noted has given old new status is fielded opened reaches wholly same read sends =
    subst (λ (n : Bool). OfConfig finds name (SendsBy finds tells kind wanted again strict n old new status)) (sym same)
    (of_config finds name file (SendsBy finds tells kind wanted again strict noted old new status) is
    (record {
      fields = fielded;
      input = given;
      read = subst (λ (w : Bool). IsRead finds w strict file.config given) wholly (read_open finds whole strict file.config config accounts messages tariff given opened read);
      sends = subst (λ (c : CentreAt). SendsInput (tells c noted) again strict given old new status) reaches sends;
    }))

-- a file isn't there
pub missing_fails : (begins : JournalFile → Fault → Type 0) (finds : List ℕ → Option Told → Type 0) (tells : CentreAt → Bool → ℕ → ℕ → Told) (kind : TargetKind) (order : SendArgs) (old new : Option (List ℕ)) (fault : Fault) (file : ConfigFile)
    → IsConfigFile finds (string_bytes order.config) file → FailsOpeningFiles finds file.config.files fault → FailsSendJob begins finds tells kind order old new fault
missing_fails begins finds tells kind order old new fault file is missing =
    inr (inr (inr (of_config finds (string_bytes order.config) file (FailsBy begins finds tells kind (bytes_of order.fields) order.again order.strict order.journal old new fault) is (inl (inl missing)))))

-- the files can't be read
pub reading_fails : (begins : JournalFile → Fault → Type 0) (finds : List ℕ → Option Told → Type 0) (tells : CentreAt → Bool → ℕ → ℕ → Told) (kind : TargetKind) (order : SendArgs) (old new : Option (List ℕ)) (fault : Fault) (file : ConfigFile)
    (config : Config) (accounts messages : Told) (tariff : Option Told) (whole : Bool)
    → IsConfigFile finds (string_bytes order.config) file → AreOpen finds file.config config accounts messages tariff → whole ≡ (order.strict || is_some order.journal)
    → FailsReading whole order.strict config accounts messages tariff fault → FailsSendJob begins finds tells kind order old new fault
reading_fails begins finds tells kind order old new fault file config accounts messages tariff whole is opened wholly fails =
    inr (inr (inr (of_config finds (string_bytes order.config) file (FailsBy begins finds tells kind (bytes_of order.fields) order.again order.strict order.journal old new fault) is
    (inl (unread_open finds (order.strict || is_some order.journal) order.strict file.config config accounts messages tariff fault opened
    (subst (λ (w : Bool). FailsReading w order.strict config accounts messages tariff fault) wholly fails))))))

-- what they say wasn't sent
pub input_fails : (begins : JournalFile → Fault → Type 0) (finds : List ℕ → Option Told → Type 0) (tells : CentreAt → Bool → ℕ → ℕ → Told) (kind : TargetKind) (order : SendArgs) (old new : Option (List ℕ)) (fault : Fault) (file : ConfigFile)
    (centre : CentreAt) (config : Config) (accounts messages : Told) (tariff : Option Told) (whole : Bool) (journal : Option JournalFile) (given : Input)
    → IsConfigFile finds (string_bytes order.config) file → AreFieldsAt finds (bytes_of order.fields) file.config.fields → AreOpen finds file.config config accounts messages tariff → centre ≡ centre_in kind file.config → order.journal ≡ journal → whole ≡ (order.strict || is_some journal)
    → IsReadFrom whole order.strict config accounts messages tariff given → FailsInput begins centre (tells centre) order.again order.strict journal given old new fault → FailsSendJob begins finds tells kind order old new fault
input_fails begins finds tells kind order old new fault file centre config accounts messages tariff whole journal given is fielded opened reaches is_journal wholly read fails =
    inr (inr (inr (of_config finds (string_bytes order.config) file (FailsBy begins finds tells kind (bytes_of order.fields) order.again order.strict order.journal old new fault) is
    (subst (λ (j : Option JournalFile). FailsBy begins finds tells kind (bytes_of order.fields) order.again order.strict j old new fault file.config) (sym is_journal)
    (inr (
      fielded,
      given,
      subst (λ (w : Bool). IsRead finds w order.strict file.config given) wholly (read_open finds whole order.strict file.config config accounts messages tariff given opened read),
      subst (λ (c : CentreAt). FailsInput begins c (tells c) order.again order.strict journal given old new fault) reaches fails,
    ))))))

-- the config or the fields can't be read
pub unread_fails : (begins : JournalFile → Fault → Type 0) (finds : List ℕ → Option Told → Type 0) (tells : CentreAt → Bool → ℕ → ℕ → Told) (kind : TargetKind) (order : SendArgs) (old new : Option (List ℕ)) (fault : Fault)
    → FailsReadingConfig finds order.config fault ⊎ FailsFields finds (bytes_of order.fields) fault → FailsSendJob begins finds tells kind order old new fault
unread_fails begins finds tells kind order old new fault (inl config) = inl config
unread_fails begins finds tells kind order old new fault (inr fields) = inr (inl fields)

-- there is no inbox
pub inbox_fails : (begins : JournalFile → Fault → Type 0) (finds : List ℕ → Option Told → Type 0) (tells : CentreAt → Bool → ℕ → ℕ → Told) (kind : TargetKind) (order : SendArgs) (old new : Option (List ℕ)) (fault : Fault) (file : ConfigFile)
    → IsConfigFile finds (string_bytes order.config) file → LacksInbox (bytes_of order.lines.inbox) file.config fault → FailsSendJob begins finds tells kind order old new fault
inbox_fails begins finds tells kind order old new fault file is lacks =
    inr (inr (inl (of_config finds (string_bytes order.config) file (λ (config : Config). LacksInbox (bytes_of order.lines.inbox) config fault) is lacks)))
