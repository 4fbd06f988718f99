-- What holds of the octets of a run's files holds of the slices that are handed on.
use Rattle.std.proofs.Common.{◌≡◌, ◌⊎◌, ◌∙◌, ◌-◌, ◌++◌, inl, inr, ap, subst, sym, arith, ℕ, List, length, length-append, Option, None, Some, Result, Ok, Err, IfErr, IfOk, String, Vec, Global}
use Rattle.std.proofs.lemmas.Option.{IfSome_then}
use Rattle.std.specs.Prelude.{string_bytes}
use Rattle.std.specs.declared.io.ErrorKind.{ErrorKind}
use Rattle.sms_files.specs.ConfigFaults.{IsConfig}
use Rattle.sms_files.specs.Inputs.{Told}
use Rattle.sms_files.specs.declared.config.Config.{Config}
use Rattle.sms_send.specs.ConfigFiles.{IsConfigFile}
use Rattle.sms_files.specs.declared.config.FileNames.{FileNames}
use Rattle.sms_files.specs.declared.fault.Source.{Source}
use Rattle.sms_journal.specs.OfLedger.{IsNoRunText, IsRunText, run_head}
use Rattle.sms_send.specs.Headed.{FailsMessages, FailsOne, HaveParts, IsNoWholeRun, IsUnopened, SplitsWritten}
use Rattle.sms_send.specs.Opened.{FailsReadingFile, OfFile}
use Rattle.sms_send.specs.Runs.{AreNamed, AreWritten, FailsHeaded, FailsNamedFiles, FailsRunFiles, IsHeadedBy, IsRun, IsRunBy, IsUnreadable}
use Rattle.sms_send.specs.declared.faults.fault.Fault.{Fault}
use Rattle.sms_send.specs.declared.faults.fault.Fault.TheVariants.{OutOfMemory}
use Rattle.sms_send.specs.declared.files.config_file.ConfigFile.{ConfigFile}
use Rattle.sms_send.specs.declared.files.headed.RunParts.{RunParts}
use Rattle.sms_send.specs.declared.files.run_files.RunFiles.{RunFiles}
use Rattle.sms_send.proofs.ConfigFiles.{of_config}

pub of_files : (P : List ℕ → List ℕ → List ℕ → Option (List ℕ) → List ℕ → Type 0) (c c' a a' m m' : List ℕ) (t t' : Option (List ℕ)) (w w' : List ℕ)
    → c ≡ c' → a ≡ a' → m ≡ m' → t ≡ t' → w ≡ w' → P c a m t w → P c' a' m' t' w'
of_files P c c' a a' m m' t t' w w' ec ea em et ew holds =
    subst (λ (x : List ℕ). P c' a' m' t' x) ew
    (subst (λ (x : Option (List ℕ)). P c' a' m' x w) et (subst (λ (x : List ℕ). P c' a' x t w) em (subst (λ (x : List ℕ). P c' x m t w) ea (subst (λ (x : List ℕ). P x a m t w) ec holds))))

-- the files that a config names, by the config's name
pub run_by : (finds : List ℕ → Option Told → Type 0) (name written : List ℕ) (read : ConfigFile) (run : RunFiles) → IsConfigFile finds name read → IsRunBy finds read written run → IsRun finds name written run
run_by finds name written read run file is = record {
  config_is = subst (λ (v : Vec ℕ Global). OfFile finds name (λ bytes. v.items ≡ bytes)) (sym is.config_is) file.octets_are;
  config = read.config;
  says = subst (λ (v : Vec ℕ Global). IsConfig v.items read.config) (sym is.config_is) file.says;
  names_are = is.names_are;
  are = is.are;
}

pub fails_by : (finds : List ℕ → Option Told → Type 0) (config written : String Global) (read : ConfigFile) (fault : Fault) → IsConfigFile finds (string_bytes config) read
    → (fault ≡ OutOfMemory) ⊎ (FailsNamedFiles finds read.config.files fault ⊎ FailsReadingFile finds written fault ⊎ FailsHeaded finds (string_bytes written) read.config.files fault) → FailsRunFiles finds config written fault
fails_by finds config written read fault file (inl memory) = inl (inl memory)
fails_by finds config written read fault file (inr lost) =
    inr (of_config finds (string_bytes config) read (λ (k : Config). FailsNamedFiles finds k.files fault ⊎ FailsReadingFile finds written fault ⊎ FailsHeaded finds (string_bytes written) k.files fault) file lost)

-- ---- a run of an accounts file, and one of a ledger

-- what holds of the octets that a file has holds of them
of_file : (finds : List ℕ → Option Told → Type 0) (name octets : List ℕ) (P : List ℕ → Type 0) → ((bytes : List ℕ) → octets ≡ bytes → P bytes) → OfFile finds name (λ bytes. octets ≡ bytes) → OfFile finds name P
of_file finds name octets P more (told, found, are) = (told, found, IfSome_then told are more)

-- a file that can't be read, and one that can't be opened
pub unread_one : (finds : List ℕ → Option Told → Type 0) (name : List ℕ) (source : Source) (told : Told) (fault : Fault) → finds name (Some told) → (fault ≡ OutOfMemory) ⊎ IsUnreadable source fault → FailsOne finds name source fault
unread_one finds name source told fault found (inl memory) = inl memory
unread_one finds name source told fault found (inr unread) = inr (inr (unread, (told, found)))

pub unopened_one : (finds : List ℕ → Option Told → Type 0) (name : List ℕ) (source : Source) (kind : ErrorKind) (fault : Fault) → finds name None → IsUnopened name kind fault → FailsOne finds name source fault
unopened_one finds name source kind fault lost (inl memory) = inl memory
unopened_one finds name source kind fault lost (inr (text, named, is)) = inr (inl ((kind, text, named, is), lost))

-- the parts of a journal behind its head
pub have_parts : (run accounts journal text : List ℕ) (parts : RunParts) → IsRunText run accounts journal text → parts.run ≡ run → parts.accounts.items ≡ accounts → parts.journal.items ≡ journal → parts.before ≡ length text - length journal → HaveParts text parts
have_parts run accounts journal text parts is named same behind before =
    let all : length text ≡ length (run_head run accounts ++ journal) = ap length is.is in
    let head : parts.before ≡ length (run_head run accounts) = omega (arith, before, all, length-append (run_head run accounts) journal) in
    record {
      is = subst (λ (r : List ℕ). IsRunText r parts.accounts.items parts.journal.items text) (sym named)
          (subst (λ (a : List ℕ). IsRunText run a parts.journal.items text) (sym same) (subst (λ (j : List ℕ). IsRunText run accounts j text) (sym behind) is));
      before = head ∙ ap (λ (r : List ℕ). length (run_head r accounts)) (sym named) ∙ ap (λ (a : List ℕ). length (run_head parts.run a)) (sym same);
    }

-- the files of the one: what was written of it stands whole in its file
pub unheaded : (finds : List ℕ → Option Told → Type 0) (read : ConfigFile) (name : List ℕ) (written : Result (Vec ℕ Global) Fault) (run : RunFiles) → IfOk written (λ octets. OfFile finds name (λ bytes. octets.items ≡ bytes)) → SplitsWritten written None
    → (run.config ≡ read.octets) × (run.names ≡ read.config.files) × AreNamed finds read.config.files run.named × (written ≡ Ok run.written) × (run.run ≡ None) → IsRunBy finds read name run
unheaded finds read name (Ok octets) run file whole (config, names, named, is, none) =
    let same : octets ≡ run.written = cc in
    let written : OfFile finds name (λ bytes. (run.written.items ≡ bytes) × IsNoWholeRun bytes) =
    of_file finds name octets.items (λ bytes. (run.written.items ≡ bytes) × IsNoWholeRun bytes) (λ bytes are. (ap (λ (v : Vec ℕ Global). v.items) (sym same) ∙ are, subst IsNoWholeRun are whole)) file in
    record { config_is = config; names_are = names; are = subst (AreWritten finds read.config.files name run) (sym none) (named, written) }
unheaded finds read name (Err fault) run file whole (config, names, named, is, none) = cc

pub unheaded_fails : (finds : List ℕ → Option Told → Type 0) (names : FileNames) (name : String Global) (written : Result (Vec ℕ Global) Fault) (fault : Fault) → IfErr written (λ f. (f ≡ OutOfMemory) ⊎ FailsReadingFile finds name f)
    → (fault ≡ OutOfMemory) ⊎ FailsNamedFiles finds names fault ⊎ (written ≡ Err fault) → (fault ≡ OutOfMemory) ⊎ (FailsNamedFiles finds names fault ⊎ FailsReadingFile finds name fault ⊎ FailsHeaded finds (string_bytes name) names fault)
unheaded_fails finds names name written fault lost (inl memory) = inl memory
unheaded_fails finds names name written fault lost (inr (inl fails)) = inr (inl fails)
unheaded_fails finds names name written fault lost (inr (inr is)) = elim (rw is at lost) [
  | inl memory ↦ inl memory
  | inr unread ↦ inr (inr (inl unread))
]

-- those of the other: behind its head, which has its accounts
pub headed : (finds : List ℕ → Option Told → Type 0) (read : ConfigFile) (name : List ℕ) (written : Result (Vec ℕ Global) Fault) (parts : RunParts) (run : RunFiles) → IfOk written (λ octets. OfFile finds name (λ bytes. octets.items ≡ bytes)) → SplitsWritten written (Some parts)
    → IsHeadedBy finds read parts run → IsRunBy finds read name run
headed finds read name (Ok octets) parts run file have is =
    let text : (bytes : List ℕ) → octets.items ≡ bytes → IsRunText parts.run run.named.accounts.items run.written.items bytes =
    λ bytes are. rw is.accounts (rw is.written (subst (IsRunText parts.run parts.accounts.items parts.journal.items) are have.is)) in
    let before : run.before ≡ length (run_head parts.run run.named.accounts.items) = is.before ∙ have.before ∙ ap (λ (v : Vec ℕ Global). length (run_head parts.run v.items)) (sym is.accounts) in
    record {
      config_is = is.config_is;
      names_are = is.names_are;
      are = subst (AreWritten finds read.config.files name run) (sym is.name) (is.messages, of_file finds name octets.items (IsRunText parts.run run.named.accounts.items run.written.items) text file, before);
    }
headed finds read name (Err fault) parts run file have is = cc

pub headed_fails : (finds : List ℕ → Option Told → Type 0) (names : FileNames) (name : String Global) (written : Result (Vec ℕ Global) Fault) (parts : RunParts) (fault : Fault) → IfOk written (λ octets. OfFile finds (string_bytes name) (λ bytes. octets.items ≡ bytes)) → SplitsWritten written (Some parts)
    → FailsMessages finds names fault → (fault ≡ OutOfMemory) ⊎ (FailsNamedFiles finds names fault ⊎ FailsReadingFile finds name fault ⊎ FailsHeaded finds (string_bytes name) names fault)
headed_fails finds names name (Ok octets) parts fault file have fails =
    inr (inr (inr (of_file finds (string_bytes name) octets.items (λ bytes. ¬ IsNoRunText bytes) (λ bytes are none. none parts.run parts.accounts.items parts.journal.items (subst (IsRunText parts.run parts.accounts.items parts.journal.items) are have.is)) file, fails)))
headed_fails finds names name (Err f) parts fault file have fails = cc
