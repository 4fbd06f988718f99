-- A sending on a ledger, from the run that was begun on it, how its sending ended, and what came back.
use Rattle.std.proofs.Common.{◌≡◌, ◌⊎◌, inl, inr, refl, sym, subst, ℕ, Bool, true, List, Option, Some, Result, Ok, Err, IfOk, IfErr}
use Rattle.std.specs.Prelude.{string_bytes}
use Rattle.std.specs.declared.io.ErrorKind.{ErrorKind}
use Rattle.sms_devices.specs.Centres.{CentreAt}
use Rattle.sms_devices.specs.declared.ledger.failure.LedgerFailure.{LedgerFailure}
use Rattle.sms_driver.specs.declared.start.StartPhase.{StartPhase}
use Rattle.sms_files.specs.Inputs.{Told}
use Rattle.sms_files.specs.declared.input.Input.{Input}
use Rattle.sms_journal.specs.OfLedger.{run_head}
use Rattle.sms_files.specs.declared.config.Config.{Config}
use Rattle.sms_send.specs.ConfigFiles.{FailsReadingConfig, IsConfigFile}
use Rattle.sms_send.specs.InboxFiles.{LacksInbox}
use Rattle.sms_send.specs.FieldFiles.{AreFieldsAt, FailsFields}
use Rattle.sms_send.specs.Headed.{FailsMessages, HasMessages}
use Rattle.sms_send.specs.Kept.{KeepsThrough}
use Rattle.sms_send.specs.LedgerSendings.{BeginsOn, EndsOn, FailsOnCredits, FailsOnLedger, FailsSendOn, IsHeadedFile, SendsLedger, SendsOn}
use Rattle.sms_send.specs.Ledgers.{WasOpen}
use Rattle.sms_send.specs.Noted.{FailsNoted, IsNotedIn, LacksFirstLine}
use Rattle.sms_send.specs.Reached.{centre_in}
use Rattle.sms_send.specs.Reading.{IsInputOf}
use Rattle.sms_send.specs.Sent.{SendingEnd, SendsInput}
use Rattle.sms_send.specs.Words.{bytes_of}
use Rattle.sms_send.specs.declared.args.send_args.Again.{Again}
use Rattle.sms_send.specs.declared.args.send_args.JournalFile.{JournalFile}
use Rattle.sms_send.specs.declared.args.send_args.SendArgs.{SendArgs}
use Rattle.sms_send.specs.declared.faults.fault.Fault.{Fault}
use Rattle.sms_send.specs.declared.files.config_file.ConfigFile.{ConfigFile}
use Rattle.sms_send.specs.declared.files.named_files.NamedFiles.{NamedFiles}
use Rattle.sms_send.specs.declared.jobs.ledger_send.BegunRun.{BegunRun}
use Rattle.sms_send.specs.declared.sending.kept.Kept.{Kept}
use Rattle.sms_send.specs.declared.sending.target.TargetKind.{TargetKind}
use Rattle.sms_send.proofs.ConfigFiles.{of_config}

-- a file that was made so was made otherwise too
noted_as : {J : Type 0} (contents : J → Option (List ℕ)) (made other : J → Type 0) (status : ℕ) → ((file : J) → made file → other file) → IsNotedIn contents made status → IsNotedIn contents other status
noted_as contents made other status gives noted = record {
  file = noted.file;
  is_made = record { first = noted.is_made.first; is_made = gives noted.is_made.first noted.is_made.is_made; lines = noted.is_made.lines; given = noted.is_made.given };
  ended = noted.ended;
}

module _ {F J W : Type 0} (makes : List ℕ → J → Type 0) (contents : J → Option (List ℕ)) (tells : CentreAt → Bool → ℕ → ℕ → Told) (kind : TargetKind) (holds : List ℕ → F → Type 0) (lacks : List ℕ → LedgerFailure → Type 0) (errs : ErrorKind → Type 0) (octets stored : F → Option (List ℕ)) (opening : F → ℕ) (is_closed : F → Type 0) (ledger : List ℕ) (again : Option Again) (strict : Bool) (read : ConfigFile) (named : NamedFiles) (wanted : JournalFile) (centre : CentreAt) (reaches : centre ≡ centre_in kind read.config) (first last : F) (b : BegunRun J) (was : WasOpen holds opening is_closed ledger first last) (begins : BeginsOn makes contents octets stored read named wanted strict first last b) (begun phase : StartPhase) (phase_is : phase ≡ begun) (kept : Option Kept) (old new : Option (List ℕ)) (before after : W) (r sent : Result ℕ Fault) where
  abbrev Sends : CentreAt → ℕ → Type 0
  Sends at = SendsInput (tells at true) again strict b.input old new

  abbrev Fails : CentreAt → Fault → Type 0
  Fails at = FailsNoted LacksFirstLine at (tells at true) again strict b.input old new

  there : SendingEnd strict (Sends centre) (Fails centre) begun before after sent → SendingEnd strict (Sends (centre_in kind read.config)) (Fails (centre_in kind read.config)) begun before after sent
  there ended = subst (λ (at : CentreAt). SendingEnd strict (Sends at) (Fails at) begun before after sent) reaches ended

  pub sends_ledger : SendingEnd strict (Sends centre) (Fails centre) begun before after sent → IfOk sent (IsNotedIn contents (λ file. file ≡ b.journal)) → KeepsThrough old new sent kept → EndsOn holds lacks errs octets stored opening is_closed ledger b.debtor phase kept sent r
      → IfOk r (λ status. SendsLedger makes contents tells kind holds octets stored opening is_closed ledger again strict named wanted old new status read.config)
  sends_ledger ended noted keeps ends = by r ends
    where
      by : (r : Result ℕ Fault) → EndsOn holds lacks errs octets stored opening is_closed ledger b.debtor phase kept sent r → IfOk r (λ status. SendsLedger makes contents tells kind holds octets stored opening is_closed ledger again strict named wanted old new status read.config)
      by (Err f) ends = tt
      by (Ok status) ends =
          let is : sent ≡ Ok status = ends.ended.0 in
          record {
            debtor = b.debtor;
            accounts = begins.accounts;
            input = b.input;
            taken = record { first = first; last = last; opened = was; done = begins.takes };
            names = begins.names;
            files = begins.is.files;
            accounts_are = begins.is.accounts_in_files;
            messages_are = begins.is.messages;
            tariff_is = begins.is.tariff;
            read = subst (λ (i : Input). IsInputOf read.config begins.is.files i) (sym begins.input) begins.is.read;
            closed = begins.is.closed;
            sends = subst (λ (x : Result ℕ Fault). IfOk x (Sends (centre_in kind read.config))) is (there ended).sent;
            noted = noted_as contents (λ file. file ≡ b.journal) (IsHeadedFile contents (makes (string_bytes wanted.name)) (run_head b.debtor.run begins.accounts)) status
                (λ file same. subst (IsHeadedFile contents (makes (string_bytes wanted.name)) (run_head b.debtor.run begins.accounts)) (sym same) begins.journal)
                (subst (λ (x : Result ℕ Fault). IfOk x (IsNotedIn contents (λ file. file ≡ b.journal))) is noted);
            kept = kept;
            keeps = subst (λ (x : Result ℕ Fault). KeepsThrough old new x kept) is keeps;
            settled = ends.ended.1;
          }

  pub fails_on_credits : SendingEnd strict (Sends centre) (Fails centre) begun before after sent → KeepsThrough old new sent kept → EndsOn holds lacks errs octets stored opening is_closed ledger b.debtor phase kept sent r
      → IfErr r (λ fault. FailsOnCredits tells kind holds lacks errs octets stored opening is_closed ledger again strict named begun old new fault read.config)
  fails_on_credits ended keeps ends = by r ends
    where
      by : (r : Result ℕ Fault) → EndsOn holds lacks errs octets stored opening is_closed ledger b.debtor phase kept sent r → IfErr r (λ fault. FailsOnCredits tells kind holds lacks errs octets stored opening is_closed ledger again strict named begun old new fault read.config)
      by (Ok status) ends = tt
      by (Err f) ends = record {
        debtor = b.debtor;
        accounts = begins.accounts;
        input = b.input;
        taken = record { first = first; last = last; opened = was; done = begins.takes };
        names = begins.names;
        unused = begins.unused;
        sent = sent;
        sending = ((there ended).sent, (there ended).refused);
        kept = kept;
        keeps = keeps;
        ends = subst (λ (p : StartPhase). EndsOn holds lacks errs octets stored opening is_closed ledger b.debtor p kept sent (Err f)) phase_is ends;
      }

-- ---- by the names of a config and a journal

module _ {F J : Type 0} (makes : List ℕ → J → Type 0) (contents : J → Option (List ℕ)) (refuses held : List ℕ → Type 0) (finds : List ℕ → Option Told → Type 0) (tells : CentreAt → Bool → ℕ → ℕ → Told) (kind : TargetKind) (holds : List ℕ → F → Type 0) (lacks : List ℕ → LedgerFailure → Type 0) (errs : ErrorKind → Type 0) (octets stored : F → Option (List ℕ)) (opening : F → ℕ) (is_closed : F → Type 0) (slice ledger : List ℕ) (named_so : slice ≡ ledger) (order : SendArgs) (file : ConfigFile) (is : IsConfigFile finds (string_bytes order.config) file) (fielded : AreFieldsAt finds (bytes_of order.fields) file.config.fields) (begun : StartPhase) (old new : Option (List ℕ)) where
  pub sends_on : (named : NamedFiles) (wanted : JournalFile) (status : ℕ) → HasMessages finds file.config.files named → order.journal ≡ Some wanted → SendsLedger makes contents tells kind holds octets stored opening is_closed slice order.again order.strict named wanted old new status file.config
      → SendsOn makes contents finds tells kind holds octets stored opening is_closed ledger order old new status
  sends_on named wanted status has given sends =
      of_config finds (string_bytes order.config) file
      (λ (config : Config). AreFieldsAt finds (bytes_of order.fields) config.fields × (named : NamedFiles) × HasMessages finds config.files named × (wanted : JournalFile) × (order.journal ≡ Some wanted) × SendsLedger makes contents tells kind holds octets stored opening is_closed ledger order.again order.strict named wanted old new status config)
      is (fielded, named, has, wanted, given, subst (λ (l : List ℕ). SendsLedger makes contents tells kind holds octets stored opening is_closed l order.again order.strict named wanted old new status file.config) named_so sends)

  abbrev Why : Fault → Config → Type 0
  Why fault config =
      FailsMessages finds config.files fault
      ⊎ LacksInbox (bytes_of order.lines.inbox) config fault
      ⊎ (AreFieldsAt finds (bytes_of order.fields) config.fields × (named : NamedFiles) × HasMessages finds config.files named × (read : ConfigFile) × (read.config ≡ config) × (wanted : JournalFile) × (order.journal ≡ Some wanted)
      × FailsOnLedger makes refuses held tells kind holds lacks errs octets stored opening is_closed ledger order.again order.strict read named wanted begun old new fault)

  pub fails_on : (named : NamedFiles) (wanted : JournalFile) (fault : Fault) → HasMessages finds file.config.files named → order.journal ≡ Some wanted
      → FailsOnLedger makes refuses held tells kind holds lacks errs octets stored opening is_closed slice order.again order.strict file named wanted begun old new fault → FailsSendOn makes refuses held finds tells kind holds lacks errs octets stored opening is_closed ledger order begun old new fault
  fails_on named wanted fault has given fails =
      inr (inr (inr (inr (of_config finds (string_bytes order.config) file (Why fault) is
      (inr (inr (fielded, named, has, file, refl, wanted, given, subst (λ (l : List ℕ). FailsOnLedger makes refuses held tells kind holds lacks errs octets stored opening is_closed l order.again order.strict file named wanted begun old new fault) named_so fails)))))))

  pub without_messages : (fault : Fault) → FailsMessages finds file.config.files fault → FailsSendOn makes refuses held finds tells kind holds lacks errs octets stored opening is_closed ledger order begun old new fault
  without_messages fault fails = inr (inr (inr (inr (of_config finds (string_bytes order.config) file (Why fault) is (inl fails)))))

  pub without_inbox : (fault : Fault) → LacksInbox (bytes_of order.lines.inbox) file.config fault → FailsSendOn makes refuses held finds tells kind holds lacks errs octets stored opening is_closed ledger order begun old new fault
  without_inbox fault lacks_it = inr (inr (inr (inr (of_config finds (string_bytes order.config) file (Why fault) is (inr (inl lacks_it))))))

-- the config or the fields can't be read
pub without_config : {F J : Type 0} (makes : List ℕ → J → Type 0) (refuses held : List ℕ → Type 0) (finds : List ℕ → Option Told → Type 0) (tells : CentreAt → Bool → ℕ → ℕ → Told) (kind : TargetKind) (holds : List ℕ → F → Type 0) (lacks : List ℕ → LedgerFailure → Type 0) (errs : ErrorKind → Type 0) (octets stored : F → Option (List ℕ))
    (opening : F → ℕ) (is_closed : F → Type 0) (ledger : List ℕ) (order : SendArgs) (begun : StartPhase) (old new : Option (List ℕ)) (fault : Fault)
    → FailsReadingConfig finds order.config fault ⊎ FailsFields finds (bytes_of order.fields) fault → FailsSendOn makes refuses held finds tells kind holds lacks errs octets stored opening is_closed ledger order begun old new fault
without_config makes refuses held finds tells kind holds lacks errs octets stored opening is_closed ledger order begun old new fault (inl fails) = inr (inr (inl fails))
without_config makes refuses held finds tells kind holds lacks errs octets stored opening is_closed ledger order begun old new fault (inr fails) = inr (inr (inr (inl fails)))
