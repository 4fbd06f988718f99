-- What a run on a ledger does before its first request.
use Rattle.std.proofs.Common.{◌≡◌, ◌∙◌, inl, inr, refl, sym, subst, ap, ℕ, Bool, List, [], Option, None, Some, Result, Err}
use Rattle.std.specs.Io.KnownBytes.{Keeps}
use Rattle.std.specs.Prelude.{string_bytes}
use Rattle.std.specs.declared.io.ErrorKind.{ErrorKind}
use Rattle.sms_book.specs.declared.opening.Opening.{Opening}
use Rattle.sms_devices.specs.declared.journal.files.Unmade.{Unmade as WhyUnmade}
use Rattle.sms_devices.specs.declared.journal.files.Unmade.TheVariants.{Failed, Held}
use Rattle.sms_files.specs.declared.input.Input.{Input}
use Rattle.sms_journal.specs.OfLedger.{HaveNames, run_head, run_name, takings_for}
use Rattle.sms_journal.specs.Stages.{AreRowsOf}
use Rattle.sms_ledger.specs.Books.{State}
use Rattle.sms_ledger.specs.Lines.{IsU64}
use Rattle.sms_ledger.specs.Posting.{ArePosted}
use Rattle.sms_ledger.specs.declared.entry.Entry.{Entry}
use Rattle.sms_send.specs.LedgerRuns.{FailsToStand, RefusesAt, StandBehind}
use Rattle.sms_send.specs.LedgerSendings.{BeginsOn, FailsBeginOn, FailsHead, FailsNotedOn, FailsPlan, IsHeadedFile, IsNotedOn, IsPlanOf}
use Rattle.sms_send.specs.Ledgers.{FailsReading, IsRead}
use Rattle.sms_send.specs.Noted.{IsUnmadeFor}
use Rattle.sms_send.specs.declared.args.send_args.JournalFile.{JournalFile}
use Rattle.sms_send.specs.declared.faults.fault.Fault.{Fault}
use Rattle.sms_send.specs.declared.faults.fault.Fault.TheVariants.{OutOfMemory}
use Rattle.sms_send.specs.declared.files.config_file.ConfigFile.{ConfigFile}
use Rattle.sms_send.specs.declared.files.named_files.NamedFiles.{NamedFiles}
use Rattle.sms_send.specs.declared.files.sending_input.NotedInput.{NotedInput}
use Rattle.sms_send.specs.declared.jobs.ledger_send.Plan.{Plan}

-- ---- a plan

module _ (time : ℕ) (octets journal : List ℕ) (noted : NotedInput) (accounts : List ℕ) (s t : State) (seen : List Opening) (openings_are : seen ≡ noted.input.openings.items) (bytes : List ℕ) (name_is : bytes ≡ journal) where
  pub planned : (plan : Plan) (names : List (List ℕ)) (entries entered : List Entry) → plan.input ≡ noted.input → plan.digests ≡ noted.digests → plan.debtor.run ≡ run_name time bytes octets → HaveNames seen plan.debtor.accounts.items
      → AreRowsOf seen [] plan.debtor.unused.items → names ≡ plan.debtor.accounts.items → entered ≡ takings_for plan.debtor.run names seen → entries ≡ entered → ArePosted time entries s t (string_bytes plan.lines)
      → plan.head.items ≡ run_head plan.debtor.run accounts → IsPlanOf time octets journal noted accounts s t plan
  planned plan names entries entered input digests run have unused same takes enter posted head = record {
    run = run ∙ ap (λ (b : List ℕ). run_name time b octets) name_is;
    names = subst (λ (o : List Opening). HaveNames o plan.debtor.accounts.items) openings_are have;
    unused = subst (λ (o : List Opening). AreRowsOf o [] plan.debtor.unused.items) openings_are unused;
    input = input;
    digests = digests;
    head = head;
    posted = subst (λ (es : List Entry). ArePosted time es s t (string_bytes plan.lines))
        (enter ∙ takes ∙ ap (λ (n : List (List ℕ)). takings_for plan.debtor.run n seen) same ∙ ap (λ (o : List Opening). takings_for plan.debtor.run plan.debtor.accounts.items o) openings_are) posted;
  }

  pub unplanned : (run : List ℕ) (names named : List (List ℕ)) (entries entered : List Entry) (fault : Fault) → HaveNames seen named → names ≡ named → run ≡ run_name time bytes octets → entered ≡ takings_for run names seen → entries ≡ entered → RefusesAt entries s fault
      → FailsPlan time octets journal noted.input s fault
  unplanned run names named entries entered fault have same is takes enter refuses =
      inr (
        named,
        subst (λ (o : List Opening). HaveNames o named) openings_are have,
        subst (λ (es : List Entry). RefusesAt es s fault)
            (enter ∙ takes ∙ ap (λ (n : List (List ℕ)). takings_for run n seen) same ∙ ap (λ (o : List Opening). takings_for run named o) openings_are
            ∙ ap (λ (r : List ℕ). takings_for r named noted.input.openings.items) (is ∙ ap (λ (b : List ℕ). run_name time b octets) name_is)) refuses,
      )

  pub out_of_memory : FailsPlan time octets journal noted.input s OutOfMemory
  out_of_memory = inl (inl refl)

-- ---- its journal

-- none was made by its name, or a process holds it
pub unmade_head : {J : Type 0} (makes : List ℕ → J → Type 0) (refuses holds : List ℕ → Type 0) (wanted : JournalFile) (name : List ℕ) (why : WhyUnmade) (fault : Fault) → name ≡ string_bytes wanted.name → IsUnmadeFor (string_bytes wanted.name) why fault → refuses name
    → (λ (r : Result J WhyUnmade). r ≡ Err Held → holds name) (Err why) → FailsHead makes refuses holds wanted fault
unmade_head makes refuses holds wanted name why fault same (inl memory) refused held = inl memory
unmade_head makes refuses holds wanted name Held fault same (inr (text, named, told)) refused held = inr (inl (told, subst holds same (held refl)))
unmade_head makes refuses holds wanted name (Failed kind) fault same (inr (text, named, told)) refused held = inr (inr (inl (kind, text, named, told, subst refuses same refused)))

-- ---- a run that is begun

keeps : (octets : Option (List ℕ)) → Keeps octets octets
keeps None = tt
keeps (Some octets) = refl

module _ {F J : Type 0} (makes : List ℕ → J → Type 0) (contents : J → Option (List ℕ)) (octets stored : F → Option (List ℕ)) (read : ConfigFile) (named : NamedFiles) (wanted : JournalFile) (strict : Bool) (old new : F) (text : List ℕ) (s : State) (is : IsRead octets old text s) where
  pub begins : (t : State) (time : ℕ) (found slice head name bytes : List ℕ) (accounts seen : List ℕ) (noted : NotedInput) (plan : Plan) (journal : J) → IsU64 time → found ≡ text → slice ≡ text → bytes ≡ read.octets.items → seen ≡ accounts → head ≡ plan.head.items
      → IsNotedOn bytes read.config named s strict noted accounts → IsPlanOf time found name noted seen s t plan → IsHeadedFile contents (makes (string_bytes wanted.name)) head journal
      → StandBehind slice (octets old) (octets new) (string_bytes plan.lines) → stored new ≡ octets new
      → BeginsOn makes contents octets stored read named wanted strict old new (record { debtor = plan.debtor; input = plan.input; digests = plan.digests; journal = journal })
  begins t time found slice head name bytes accounts seen noted plan journal low finds slices octets_are accounts_are heads notes planned headed stand durable =
      let openings : plan.input.openings.items ≡ noted.input.openings.items = ap (λ (i : Input). i.openings.items) planned.input in
      let have : HaveNames plan.input.openings.items plan.debtor.accounts.items = subst (λ (o : List Opening). HaveNames o plan.debtor.accounts.items) (sym openings) planned.names in
      let entered = subst (λ (o : List Opening). ArePosted time (takings_for plan.debtor.run plan.debtor.accounts.items o) s t (string_bytes plan.lines)) (sym openings) planned.posted in
      record {
        accounts = accounts;
        takes = record {
          before = s;
          after = t;
          lines = string_bytes plan.lines;
          are = notes.accounts_are;
          names = plan.debtor.accounts.items;
          named = have;
          posts = record { text = text; read = is; time = time; low = low; posted = entered; stand = subst (λ (x : List ℕ). StandBehind x (octets old) (octets new) (string_bytes plan.lines)) slices stand; durable = durable };
        };
        names = have;
        unused = subst (λ (o : List Opening). AreRowsOf o [] plan.debtor.unused.items) (sym openings) planned.unused;
        noted = noted;
        is = subst (λ (b : List ℕ). IsNotedOn b read.config named s strict noted accounts) octets_are notes;
        input = planned.input;
        digests = planned.digests;
        journal = subst (λ (h : List ℕ). IsHeadedFile contents (makes (string_bytes wanted.name)) h journal) (heads ∙ planned.head ∙ ap (run_head plan.debtor.run) accounts_are) headed;
      }

module _ {F : Type 0} (head : Fault → Type 0) (errs : ErrorKind → Type 0) (octets : F → Option (List ℕ)) (read : ConfigFile) (named : NamedFiles) (strict : Bool) (old : F) where
  pub unread : (fault : Fault) → FailsReading errs octets old fault → FailsBeginOn head errs octets read named strict old old fault
  unread fault fails = inl (keeps (octets old), inl fails)

  pub unheaded : (fault : Fault) → head fault → FailsBeginOn head errs octets read named strict old old fault
  unheaded fault fails = inl (keeps (octets old), inr (inr (inl fails)))

  pub unnoted : (text : List ℕ) (s : State) (fault : Fault) → IsRead octets old text s → FailsNotedOn read.config named s strict fault → FailsBeginOn head errs octets read named strict old old fault
  unnoted text s fault is fails = inl (keeps (octets old), inr (inr (inr (text, s, is, inl fails))))

  pub without_plan : (text found : List ℕ) (s : State) (time : ℕ) (journal : List ℕ) (input : Input) (fault : Fault) → found ≡ text → IsRead octets old text s → FailsPlan time found journal input s fault → FailsBeginOn head errs octets read named strict old old fault
  without_plan text found s time journal input fault finds is fails = inl (keeps (octets old), inr (inr (inr (text, s, is, inr (time, journal, input, subst (λ (x : List ℕ). FailsPlan time x journal input s fault) finds fails)))))

  pub untaken : (new : F) (text found lines : List ℕ) (s : State) (fault : Fault) → found ≡ text → IsRead octets old text s → FailsToStand errs found (octets old) (octets new) lines fault → FailsBeginOn head errs octets read named strict old new fault
  untaken new text found lines s fault finds is fails = inr (text, lines, s, is, subst (λ (x : List ℕ). FailsToStand errs x (octets old) (octets new) lines fault) finds fails)
