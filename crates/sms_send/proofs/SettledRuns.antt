-- A run on a ledger, from how its sending ended and what came back of its credits.
use Rattle.std.proofs.Common.{◌≡◌, ◌⊎◌, ◌∙◌, inl, inr, refl, sym, subst, ℕ, Bool, List, Option, Result, Ok, Err, IfOk, IfErr, IfSome}
use Rattle.std.proofs.lemmas.Result.{IfErr-weaker, IfOk-weaker}
use Rattle.std.specs.Prelude.{◌≢◌, ◌<◌, ◌+◌, OnOk, min, string_bytes, true}
use Rattle.std.specs.declared.io.ErrorKind.{ErrorKind}
use Rattle.sms_devices.specs.declared.ledger.failure.LedgerFailure.{LedgerFailure}
use Rattle.sms_driver.specs.declared.start_gate.Command.TheVariants.{Go}
use Rattle.sms_driver.specs.declared.start.StartPhase.{StartPhase}
use Rattle.sms_driver.specs.declared.start.StartPhase.TheVariants.{Released}
use Rattle.sms_send.specs.Faults.{ComesAt, HasLostJournal, IsUnsettled, output_failed}
use Rattle.sms_files.specs.Output.{WritesFront}
use Rattle.sms_files.specs.Report.{report_of}
use Rattle.sms_journal.specs.Left.{count_left}
use Rattle.sms_journal.specs.declared.recovery.resuming.JournaledRun.{JournaledRun}
use Rattle.sms_send.specs.Kept.{HasPrinted, KeepsThrough}
use Rattle.sms_send.specs.LedgerResuming.{FailsWith, GoesOnWith, IsOutWith, ResumesWith, run_behind}
use Rattle.sms_send.specs.LedgerSendings.{EndsOn, FailsEnding, FailsReturns, ReturnsBooked, rows_due}
use Rattle.sms_send.specs.LedgerWork.{FailsInPhase}
use Rattle.sms_send.specs.Noted.{IsNotedIn}
use Rattle.sms_send.specs.Reached.{centre_in}
use Rattle.sms_send.specs.Resumed.{FailsGoingOn, FailsPrintingRun, PrintsRun}
use Rattle.sms_send.specs.Words.{bytes_of}
use Rattle.sms_send.specs.Sent.{SendsLeft}
use Rattle.sms_send.specs.declared.args.send_args.ResumeArgs.{ResumeArgs}
use Rattle.sms_send.specs.declared.sending.target.TargetKind.TheVariants.{Remote}
use Rattle.sms_devices.specs.Centres.{CentreAt}
use Rattle.sms_files.specs.Inputs.{Told}
use Rattle.sms_send.specs.declared.faults.fault.Fault.{Fault}
use Rattle.sms_send.specs.declared.jobs.ledger_run.LedgerRun.{LedgerRun as TheRun}
use Rattle.sms_send.specs.declared.jobs.ledger_send.Debtor.{Debtor}
use Rattle.sms_send.specs.declared.sending.kept.Kept.{Kept}
use Rattle.sms_send.specs.declared.sending.work.SentWork.{SentWork}
use Rattle.sms_send.specs.declared.sending.work.SentWork.TheVariants.{Resumed}
use Rattle.sms_send.proofs.Keeping.{kept_so}

-- ---- what holds of a sending holds of the run

module _ {F : Type 0} (holds : List ℕ → F → Type 0) (lacks : List ℕ → LedgerFailure → Type 0) (errs : ErrorKind → Type 0) (octets stored : F → Option (List ℕ)) (opening : F → ℕ) (is_closed : F → Type 0) (ledger : List ℕ) (debtor : Debtor) (begun : StartPhase) (kept : Option Kept) (sent : Result ℕ Fault) where
  abbrev Ends : Result ℕ Fault → Type 0
  Ends r = EndsOn holds lacks errs octets stored opening is_closed ledger debtor begun kept sent r

  pub ok_with : (r : Result ℕ Fault) (P : ℕ → Type 0) → Ends r → IfOk sent P → IfOk r P
  ok_with (Ok s) P ends holds = subst (λ (x : Result ℕ Fault). IfOk x P) ends.ended.0 holds
  ok_with (Err f) P ends holds = tt

  pub on_with : (r : Result ℕ Fault) (P : Type 0) → Ends r → OnOk sent P → OnOk r P
  on_with (Ok s) P ends holds = subst (λ (x : Result ℕ Fault). OnOk x P) ends.ended.0 holds
  on_with (Err f) P ends holds = tt

  -- its fault comes in the phase of the sending's, or behind the report
  pub phase_with : (r : Result ℕ Fault) (phase : StartPhase) → Ends r → IfErr sent (ComesAt phase) → OnOk sent (phase ≡ Released Go) → IfErr r (ComesAt phase)
  phase_with (Ok s) phase ends comes gone = tt
  phase_with (Err f) phase ends comes gone = by ends.failed
    where
      by : FailsEnding (ReturnsBooked holds octets stored opening is_closed ledger debtor) (FailsReturns holds lacks errs octets opening is_closed ledger debtor) (rows_due debtor begun kept) sent f → ComesAt phase f
      by (inl (is, back)) = subst (λ (x : Result ℕ Fault). IfErr x (ComesAt phase)) is comes
      by (inr (status, is, why, told, fails)) = subst (ComesAt phase) (sym told) (subst (λ (x : Result ℕ Fault). OnOk x (phase ≡ Released Go)) is gone)

  -- and nothing is written, unless it is
  pub quiet_with : (r : Result ℕ Fault) (A : Type 0) → Ends r → IfErr sent (λ f. f ≢ output_failed → ¬ HasLostJournal f → A) → IfErr r (λ f. f ≢ output_failed → ¬ HasLostJournal f → ¬ IsUnsettled f → A)
  quiet_with (Ok s) A ends quiet = tt
  quiet_with (Err f) A ends quiet = by ends.failed
    where
      by : FailsEnding (ReturnsBooked holds octets stored opening is_closed ledger debtor) (FailsReturns holds lacks errs octets opening is_closed ledger debtor) (rows_due debtor begun kept) sent f → f ≢ output_failed → ¬ HasLostJournal f → ¬ IsUnsettled f → A
      by (inl (is, back)) = λ other kept settled. subst (λ (x : Result ℕ Fault). IfErr x (λ f. f ≢ output_failed → ¬ HasLostJournal f → A)) is quiet other kept
      by (inr (status, is, why, told, fails)) = λ other kept settled. absurd (settled (_, told))

-- ---- a run of which nothing is left

itself : (r : Result ℕ Fault) → IfOk r (λ s. r ≡ Ok s)
itself (Ok s) = refl
itself (Err f) = tt

-- what is kept of it are the rows of the report that was printed
pub whole_kept : (strict : Bool) (run : JournaledRun) (old new : Option (List ℕ)) (r : Result ℕ Fault) (kept : Option Kept) → count_left run.ends.items ≡ 0 → IfSome kept (λ k. (k.rows.items ≡ run.rows.items) × (k.left ≡ 0)) → IfSome kept (λ k. HasPrinted r)
    → IfOk r (PrintsRun strict run old new) → IfErr r (FailsPrintingRun run old new) → KeepsThrough old new r kept
whole_kept strict run old new r kept none rows printed prints fails =
    let sent : SentWork = Resumed (record { openings = run.openings; ends = run.ends; statement = run.rows.items }) in (
      r,
      kept_so sent run.rows.items 0 (report_of run.openings.items run.ends.items run.rows.items) old new r kept refl (sym none) refl rows printed
          (IfOk-weaker r _ _ (λ status is. is.written) prints)
          (IfErr-weaker r _ _ (λ fault tells out. front fault tells out) fails),
      itself r,
    )
  where
    front : (fault : Fault) → FailsPrintingRun run old new fault → fault ≡ output_failed → WritesFront old new (report_of run.openings.items run.ends.items run.rows.items)
    front fault (inl (is, zero, out)) told = out
    front fault (inr (memory, same)) told = let bad = sym memory ∙ told in cc

-- ---- a run that was resumed

module _ {F : Type 0} (holds : List ℕ → F → Type 0) (lacks : List ℕ → LedgerFailure → Type 0) (errs : ErrorKind → Type 0) (octets stored : F → Option (List ℕ)) (opening : F → ℕ) (is_closed : F → Type 0) (ledger : List ℕ) (debtor : Debtor) (kept : Option Kept) (r sent : Result ℕ Fault) where
  pub resumed_with : (read : TheRun) (resumes : ℕ → Type 0) (old new : Option (List ℕ)) → EndsOn holds lacks errs octets stored opening is_closed ledger debtor (Released Go) kept sent r → IfOk sent resumes → debtor.run ≡ read.name → debtor.accounts ≡ read.accounts
      → KeepsThrough old new sent kept → IfOk r (ResumesWith holds octets stored opening is_closed ledger read resumes old new)
  resumed_with read resumes old new ends resumed run accounts keeps = by r ends
    where
      by : (r : Result ℕ Fault) → EndsOn holds lacks errs octets stored opening is_closed ledger debtor (Released Go) kept sent r → IfOk r (ResumesWith holds octets stored opening is_closed ledger read resumes old new)
      by (Ok status) ends = record {
        resumed = subst (λ (x : Result ℕ Fault). IfOk x resumes) ends.ended.0 resumed;
        debtor = debtor;
        run_is = run;
        accounts_are = accounts;
        kept = kept;
        keeps = subst (λ (x : Result ℕ Fault). KeepsThrough old new x kept) ends.ended.0 keeps;
        settled = ends.ended.1;
      }
      by (Err f) ends = tt

  pub failed_with : (read : TheRun) (resumes : ℕ → Type 0) (fails : Fault → Type 0) (old new : Option (List ℕ)) → EndsOn holds lacks errs octets stored opening is_closed ledger debtor (Released Go) kept sent r → IfOk sent resumes → IfErr sent fails → debtor.run ≡ read.name
      → debtor.accounts ≡ read.accounts → KeepsThrough old new sent kept → IfErr r (FailsWith holds lacks errs octets stored opening is_closed ledger read resumes fails old new)
  failed_with read resumes fails old new ends resumed refused run accounts keeps = by r ends
    where
      by : (r : Result ℕ Fault) → EndsOn holds lacks errs octets stored opening is_closed ledger debtor (Released Go) kept sent r → IfErr r (FailsWith holds lacks errs octets stored opening is_closed ledger read resumes fails old new)
      by (Ok status) ends = tt
      by (Err f) ends = record {
        sent = sent;
        resumed = resumed;
        refused = refused;
        debtor = debtor;
        run_is = run;
        accounts_are = accounts;
        kept = kept;
        keeps = keeps;
        ends = ends;
      }

-- its credits are out, and it went on, or failed so
module _ {F J : Type 0} (contents : J → Option (List ℕ)) (opens : List ℕ → J → Type 0) (tells : CentreAt → Bool → ℕ → ℕ → Told) (holds : List ℕ → F → Type 0) (octets : F → Option (List ℕ)) (ledger : List ℕ) (order : ResumeArgs) (read : TheRun) (before whole : ℕ) (old new : Option (List ℕ)) (behind : whole ≡ min (read.run.whole + before) 18446744073709551615) where
  abbrev Sends : JournaledRun → ℕ → Type 0
  Sends run = SendsLeft (tells (centre_in Remote read.run.config) true) order.again order.strict run old new

  abbrev Fails : JournaledRun → Fault → Type 0
  Fails run = FailsGoingOn (bytes_of order.lines.inbox) (centre_in Remote read.run.config) (tells (centre_in Remote read.run.config) true) order.again order.strict run old new

  pub goes_with : (sent : Result ℕ Fault) → IsOutWith holds octets ledger read → 0 < count_left read.run.ends.items → IfOk sent (Sends (record read.run { whole = whole })) → IfOk sent (IsNotedIn contents (opens (string_bytes order.journal.name)))
      → IfOk sent (GoesOnWith contents opens tells holds octets ledger order read before old new)
  goes_with (Ok status) out some sends noted = record { out = out; goes = record { some = some; sends = subst (λ (n : ℕ). Sends (record read.run { whole = n }) status) behind sends }; noted = noted }
  goes_with (Err f) out some sends noted = tt

  pub stops_with : (sent : Result ℕ Fault) → IfErr sent (Fails (record read.run { whole = whole })) → IfErr sent (Fails (run_behind before read.run))
  stops_with sent fails = subst (λ (n : ℕ). IfErr sent (Fails (record read.run { whole = n }))) behind fails

-- a run whose credits aren't out, or of which that isn't found
pub otherwise : {A B C : Type 0} → A ⊎ B → B ⊎ A ⊎ C
otherwise (inl a) = inr (inl a)
otherwise (inr b) = inl b

-- ---- the phase of a sending's fault

pub in_phase : (r : Result ℕ Fault) (begun : StartPhase) (fails : StartPhase → Fault → Type 0) → IfErr r (ComesAt begun) → IfErr r (fails begun) → IfErr r (FailsInPhase fails)
in_phase (Ok s) begun fails comes tells = tt
in_phase (Err f) begun fails comes tells = (begun, comes, tells)
