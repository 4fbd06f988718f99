-- A run that its journal leaves: what was printed of it or sent on, and why it was not.
use Rattle.std.proofs.Common.{◌≡◌, ◌⊎◌, inl, inr, ◌∙◌, ℕ, Bool, List, length, Option, Result, Ok, Err, IfErr, OnOk, ap, subst, sym}
use Rattle.std.specs.Io.KnownBytes.{Appends}
use Rattle.sms_book.specs.declared.opening.Opening.{Opening}
use Rattle.sms_core.specs.declared.row.Row.{Row}
use Rattle.sms_message.specs.declared.ends.MessageEnd.{MessageEnd}
use Rattle.sms_files.specs.Report.{report_of}
use Rattle.sms_journal.specs.Left.{count_left}
use Rattle.sms_journal.specs.declared.recovery.resuming.JournaledRun.{JournaledRun}
use Rattle.sms_send.proofs.Statuses.{is_status}
use Rattle.sms_files.specs.Output.{WritesFront}
use Rattle.sms_send.specs.Faults.{output_failed, unreported}
use Rattle.sms_send.specs.Resumed.{FailsPrintingRun, IsJournaled, PrintsRun}
use Rattle.sms_send.specs.Statuses.{IsStatusBy, status_by}
use Rattle.sms_send.specs.declared.faults.fault.Fault.{Fault}
use Rattle.sms_send.specs.declared.files.run_files.RunFiles.{RunFiles}

-- the report of what the journal says was printed
pub prints_run : (strict : Bool) (run : JournaledRun) (os : List Opening) (es fs : List (MessageEnd (Unit {0}))) (st : List Row) (old new : Option (List ℕ)) (status : ℕ)
    → os ≡ run.openings.items → es ≡ run.ends.items → fs ≡ run.ends.items → st ≡ run.rows.items → count_left run.ends.items ≡ 0 → Appends old new (report_of os es st) → status ≡ status_by strict fs
    → PrintsRun strict run old new status
prints_run strict run os es fs st old new status openings ends also rows none written is = record {
  none = none;
  written = subst (λ (s : List Row). Appends old new (report_of run.openings.items run.ends.items s)) rows
      (subst (λ (e : List (MessageEnd (Unit {0}))). Appends old new (report_of run.openings.items e st)) ends
      (subst (λ (o : List Opening). Appends old new (report_of o es st)) openings written));
  status_is = is ∙ ap (λ (e : List (MessageEnd (Unit {0}))). status_by strict e) also;
}

-- or not
pub cut_run : (run : JournaledRun) (os : List Opening) (es : List (MessageEnd (Unit {0}))) (st : List Row) (old new : Option (List ℕ)) (fault : Fault)
    → os ≡ run.openings.items → es ≡ run.ends.items → st ≡ run.rows.items → count_left run.ends.items ≡ 0 → (fault ≡ output_failed) ⊎ (fault ≡ unreported)
    → (fault ≡ output_failed → WritesFront old new (report_of os es st)) → (fault ≡ unreported → new ≡ old) → FailsPrintingRun run old new fault
cut_run run os es st old new fault openings ends rows none (inl out) front quiet =
    inl (
      out,
      none,
      subst (λ (s : List Row). WritesFront old new (report_of run.openings.items run.ends.items s)) rows
          (subst (λ (e : List (MessageEnd (Unit {0}))). WritesFront old new (report_of run.openings.items e st)) ends
          (subst (λ (o : List Opening). WritesFront old new (report_of o es st)) openings (front out))),
    )
cut_run run os es st old new fault openings ends rows none (inr memory) front quiet = inr (memory, quiet memory)

pub printed_status : (strict : Bool) (run : JournaledRun) (old new : Option (List ℕ)) (status : ℕ) → PrintsRun strict run old new status → IsStatusBy strict status
printed_status strict run old new status prints = is_status strict run.ends.items status prints.status_is

-- a run that its journal tells has a row for each account
pub rows_told : (files : RunFiles) (run : JournaledRun) → IsJournaled files run → length run.rows.items ≡ length run.openings.items
rows_told files run (is, kind) = is.is.is.rows_are.count ∙ sym (ap (λ (l : List Opening). length l) is.is.parts.openings)

-- what holds of each fault
pub if_err : {T : Type 0} (r : Result T Fault) (P : Fault → Type 0) → ((f : Fault) → P f) → IfErr r P
if_err (Ok x) P holds = tt
if_err (Err f) P holds = holds f

pub on_ok : {T : Type 0} (r : Result T Fault) (P : Type 0) → P → OnOk r P
on_ok (Ok x) P holds = holds
on_ok (Err f) P holds = tt

pub on_ok_weaker : {T : Type 0} (r : Result T Fault) (P Q : Type 0) → (P → Q) → OnOk r P → OnOk r Q
on_ok_weaker (Ok x) P Q gives holds = gives holds
on_ok_weaker (Err f) P Q gives holds = tt
