-- What is kept of a sending whose report was printed.
use Rattle.std.proofs.Common.{◌≡◌, ◌∙◌, ap, refl, sym, subst, ℕ, Bool, List, [], append-nil, Option, None, Some, IfSome, Result, Ok, Err, IfErr, IfOk}
use Rattle.std.specs.Io.KnownBytes.{Appends}
use Rattle.sms_book.specs.declared.opening.Opening.{Opening}
use Rattle.sms_core.specs.declared.row.Row.{Row}
use Rattle.sms_files.specs.Output.{WritesFront}
use Rattle.sms_files.specs.Report.{report_of}
use Rattle.sms_message.specs.declared.ends.MessageEnd.{MessageEnd}
use Rattle.sms_send.specs.Faults.{output_failed, with_reason}
use Rattle.sms_send.specs.Kept.{HasPrinted, KeepsSent, left_of_sent, rows_of_sent}
use Rattle.sms_send.specs.Sent.{PrintsSent, report_of_sent, status_of_sent}
use Rattle.sms_send.specs.declared.faults.fault.Fault.{Fault}
use Rattle.sms_send.specs.declared.sending.kept.Kept.{Kept as TheKept}
use Rattle.sms_send.specs.declared.sending.work.SentWork.{SentWork}
use Rattle.sms_send.proofs.Starts.{IsOf}

-- a report of the same accounts, ends and rows
pub same_report : {S : Type 0} (openings openings' : List Opening) (ends ends' : List (MessageEnd S)) (rows rows' : List Row) → openings ≡ openings' → ends ≡ ends' → rows ≡ rows' → report_of openings ends rows ≡ report_of openings' ends' rows'
same_report openings openings' ends ends' rows rows' os es rs = rw os (rw es (rw rs refl))

-- a report of which all was written, or the beginning where its output failed
begins : (result : Result ℕ Fault) (old new : Option (List ℕ)) (report : List ℕ) → HasPrinted result → IfOk result (λ status. Appends old new report) → IfErr result (λ fault. fault ≡ output_failed → WritesFront old new report) → WritesFront old new report
begins (Ok status) old new report printed whole part = record { front = report; back = []; whole = sym (append-nil report); out = whole }
begins (Err fault) old new report printed whole part = part printed

-- the report of what was sent was printed, and the status is by its ends
pub printed_so : (sent : SentWork) (strict : Bool) (old new : Option (List ℕ)) (report : List ℕ) (status : ℕ) (result : Result ℕ Fault) → report ≡ report_of_sent sent → status ≡ status_of_sent strict sent
    → IfOk result (λ s. Appends old new report × (s ≡ status)) → IfOk result (PrintsSent strict sent old new)
printed_so sent strict old new report status (Ok s) same ends (written, is) = record { written = subst (Appends old new) same written; status_is = is ∙ ends }
printed_so sent strict old new report status (Err fault) same ends printed = tt

-- the rows of the statement that was printed, and how many messages it leaves
pub kept_so : (sent : SentWork) (rows : List Row) (left : ℕ) (report : List ℕ) (old new : Option (List ℕ)) (result : Result ℕ Fault) (kept : Option TheKept) → rows ≡ rows_of_sent sent → left ≡ left_of_sent sent → report ≡ report_of_sent sent
    → IfSome kept (λ kept. (kept.rows.items ≡ rows) × (kept.left ≡ left)) → IfSome kept (λ kept. HasPrinted result) → IfOk result (λ status. Appends old new report) → IfErr result (λ fault. fault ≡ output_failed → WritesFront old new report) → KeepsSent old new result kept
kept_so sent rows left report old new result None rows_are left_is report_is are printed whole part = tt
kept_so sent rows left report old new result (Some kept) rows_are left_is report_is are printed whole part = record {
  sent = sent;
  rows = are.0 ∙ rows_are;
  left = are.1 ∙ left_is;
  begun = printed;
  front = subst (WritesFront old new) report_is (begins result old new report printed whole part);
  whole = subst (λ (text : List ℕ). IfOk result (λ status. Appends old new text)) report_is whole;
}

-- nothing is kept where a sending failed early
pub unkept : (old new : Option (List ℕ)) (r : Result ℕ Fault) (kept : Option TheKept) → kept ≡ None → KeepsSent old new r kept
unkept old new r None none = tt
unkept old new r (Some kept) none = cc

-- the same once the fault has its reason
pub kept_reasoned : (r x : Result ℕ Fault) (old new : Option (List ℕ)) (kept : Option TheKept) → IfOk r (λ s. x ≡ Ok s) → IfErr r (IsOf x) → KeepsSent old new x kept → KeepsSent old new r kept
kept_reasoned r x old new None same of keeps = tt
kept_reasoned (Ok s) x old new (Some kept) same of keeps = rw same at keeps
kept_reasoned (Err e) x old new (Some kept) same (f, is, why, told) keeps = record {
  sent = keeps.sent;
  rows = keeps.rows;
  left = keeps.left;
  begun = told ∙ ap (with_reason why) (rw is at keeps.begun);
  front = keeps.front;
  whole = tt;
}
