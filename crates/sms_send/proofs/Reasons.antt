-- What a sending ended with, and what that is once the reason of a missing connection is added.
use Rattle.std.proofs.Common.{◌≡◌, ◌∙◌, inr, ap, ℕ, Bool, List, Option, Result, Ok, Err, IfErr, IfOk}
use Rattle.sms_devices.specs.Centres.{CentreAt}
use Rattle.sms_driver.specs.declared.start.StartPhase.{StartPhase}
use Rattle.sms_files.specs.Inputs.{Told}
use Rattle.sms_send.specs.Faults.{with_reason}
use Rattle.sms_send.specs.Sent.{FailsSending, FailsOver, SendingEnd, SendsWork, unknown}
use Rattle.sms_send.specs.declared.args.send_args.Again.{Again}
use Rattle.sms_send.specs.declared.faults.fault.Fault.{Fault}
use Rattle.sms_send.specs.declared.sending.work.Work.{Work}
use Rattle.sms_send.proofs.Starts.{IsOf, reason_at}

-- the sending ended so, and the fault has a reason
pub reasoned_end : {W : Type 0} (r x : Result ℕ Fault) (centre : CentreAt) (tells : ℕ → ℕ → Told) (again : Option Again) (strict : Bool) (given : Work) (begun : StartPhase) (before after : W) (old new : Option (List ℕ))
    → IfOk r (λ s. x ≡ Ok s) → IfErr r (IsOf x) → SendingEnd strict (SendsWork tells again strict given old new) (FailsOver unknown tells again given old new) begun before after x
    → SendingEnd strict (SendsWork tells again strict given old new) (FailsSending centre tells again given old new) begun before after r
reasoned_end (Ok s) x centre tells again strict given begun before after old new same of end = record {
  sent = rw same at end.sent;
  status = rw same at end.status;
  started = rw same at end.started;
  refused = tt;
  phase = tt;
  unwritten = tt;
}
reasoned_end (Err e) x centre tells again strict given begun before after old new same (f, is, why, with_why) end = record {
  sent = tt;
  status = tt;
  started = tt;
  refused = inr (f, rw is at end.refused, why, with_why);
  phase = reason_at begun why f e with_why (rw is at end.phase);
  unwritten = λ other kept. (rw is at end.unwritten) (λ out. other (with_why ∙ ap (with_reason why) out)) (λ lost. kept (lost.0, with_why ∙ ap (with_reason why) lost.1));
}
