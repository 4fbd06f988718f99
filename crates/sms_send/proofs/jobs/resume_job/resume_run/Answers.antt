use Rattle.std.proofs.Common.{Err, inl, inr, refl, subst, true}
use Rattle.sms_devices.specs.Centres.{CentreAt}
use Rattle.sms_send.specs.Resumed.{FailsResuming}
use Rattle.sms_send.specs.Sent.{SendingEnd, SendsLeft}
use Rattle.sms_send.proofs.ConfigFiles.{early_at}
use Rattle.sms_send.proofs.Noting.{ended_weaker}
use Rattle.sms_send.proofs.Starts.{memory_at}
use Rattle.sms_send.proofs.jobs.resume_job.resume_run.Goals as goal

pub returns-clause-ended : goal.returns-clause-ended
returns-clause-ended g c =
    let order = c.args.order.now in
    let old = g.W.Write.contents c.args.output.now in
    let new = g.W.Write.contents c.resume_in_file.new.output in
    ended_weaker c.resume_in_file.result _ _ _ _ _ _ _ (λ fault fails. inr fails)
    (subst (λ (centre : CentreAt). SendingEnd order.strict (SendsLeft (g.R.Connects.tells c.args.rt.now centre true) order.again order.strict c.args.run old new)
    (FailsResuming centre (g.R.Connects.tells c.args.rt.now centre true) order.again order.strict c.args.run old new) c.resume_in_file.new.start.begun c.args.output.now c.resume_in_file.new.output c.resume_in_file.result)
    c.in-Ok.ensures.centre c.resume_in_file.ensures.ended)

pub returns-in-Err-clause-ended : goal.returns-in-Err-clause-ended
returns-in-Err-clause-ended g c = record {
  sent = tt;
  status = tt;
  started = tt;
  refused = inl (inl c.in-Err.ensures.refused, refl);
  phase = memory_at _ _ c.requires.not_started c.in-Err.ensures.refused;
  unwritten = λ other kept. refl;
}

pub returns-in-Err-clause-kept : goal.returns-in-Err-clause-kept
returns-in-Err-clause-kept g c = (Err c.in-Err.fault, tt, tt)

pub returns-in-Err-inbox_going_on-clause-ended : goal.returns-in-Err-inbox_going_on-clause-ended
returns-in-Err-inbox_going_on-clause-ended g c = record {
  sent = tt;
  status = tt;
  started = tt;
  refused = inl (inr c.in-Err-inbox_going_on.ensures.refused, refl);
  phase = early_at _ _ c.requires.not_started c.in-Err-inbox_going_on.ensures.early;
  unwritten = λ other kept. refl;
}

pub returns-in-Err-inbox_going_on-clause-kept : goal.returns-in-Err-inbox_going_on-clause-kept
returns-in-Err-inbox_going_on-clause-kept g c = (Err c.in-Err-inbox_going_on.fault, tt, tt)
