use Rattle.std.proofs.Common.{Err, inl, refl}
use Rattle.sms_send.proofs.Noting.{ended_noted}
use Rattle.sms_send.proofs.Starts.{unbegun_at}
use Rattle.sms_send.proofs.sending.Sending.resume_in_file.Goals as goal

pub returns-clause-ended : goal.returns-clause-ended
returns-clause-ended g c =
    ended_noted c.end_journal.result c.run_with_journal-resumed.result.0 _ _ _ _ _ _ _ c.end_journal.ensures.ended c.end_journal.ensures.refused c.run_with_journal-resumed.ensures.ended

pub returns-in-Err-clause-ended : goal.returns-in-Err-clause-ended
returns-in-Err-clause-ended g c = record {
  sent = tt;
  status = tt;
  started = tt;
  refused = inl (c.in-Err.ensures.refused, refl);
  phase = unbegun_at _ _ c.requires.not_started c.in-Err.ensures.refused;
  unwritten = λ other kept. refl;
}

pub returns-clause-kept : goal.returns-clause-kept
returns-clause-kept g c = (c.run_with_journal-resumed.result.0, c.run_with_journal-resumed.ensures.kept, c.end_journal.ensures.ended)

pub returns-in-Err-clause-kept : goal.returns-in-Err-clause-kept
returns-in-Err-clause-kept g c = (Err c.in-Err.fault, tt, tt)
