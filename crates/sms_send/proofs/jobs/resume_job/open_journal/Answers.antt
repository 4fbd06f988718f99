use Rattle.std.proofs.Common.{inl, inr, refl}
use Rattle.sms_send.proofs.jobs.resume_job.open_journal.Goals as goal

pub returns-in-Ok-from_str-clause-refused : goal.returns-in-Ok-from_str-clause-refused
returns-in-Ok-from_str-clause-refused g c = inr (inl (c.in-Err-Failed.kind, c.in-Ok-from_str.name, refl, c.in-Ok-from_str.ensures.ok, c.in-Err-Failed.ensures.refused refl))
