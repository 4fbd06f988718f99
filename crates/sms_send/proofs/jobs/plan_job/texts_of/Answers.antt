use Rattle.std.proofs.Common.{inl, inr, refl}
use Rattle.sms_files.specs.declared.fault.InputFault.TheVariants as input
use Rattle.sms_send.proofs.jobs.plan_job.texts_of.Goals as goal

pub returns-in-Err-warning_of-clause-refused : goal.returns-in-Err-warning_of-clause-refused
returns-in-Err-warning_of-clause-refused g = (input.OutOfMemory tt, inl (inr refl), refl)
