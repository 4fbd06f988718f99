use Rattle.std.specs.Prelude.{string_bytes}
use Rattle.sms_send.proofs.jobs.resume_job.resume_run.Given as goal

abbrev pub ghosts-resume_in_file : goal.ghosts-resume_in_file
ghosts-resume_in_file g a = record { made = g.R.JournalFiles.opens a.self.now.rt.now (string_bytes a.wanted.now.name) }
