use Rattle.std.specs.Prelude.{string_bytes}
use Rattle.sms_send.proofs.sending.Sending.run_noted.Given as goal

abbrev pub ghosts-run_in_file : goal.ghosts-run_in_file
ghosts-run_in_file g a = record { made = g.R.JournalFiles.makes a.self.now.rt.now (string_bytes a.wanted.now.name) }
