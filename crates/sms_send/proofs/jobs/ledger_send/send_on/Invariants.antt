use Rattle.std.proofs.Common.{◌≡◌}
use Rattle.sms_send.proofs.jobs.ledger_send.send_on.Given as goal

abbrev pub ghosts-run_in_file : goal.ghosts-run_in_file
ghosts-run_in_file g a = record { made = λ file. file ≡ a.file }
