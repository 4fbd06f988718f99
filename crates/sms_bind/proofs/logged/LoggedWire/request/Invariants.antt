use Rattle.sms_bind.proofs.logged.LoggedWire.request.Given as goal

abbrev pub ghosts-claim : goal.ghosts-claim
ghosts-claim g a = record { frame = a.frame.now }
