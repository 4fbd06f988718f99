use Rattle.sms_bind.proofs.logged.LoggedWire.give.Given as goal

abbrev pub ghosts-note : goal.ghosts-note
ghosts-note g a = record { frame = a.frame.now }
