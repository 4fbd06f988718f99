use Rattle.sms_book.proofs.blank.Blank.deal_out.Given as goal

abbrev pub ghosts-deal : goal.ghosts-deal
ghosts-deal g a = record { number = a.number }
