use Rattle.sms_journal.proofs.AccountRows.{AreOpened}
use Rattle.sms_journal.proofs.rest.account_rows.rows_of.Given as goal

abbrev pub invariant-loop-opening : goal.invariant-loop-opening
invariant-loop-opening l = AreOpened l.openings l.rows.items l.opening-index
