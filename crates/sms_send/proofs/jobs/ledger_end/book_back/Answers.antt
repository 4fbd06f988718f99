use Rattle.std.proofs.Common.{List, ℕ, inr, subst}
use Rattle.sms_ledger.specs.Posting.{returns_of}
use Rattle.sms_send.specs.LedgerRuns.{FailsPosting}
use Rattle.sms_send.proofs.jobs.ledger_end.book_back.Goals as goal

pub returns-in-Err-booked-clause-refused : goal.returns-in-Err-booked-clause-refused
returns-in-Err-booked-clause-refused g c =
    inr (record {
      first = c.in-Ok.file;
      last = c.give_back-booked.new.file;
      opened = record { held = c.in-Ok.ensures.held; same = c.give_back-booked.ensures.same; closed = c.close.ensures };
      done = subst (λ (names : List (List ℕ)). FailsPosting g.R.LedgerFile.HeldFile.errs g.R.LedgerFile.HeldFile.octets (λ s. returns_of c.args.debtor.now.run s names c.args.rows.now) c.in-Ok.file c.give_back-booked.new.file c.in-Err-booked.fault) c.as_slice-names.ensures.value c.in-Err-booked.ensures.failed;
    })
