use Rattle.std.proofs.Common.{◌≡◌, codes, subst, Option, String, Global}
use Rattle.clap.specs.Words.{first_of, found_of, rows_of}
use Rattle.sms_send.specs.Words.{bytes_of}
use Rattle.sms_send.proofs.LedgerArgs.{alone, sends_on}
use Rattle.sms_send.proofs.args.ledger_run_args.send_job_of.Goals as goal

pub returns-in-Ok-Some-clause-job : goal.returns-in-Ok-Some-clause-job
returns-in-Ok-Some-clause-job c = sends_on (rows_of (found_of c.args.found.now)) c.in-Ok-Some.ledger c.in-Ok.order c.in-Ok.ensures.order (subst (λ (name : Option (String Global)). first_of (codes "ledger") (rows_of (found_of c.args.found.now)) ≡ bytes_of name) c.in-Ok-Some.field-0-is c.in-Ok-Some.ensures.given) c.send_on.result c.send_on.ensures.job

pub returns-in-Ok-Some-clause-refused : goal.returns-in-Ok-Some-clause-refused
returns-in-Ok-Some-clause-refused c = alone (rows_of (found_of c.args.found.now)) c.in-Ok-Some.ledger c.in-Ok.order.journal c.send_on.result c.in-Ok.ensures.order.journal (subst (λ (name : Option (String Global)). first_of (codes "ledger") (rows_of (found_of c.args.found.now)) ≡ bytes_of name) c.in-Ok-Some.field-0-is c.in-Ok-Some.ensures.given) c.send_on.ensures.refused
