use Rattle.std.proofs.Common.{List, ℕ, subst, rules}
use Rattle.sms_ledger.specs.InMemory.{state_in}
use Rattle.sms_send.specs.Ledgers.{FailsToTake, Takes}
use Rattle.sms_send.proofs.Paying.{booked, refused, untaken}
use Rattle.sms_send.proofs.jobs.ledger_job.book_payment.Goals as goal

pub returns-in-Ok-put_line-clause-booked : goal.returns-in-Ok-put_line-clause-booked
returns-in-Ok-put_line-clause-booked g c =
    let takes = subst (λ (text : List ℕ). Takes text (g.F.HeldFile.octets c.args.file.now) (g.F.HeldFile.octets c.put_line.new.file) c.in-Ok-posted.field-0.line) c.as_slice.ensures.value c.in-Ok-put_line.ensures.taken in
    booked g.F.HeldFile.octets c.args.payment g.F.HeldFile.stored c.args.file.now c.put_line.new.file c.in-Ok.read.octets.items (state_in c.in-Ok.read.ledger) (state_in c.post_payment-posted.new.ledger) c.args.time c.in-Ok-posted.field-0.line _
    (search (rules, c.ranges.time.fits)) c.in-Ok.ensures.read c.in-Ok-posted.ensures.line takes c.in-Ok-put_line.ensures.durable c.in-Ok-posted.ensures.balance

pub returns-in-Ok-posted-clause-failed : goal.returns-in-Ok-posted-clause-failed
returns-in-Ok-posted-clause-failed g c =
    let fails = subst (λ (text : List ℕ). FailsToTake g.F.HeldFile.errs text (g.F.HeldFile.octets c.args.file.now) (g.F.HeldFile.octets c.put_line.new.file) c.in-Ok-posted.field-0.line c.in-Err-put_line.fault) c.as_slice.ensures.value c.in-Err-put_line.ensures.failed in
    untaken g.F.HeldFile.octets c.args.payment g.F.HeldFile.errs c.args.file.now c.put_line.new.file c.in-Ok.read.octets.items (state_in c.in-Ok.read.ledger) (state_in c.post_payment-posted.new.ledger) c.args.time c.in-Ok-posted.field-0.line c.in-Err-put_line.fault
    c.in-Ok.ensures.read c.in-Ok-posted.ensures.line fails

pub returns-clause-failed : goal.returns-clause-failed
returns-clause-failed g c =
    refused g.F.HeldFile.octets c.args.payment g.F.HeldFile.errs c.args.file.now c.in-Ok.read.octets.items (state_in c.in-Ok.read.ledger) c.in-Err-posted.fault c.in-Ok.ensures.read c.in-Err-posted.ensures.refused
