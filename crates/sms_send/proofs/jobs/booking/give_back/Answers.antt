use Rattle.std.proofs.Common.{List, ℕ, OnOk, subst, rules}
use Rattle.std.proofs.lemmas.Result.{IfErr-weaker}
use Rattle.std.specs.Prelude.{string_bytes}
use Rattle.sms_ledger.specs.InMemory.{state_in}
use Rattle.sms_ledger.specs.Posting.{returns_of}
use Rattle.sms_send.specs.LedgerRuns.{FailsToStand, StandBehind}
use Rattle.sms_send.proofs.Posting.{all_posted, refused, unstood}
use Rattle.sms_send.proofs.jobs.booking.give_back.Goals as goal

pub returns-in-Ok-posted-clause-back : goal.returns-in-Ok-posted-clause-back
returns-in-Ok-posted-clause-back g c =
    let stand = subst (λ (text : List ℕ). OnOk c.put_copied.result (StandBehind text (g.F.HeldFile.octets c.args.file.now) (g.F.HeldFile.octets c.put_copied.new.file) (string_bytes c.in-Ok-posted.lines))) c.as_slice.ensures.value c.put_copied.ensures.stand in
    all_posted g.F.HeldFile.octets g.F.HeldFile.stored (λ s. returns_of c.args.run.now s c.args.names.now c.args.rows.now) c.put_copied.result c.args.file.now c.put_copied.new.file c.in-Ok.read.octets.items (string_bytes c.in-Ok-posted.lines)
    (state_in c.in-Ok.read.ledger) (state_in c.post_back-posted.new.ledger) c.args.time (search (rules, c.ranges.time.fits)) c.in-Ok.ensures.read c.in-Ok-posted.ensures.posted c.put_copied.ensures.copy stand c.put_copied.ensures.durable

pub returns-in-Ok-posted-clause-failed : goal.returns-in-Ok-posted-clause-failed
returns-in-Ok-posted-clause-failed g c =
    IfErr-weaker c.put_copied.result _ _
    (λ fault fails. unstood g.F.HeldFile.errs g.F.HeldFile.octets (λ s. returns_of c.args.run.now s c.args.names.now c.args.rows.now) c.args.file.now c.put_copied.new.file c.in-Ok.read.octets.items (string_bytes c.in-Ok-posted.lines)
    (state_in c.in-Ok.read.ledger) (state_in c.post_back-posted.new.ledger) c.args.time fault c.in-Ok.ensures.read c.in-Ok-posted.ensures.posted
    (subst (λ (text : List ℕ). FailsToStand g.F.HeldFile.errs text (g.F.HeldFile.octets c.args.file.now) (g.F.HeldFile.octets c.put_copied.new.file) (string_bytes c.in-Ok-posted.lines) fault) c.as_slice.ensures.value fails))
    c.put_copied.ensures.failed

pub returns-clause-failed : goal.returns-clause-failed
returns-clause-failed g c =
    refused g.F.HeldFile.errs g.F.HeldFile.octets (λ s. returns_of c.args.run.now s c.args.names.now c.args.rows.now) c.args.file.now c.in-Ok.read.octets.items (state_in c.in-Ok.read.ledger) c.in-Err-posted.fault c.in-Ok.ensures.read c.in-Err-posted.ensures.refused
