use Rattle.std.proofs.Common.{List, ℕ, OnOk, subst, sym, rules}
use Rattle.std.proofs.lemmas.Result.{IfErr-weaker}
use Rattle.std.specs.Prelude.{string_bytes}
use Rattle.sms_ledger.specs.Decisions.{undecided}
use Rattle.sms_ledger.specs.InMemory.{state_in}
use Rattle.sms_send.specs.LedgerRuns.{FailsToStand, RefusesAt, StandBehind}
use Rattle.sms_send.proofs.Posting.{all_posted, refused, stopped, unstood}
use Rattle.sms_send.proofs.jobs.booking.decide_in.Goals as goal

pub returns-in-Ok-posted-clause-decided : goal.returns-in-Ok-posted-clause-decided
returns-in-Ok-posted-clause-decided g c =
    let stand = subst (λ (text : List ℕ). OnOk c.put_copied.result (StandBehind text (g.F.HeldFile.octets c.args.file.now) (g.F.HeldFile.octets c.put_copied.new.file) (string_bytes c.in-Ok-posted.lines))) c.as_slice.ensures.value c.put_copied.ensures.stand in
    all_posted g.F.HeldFile.octets g.F.HeldFile.stored (undecided c.args.decisions.now) c.put_copied.result c.args.file.now c.put_copied.new.file c.in-Ok.read.octets.items (string_bytes c.in-Ok-posted.lines)
    (state_in c.in-Ok.read.ledger) (state_in c.decide_parts-posted.new.self) c.args.time (search (rules, c.ranges.time.fits)) c.in-Ok.ensures.read c.in-Ok-posted.ensures.ok c.put_copied.ensures.copy stand c.put_copied.ensures.durable

pub returns-in-Ok-posted-clause-failed : goal.returns-in-Ok-posted-clause-failed
returns-in-Ok-posted-clause-failed g c =
    IfErr-weaker c.put_copied.result _ _
    (λ fault fails. unstood g.F.HeldFile.errs g.F.HeldFile.octets (undecided c.args.decisions.now) c.args.file.now c.put_copied.new.file c.in-Ok.read.octets.items (string_bytes c.in-Ok-posted.lines)
    (state_in c.in-Ok.read.ledger) (state_in c.decide_parts-posted.new.self) c.args.time fault c.in-Ok.ensures.read c.in-Ok-posted.ensures.ok
    (subst (λ (text : List ℕ). FailsToStand g.F.HeldFile.errs text (g.F.HeldFile.octets c.args.file.now) (g.F.HeldFile.octets c.put_copied.new.file) (string_bytes c.in-Ok-posted.lines) fault) c.as_slice.ensures.value fails))
    c.put_copied.ensures.failed

pub returns-clause-failed : goal.returns-clause-failed
returns-clause-failed g c =
    refused g.F.HeldFile.errs g.F.HeldFile.octets (undecided c.args.decisions.now) c.args.file.now c.in-Ok.read.octets.items (state_in c.in-Ok.read.ledger) c.fault_of_entry.result c.in-Ok.ensures.read
    (subst (RefusesAt (undecided c.args.decisions.now (state_in c.in-Ok.read.ledger)) (state_in c.in-Ok.read.ledger)) (sym c.fault_of_entry.ensures) (stopped _ _ c.in-Err-posted.refusal c.in-Err-posted.ensures.err))
