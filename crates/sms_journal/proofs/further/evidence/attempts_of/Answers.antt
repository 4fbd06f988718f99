use Rattle.std.proofs.Common.{◌≡◌, ◌++◌, ◌∷◌, [], rules, arith}
use Rattle.sms_journal.specs.Sums.{attempt_without_evidence}
use Rattle.sms_journal.proofs.OverLists.{made_all, made_more}
use Rattle.sms_journal.proofs.further.evidence.attempts_of.Goals as goal

pub loop-attempt-preserved : goal.loop-attempt-preserved
loop-attempt-preserved g c =
    let more : c.push.new.list.items ≡ c.loop-attempt.bare.items ++ attempt_without_evidence c.attempt-item.result ∷ [] = search rules in
    made_more attempt_without_evidence c.loop-attempt.bare.items c.push.new.list.items c.args.attempts.now c.loop-attempt.attempt-index c.attempt-item.result more (omega arith) c.attempt-item.is c.loop-attempt.invariant

pub returns : goal.returns
returns g c = made_all attempt_without_evidence c.loop-attempt.bare.items c.args.attempts.now c.loop-attempt.attempt-index (omega arith) c.loop-attempt.invariant
