use Rattle.std.proofs.Common.{◌≡◌, ◌-◌, length, Some, rules}
use Rattle.std.specs.Prelude.{slice_get}
use Rattle.sms_worker.proofs.Tries.{waits_by_last, settled_by_last}
use Rattle.sms_worker.proofs.state.segment.is_waiting.Goals as goal

pub returns-in-Some-clause-waiting : goal.returns-in-Some-clause-waiting
returns-in-Some-clause-waiting c most state told =
    let y = c.is_answered.ensures.yes told in
    let at : slice_get c.args.segment.now.attempts (length c.args.segment.now.attempts - 1) ≡ Some c.in-Some.last.now = search rules in
    waits_by_last most c.args.segment.now c.in-Some.last.now y.0 at (search rules) state y.1

pub returns-in-Some-clause-settled : goal.returns-in-Some-clause-settled
returns-in-Some-clause-settled c most state is =
    let at : slice_get c.args.segment.now.attempts (length c.args.segment.now.attempts - 1) ≡ Some c.in-Some.last.now = search rules in
    settled_by_last most c.args.segment.now c.in-Some.last.now at state (c.is_answered.ensures.no is)
