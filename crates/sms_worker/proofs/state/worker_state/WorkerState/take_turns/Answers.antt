use Rattle.std.proofs.Common.{◌∙◌, ap, rules, arith}
use Rattle.sms_message.specs.declared.rules.Rules.{Rules}
use Rattle.sms_worker.proofs.TakingTurns.{last_turn, turn_more}
use Rattle.sms_worker.proofs.state.worker_state.WorkerState.take_turns.Goals as goal

pub turn-requires : goal.turn-requires
turn-requires g c =
    let most = ap (λ (x : Rules). x.turns) c.requires.rules in
    let taken = c.loop-turn.invariant.taken in
    record { window = c.requires.window; rules = c.requires.rules; replies = c.loop-turn.invariant.replies; few = omega arith }

pub loop-turn-preserved : goal.loop-turn-preserved
loop-turn-preserved g c =
    let ring = c.turn.ensures.ring in
    let before = c.loop-turn.invariant.ring in
    record {
      replies = c.turn.ensures.replies;
      ring = ((ring.0.0 ∙ before.0.0, ring.0.1 ∙ before.0.1, ring.0.2 ∙ before.0.2, ring.0.3 ∙ before.0.3), ring.1 ∙ before.1);
      taken = search rules;
      turns = turn_more g.C.WorkerStart.start _ _ c.loop-turn.self c.turn.new.self c.loop-turn.invariant.turns c.in-Ok.ensures.more.1;
    }

pub returns-in-Err-clause-ring : goal.returns-in-Err-clause-ring
returns-in-Err-clause-ring g c =
    let ring = c.turn.ensures.ring in
    let before = c.loop-turn.invariant.ring in
    ((ring.0.0 ∙ before.0.0, ring.0.1 ∙ before.0.1, ring.0.2 ∙ before.0.2, ring.0.3 ∙ before.0.3), ring.1 ∙ before.1)

pub returns-in-Err-clause-replies : goal.returns-in-Err-clause-replies
returns-in-Err-clause-replies g c = c.turn.ensures.replies

pub returns-in-Err-clause-turns : goal.returns-in-Err-clause-turns
returns-in-Err-clause-turns g c = last_turn g.C.WorkerStart.start _ _ c.loop-turn.self c.turn.new.self c.loop-turn.invariant.turns c.in-Err.ensures.last
