use Rattle.std.proofs.Common.{List, Some, inl, refl, sym, ap, subst, rules, ◌∙◌}
use Rattle.sms_worker.specs.Types.{MessageEnd}
use Rattle.sms_worker.specs.declared.steps.starting.Source.{Source}
use Rattle.sms_worker.specs.RunState.{RunState}
use Rattle.sms_worker.specs.Sweeps.{SweptAt}
use Rattle.sms_worker.specs.declared.steps.starting.Idle.TheVariants.{AllBegun, Closed, Waits}
use Rattle.sms_worker.specs.declared.steps.starting.Started.TheVariants.{One, Nothing}
use Rattle.sms_worker.specs.Turns.{IsStep, IsTried}
use Rattle.sms_worker.proofs.Turning.{begun_step, given_so, none_begun, not_sent, over_so, seen_closed, sent_so, stepped, still_there, turn_there, waits_step}
use Rattle.sms_worker.proofs.state.worker_state.WorkerState.start_one.Goals as goal

pub begin-requires : goal.begin-requires
begin-requires g c = record { rules = c.requires.rules }

pub returns-then-begin : goal.returns-then-begin
returns-then-begin g c = record {
  replies = c.begin.ensures.replies ∙ c.sees_closed-closed.ensures.unchanged.0;
  step = subst (λ t. IsStep g.C.WorkerStart.start t One c.args.self.now c.begin.new.self) c.ms-now_ms.ensures (begun_step g.C.WorkerStart.start c.ms-now_ms.result c.args.self.now c.sees_closed-closed.new.self c.begin.new.self c.sees_closed-closed.ensures.only (c.next_place.ensures.none (search rules)) (c.begin.ensures.next (search rules)) (c.begin.ensures.more (search rules)).0);
}

pub returns-in_default : goal.returns-in_default
returns-in_default g c = record {
  replies = c.begin.ensures.replies ∙ c.sees_closed-closed.ensures.unchanged.0;
  step = subst (λ t. IsStep g.C.WorkerStart.start t (Nothing AllBegun) c.args.self.now c.begin.new.self) c.ms-now_ms.ensures (none_begun g.C.WorkerStart.start c.ms-now_ms.result c.args.self.now c.sees_closed-closed.new.self c.begin.new.self c.sees_closed-closed.ensures.only (c.next_place.ensures.none (search rules)) (c.begin.ensures.none (search rules)) (c.begin.ensures.all (search rules)));
}

pub returns-then-closed : goal.returns-then-closed
returns-then-closed g c =
    let at = c.in-Some.place in
    let turn = turn_there c.ms-now_ms.result c.args.self.now c.sees_closed-closed.new.self at c.sees_closed-closed.ensures.only c.in-Some.source (λ k e. c.next_place.ensures.retry at k (c.in-Some.is ∙ ap (λ (x : Source). Some (at, x)) e)) (λ e. c.next_place.ensures.fresh at (c.in-Some.is ∙ ap (λ (x : Source). Some (at, x)) e)) in
    record {
      replies = c.sees_closed-closed.ensures.unchanged.0;
      step = subst (λ t. IsStep g.C.WorkerStart.start t (Nothing Closed) c.args.self.now c.sees_closed-closed.new.self) c.ms-now_ms.ensures (seen_closed g.C.WorkerStart.start c.ms-now_ms.result c.args.self.now c.sees_closed-closed.new.self at c.sees_closed-closed.ensures.only (search rules) turn);
    }

pub attempt-requires-clause-window : goal.attempt-requires-clause-window
attempt-requires-clause-window g c = c.requires.window

pub attempt-requires-clause-rules : goal.attempt-requires-clause-rules
attempt-requires-clause-rules g c = c.requires.rules

pub returns-in-Sent : goal.returns-in-Sent
returns-in-Sent g c =
    let at = c.in-Some.place in
    let tried = sent_so g.C.WorkerStart.start.rules.policy.attempts c.in-Sent.field-0 c.in-Some-attempt.tried at c.sees_closed-closed.new.self c.attempt.new.self c.in-Some-attempt.ensures.tried c.in-Sent.is in
    record {
      replies = c.advance-in-Sent.ensures.unchanged.0 ∙ c.attempt.ensures.replies ∙ c.sees_closed-closed.ensures.unchanged.0;
      step = subst (λ t. IsStep g.C.WorkerStart.start t One c.args.self.now c.advance-in-Sent.new.self) c.ms-now_ms.ensures (stepped g.C.WorkerStart.start c.ms-now_ms.result c.args.self.now c.sees_closed-closed.new.self c.attempt.new.self c.advance-in-Sent.new.self c.advance-in-Sent.new.self at c.sees_closed-closed.ensures.only
          (still_there c.in-Some-attempt.tried at c.sees_closed-closed.new.self c.attempt.new.self c.in-Some-attempt.ensures.tried) c.advance-in-Sent.ensures.unchanged.2 (refl, refl) (inl refl)
          (subst (IsTried _ at c.sees_closed-closed.new.self.ends) (sym c.advance-in-Sent.ensures.unchanged.1) tried)
          c.in-Some.source (λ k e. c.next_place.ensures.retry at k (c.in-Some.is ∙ ap (λ (x : Source). Some (at, x)) e)) (λ e. c.next_place.ensures.fresh at (c.in-Some.is ∙ ap (λ (x : Source). Some (at, x)) e))
          c.advance-in-Sent.ensures.taken c.advance-in-Sent.ensures.next);
    }

pub returns-in-Retry : goal.returns-in-Retry
returns-in-Retry g c =
    let at = c.in-Some.place in
    let turn = turn_there c.ms-now_ms.result c.args.self.now c.sees_closed-closed.new.self at c.sees_closed-closed.ensures.only c.in-Some.source (λ k e. c.next_place.ensures.retry at k (c.in-Some.is ∙ ap (λ (x : Source). Some (at, x)) e)) (λ e. c.next_place.ensures.fresh at (c.in-Some.is ∙ ap (λ (x : Source). Some (at, x)) e)) in
    record {
      replies = c.attempt.ensures.replies ∙ c.sees_closed-closed.ensures.unchanged.0;
      step = subst (λ t. IsStep g.C.WorkerStart.start t (Nothing (Waits c.in-Retry.held)) c.args.self.now c.attempt.new.self) c.ms-now_ms.ensures (waits_step g.C.WorkerStart.start c.ms-now_ms.result c.args.self.now c.sees_closed-closed.new.self c.attempt.new.self at c.in-Retry.held c.sees_closed-closed.ensures.only
          (not_sent c.in-Some-attempt.tried c.in-Retry.held at c.sees_closed-closed.new.self c.attempt.new.self c.in-Some-attempt.ensures.tried c.in-Retry.is) turn);
    }

pub returns-in-GiveUp : goal.returns-in-GiveUp
returns-in-GiveUp g c =
    let at = c.in-Some.place in
    let most = g.C.WorkerStart.start.rules.policy.attempts in
    let swept = subst (λ (l : List MessageEnd). SweptAt most at.message at.part l c.give_up.new.self.ends) c.advance-in-GiveUp.ensures.unchanged.1 c.give_up.ensures.swept in
    let tried = given_so most c.in-Some-attempt.tried c.in-GiveUp.why at c.sees_closed-closed.new.self c.attempt.new.self c.give_up.new.self.ends c.in-Some-attempt.ensures.tried c.in-GiveUp.is swept in
    record {
      replies = c.give_up.ensures.replies ∙ c.advance-in-GiveUp.ensures.unchanged.0 ∙ c.attempt.ensures.replies ∙ c.sees_closed-closed.ensures.unchanged.0;
      step = subst (λ t. IsStep g.C.WorkerStart.start t One c.args.self.now c.give_up.new.self) c.ms-now_ms.ensures (stepped g.C.WorkerStart.start c.ms-now_ms.result c.args.self.now c.sees_closed-closed.new.self c.attempt.new.self c.advance-in-GiveUp.new.self c.give_up.new.self at c.sees_closed-closed.ensures.only
          (still_there c.in-Some-attempt.tried at c.sees_closed-closed.new.self c.attempt.new.self c.in-Some-attempt.ensures.tried) c.advance-in-GiveUp.ensures.unchanged.2 c.give_up.ensures.left c.give_up.ensures.pending tried
          c.in-Some.source (λ k e. c.next_place.ensures.retry at k (c.in-Some.is ∙ ap (λ (x : Source). Some (at, x)) e)) (λ e. c.next_place.ensures.fresh at (c.in-Some.is ∙ ap (λ (x : Source). Some (at, x)) e))
          c.advance-in-GiveUp.ensures.taken c.advance-in-GiveUp.ensures.next);
    }

pub returns-in_default-attempt : goal.returns-in_default-attempt
returns-in_default-attempt g c =
    let at = c.in-Some.place in
    let over = c.attempt.ensures.over (search rules) in
    let same = over.0 in
    let tried = over_so g.C.WorkerStart.start.rules.policy.attempts at c.sees_closed-closed.new.self c.attempt.new.self same over.1 in
    record {
      replies = c.advance.ensures.unchanged.0 ∙ c.attempt.ensures.replies ∙ c.sees_closed-closed.ensures.unchanged.0;
      step = subst (λ t. IsStep g.C.WorkerStart.start t One c.args.self.now c.advance.new.self) c.ms-now_ms.ensures (stepped g.C.WorkerStart.start c.ms-now_ms.result c.args.self.now c.sees_closed-closed.new.self c.attempt.new.self c.advance.new.self c.advance.new.self at c.sees_closed-closed.ensures.only
          (ap (λ (x : RunState). x.queues) same, ap (λ (x : RunState). x.pending) same, ap (λ (x : RunState). x.next) same) c.advance.ensures.unchanged.2 (refl, refl) (inl refl)
          (subst (IsTried _ at c.sees_closed-closed.new.self.ends) (sym c.advance.ensures.unchanged.1) tried)
          c.in-Some.source (λ k e. c.next_place.ensures.retry at k (c.in-Some.is ∙ ap (λ (x : Source). Some (at, x)) e)) (λ e. c.next_place.ensures.fresh at (c.in-Some.is ∙ ap (λ (x : Source). Some (at, x)) e))
          c.advance.ensures.taken c.advance.ensures.next);
    }
