use Rattle.std.proofs.Common.{◌∙◌, true, false, sym, rules}
use Rattle.sms_worker.proofs.Expiring.{expires_closed}
use Rattle.sms_worker.proofs.TakingTurns.{one_turn}
use Rattle.sms_worker.proofs.state.worker_state.WorkerState.turn.Goals as goal

pub take_replies-replies-requires-clause-window : goal.take_replies-replies-requires-clause-window
take_replies-replies-requires-clause-window g c = c.requires.window

pub take_replies-replies-requires-clause-rules : goal.take_replies-replies-requires-clause-rules
take_replies-replies-requires-clause-rules g c = c.requires.rules

pub take_replies-replies-requires-clause-replies : goal.take_replies-replies-requires-clause-replies
take_replies-replies-requires-clause-replies g c = c.requires.replies

pub expire-expired-requires : goal.expire-expired-requires
expire-expired-requires g c = record { window = c.requires.window; rules = c.requires.rules }

pub start_all-started-requires-clause-window : goal.start_all-started-requires-clause-window
start_all-started-requires-clause-window g c = c.requires.window

pub start_all-started-requires-clause-rules : goal.start_all-started-requires-clause-rules
start_all-started-requires-clause-rules g c = c.requires.rules

pub start_all-started-requires-clause-down : goal.start_all-started-requires-clause-down
start_all-started-requires-clause-down g c on = expires_closed _ _ _ _ _ _ _ c.expire-expired.ensures.expires ∙ sym c.sees_closed-down.ensures.is ∙ on

pub call_end-requires : goal.call_end-requires
call_end-requires g c = record { down = λ on. c.start_all-started.ensures.closed on ∙ expires_closed _ _ _ _ _ _ _ c.expire-expired.ensures.expires ∙ sym c.sees_closed-down.ensures.is ∙ on }

pub returns-clause-ring : goal.returns-clause-ring
returns-clause-ring g c = c.take_replies-replies.ensures.ring

pub returns-clause-replies : goal.returns-clause-replies
returns-clause-replies g c = c.start_all-started.ensures.replies ∙ c.expire-expired.ensures.replies ∙ c.sees_closed-down.ensures.unchanged.0 ∙ c.take_replies-replies.ensures.replies

pub returns-clause-more : goal.returns-clause-more
returns-clause-more g c = (
  search rules,
  one_turn g.C.WorkerStart.start true _ _ _ _ _ _ c.args.self.now c.take_replies-replies.new.self c.sees_closed-down.new.self c.expire-expired.new.self c.start_all-started.new.self
      c.take_replies-replies.ensures.applied c.sees_closed-down.ensures.only c.sees_closed-down.ensures.is c.sees_closed-down.ensures.stays c.expire-expired.ensures.expires c.start_all-started.ensures.starts c.start_all-started.ensures.swept (λ e. absurd (cc)) (λ e. absurd (cc)),
)

pub returns-in-Some-clause-ring : goal.returns-in-Some-clause-ring
returns-in-Some-clause-ring g c = c.take_replies-replies.ensures.ring

pub returns-in-Some-clause-replies : goal.returns-in-Some-clause-replies
returns-in-Some-clause-replies g c = c.start_all-started.ensures.replies ∙ c.expire-expired.ensures.replies ∙ c.sees_closed-down.ensures.unchanged.0 ∙ c.take_replies-replies.ensures.replies

pub returns-in-Some-clause-last : goal.returns-in-Some-clause-last
returns-in-Some-clause-last g c =
    one_turn g.C.WorkerStart.start false _ _ _ _ _ _ c.args.self.now c.take_replies-replies.new.self c.sees_closed-down.new.self c.expire-expired.new.self c.start_all-started.new.self
    c.take_replies-replies.ensures.applied c.sees_closed-down.ensures.only c.sees_closed-down.ensures.is c.sees_closed-down.ensures.stays c.expire-expired.ensures.expires c.start_all-started.ensures.starts c.start_all-started.ensures.swept (λ e. (search rules, search rules, search rules)) (λ e. c.call_end.ensures.exact.0 (search rules))

pub returns-in-Some-clause-closed : goal.returns-in-Some-clause-closed
returns-in-Some-clause-closed g c is = c.call_end.ensures.closed (search rules)

pub returns-clause-drained : goal.returns-clause-drained
returns-clause-drained g c = (c.take_replies-replies.result.1, c.take_replies-replies.ensures.drained)

pub returns-in-Some-clause-drained : goal.returns-in-Some-clause-drained
returns-in-Some-clause-drained g c = (c.take_replies-replies.result.1, c.take_replies-replies.ensures.drained)
