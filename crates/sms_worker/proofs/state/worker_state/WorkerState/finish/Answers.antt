use Rattle.std.proofs.Common.{List, length, ◌∙◌, subst}
use Rattle.rtrb.specs.Ring.{known_items, received}
use Rattle.sms_pdu.specs.declared.reply.Reply.{Reply}
use Rattle.sms_worker.specs.Replies.{WasDrained}
use Rattle.sms_worker.specs.Sweeps.{SettledTo}
use Rattle.sms_worker.proofs.Expiring.{expires_closed}
use Rattle.sms_worker.proofs.state.worker_state.WorkerState.finish.Goals as goal

pub returns-clause-settled : goal.returns-clause-settled
returns-clause-settled g c = subst (λ n. SettledTo g.C.WorkerStart.start.rules.policy.attempts n 0 c.sweep.new.self.ends) c.refuse_rest.ensures.all c.sweep.ensures.settled

pub sweep-requires : goal.sweep-requires
sweep-requires g c = record {
  why = λ none.
      c.refuse_rest.ensures.closed ∙ c.take_replies.ensures.closed ∙ expires_closed _ _ _ _ _ _ _ c.expire.ensures.expires ∙ c.requires.end (c.nothing_left.ensures none);
}

pub returns-clause-drained : goal.returns-clause-drained
returns-clause-drained g c =
    (c.take_replies.result.1, subst (λ (l : List Reply). WasDrained (length l) c.take_replies.result.1 (known_items c.take_replies.new.consumer) (received c.take_replies.new.consumer)) c.expire.ensures.replies c.take_replies.ensures.drained)
