use Rattle.std.proofs.Common.{◌≡◌, ◌<◌, ◌⊎◌, length, Some, refl, sym, ap, ◌∙◌, subst, rules, arith}
use Rattle.std.specs.Prelude.{slice_get}
use Rattle.std.proofs.lemmas.Option.{slice_get-get_or}
use Rattle.sms_message.specs.declared.rules.Rules.{Rules}
use Rattle.sms_worker.specs.Types.{SegmentEnd}
use Rattle.sms_worker.specs.Handed.{frames_of}
use Rattle.sms_worker.specs.Steps.{settled_to, outcome_after, emptied, Answers}
use Rattle.sms_worker.specs.Tally.{TallyState}
use Rattle.sms_message.specs.Results.{IsSettled, IsWaiting}
use Rattle.sms_worker.specs.Told.{HeardSince}
use Rattle.sms_worker.specs.Rising.{WasSent}
use Rattle.sms_worker.specs.RunState.{RunState}
use Rattle.sms_message.specs.Ends.{put, segment_at}
use Rattle.sms_worker.proofs.EndLemmas.{length-put, there_taken}
use Rattle.sms_worker.proofs.Handing.{frames_heard, handed_put}
use Rattle.sms_worker.proofs.Keeping.{keeps_answered, known_there, told_there}
use Rattle.sms_worker.proofs.Closing.{closes_put}
use Rattle.sms_worker.proofs.Replies.{not_expected_at}
use Rattle.sms_worker.proofs.Credit.{credit_settled}
use Rattle.sms_worker.proofs.Placed.{sent_message}
use Rattle.sms_worker.proofs.Reasoning.{answered_stays, reasons_put}
use Rattle.sms_worker.proofs.Rising.{order_heard, sent_now}
use Rattle.sms_worker.proofs.Tallying.{like_taken, tally_same, tally_settled}
use Rattle.sms_worker.proofs.Turning.{so_decided}
use Rattle.sms_worker.proofs.state.worker_state.WorkerState.settle_answer.Goals as goal

pub index-message-requires : goal.index-message-requires
index-message-requires g c =
    let low = sent_message _ _ _ _ _ _ _ _ c.args.place c.self.invariant.keeps (subst (λ (x : RunState). WasSent x.ends c.args.place) (sym c.self.view_is) c.requires.was_sent) in
    omega arith

pub answer-segment-requires : goal.answer-segment-requires
answer-segment-requires g c =
    let i = c.self.invariant in
    let low : c.args.place.message < length c.self.inside.messages.items = sent_message _ _ _ _ _ _ _ _ c.args.place i.keeps (subst (λ (x : RunState). WasSent x.ends c.args.place) (sym c.self.view_is) c.requires.was_sent) in
    let there : slice_get c.self.inside.messages.items c.args.place.message ≡ Some c.index-message.result.now = slice_get-get_or c.self.inside.messages.items c.args.place.message c.index-message.result.now low ∙ ap Some (sym c.index-message.ensures) in
    let told = told_there _ _ _ _ _ _ _ _ _ _ c.index-message.result.now c.in-Some.segment i.keeps there c.in-Some.ensures.out.0 in
    record { state = subst (λ (x : Rules). IsSettled x.policy.attempts c.in-Some.segment ⊎ IsWaiting x.policy.attempts c.in-Some.segment) (sym c.requires.rules) told.state }

pub give-requires : goal.give-requires
give-requires g c =
    let same : c.answer-segment.result.0 ≡ c.in-Some.segment = search rules in
    record { like = like_taken c.self.inside.tally.ends c.take.new.self.ends c.args.place c.in-Some.segment c.answer-segment.result.0 c.in-Some.ensures.out (ap (λ (x : SegmentEnd). x.cost) same) (ap (λ (x : SegmentEnd). x.outcome) same) }

pub invariant_of-self : goal.invariant_of-self
invariant_of-self g c =
    let i = c.self.invariant in
    let same : c.answer-segment.result.0 ≡ c.in-Some.segment = search rules in
    let back = tally_same c.self.inside.tally c.take.new.self c.give.new.self c.args.place c.in-Some.segment c.answer-segment.result.0 c.in-Some.ensures.out c.take.ensures.only c.give.ensures same in
    record { keeps = rw back i.keeps; handed = rw back i.handed; closing = rw back i.closing; credit = rw back i.credit; reasons = rw back i.reasons; order = rw back i.order; ends_fit = rw back i.ends_fit; pending_fit = i.pending_fit; opened_fit = i.opened_fit }

pub settle-requires : goal.settle-requires
settle-requires g c =
    let i = c.self.invariant in
    let low : c.args.place.message < length c.self.inside.messages.items = sent_message _ _ _ _ _ _ _ _ c.args.place i.keeps (subst (λ (x : RunState). WasSent x.ends c.args.place) (sym c.self.view_is) c.requires.was_sent) in
    let there : slice_get c.self.inside.messages.items c.args.place.message ≡ Some c.index-message.result.now = slice_get-get_or c.self.inside.messages.items c.args.place.message c.index-message.result.now low ∙ ap Some (sym c.index-message.ensures) in
    let s = c.in-Some.segment in
    let takes = c.in-Some.ensures.out in
    let r = c.answer-segment.result.0 in
    let d = c.in-Some-decision.decision in
    let found : Answers c.args.context.now.rules.now.policy.attempts s c.args.reply d r = search rules in
    let answered = subst (λ (x : Rules). Answers x.policy.attempts s c.args.reply d r) c.requires.rules found in
    let m = c.index-message.result.now in
    let told = told_there _ _ _ _ _ _ _ _ _ _ m s i.keeps there takes.0 in
    record {
      message = (m, ap (λ l. slice_get l c.args.place.message) (sym i.keeps.messages) ∙ there, refl);
      known = λ a acc. subst (λ (t : TallyState). a < length t.share.amounts) (sym c.take.ensures.only) (known_there _ _ _ _ _ _ _ _ _ _ m s i.keeps there takes.0 a acc);
      waits = (emptied s, there_taken c.self.inside.tally.ends c.take.new.self.ends c.args.place.message c.args.place.part s takes, answered.hears.open_yet, ap (λ (x : SegmentEnd). x.cost) answered.hears.after, told.some);
    }

pub invariant_of-self-2 : goal.invariant_of-self-2
invariant_of-self-2 g c =
    let i = c.self.invariant in
    let low : c.args.place.message < length c.self.inside.messages.items = sent_message _ _ _ _ _ _ _ _ c.args.place i.keeps (subst (λ (x : RunState). WasSent x.ends c.args.place) (sym c.self.view_is) c.requires.was_sent) in
    let there : slice_get c.self.inside.messages.items c.args.place.message ≡ Some c.index-message.result.now = slice_get-get_or c.self.inside.messages.items c.args.place.message c.index-message.result.now low ∙ ap Some (sym c.index-message.ensures) in
    let s = c.in-Some.segment in
    let takes = c.in-Some.ensures.out in
    let r = c.answer-segment.result.0 in
    let d = c.in-Some-decision.decision in
    let found : Answers c.args.context.now.rules.now.policy.attempts s c.args.reply d r = search rules in
    let answered = subst (λ (x : Rules). Answers x.policy.attempts s c.args.reply d r) c.requires.rules found in
    let m = c.index-message.result.now in
    let k = c.args.place.message in
    let p = c.args.place.part in
    let es = c.self.inside.tally.ends in
    let s' : SegmentEnd = record { cost = r.cost; attempts = r.attempts; outcome = c.outcome_of-outcome.result } in
    let made : s' ≡ record r { outcome = outcome_after d } = ap (λ o. record r { outcome = o }) c.outcome_of-outcome.ensures in
    let now = tally_settled c.self.inside.tally c.take.new.self c.settle.new.tally c.args.place s s' takes c.take.ensures.only m.account c.settle.ensures in
    let h = answered.hears in
    let moved = ap (λ o. settled_to o m.account r.cost c.self.inside.tally.share) c.outcome_of-outcome.ensures ∙ ap (λ n. settled_to (outcome_after d) m.account n c.self.inside.tally.share) (ap (λ (x : SegmentEnd). x.cost) answered.hears.after) in
    let decides = so_decided c.args.reply d (length r.attempts) (length r.attempts) c.args.context.now.rules.now g.C.WorkerStart.start.rules c.requires.rules (search rules) refl in
    let replies = subst (λ (x : RunState). HeardSince (length g.C.WorkerStart.start.received) x.replies c.args.reply) (sym c.self.view_is) c.requires.replies in
    record {
      keeps = rw now (keeps_answered _ _ es (put es k p s') _ _ _ c.self.inside.tally.share _ _ k p m s r s' c.args.reply d i.keeps there takes.0 replies answered made moved refl (length-put es k p s'));
      handed = rw now (handed_put _ _ _ es k p m s s' i.handed (ap (λ l. slice_get l k) (sym i.keeps.messages) ∙ there) takes.0 (ap (λ (x : SegmentEnd). frames_of x.attempts) h.after ∙ frames_heard h.front h.last (record h.last { reply = Some c.args.reply }) refl ∙ ap frames_of (sym h.before)));
      closing = rw now (closes_put _ es k p s' i.closing);
      credit = rw now (credit_settled k p s' (outcome_after d) m.account s.cost i.credit refl moved);
      reasons = rw now (reasons_put k p s' i.reasons (answered_stays g.C.WorkerStart.start.rules.policy.attempts g.C.WorkerStart.start.rules.policy.base_ms s r s' c.args.reply d answered.hears refl c.outcome_of-outcome.ensures decides));
      order = rw now (order_heard g.C.WorkerStart.start.rules.policy.attempts es _ k p s r s' c.args.reply d c.self.inside.next c.self.inside.opened.items c.self.inside.queues.all c.self.inside.pending.items takes.0 answered refl refl i.order);
      ends_fit = rw now i.ends_fit;
      pending_fit = i.pending_fit;
      opened_fit = i.opened_fit;
    }

pub returns-in-None : goal.returns-in-None
returns-in-None g c =
    let e : c.answer-segment.result.0 ≡ c.in-Some.segment = search rules in
    let same = ap (λ (t : TallyState). t.ends) (tally_same c.self.inside.tally c.take.new.self c.give.new.self c.args.place c.in-Some.segment c.answer-segment.result.0 c.in-Some.ensures.out c.take.ensures.only c.give.ensures e) in
    let at = subst (λ (x : RunState). segment_at x.ends c.args.place.message c.args.place.part ≡ Some c.in-Some.segment) c.self.view_is c.in-Some.ensures.out.0 in
    record { replies = ap (λ (x : RunState). x.replies) c.self.view_is; sent = tt; settled = tt; decided = tt; none = λ e. same ∙ ap (λ (x : RunState). x.ends) c.self.view_is; unasked = λ e. not_expected_at _ c.args.place c.in-Some.segment c.args.reply at (c.answer-segment.ensures.unasked (search rules)); only = ap (λ (x : RunState). record x { ends = c.give.new.self.ends }) c.self.view_is }

pub returns : goal.returns
returns g c =
    let s = c.in-Some.segment in
    let takes = c.in-Some.ensures.out in
    let r = c.answer-segment.result.0 in
    let d = c.in-Some-decision.decision in
    let found : Answers c.args.context.now.rules.now.policy.attempts s c.args.reply d r = search rules in
    let s' : SegmentEnd = record { cost = r.cost; attempts = r.attempts; outcome = c.outcome_of-outcome.result } in
    let is = ap (λ (t : TallyState). t.ends) (tally_settled c.self.inside.tally c.take.new.self c.settle.new.tally c.args.place s s' takes c.take.ensures.only c.index-message.result.now.account c.settle.ensures) in
    let h = found.hears in
    record {
      replies = ap (λ (x : RunState). x.replies) c.self.view_is;
      sent = sent_now c.self.inside.tally.ends _ c.args.place s s' h.front (record h.last { reply = Some c.args.reply }) takes.0 is (ap (λ (x : SegmentEnd). x.attempts) h.after);
      settled = record {
        segment = s';
        now = is ∙ ap (λ (x : RunState). put x.ends c.args.place.message c.args.place.part s') c.self.view_is;
        count = search rules;
        outcome = c.outcome_of-outcome.ensures;
      };
      decided = so_decided c.args.reply d (length r.attempts) _ c.args.context.now.rules.now g.C.WorkerStart.start.rules c.requires.rules (search rules) (search rules);
      none = λ e. absurd (cc);
      unasked = λ e. absurd (cc);
      only = ap (λ (x : RunState). record x { ends = c.settle.new.tally.ends }) c.self.view_is;
    }
