use Rattle.std.proofs.Common.{◌≡◌, ◌<◌, ◌≤◌, length, Some, refl, sym, ap, ◌∙◌, subst, rules, arith}
use Rattle.std.specs.Prelude.{IsTrue, slice_get}
use Rattle.std.proofs.lemmas.Option.{slice_get-get_or}
use Rattle.sms_worker.specs.Handed.{frames_of}
use Rattle.sms_worker.specs.Steps.{emptied, settled_to}
use Rattle.sms_worker.specs.RunState.{RunState}
use Rattle.sms_worker.specs.Tally.{TallyState}
use Rattle.sms_message.specs.Ends.{put}
use Rattle.sms_worker.specs.Sweeps.{SweptAt, InPlace}
use Rattle.sms_worker.proofs.Sweeping.{swept_none, swept_settled, swept_put, in_place_same, in_place_put}
use Rattle.sms_worker.proofs.EndLemmas.{length-put, no_segment, there_taken}
use Rattle.sms_worker.proofs.Handing.{handed_put}
use Rattle.sms_worker.proofs.Keeping.{keeps_given, known_there, told_there}
use Rattle.sms_worker.proofs.Closing.{closes_put}
use Rattle.sms_worker.proofs.Credit.{credit_settled}
use Rattle.sms_worker.proofs.Reasoning.{grows_part, part_explained, reasons_given}
use Rattle.sms_worker.proofs.Rising.{order_kept}
use Rattle.sms_worker.proofs.Tallying.{like_taken, tally_same, tally_settled}
use Rattle.sms_worker.proofs.state.worker_state.WorkerState.end_waiting.Goals as goal

pub give-requires : goal.give-requires
give-requires g c = record { like = like_taken c.self.inside.tally.ends c.take.new.self.ends c.args.place c.in-Some.segment c.in-Some.segment c.in-Some.ensures.out refl refl }

pub invariant_of-self-then-not-is_waiting : goal.invariant_of-self-then-not-is_waiting
invariant_of-self-then-not-is_waiting g c =
    let i = c.self.invariant in
    let back = tally_same c.self.inside.tally c.take.new.self c.give.new.self c.args.place c.in-Some.segment c.in-Some.segment c.in-Some.ensures.out c.take.ensures.only c.give.ensures refl in
    record { keeps = rw back i.keeps; handed = rw back i.handed; closing = rw back i.closing; credit = rw back i.credit; reasons = rw back i.reasons; order = rw back i.order; ends_fit = rw back i.ends_fit; pending_fit = i.pending_fit; opened_fit = i.opened_fit }

pub settle-requires : goal.settle-requires
settle-requires g c =
    let i = c.self.invariant in
    let low : c.args.place.message < length c.self.inside.messages.items = search rules in
    let there : slice_get c.self.inside.messages.items c.args.place.message ≡ Some c.index-message.result.now = slice_get-get_or c.self.inside.messages.items c.args.place.message c.index-message.result.now low ∙ ap Some (sym c.index-message.ensures) in
    let s = c.in-Some.segment in
    let takes = c.in-Some.ensures.out in
    let told = told_there _ _ _ _ _ _ _ _ _ _ c.index-message.result.now s i.keeps there takes.0 in
    let waits = c.is_waiting.ensures.waiting g.C.WorkerStart.start.rules.policy.attempts told.state (search rules) in
    let m = c.index-message.result.now in
    record {
      message = (m, ap (λ l. slice_get l c.args.place.message) (sym i.keeps.messages) ∙ there, refl);
      known = λ a acc. subst (λ (t : TallyState). a < length t.share.amounts) (sym c.take.ensures.only) (known_there _ _ _ _ _ _ _ _ _ _ m s i.keeps there takes.0 a acc);
      waits = (emptied s, there_taken c.self.inside.tally.ends c.take.new.self.ends c.args.place.message c.args.place.part s takes, waits.outcome, c.given_up-segment.ensures.cost, told.some);
    }

pub invariant_of-self-2 : goal.invariant_of-self-2
invariant_of-self-2 g c =
    let i = c.self.invariant in
    let low : c.args.place.message < length c.self.inside.messages.items = search rules in
    let there : slice_get c.self.inside.messages.items c.args.place.message ≡ Some c.index-message.result.now = slice_get-get_or c.self.inside.messages.items c.args.place.message c.index-message.result.now low ∙ ap Some (sym c.index-message.ensures) in
    let s = c.in-Some.segment in
    let takes = c.in-Some.ensures.out in
    let told = told_there _ _ _ _ _ _ _ _ _ _ c.index-message.result.now s i.keeps there takes.0 in
    let waits = c.is_waiting.ensures.waiting g.C.WorkerStart.start.rules.policy.attempts told.state (search rules) in
    let m = c.index-message.result.now in
    let k = c.args.place.message in
    let p = c.args.place.part in
    let es = c.self.inside.tally.ends in
    let s' = c.given_up-segment.result in
    let now = tally_settled c.self.inside.tally c.take.new.self c.settle.new.tally c.args.place s s' takes c.take.ensures.only m.account c.settle.ensures in
    let moved = ap (λ n. settled_to s'.outcome m.account n c.self.inside.tally.share) c.given_up-segment.ensures.cost in
    record {
      keeps = rw now (keeps_given _ _ es (put es k p s') _ _ _ c.self.inside.tally.share _ _ k p m s s' i.keeps there takes.0 waits c.given_up-segment.ensures moved refl (length-put es k p s'));
      handed = rw now (handed_put _ _ _ es k p m s s' i.handed (ap (λ l. slice_get l k) (sym i.keeps.messages) ∙ there) takes.0 (ap frames_of c.given_up-segment.ensures.attempts));
      closing = rw now (closes_put _ es k p s' i.closing);
      credit = rw now (credit_settled k p s' s'.outcome m.account s.cost i.credit refl moved);
      reasons = rw now (reasons_given k p s' m i.reasons (ap (λ l. slice_get l k) (sym i.keeps.messages) ∙ there) (grows_part c.self.inside.reasons c.list_part.new.reasons m.index p c.args.why c.list_part.ensures.none c.list_part.ensures.some)
          (part_explained c.self.inside.closed c.self.inside.reasons c.list_part.new.reasons m.index p c.args.why (λ none. subst (λ (x : RunState). IsTrue x.closed) (sym c.self.view_is) (c.requires.why none)) c.list_part.ensures.some));
      order = rw now (order_kept es _ k p s s' c.self.inside.next c.self.inside.opened.items c.self.inside.queues.all c.self.inside.pending.items takes.0 c.given_up-segment.ensures.attempts refl i.order);
      ends_fit = rw now i.ends_fit;
      pending_fit = i.pending_fit;
      opened_fit = i.opened_fit;
    }

pub returns-then-place-len-clause-swept : goal.returns-then-place-len-clause-swept
returns-then-place-len-clause-swept g c =
    let i = c.self.invariant in
    let most = g.C.WorkerStart.start.rules.policy.attempts in
    let k = c.args.place.message in
    let p = c.args.place.part in
    let e = ap (λ (x : RunState). x.ends) c.self.view_is in
    let beyond : length c.self.inside.messages.items ≤ k = search rules in
    let within = i.keeps.shape.within in
    let same = ap length i.keeps.messages in
    subst (λ es. SweptAt most k p es es) e (swept_none most k p c.self.inside.tally.ends (no_segment c.self.inside.tally.ends k p (omega arith)))

pub returns-in_default-clause-in_place : goal.returns-in_default-clause-in_place
returns-in_default-clause-in_place g c =
    let e = ap (λ (x : RunState). x.ends) c.self.view_is in
    let same : c.take.new.self.ends ≡ c.self.inside.tally.ends = search rules in
    subst (InPlace c.args.self.now.ends) (sym (same ∙ e)) (in_place_same c.args.self.now.ends)

pub returns-then-not-is_waiting-clause-swept : goal.returns-then-not-is_waiting-clause-swept
returns-then-not-is_waiting-clause-swept g c =
    let i = c.self.invariant in
    let most = g.C.WorkerStart.start.rules.policy.attempts in
    let k = c.args.place.message in
    let p = c.args.place.part in
    let e = ap (λ (x : RunState). x.ends) c.self.view_is in
    let same = ap (λ (t : TallyState). t.ends) (tally_same c.self.inside.tally c.take.new.self c.give.new.self c.args.place c.in-Some.segment c.in-Some.segment c.in-Some.ensures.out c.take.ensures.only c.give.ensures refl) in
    let low : k < length c.self.inside.messages.items = search rules in
    let there : slice_get c.self.inside.messages.items k ≡ Some c.index-message.result.now = slice_get-get_or c.self.inside.messages.items k c.index-message.result.now low ∙ ap Some (sym c.index-message.ensures) in
    let told = told_there _ _ _ _ _ _ _ _ _ _ c.index-message.result.now c.in-Some.segment i.keeps there c.in-Some.ensures.out.0 in
    let done = c.is_waiting.ensures.settled most told.state (search rules) in
    subst (SweptAt most k p c.args.self.now.ends) (sym (same ∙ e)) (subst (λ es. SweptAt most k p es es) e (swept_settled most k p c.self.inside.tally.ends c.in-Some.segment c.in-Some.ensures.out.0 done))

pub returns-then-not-is_waiting-clause-in_place : goal.returns-then-not-is_waiting-clause-in_place
returns-then-not-is_waiting-clause-in_place g c =
    let e = ap (λ (x : RunState). x.ends) c.self.view_is in
    let same = ap (λ (t : TallyState). t.ends) (tally_same c.self.inside.tally c.take.new.self c.give.new.self c.args.place c.in-Some.segment c.in-Some.segment c.in-Some.ensures.out c.take.ensures.only c.give.ensures refl) in
    subst (InPlace c.args.self.now.ends) (sym (same ∙ e)) (in_place_same c.args.self.now.ends)

pub returns-then-not-is_waiting-clause-length : goal.returns-then-not-is_waiting-clause-length
returns-then-not-is_waiting-clause-length g c =
    ap (λ (t : TallyState). length t.ends) (tally_same c.self.inside.tally c.take.new.self c.give.new.self c.args.place c.in-Some.segment c.in-Some.segment c.in-Some.ensures.out c.take.ensures.only c.give.ensures refl) ∙ ap (λ (x : RunState). length x.ends) c.self.view_is

pub returns-clause-length : goal.returns-clause-length
returns-clause-length g c =
    ap (λ (t : TallyState). length t.ends) (tally_settled c.self.inside.tally c.take.new.self c.settle.new.tally c.args.place c.in-Some.segment c.given_up-segment.result c.in-Some.ensures.out c.take.ensures.only c.index-message.result.now.account c.settle.ensures)
    ∙ length-put c.self.inside.tally.ends c.args.place.message c.args.place.part c.given_up-segment.result ∙ ap (λ (x : RunState). length x.ends) c.self.view_is

pub returns-clause-swept : goal.returns-clause-swept
returns-clause-swept g c =
    let i = c.self.invariant in
    let most = g.C.WorkerStart.start.rules.policy.attempts in
    let k = c.args.place.message in
    let p = c.args.place.part in
    let es = c.self.inside.tally.ends in
    let s = c.in-Some.segment in
    let e = ap (λ (x : RunState). x.ends) c.self.view_is in
    let low : k < length c.self.inside.messages.items = search rules in
    let there : slice_get c.self.inside.messages.items k ≡ Some c.index-message.result.now = slice_get-get_or c.self.inside.messages.items k c.index-message.result.now low ∙ ap Some (sym c.index-message.ensures) in
    let told = told_there _ _ _ _ _ _ _ _ _ _ c.index-message.result.now s i.keeps there c.in-Some.ensures.out.0 in
    let waits = c.is_waiting.ensures.waiting most told.state (search rules) in
    let is = ap (λ (t : TallyState). t.ends) (tally_settled c.self.inside.tally c.take.new.self c.settle.new.tally c.args.place s c.given_up-segment.result c.in-Some.ensures.out c.take.ensures.only c.index-message.result.now.account c.settle.ensures) in
    subst (SweptAt most k p c.args.self.now.ends) (sym is) (subst (λ l. SweptAt most k p l (put es k p c.given_up-segment.result)) e (swept_put most k p es c.given_up-segment.result s c.in-Some.ensures.out.0 (c.given_up-segment.ensures.state most waits)))

pub returns-clause-in_place : goal.returns-clause-in_place
returns-clause-in_place g c =
    let k = c.args.place.message in
    let p = c.args.place.part in
    let es = c.self.inside.tally.ends in
    let s = c.in-Some.segment in
    let e = ap (λ (x : RunState). x.ends) c.self.view_is in
    let is = ap (λ (t : TallyState). t.ends) (tally_settled c.self.inside.tally c.take.new.self c.settle.new.tally c.args.place s c.given_up-segment.result c.in-Some.ensures.out c.take.ensures.only c.index-message.result.now.account c.settle.ensures) in
    subst (InPlace c.args.self.now.ends) (sym is) (subst (λ l. InPlace l (put es k p c.given_up-segment.result)) e (in_place_put es k p c.given_up-segment.result s c.in-Some.ensures.out.0))
