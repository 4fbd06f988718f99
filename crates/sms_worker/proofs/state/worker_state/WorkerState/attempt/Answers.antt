use Rattle.std.proofs.Common.{◌≡◌, ◌<◌, List, length, Some, inr, sym, ap, ◌∙◌, refl, subst, rules, arith}
use Rattle.std.specs.Prelude.{map, option_map, slice_get}
use Rattle.std.proofs.lemmas.List.{length-map}
use Rattle.std.proofs.lemmas.Option.{slice_get-get_or, slice_get-map}
use Rattle.sms_worker.specs.Types.{Attempt, SegmentEnd}
use Rattle.sms_worker.specs.Handed.{HandsOn}
use Rattle.sms_worker.specs.Steps.{Tries}
use Rattle.sms_worker.specs.PendingState.{data_in}
use Rattle.sms_worker.specs.Turns.{IsOver}
use Rattle.sms_message.specs.Ends.{put}
use Rattle.sms_worker.specs.Tally.{TallyState}
use Rattle.sms_worker.proofs.EndLemmas.{length-put}
use Rattle.sms_worker.proofs.Tallying.{like_taken, tally_given, tally_same}
use Rattle.sms_worker.proofs.Handing.{handed_on}
use Rattle.sms_worker.proofs.Keeping.{keeps_tried, part_there, told_there}
use Rattle.sms_worker.specs.Rising.{HasTurn}
use Rattle.sms_worker.specs.RunState.{RunState}
use Rattle.sms_worker.proofs.Closing.{closes_put}
use Rattle.sms_worker.proofs.Credit.{credit_put}
use Rattle.sms_worker.proofs.Placed.{has_addresses, turn_kept, turn_message}
use Rattle.sms_worker.proofs.Reasoning.{reasons_put, waiting_stays}
use Rattle.sms_worker.proofs.Rising.{order_tried}
use Rattle.sms_worker.proofs.Turning.{as_it_was, tried_so}
use Rattle.sms_worker.proofs.state.worker_state.WorkerState.attempt.Goals as goal

pub index-message-requires : goal.index-message-requires
index-message-requires g c =
    let low = turn_message _ _ _ _ _ _ _ _ c.args.place c.self.invariant.keeps _ (subst (λ (x : RunState). HasTurn x.ends x.next c.args.place) (sym c.self.view_is) c.requires.turn) in
    omega arith

pub index-requires : goal.index-requires
index-requires g c =
    let kept = turn_kept _ _ _ _ _ _ _ _ c.args.place c.self.invariant.keeps _ (subst (λ (x : RunState). HasTurn x.ends x.next c.args.place) (sym c.self.view_is) c.requires.turn) in
    let low = subst (λ n. c.args.place.message < n) (length-map c.self.inside.pending.items data_in) kept in
    omega arith

pub give-requires : goal.give-requires
give-requires g c = record { like = like_taken c.self.inside.tally.ends c.take.new.self.ends c.args.place c.in-Some.segment c.in-Some.segment c.in-Some.ensures.out refl refl }

pub invariant_of-self-then-not-is_waiting : goal.invariant_of-self-then-not-is_waiting
invariant_of-self-then-not-is_waiting g c =
    let i = c.self.invariant in
    let back = tally_same c.self.inside.tally c.take.new.self c.give.new.self c.args.place c.in-Some.segment c.in-Some.segment c.in-Some.ensures.out c.take.ensures.only c.give.ensures refl in
    record { keeps = rw back i.keeps; handed = rw back i.handed; closing = rw back i.closing; credit = rw back i.credit; reasons = rw back i.reasons; order = rw back i.order; ends_fit = rw back i.ends_fit; pending_fit = i.pending_fit; opened_fit = i.opened_fit }

pub give-requires-2 : goal.give-requires-2
give-requires-2 g c = record { like = like_taken c.self.inside.tally.ends c.take.new.self.ends c.args.place c.in-Some.segment (record { cost = c.in-Some.segment.cost; attempts = c.new.result; outcome = c.in-Some.segment.outcome }) c.in-Some.ensures.out refl refl }

pub invariant_of-self-2 : goal.invariant_of-self-2
invariant_of-self-2 g c =
    let i = c.self.invariant in
    let turn = subst (λ (x : RunState). HasTurn x.ends x.next c.args.place) (sym c.self.view_is) c.requires.turn in
    let low : c.args.place.message < length c.self.inside.messages.items = turn_message _ _ _ _ _ _ _ _ c.args.place i.keeps _ turn in
    let there : slice_get c.self.inside.messages.items c.args.place.message ≡ Some c.index-message.result.now = slice_get-get_or c.self.inside.messages.items c.args.place.message c.index-message.result.now low ∙ ap Some (sym c.index-message.ensures) in
    let s = c.in-Some.segment in
    let at = c.in-Some.ensures.out.0 in
    let told = told_there _ _ _ _ _ _ _ _ _ _ c.index-message.result.now s i.keeps there at in
    let waits = c.is_waiting.ensures.waiting g.C.WorkerStart.start.rules.policy.attempts told.state (search rules) in
    let k = c.args.place.message in
    let p = c.args.place.part in
    let pending_low : k < length c.self.inside.pending.items = subst (λ n. k < n) (length-map c.self.inside.pending.items data_in) (turn_kept _ _ _ _ _ _ _ _ c.args.place i.keeps _ turn) in
    let kept : slice_get (map data_in c.self.inside.pending.items) k ≡ Some (data_in c.index.result.now) = slice_get-map data_in c.self.inside.pending.items k ∙ ap (option_map data_in) (slice_get-get_or c.self.inside.pending.items k c.index.result.now pending_low ∙ ap Some (sym c.index.ensures)) in
    let got = c.in-Ok.ensures.there in
    let part = part_there g.C.WorkerStart.start.rules g.C.WorkerStart.start.messages (map data_in c.self.inside.pending.items) k p c.index-message.result.now (data_in c.index.result.now) c.in-Ok.user_data.now i.keeps.pending_kept (ap (λ l. slice_get l k) (sym i.keeps.messages) ∙ there) kept got in
    let s' : SegmentEnd = record { cost = s.cost; attempts = c.new.result; outcome = s.outcome } in
    let es = c.self.inside.tally.ends in
    let back = tally_given c.self.inside.tally c.take.new.self c.give-2.new.self c.args.place s s' c.in-Some.ensures.out c.take.ensures.only c.give-2.ensures in
    let was = c.into_vec-attempts.ensures in
    let now = c.new.ensures in
    let tries = c.start-tried.ensures.tried part.part part.content in
    let tried = subst (λ (l : List Attempt). Tries c.args.context.now.rules.now c.index-message.result.now part.part c.self.inside.seat.view s.attempts c.start-tried.result c.start-tried.new.seat.view l) (sym now)
    (subst (λ (l : List Attempt). Tries c.args.context.now.rules.now c.index-message.result.now part.part c.self.inside.seat.view l c.start-tried.result c.start-tried.new.seat.view c.start-tried.new.attempts.items) was tries) in
    let hands = subst (λ (l : List Attempt). HandsOn s.attempts l c.self.inside.requests c.start-tried.new.requests) (sym now)
    (subst (λ (l : List Attempt). HandsOn l c.start-tried.new.attempts.items c.self.inside.requests c.start-tried.new.requests) was c.start-tried.ensures.handed) in
    let slots = c.start-tried.ensures.open g.C.WorkerStart.start.seat.view.slots i.keeps.slots in
    record {
      keeps = rw back (keeps_tried _ c.args.context.now.rules.now _ es (put es k p s') _ _ c.start-tried.new.opened.items _ c.start-tried.new.seat c.self.inside.tally.share _ k p c.index-message.result.now part.part s s' c.start-tried.result i.keeps c.requires.rules there part.there at waits tried refl refl c.start-tried.ensures.window slots refl (length-put es k p s'));
      handed = rw back (handed_on _ _ c.start-tried.new.requests _ es k p c.index-message.result.now s s' i.handed (ap (λ l. slice_get l k) (sym i.keeps.messages) ∙ there) at hands);
      closing = rw back (closes_put _ es k p s' i.closing);
      credit = rw back (credit_put k p s' i.credit refl);
      reasons = rw back (reasons_put k p s' i.reasons (waiting_stays g.C.WorkerStart.start.rules.policy.attempts s' waits.outcome));
      order = rw back (order_tried c.args.context.now.rules.now c.index-message.result.now part.part g.C.WorkerStart.start.seat.view c.self.inside.seat.view c.start-tried.new.seat.view g.C.WorkerStart.start.messages es _ c.args.place s s' c.start-tried.result c.self.inside.next c.self.inside.opened.items c.start-tried.new.opened.items c.self.inside.queues.all c.self.inside.pending.items i.keeps.shape.within i.keeps.numbers at tried turn c.start-tried.ensures.opened refl i.order);
      ends_fit = rw back i.ends_fit;
      pending_fit = i.pending_fit;
      opened_fit = (let r = i.opened_fit in let e = c.start-tried.ensures.fit in omega arith);
    }

pub returns-then-not-is_waiting : goal.returns-then-not-is_waiting
returns-then-not-is_waiting g c =
    let same = ap (λ (t : TallyState). t.ends) (tally_same c.self.inside.tally c.take.new.self c.give.new.self c.args.place c.in-Some.segment c.in-Some.segment c.in-Some.ensures.out c.take.ensures.only c.give.ensures refl) in
    let i = c.self.invariant in
    let turn = subst (λ (x : RunState). HasTurn x.ends x.next c.args.place) (sym c.self.view_is) c.requires.turn in
    let low : c.args.place.message < length c.self.inside.messages.items = turn_message _ _ _ _ _ _ _ _ c.args.place i.keeps _ turn in
    let there : slice_get c.self.inside.messages.items c.args.place.message ≡ Some c.index-message.result.now = slice_get-get_or c.self.inside.messages.items c.args.place.message c.index-message.result.now low ∙ ap Some (sym c.index-message.ensures) in
    let at = c.in-Some.ensures.out.0 in
    let told = told_there _ _ _ _ _ _ _ _ _ _ c.index-message.result.now c.in-Some.segment i.keeps there at in
    let settled = c.is_waiting.ensures.settled g.C.WorkerStart.start.rules.policy.attempts told.state (search rules) in
    record {
      replies = ap (λ (x : RunState). x.replies) c.self.view_is;
      tried = tt;
      over = λ _. (as_it_was _ _ c.self.view_is c.give.new.self.ends same, subst (λ (x : RunState). IsOver g.C.WorkerStart.start.rules.policy.attempts c.args.place x.ends) c.self.view_is (inr (c.in-Some.segment, at, settled)));
    }

pub returns : goal.returns
returns g c =
    let i = c.self.invariant in
    let turn = subst (λ (x : RunState). HasTurn x.ends x.next c.args.place) (sym c.self.view_is) c.requires.turn in
    let low : c.args.place.message < length c.self.inside.messages.items = turn_message _ _ _ _ _ _ _ _ c.args.place i.keeps _ turn in
    let there : slice_get c.self.inside.messages.items c.args.place.message ≡ Some c.index-message.result.now = slice_get-get_or c.self.inside.messages.items c.args.place.message c.index-message.result.now low ∙ ap Some (sym c.index-message.ensures) in
    let s = c.in-Some.segment in
    let at = c.in-Some.ensures.out.0 in
    let k = c.args.place.message in
    let p = c.args.place.part in
    let pending_low : k < length c.self.inside.pending.items = subst (λ n. k < n) (length-map c.self.inside.pending.items data_in) (turn_kept _ _ _ _ _ _ _ _ c.args.place i.keeps _ turn) in
    let kept : slice_get (map data_in c.self.inside.pending.items) k ≡ Some (data_in c.index.result.now) = slice_get-map data_in c.self.inside.pending.items k ∙ ap (option_map data_in) (slice_get-get_or c.self.inside.pending.items k c.index.result.now pending_low ∙ ap Some (sym c.index.ensures)) in
    let got = c.in-Ok.ensures.there in
    let part = part_there g.C.WorkerStart.start.rules g.C.WorkerStart.start.messages (map data_in c.self.inside.pending.items) k p c.index-message.result.now (data_in c.index.result.now) c.in-Ok.user_data.now i.keeps.pending_kept (ap (λ l. slice_get l k) (sym i.keeps.messages) ∙ there) kept got in
    let s' : SegmentEnd = record { cost = s.cost; attempts = c.new.result; outcome = s.outcome } in
    let is = ap (λ (t : TallyState). t.ends) (tally_given c.self.inside.tally c.take.new.self c.give-2.new.self c.args.place s s' c.in-Some.ensures.out c.take.ensures.only c.give-2.ensures) in
    let was = c.into_vec-attempts.ensures in
    let now = c.new.ensures in
    let tries = c.start-tried.ensures.tried part.part part.content in
    let tried = subst (λ (l : List Attempt). Tries c.args.context.now.rules.now c.index-message.result.now part.part c.self.inside.seat.view s.attempts c.start-tried.result c.start-tried.new.seat.view l) (sym now)
    (subst (λ (l : List Attempt). Tries c.args.context.now.rules.now c.index-message.result.now part.part c.self.inside.seat.view l c.start-tried.result c.start-tried.new.seat.view c.start-tried.new.attempts.items) was tries) in
    record {
      replies = ap (λ (x : RunState). x.replies) c.self.view_is;
      tried = tried_so c.args.context.now.rules.now c.index-message.result.now part.part c.self.inside.seat.view c.start-tried.new.seat.view _ _ c.self.view_is c.give-2.new.self.ends c.start-tried.new.opened.items c.args.place s s' at is refl refl c.start-tried.result tried c.start-tried.ensures.opened;
      over = λ none. absurd (cc);
    }

pub start-tried-requires-clause-same_window : goal.start-tried-requires-clause-same_window
start-tried-requires-clause-same_window g c = c.self.invariant.keeps.window ∙ sym c.requires.window

pub start-tried-requires-clause-addresses : goal.start-tried-requires-clause-addresses
start-tried-requires-clause-addresses g c =
    let i = c.self.invariant in
    let turn = subst (λ (x : RunState). HasTurn x.ends x.next c.args.place) (sym c.self.view_is) c.requires.turn in
    let low : c.args.place.message < length c.self.inside.messages.items = turn_message _ _ _ _ _ _ _ _ c.args.place i.keeps _ turn in
    let there : slice_get c.self.inside.messages.items c.args.place.message ≡ Some c.index-message.result.now = slice_get-get_or c.self.inside.messages.items c.args.place.message c.index-message.result.now low ∙ ap Some (sym c.index-message.ensures) in
    has_addresses _ _ _ _ c.args.place.message c.args.place.part c.index-message.result.now c.in-Some.segment i.keeps.shape (ap (λ l. slice_get l c.args.place.message) (sym i.keeps.messages) ∙ there) c.in-Some.ensures.out.0
