use Rattle.std.proofs.Common.{◌≡◌, ◌<◌, List, length, Some, sym, ap, ◌∙◌, refl, subst, rules}
use Rattle.std.specs.Prelude.{◌==◌, position, slice_get}
use Rattle.std.proofs.lemmas.Option.{slice_get-get_or}
use Rattle.sms_window.proofs.OpenSlots.{one_less_at}
use Rattle.sms_worker.specs.Types.{MessageEnd}
use Rattle.sms_worker.specs.declared.state.open.Open.{Open}
use Rattle.sms_worker.specs.Rising.{WasSent}
use Rattle.sms_worker.specs.RunState.{RunState}
use Rattle.sms_worker.specs.Told.{HeardSince}
use Rattle.sms_worker.proofs.Finding.{newly_waits}
use Rattle.sms_worker.proofs.Replies.{dropped_at, retried, settled, unanswered_at}
use Rattle.sms_worker.proofs.state.worker_state.WorkerState.apply_reply.Goals as goal

pub take_answer-requires : goal.take_answer-requires
take_answer-requires g c =
    let opened = c.self.inside.opened.items in
    let low : c.in-Some.i < length opened = search rules in
    let at : slice_get opened (c.in-Some.i) ≡ Some c.index-open.result.now = slice_get-get_or opened (c.in-Some.i) c.index-open.result.now low ∙ ap Some (sym c.index-open.ensures) in
    record { slot = (one_less_at (λ (x : Open). x.slot) _ _ opened (c.in-Some.i) c.index-open.result.now c.self.invariant.keeps.slots at).within }

pub close-requires : goal.close-requires
close-requires g c =
    let low : c.in-Some.i < length c.self.inside.opened.items = search rules in
    record { window = c.requires.window; waits = subst (λ (x : RunState). c.in-Some.i < length x.opened) c.self.view_is low }

pub settle_answer-requires : goal.settle_answer-requires
settle_answer-requires g c =
    let opened = c.self.inside.opened.items in
    let low : c.in-Some.i < length opened = search rules in
    let at : slice_get opened (c.in-Some.i) ≡ Some c.index-open.result.now = slice_get-get_or opened (c.in-Some.i) c.index-open.result.now low ∙ ap Some (sym c.index-open.ensures) in
    let sent = c.self.invariant.order.opens c.in-Some.i c.index-open.result.now at in
    record {
      rules = c.requires.rules;
      replies = subst (λ l. HeardSince _ l c.args.reply) (sym c.close.ensures.replies) c.requires.replies;
      was_sent = subst (λ (l : List MessageEnd). WasSent l c.index-open.result.now.place) (ap (λ (x : RunState). x.ends) c.self.view_is ∙ sym c.close.ensures.ends) sent;
    }

pub returns-in-Some-follow-clause-waits : goal.returns-in-Some-follow-clause-waits
returns-in-Some-follow-clause-waits g c =
    newly_waits _ c.close.new.self.ends c.settle_answer.new.self.ends c.follow.new.self c.index-open.result.now.place _ _ c.in-Some-settle_answer.ensures.settled c.close.ensures.ends c.follow.ensures.unchanged.1 c.follow.ensures.waits

pub returns-in-Some-follow-clause-applied : goal.returns-in-Some-follow-clause-applied
returns-in-Some-follow-clause-applied g c =
    let opened = c.self.inside.opened.items in
    let low : c.in-Some.i < length opened = search rules in
    let at : slice_get opened (c.in-Some.i) ≡ Some c.index-open.result.now = slice_get-get_or opened (c.in-Some.i) c.index-open.result.now low ∙ ap Some (sym c.index-open.ensures) in
    let there = subst (λ (x : RunState). slice_get x.opened c.in-Some.i ≡ Some c.index-open.result.now) c.self.view_is at in
    let found : position (λ o. o.number == c.args.reply.number) opened ≡ Some c.in-Some.i = search rules in
    retried g.C.WorkerStart.start.rules c.args.reply c.args.self.now c.close.new.self c.settle_answer.new.self c.in-Some.i c.close.ensures.only c.settle_answer.ensures.only c.follow.new.self c.index-open.result.now _ _
    (subst (λ (x : RunState). position (λ o. o.number == c.args.reply.number) x.opened ≡ Some c.in-Some.i) c.self.view_is found) there c.in-Some-settle_answer.ensures.settled c.in-Some-settle_answer.ensures.decided c.follow.ensures.unchanged.1 c.follow.ensures.opened c.in-Some-follow.now c.in-Some-follow.ensures.due

pub returns-in-None-follow-clause-waits : goal.returns-in-None-follow-clause-waits
returns-in-None-follow-clause-waits g c =
    newly_waits _ c.close.new.self.ends c.settle_answer.new.self.ends c.follow.new.self c.index-open.result.now.place _ _ c.in-Some-settle_answer.ensures.settled c.close.ensures.ends c.follow.ensures.unchanged.1 c.follow.ensures.waits

pub returns-in-None-follow-clause-applied : goal.returns-in-None-follow-clause-applied
returns-in-None-follow-clause-applied g c =
    let opened = c.self.inside.opened.items in
    let low : c.in-Some.i < length opened = search rules in
    let at : slice_get opened (c.in-Some.i) ≡ Some c.index-open.result.now = slice_get-get_or opened (c.in-Some.i) c.index-open.result.now low ∙ ap Some (sym c.index-open.ensures) in
    let there = subst (λ (x : RunState). slice_get x.opened c.in-Some.i ≡ Some c.index-open.result.now) c.self.view_is at in
    let found : position (λ o. o.number == c.args.reply.number) opened ≡ Some c.in-Some.i = search rules in
    let over = c.follow.ensures.over (search rules) in
    settled g.C.WorkerStart.start.rules c.args.reply c.args.self.now c.close.new.self c.settle_answer.new.self c.in-Some.i c.close.ensures.only c.settle_answer.ensures.only c.follow.new.self c.index-open.result.now _ _
    (subst (λ (x : RunState). position (λ o. o.number == c.args.reply.number) x.opened ≡ Some c.in-Some.i) c.self.view_is found) there c.in-Some-settle_answer.ensures.settled c.in-Some-settle_answer.ensures.decided c.follow.ensures.unchanged.1 c.follow.ensures.opened over (c.follow.ensures.settled over)

pub returns-in-Err-clause-applied : goal.returns-in-Err-clause-applied
returns-in-Err-clause-applied g c =
    let opened = c.self.inside.opened.items in
    let low : c.in-Some.i < length opened = search rules in
    let at : slice_get opened (c.in-Some.i) ≡ Some c.index-open.result.now = slice_get-get_or opened (c.in-Some.i) c.index-open.result.now low ∙ ap Some (sym c.index-open.ensures) in
    let there = subst (λ (x : RunState). slice_get x.opened c.in-Some.i ≡ Some c.index-open.result.now) c.self.view_is at in
    let found : position (λ o. o.number == c.args.reply.number) opened ≡ Some c.in-Some.i = search rules in
    unanswered_at c.args.reply c.in-Err.no c.args.self.now c.in-Some.i c.index-open.result.now (subst (λ (x : RunState). position (λ o. o.number == c.args.reply.number) x.opened ≡ Some c.in-Some.i) c.self.view_is found) there c.in-Err.ensures.none

pub returns-in-None-clause-applied : goal.returns-in-None-clause-applied
returns-in-None-clause-applied g c =
    let opened = c.self.inside.opened.items in
    let low : c.in-Some.i < length opened = search rules in
    let at : slice_get opened (c.in-Some.i) ≡ Some c.index-open.result.now = slice_get-get_or opened (c.in-Some.i) c.index-open.result.now low ∙ ap Some (sym c.index-open.ensures) in
    let there = subst (λ (x : RunState). slice_get x.opened c.in-Some.i ≡ Some c.index-open.result.now) c.self.view_is at in
    let found : position (λ o. o.number == c.args.reply.number) opened ≡ Some c.in-Some.i = search rules in
    dropped_at c.args.reply c.args.self.now c.close.new.self c.settle_answer.new.self c.in-Some.i c.index-open.result.now (subst (λ (x : RunState). position (λ o. o.number == c.args.reply.number) x.opened ≡ Some c.in-Some.i) c.self.view_is found) there c.close.ensures.only c.settle_answer.ensures.only
    (c.in-None.ensures.none refl) (c.in-None.ensures.unasked refl)

pub returns-in-Some-follow-clause-closed : goal.returns-in-Some-follow-clause-closed
returns-in-Some-follow-clause-closed g c = c.follow.ensures.closed ∙ ap (λ (x : RunState). x.closed) c.settle_answer.ensures.only ∙ ap (λ (x : RunState). x.closed) c.close.ensures.only

pub returns-in-None-follow-clause-closed : goal.returns-in-None-follow-clause-closed
returns-in-None-follow-clause-closed g c = c.follow.ensures.closed ∙ ap (λ (x : RunState). x.closed) c.settle_answer.ensures.only ∙ ap (λ (x : RunState). x.closed) c.close.ensures.only

pub returns-in-None-clause-closed : goal.returns-in-None-clause-closed
returns-in-None-clause-closed g c = ap (λ (x : RunState). x.closed) c.settle_answer.ensures.only ∙ ap (λ (x : RunState). x.closed) c.close.ensures.only
