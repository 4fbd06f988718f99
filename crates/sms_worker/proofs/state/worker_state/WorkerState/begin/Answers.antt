use Rattle.std.proofs.Common.{◌≡◌, ◌<◌, ◌∷◌, ◌++◌, [], length, length-append, Some, sym, ap, ◌∙◌, subst, rules, arith}
use Rattle.std.specs.Prelude.{◌||◌, IsTrue, slice_get}
use Rattle.std.proofs.lemmas.Option.{slice_get-get_or}
use Rattle.sms_message.specs.declared.rules.Rules.{Rules}
use Rattle.sms_worker.specs.Begins.{HasBegun}
use Rattle.sms_worker.specs.PendingState.{data_in}
use Rattle.sms_worker.specs.RunState.{RunState}
use Rattle.sms_worker.proofs.Beginnings.{closed_if_begun, keeps_begun}
use Rattle.sms_worker.proofs.Handing.{handed_begun}
use Rattle.sms_worker.proofs.Pending.{map_more}
use Rattle.sms_worker.proofs.Closing.{closes_more, closes_stays, shut_stays}
use Rattle.sms_worker.proofs.Credit.{credit_begun}
use Rattle.sms_worker.proofs.Reasoning.{grows_message, message_explained, reasons_begun}
use Rattle.sms_worker.proofs.Rising.{order_begun}
use Rattle.sms_worker.proofs.state.worker_state.WorkerState.begin.Goals as goal

pub permission-permit-requires : goal.permission-permit-requires
permission-permit-requires g c =
    let i = c.self.invariant in
    let n = length c.ends-place.result.now in
    let low : n < length c.self.inside.messages.items = search rules in
    record { given = (n, ap (λ l. slice_get l n) (sym i.keeps.messages) ∙ slice_get-get_or c.self.inside.messages.items n c.index-message.result.now low ∙ ap Some (sym c.index-message.ensures)) }

pub begun-pending-requires : goal.begun-pending-requires
begun-pending-requires g c =
    let i = c.self.invariant in
    let n = length c.ends-place.result.now in
    let at : n ≡ length c.self.inside.tally.ends = ap length c.ends-place.ensures.ends in
    let low : n < length c.self.inside.messages.items = search rules in
    let room = i.ends_fit in
    let there = ap (slice_get c.self.inside.messages.items) (sym at) ∙ slice_get-get_or c.self.inside.messages.items n c.index-message.result.now low ∙ ap Some (sym c.index-message.ensures) in
    record { next = ap (λ l. slice_get l (length c.self.inside.tally.ends)) (sym i.keeps.messages) ∙ there; room = omega arith; permit = c.permission-permit.ensures.may }

pub bounds-ends-place : goal.bounds-ends-place
bounds-ends-place g c =
    let at : length c.ends-place.result.now ≡ length c.self.inside.tally.ends = ap length c.ends-place.ensures.ends in
    let b = c.begun-pending.ensures.begun in
    let more = length-append c.self.inside.tally.ends (b.end ∷ []) in
    let long = ap length b.ends in
    let now = ap length c.ends.ensures.ends in
    omega arith

pub invariant_of-self : goal.invariant_of-self
invariant_of-self g c =
    let i = c.self.invariant in
    let n = length c.ends-place.result.now in
    let es = c.self.inside.tally.ends in
    let m = c.index-message.result.now in
    let at : n ≡ length es = ap length c.ends-place.ensures.ends in
    let low' : n < length c.self.inside.messages.items = search rules in
    let low : length es < length c.self.inside.messages.items = subst (λ k. k < length c.self.inside.messages.items) at low' in
    let there = ap (slice_get c.self.inside.messages.items) (sym at) ∙ slice_get-get_or c.self.inside.messages.items n m low' ∙ ap Some (sym c.index-message.ensures) in
    let b = subst (λ (x : Rules). HasBegun g.N.BookName.book x m c.permission-permit.result c.self.inside.tally c.begun-pending.new.tally c.begun-pending.result.0 c.begun-pending.result.1) c.requires.rules c.begun-pending.ensures.begun in
    let there' = ap (λ l. slice_get l (length es)) (sym i.keeps.messages) ∙ there in
    let closed = c.self.inside.closed in
    let stop = c.permission-permit.new.stop in
    let done = keeps_begun _ _ es _ _ _ c.self.inside.tally.share c.begun-pending.new.tally.share _ m (data_in c.begun-pending.result.0) b.end i.keeps there low b.begins in
    record {
      keeps = rw (c.push_reserved.ensures.items, b.ends, map_more data_in c.self.inside.pending.items c.begun-pending.result.0) done;
      handed = rw b.ends (handed_begun _ _ _ es m b.end _ b.begins.count i.handed there' b.begins.segments);
      closing = rw b.ends (closes_more (closed || stop) es b.end (closes_stays (closed || c.self.inside.stop) (closed || stop) es (shut_stays closed closed c.self.inside.stop stop (λ on. on) c.permission-permit.ensures.stays) i.closing)
          (λ is. c.permission-permit.ensures.none (b.closed is)) (λ on. b.if_none (c.permission-permit.ensures.some on)));
      credit = rw b.ends (credit_begun es c.self.inside.tally.share c.begun-pending.new.tally.share m (data_in c.begun-pending.result.0) b.end i.credit there' b.begins b.credit b.covered);
      reasons = rw b.ends (reasons_begun b.end m _ b.begins.count i.reasons there' b.begins.segments (grows_message c.self.inside.reasons c.list_message.new.reasons c.begun-pending.result.1 c.list_message.ensures.none c.list_message.ensures.some)
          (λ out. message_explained c.self.inside.reasons c.list_message.new.reasons m.index c.begun-pending.result.1 c.list_message.ensures.some (b.memory out)));
      order = rw (b.ends, c.push_reserved.ensures.items) (order_begun es b.end c.self.inside.pending.items c.begun-pending.result.0 _ b.begins.count b.begins.segments c.self.inside.next c.self.inside.opened.items c.self.inside.queues.all c.begun-pending.ensures.unlinked i.order);
      ends_fit = rw b.room i.ends_fit;
      pending_fit = (let r = i.pending_fit in let e = c.push_reserved.ensures.capacity in omega arith);
      opened_fit = i.opened_fit;
    }

pub returns-clause-closed : goal.returns-clause-closed
returns-clause-closed g c end is closed =
    let b = c.begun-pending.ensures.begun in
    subst (λ (x : RunState). IsTrue (x.closed || c.permission-permit.new.stop)) c.self.view_is
    (c.permission-permit.ensures.none (b.closed (closed_if_begun c.self.inside.tally.ends b.end end (sym b.ends ∙ is ∙ ap (λ (x : RunState). x.ends ++ end ∷ []) (sym c.self.view_is)) closed)))

pub returns-clause-stopped : goal.returns-clause-stopped
returns-clause-stopped g c on = c.permission-permit.ensures.stays (subst (λ (x : RunState). IsTrue x.stopped) (sym c.self.view_is) on)

pub returns-clause-more : goal.returns-clause-more
returns-clause-more g c is =
    let b = c.begun-pending.ensures.begun in
    let same = ap (λ (x : RunState). length x.ends) c.self.view_is in
    let at : length c.ends-place.result.now ≡ length c.self.inside.tally.ends = ap length c.ends-place.ensures.ends in
    let low : length c.ends-place.result.now < length c.self.inside.messages.items = search rules in
    let all = ap length c.self.invariant.keeps.messages in
    let more = length-append c.self.inside.tally.ends (b.end ∷ []) in
    let long = ap length b.ends in
    (omega arith, omega arith)
