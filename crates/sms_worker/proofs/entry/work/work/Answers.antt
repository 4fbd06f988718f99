use Rattle.std.proofs.Common.{◌≤◌, [], refl, sym, ap, ◌∙◌, subst, map}
use Rattle.rtrb.specs.Ring.{received}
use Rattle.sms_worker.specs.PendingState.{data_in}
use Rattle.sms_worker.specs.Start.{Start}
use Rattle.sms_worker.proofs.Closing.{closes_none}
use Rattle.sms_worker.proofs.Credit.{credit_none}
use Rattle.sms_worker.proofs.Handing.{handed_none}
use Rattle.sms_worker.proofs.Keeping.{keeps_opening}
use Rattle.sms_worker.proofs.Reasoning.{reasons_none}
use Rattle.sms_worker.proofs.Rising.{order_opening}
use Rattle.sms_worker.proofs.entry.work.work.Goals as goal

pub invariant_of-state : goal.invariant_of-state
invariant_of-state g c =
    let r = c.ready.invariant in
    let given = c.ready.view_is in
    let start = c.requires.start in
    let messages = ap (λ r. r.messages) given ∙ ap (λ (s : Start). s.messages) start in
    let seat = ap (λ r. r.worker.seat) given ∙ ap (λ (s : Start). s.seat) start in
    let share = ap (λ r. r.worker.shares) given ∙ ap (λ (s : Start). s.share) start in
    let got = ap received c.of-replies.ensures ∙ ap (λ r. received r.worker.consumer) given ∙ ap (λ (s : Start). s.received) start in
    record {
      keeps = rw c.new.ensures (keeps_opening _ _ [] _ _ _ _ _ messages seat share got refl (ap (map data_in) r.no_pending) r.none_opened);
      handed = rw c.new.ensures (handed_none _ _ _ [] (ap (λ r. r.worker.requests) given ∙ ap (λ (s : Start). s.requests) start) refl);
      closing = rw c.new.ensures (closes_none _);
      credit = rw c.new.ensures (credit_none refl);
      reasons = rw (c.new.ensures, c.none.ensures) (reasons_none refl);
      order = rw c.new.ensures (order_opening [] 0 _ _ _ refl r.no_pending r.none_opened c.none-2.ensures);
      ends_fit = rw c.new.ensures r.ends_fit;
      pending_fit = r.pending_fit;
      opened_fit = subst (λ n. g.C.WorkerStart.start.rules.depth ≤ n) (sym (ap (λ r. r.room) given)) c.requires.room;
    }

pub new-requires : goal.new-requires
new-requires g c =
    let start = c.requires.start in
    record { share = ap (λ r. r.worker.shares) c.ready.view_is ∙ ap (λ (s : Start). s.share) start; empty = c.ready.invariant.no_ends }

pub not_yet-requires : goal.not_yet-requires
not_yet-requires g c = record { mark = ap (λ (s : Start). s.mark) c.requires.start }

pub take_turns-call_end-requires-clause-window : goal.take_turns-call_end-requires-clause-window
take_turns-call_end-requires-clause-window g c = c.requires.window

pub take_turns-call_end-requires-clause-rules : goal.take_turns-call_end-requires-clause-rules
take_turns-call_end-requires-clause-rules g c = ap (λ (s : Start). s.rules) c.requires.start

pub take_turns-call_end-requires-clause-replies : goal.take_turns-call_end-requires-clause-replies
take_turns-call_end-requires-clause-replies g c = ap received c.of-replies.ensures

pub finish-requires-clause-window : goal.finish-requires-clause-window
finish-requires-clause-window g c = c.requires.window

pub finish-requires-clause-rules : goal.finish-requires-clause-rules
finish-requires-clause-rules g c = ap (λ (s : Start). s.rules) c.requires.start

pub finish-requires-clause-end : goal.finish-requires-clause-end
finish-requires-clause-end g c = c.take_turns-call_end.ensures.closed

pub finish-requires-clause-replies : goal.finish-requires-clause-replies
finish-requires-clause-replies g c = c.take_turns-call_end.ensures.replies

pub into_end-end-requires : goal.into_end-end-requires
into_end-end-requires g c = record { window = c.requires.window; replies = c.finish.ensures.replies; all = c.finish.ensures.all; settled = c.finish.ensures.settled }

pub returns-clause-worked : goal.returns-clause-worked
returns-clause-worked g c = c.into_end-end.ensures.worked

pub returns-clause-ring : goal.returns-clause-ring
returns-clause-ring g c =
    let turns = c.take_turns-call_end.ensures.ring in
    let end = c.finish.ensures.ring in
    rw (sym c.ready.view_is, c.into_end-end.ensures.consumer)
    ((end.0.0 ∙ turns.0.0, end.0.1 ∙ turns.0.1, end.0.2 ∙ turns.0.2, end.0.3 ∙ turns.0.3), end.1 ∙ turns.1)
