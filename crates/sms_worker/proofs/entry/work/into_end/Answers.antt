use Rattle.std.proofs.Common.{◌≡◌, [], length, ap, sym, subst, ◌∙◌}
use Rattle.rtrb.specs.Ring.{received}
use Rattle.sms_worker.specs.Apart.{PlacesApart}
use Rattle.sms_worker.specs.Credit.{IsCovered}
use Rattle.sms_worker.specs.RunState.{RunState}
use Rattle.sms_worker.specs.Sweeps.{SettledTo}
use Rattle.sms_worker.specs.Told.{AllTold}
use Rattle.sms_worker.proofs.Apartness.{numbers_apart, places_apart}
use Rattle.sms_worker.proofs.Changes.{drew_unused}
use Rattle.sms_worker.proofs.Frames.{are_handed}
use Rattle.sms_worker.proofs.Credit.{zip_of_each}
use Rattle.sms_worker.proofs.EndsOf.{ends_of}
use Rattle.sms_worker.proofs.Closing.{not_shut}
use Rattle.sms_worker.proofs.ReasonsOf.{all_have}
use Rattle.sms_worker.proofs.Sweeping.{settled_all}
use Rattle.sms_worker.proofs.entry.work.into_end.Goals as goal

pub release_all-requires-clause-open : goal.release_all-requires-clause-open
release_all-requires-clause-open g c = (g.C.WorkerStart.start.seat.view.slots, c.state.invariant.keeps.slots)

pub returns-clause-worked : goal.returns-clause-worked
returns-clause-worked g c =
    let start = g.C.WorkerStart.start in
    let most = start.rules.policy.attempts in
    let i = c.state.invariant in
    let es = c.state.inside.tally.ends in
    let parts = c.into_parts-shares.ensures in
    let got = received c.state.inside.replies.value in
    let same = ap (λ (x : RunState). x.ends) c.state.view_is in
    let heard = ap (λ (x : RunState). x.replies) c.state.view_is ∙ c.requires.replies in
    let all : length es ≡ length start.messages = ap length same ∙ c.requires.all in
    let settled : SettledTo most (length start.messages) 0 es = subst (SettledTo most (length start.messages) 0) (sym same) c.requires.settled in
    let drew = drew_unused start.seat.view _ c.release_all.new.seat.view [] start.messages es i.keeps.numbers c.release_all.ensures.numbers in
    record {
      each = rw parts.ends (ends_of start.rules (length start.share.amounts) (length start.received) got start.messages es all i.keeps.shape i.keeps.ends (settled_all most es (subst (λ n. SettledTo most n 0 es) (sym all) settled)));
      closed = rw parts.ends (i.closing.stays);
      why = rw parts.ends (λ none. i.closing.open_yet (not_shut c.state.inside.closed c.state.inside.stop (c.into_cause-closed.ensures.none none)));
      seen = c.into_cause-closed.ensures.seen;
      reasons = rw parts.ends (all_have start.rules (length start.share.amounts) start.rules.policy.attempts start.messages es c.state.inside.closed _ c.state.inside.reasons i.keeps.shape all c.into_cause-closed.ensures.shut i.reasons);
      rising = rw parts.ends (i.order.rise);
      answers = rw parts.ends (subst (λ h. AllTold start.rules (length start.received) h start.messages es) heard i.keeps.ends);
      numbers = rw parts.ends (drew);
      apart = rw parts.ends (numbers_apart start.seat.view c.release_all.new.seat.view start.messages es i.keeps.shape.within drew);
      places = rw parts.ends (subst (λ h. PlacesApart h es) heard (places_apart start.rules (length start.received) got start.seat.view c.release_all.new.seat.view start.messages es i.keeps.shape.within drew i.keeps.ends));
      handed = rw parts.ends (are_handed _ _ start.messages es i.keeps.shape.within i.handed);
      credits = rw (parts.ends, parts.share) i.keeps.money;
      lacking = rw (parts.ends, parts.share) i.credit.lacking;
      covered = rw parts.ends (λ sealed. zip_of_each (IsCovered g.N.BookName.book.opening start.rules) start.messages es all (i.credit.covered sealed));
      slots = (c.release_all.ensures.slots start.seat.view.slots i.keeps.slots, c.release_all.ensures.window ∙ i.keeps.window);
      number = rw parts.share i.keeps.number;
      replies = (i.keeps.replies_more.0, sym heard ∙ i.keeps.replies_more.1);
    }
