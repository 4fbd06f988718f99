-- What a reply does that is applied to its request, from what its steps promise.
use Rattle.std.proofs.Common.{◌≡◌, ℕ, suc, ◌+◌, ◌-◌, ◌≤◌, ◌⊎◌, List, [], ◌∷◌, ◌++◌, Some, refl, sym, ap, ◌∙◌, subst, arith}
use Rattle.std.specs.Prelude.{◌==◌, position, slice_get}
use Rattle.sms_pdu.specs.declared.reply.Reply.{Reply}
use Rattle.sms_session.specs.declared.policy.Decision.{Decision}
use Rattle.sms_session.specs.declared.policy.Decision.TheVariants.{Charge, Refuse, RetryAfter}
use Rattle.sms_session.specs.Decisions.{decided}
use Rattle.sms_worker.specs.declared.steps.replies.ReplyOutcome.{ReplyOutcome}
use Rattle.sms_worker.specs.Types.{MessageEnd, SegmentEnd}
use Rattle.sms_worker.specs.declared.steps.replies.ReplyOutcome.TheVariants as applied
use Rattle.sms_worker.specs.declared.steps.replies.ReplyOutcome.TheVariants.{Settled, Retried}
use Rattle.sms_worker.specs.declared.steps.replies.Dropped.{Dropped}
use Rattle.sms_slot.specs.declared.row.NotAnswered.{NotAnswered}
use Rattle.sms_slot.specs.Slot.{IsNotAnswered}
use Rattle.sms_worker.specs.declared.steps.replies.Dropped.TheVariants as why
use Rattle.sms_worker.specs.declared.state.open.Open.{Open}
use Rattle.sms_worker.specs.declared.state.open.SegmentPlace.{SegmentPlace}
use Rattle.sms_worker.specs.declared.steps.timestamp.Timestamp.{Timestamp}
use Rattle.sms_message.specs.declared.rules.Rules.{Rules}
use Rattle.sms_message.specs.Ends.{segment_at}
use Rattle.sms_worker.specs.Expiry.{without_open}
use Rattle.sms_worker.specs.Replies.{AreApplied, Applies, IsApplied, IsDropped}
use Rattle.sms_worker.specs.Queues.{WaitsLast, due_after}
use Rattle.sms_worker.specs.RunState.{RunState}
use Rattle.sms_worker.specs.Steps.{Expects, ExpectsAt, SettlesTo}
use Rattle.sms_worker.specs.PendingState.{changed, settled_one}

-- the request was closed, and its segment's end changed
module _ (rules : Rules) (reply : Reply) (a b c : RunState) (i : ℕ) (closed : b ≡ without_open i a) (ends : c ≡ record b { ends = c.ends }) where
  pending_are : c.pending ≡ a.pending
  pending_are = ap (λ (x : RunState). x.pending) ends ∙ ap (λ (x : RunState). x.pending) closed

  queues_are : c.queues ≡ a.queues
  queues_are = ap (λ (x : RunState). x.queues) ends ∙ ap (λ (x : RunState). x.queues) closed

  module _ (d : RunState) (request : Open) (n : ℕ) (decision : Decision) (found : position (λ o. o.number == reply.number) a.opened ≡ Some i) (there : slice_get a.opened i ≡ Some request) (settles : SettlesTo b.ends request.place n decision c.ends) (is : decision ≡ decided reply n rules.policy.attempts rules.policy.base_ms) (same : d.ends ≡ c.ends) (opened : d.opened ≡ c.opened) where
    brings : (e : Decision) → decision ≡ e → Applies rules reply e a d
    brings e eq = record {
      i = i;
      request = request;
      found = found;
      there = there;
      opened = opened ∙ ap (λ (x : RunState). x.opened) ends ∙ ap (λ (x : RunState). x.opened) closed;
      attempts = n;
      is = sym eq ∙ is;
      settles = subst (λ x. SettlesTo a.ends request.place n x d.ends) eq (subst (λ l. SettlesTo l request.place n decision d.ends) (ap (λ (x : RunState). x.ends) closed) (subst (λ l. SettlesTo b.ends request.place n decision l) (sym same) settles));
    }

    pub retried : (at : Timestamp) → ((ms : ℕ) × (decision ≡ RetryAfter ms) × (1 ≤ n → n ≤ 10 → WaitsLast c.pending c.queues (n - 1) (record { place = request.place; due_ms = due_after at.at_ms ms }) d.pending d.queues)) → IsApplied rules reply (Retried at) a d
    unfolding brings
    retried at (ms, retry, waits) = (ms, brings (RetryAfter ms) retry, λ some few. subst (λ t. WaitsLast t a.queues (n - 1) (record { place = request.place; due_ms = due_after at.at_ms ms }) d.pending d.queues) pending_are (subst (λ q. WaitsLast c.pending q (n - 1) (record { place = request.place; due_ms = due_after at.at_ms ms }) d.pending d.queues) queues_are (waits some few)))

    pub settled : (decision ≡ Charge) ⊎ (decision ≡ Refuse) → d ≡ record c { pending = changed settled_one c.pending request.place.message } → IsApplied rules reply Settled a d
    unfolding brings
    settled final now = (decision, brings decision refl, final, ap (λ (x : RunState). x.pending) now ∙ ap (λ t. changed settled_one t request.place.message) pending_are, ap (λ (x : RunState). x.queues) now ∙ queues_are)

-- a reply that was noted before
again : (rules : Rules) (reply : Reply) (d : Decision) (a c : RunState) (replies : List Reply) → Applies rules reply d (record a { replies = replies }) c → Applies rules reply d a c
again rules reply d a c replies b = record { i = b.i; request = b.request; found = b.found; there = b.there; opened = b.opened; attempts = b.attempts; is = b.is; settles = b.settles }

dropped_again : (reply : Reply) (did : Dropped) (a c : RunState) (replies : List Reply) → IsDropped reply did (record a { replies = replies }) c → IsDropped reply did a c
dropped_again reply why.NoneOpen a c replies h = h
dropped_again reply (why.NotAnswered told) a c replies (same, (i, request, first, lacks)) = (same, (i, request, record { found = first.found; there = first.there }, lacks))
dropped_again reply why.NotAwaited a c replies (i, request, first, left, deny) = (i, request, record { found = first.found; there = first.there }, left, deny)

noted : (rules : Rules) (reply : Reply) (did : ReplyOutcome) (a c : RunState) (replies : List Reply) → IsApplied rules reply did (record a { replies = replies }) c → IsApplied rules reply did a c
unfolding again
noted rules reply (applied.Dropped did) a c replies h = dropped_again reply did a c replies h
noted rules reply Settled a c replies (d, b, final, pending, queues) = (d, again rules reply d a c replies b, final, pending, queues)
noted rules reply (Retried at) a c replies (ms, b, waits) = (ms, again rules reply (RetryAfter ms) a c replies b, waits)

pub noted_first : (rules : Rules) (reply : Reply) (did : ReplyOutcome) (a b c : RunState) (replies : List Reply) → b ≡ record a { replies = replies } → IsApplied rules reply did b c → IsApplied rules reply did a c
noted_first rules reply did a b c replies look h = noted rules reply did a c replies (subst (λ x. IsApplied rules reply did x c) look h)

-- one reply more
pub one_applied : (rules : Rules) (reply : Reply) (did : ReplyOutcome) (n : ℕ) (a b c : RunState) → AreApplied rules n a b → c.replies ≡ b.replies ++ reply ∷ [] → IsApplied rules reply did b c → AreApplied rules (n + 1) a c
one_applied rules reply did n a b c before replies applied =
    let next : suc n ≡ n + 1 = omega arith in
    subst (λ k. AreApplied rules k a c) next (b, reply, did, before, replies, applied)

-- the segment at the place is this one, whose last attempt doesn't wait for the reply
pub not_expected_at : (es : List MessageEnd) (place : SegmentPlace) (s : SegmentEnd) (reply : Reply) → segment_at es place.message place.part ≡ Some s → (Expects s reply → ⊥) → ExpectsAt es place reply → ⊥
not_expected_at es place s reply at deny (other, there, expects) =
    let same : other ≡ s = (let e : Some other ≡ Some s = sym there ∙ at in cc) in
    deny (subst (λ x. Expects x reply) same expects)

-- a reply was dropped whose request is this one: its slot had no answer to it
pub unanswered_at : (reply : Reply) (told : NotAnswered) (a : RunState) (i : ℕ) (request : Open) → position (λ o. o.number == reply.number) a.opened ≡ Some i → slice_get a.opened i ≡ Some request → IsNotAnswered request.slot request.number told → IsDropped reply (why.NotAnswered told) a a
unanswered_at reply told a i request found there lacks = (refl, (i, request, record { found = found; there = there }, lacks))

-- or the last attempt of its segment doesn't wait for it
pub dropped_at : (reply : Reply) (a b c : RunState) (i : ℕ) (request : Open) → position (λ o. o.number == reply.number) a.opened ≡ Some i → slice_get a.opened i ≡ Some request → b ≡ without_open i a → c ≡ record b { ends = c.ends } → c.ends ≡ b.ends → (ExpectsAt b.ends request.place reply → ⊥)
    → IsDropped reply why.NotAwaited a c
dropped_at reply a b c i request found there closed ends same deny =
    let left : c ≡ b = ends ∙ ap (λ l. record b { ends = l }) same in
    let is : c ≡ without_open i a = left ∙ closed in
    (i, request, record { found = found; there = there }, is ∙ ap (λ l. record (without_open i a) { replies = l }) (sym (ap (λ (x : RunState). x.replies) is)), subst (λ (x : RunState). ExpectsAt x.ends request.place reply → ⊥) closed deny)
