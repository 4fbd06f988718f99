-- Why parts and messages were not sent, as a run goes on.
use Rattle.std.proofs.Common.{◌≡◌, ◌≢◌, ℕ, Bool, true, false, List, [], ◌∷◌, ◌++◌, length, Some, None, inl, inr, refl, sym, ap, ◌∙◌, subst, arith}
use Rattle.std.proofs.lemmas.Bool.{lt-ltb}
use Rattle.std.specs.Prelude.{◌⊎◌, ◌&&◌, if◌then◌else◌, IsTrue, Option, nat_lt, slice_get}
use Rattle.std.specs.List.{AllByRecursion}
use Rattle.sms_core.specs.Replies.{IsRetried, is_charge, is_retry}
use Rattle.sms_core.specs.Replies as core
use Rattle.sms_pdu.specs.declared.reply.Reply.{Reply}
use Rattle.sms_message.specs.declared.ends.MessageRefusal.{MessageRefusal}
use Rattle.sms_message.specs.declared.ends.MessageRefusal.TheVariants.{OutOfMemory}
use Rattle.sms_message.specs.declared.ends.MessageResult.TheVariants.{Refused, Sent}
use Rattle.sms_message.specs.declared.ends.Outcome.TheVariants as outcome
use Rattle.sms_message.specs.declared.ends.Outcome.TheVariants.{Unanswered, Unsent}
use Rattle.sms_message.specs.declared.message.Message.{Message}
use Rattle.sms_message.specs.Ends.{put, put_in, segments_in}
use Rattle.sms_session.specs.declared.policy.Decision.{Decision}
use Rattle.sms_session.specs.declared.policy.Decision.TheVariants.{Charge, Refuse, RetryAfter}
use Rattle.sms_session.specs.Decisions.{decided, delay}
use Rattle.sms_message.specs.Results.{answers, read_reply}
use Rattle.sms_worker.specs.Begins.{ready}
use Rattle.sms_worker.specs.declared.state.reasons.UnsentReason.{UnsentReason}
use Rattle.sms_worker.specs.declared.state.reasons.UnsentReason.TheVariants as reason
use Rattle.sms_worker.specs.declared.steps.give_up.GiveUpReason.{GiveUpReason}
use Rattle.sms_worker.specs.declared.steps.parts.NoMessageMemory.{NoMessageMemory}
use Rattle.sms_worker.specs.Reasons.{HasReason, HaveReasons, IsListed, LackedMemory, Lists, ReasonState, RestsOn, WasGivenUp}
use Rattle.sms_worker.specs.Steps.{Hears, outcome_after}
use Rattle.sms_worker.specs.Types.{Attempt, MessageEnd, MessageResult, SegmentEnd}
use Rattle.sms_worker.proofs.Tries.{all_front, answers_snoc, length-answers}
use Rattle.sms_worker.proofs.Beginnings.{got_ready}
use Rattle.sms_worker.proofs.EndLemmas.{end_of_put, get_last, get_more, got_of_append, got_of_more, got_of_put}

-- reasons that were had are had still
pub record Grows (old new : ReasonState) : Type 0 where
  pub parts : (index p : ℕ) → HasReason old index p → HasReason new index p
  pub messages : (index : ℕ) → LackedMemory old index → LackedMemory new index

pub grows_same : (old new : ReasonState) → new ≡ old → Grows old new
grows_same old new same = record { parts = λ index p has. subst (λ (r : ReasonState). HasReason r index p) (sym same) has; messages = λ index has. subst (λ (r : ReasonState). LackedMemory r index) (sym same) has }

more_listed : (x y : UnsentReason) (old : ReasonState) → IsListed y old → IsListed y (record old { listed = old.listed ++ x ∷ [] })
more_listed x y old (i, at) = (i, get_more old.listed x i y at)

more_parts : (x : UnsentReason) (old : ReasonState) (index p : ℕ) → HasReason old index p → HasReason (record old { listed = old.listed ++ x ∷ [] }) index p
more_parts x old index p (inl some) = inl some
more_parts x old index p (inr (why, listed)) = inr (why, more_listed x _ old listed)

more_messages : (x : UnsentReason) (old : ReasonState) (index : ℕ) → LackedMemory old index → LackedMemory (record old { listed = old.listed ++ x ∷ [] }) index
more_messages x old index (inl some) = inl some
more_messages x old index (inr (evidence, its, listed)) = inr (evidence, its, more_listed x _ old listed)

pub grows_listed : (x : UnsentReason) (old new : ReasonState) → Lists x old new → Grows old new
grows_listed x old new (inl same) = record {
  parts = λ index p has. subst (λ (r : ReasonState). HasReason r index p) (sym same) (more_parts x old index p has);
  messages = λ index has. subst (λ (r : ReasonState). LackedMemory r index) (sym same) (more_messages x old index has);
}
grows_listed x old new (inr (evidence, same)) = record {
  parts = λ index p has. subst (λ (r : ReasonState). HasReason r index p) (sym same) (inl refl);
  messages = λ index has. subst (λ (r : ReasonState). LackedMemory r index) (sym same) (inl refl);
}

pub part_listed : (old new : ReasonState) (index p : ℕ) (why : GiveUpReason) → Lists (reason.Part (record { message = index; part = p; why = why })) old new → HasReason new index p
part_listed old new index p why (inl same) = subst (λ (r : ReasonState). HasReason r index p) (sym same) (inr (why, (length old.listed, get_last old.listed _)))
part_listed old new index p why (inr (evidence, same)) = subst (λ (r : ReasonState). HasReason r index p) (sym same) (inl refl)

pub message_listed : (old new : ReasonState) (evidence : NoMessageMemory) → Lists (reason.Message evidence) old new → LackedMemory new evidence.message
message_listed old new evidence (inl same) = subst (λ (r : ReasonState). LackedMemory r evidence.message) (sym same) (inr (evidence, refl, (length old.listed, get_last old.listed _)))
message_listed old new evidence (inr (lack, same)) = subst (λ (r : ReasonState). LackedMemory r evidence.message) (sym same) (inl refl)

-- a part is given up, for a reason or on a bind that is closed
pub part_explained : (closed : Bool) (old new : ReasonState) (index p : ℕ) (why : Option GiveUpReason) → (why ≡ None → IsTrue closed) → ((r : GiveUpReason) → why ≡ Some r → Lists (reason.Part (record { message = index; part = p; why = r })) old new)
    → IsTrue closed ⊎ HasReason new index p
part_explained closed old new index p None none some = inl (none refl)
part_explained closed old new index p (Some why) none some = inr (part_listed old new index p why (some why refl))

pub grows_part : (old new : ReasonState) (index p : ℕ) (why : Option GiveUpReason) → (why ≡ None → new ≡ old) → ((r : GiveUpReason) → why ≡ Some r → Lists (reason.Part (record { message = index; part = p; why = r })) old new) → Grows old new
grows_part old new index p None none some = grows_same old new (none refl)
grows_part old new index p (Some why) none some = grows_listed _ old new (some why refl)

-- a message is begun, with the evidence if memory was refused for it
pub grows_message : (old new : ReasonState) (no_memory : Option NoMessageMemory) → (no_memory ≡ None → new ≡ old) → ((e : NoMessageMemory) → no_memory ≡ Some e → Lists (reason.Message e) old new) → Grows old new
grows_message old new None none some = grows_same old new (none refl)
grows_message old new (Some evidence) none some = grows_listed _ old new (some evidence refl)

pub message_explained : (old new : ReasonState) (index : ℕ) (no_memory : Option NoMessageMemory) → ((e : NoMessageMemory) → no_memory ≡ Some e → Lists (reason.Message e) old new) → RestsOn index OutOfMemory no_memory → LackedMemory new index
message_explained old new index None some rests = absurd rests
message_explained old new index (Some evidence) some rests = subst (LackedMemory new) rests (message_listed old new evidence (some evidence refl))

pub rests_so : (index : ℕ) (refusal : MessageRefusal) (no_memory : Option NoMessageMemory) → refusal ≡ OutOfMemory → RestsOn index refusal no_memory → RestsOn index OutOfMemory no_memory
rests_so index refusal no_memory is rests = subst (λ r. RestsOn index r no_memory) is rests

-- what was refused before a segment was put in its place
refused_before : (r : MessageResult) (p : ℕ) (s : SegmentEnd) → put_in r p s ≡ Refused OutOfMemory → r ≡ Refused OutOfMemory
refused_before (Sent segments) p s is = absurd (cc)
refused_before (Refused refusal) p s is = is

pub not_unsent : (d : Decision) → outcome_after d ≢ Unsent
not_unsent Charge e = cc
not_unsent Refuse e = cc
not_unsent (RetryAfter ms) e = cc

-- a part that waits wasn't given up
pub waiting_stays : (most : ℕ) (s : SegmentEnd) → s.outcome ≡ Unanswered → WasGivenUp most s → ⊥
waiting_stays most s waits given = elim given [
  | inl unsent ↦ (let e : Unanswered ≡ Unsent = sym waits ∙ unsent in cc)
  | inr refused ↦ (let e : Unanswered ≡ outcome.Refused = sym waits ∙ refused.0 in cc)
]

not_refused : (charge : Bool) (ms : ℕ) → outcome_after (if charge then Charge else (if true && true then RetryAfter ms else Refuse)) ≡ outcome.Refused → ⊥
not_refused true ms e = cc
not_refused false ms e = cc

tries_again : (charge retry low : Bool) (ms : ℕ) → retry ≡ true → low ≡ true → outcome_after (if charge then Charge else (if retry && low then RetryAfter ms else Refuse)) ≡ outcome.Refused → ⊥
tries_again charge retry low ms again below e =
    let all = ap (λ b. outcome_after (if charge then Charge else (if b && low then RetryAfter ms else Refuse))) again ∙ ap (λ b. outcome_after (if charge then Charge else (if true && b then RetryAfter ms else Refuse))) below in
    not_refused charge ms (sym all ∙ e)

-- nor was one that an answer settled as it decides
pub answered_stays : (most base : ℕ) (s r s' : SegmentEnd) (reply : Reply) (d : Decision) → Hears s reply r → s'.attempts ≡ r.attempts → s'.outcome ≡ outcome_after d → d ≡ decided reply (length r.attempts) most base → WasGivenUp most s' → ⊥
answered_stays most base s r s' reply d hears same is decides given = elim given [
  | inl unsent ↦ not_unsent d (sym is ∙ unsent)
  | inr refused ↦ (let left = refused.1 in
      let last : Attempt = record hears.last { reply = Some reply } in
      let all : answers s'.attempts ≡ answers hears.front ++ read_reply last.reply ∷ [] = ap answers (same ∙ ap (λ (x : SegmentEnd). x.attempts) hears.after) ∙ answers_snoc hears.front last in
      let retried : IsRetried (read_reply (Some reply)) = (all_front IsRetried (answers hears.front) (read_reply last.reply) (subst (AllByRecursion IsRetried) all left.retried)).1 in
      let again : is_retry reply.status reply.nack ≡ true = retries reply retried in
      let count = ap length (ap answers same) ∙ length-answers r.attempts in
      let few = left.fewer in
      let low : nat_lt (length r.attempts) most ≡ true = lt-ltb (length r.attempts) most (omega arith) in
      tries_again (is_charge reply.status reply.nack) (is_retry reply.status reply.nack) (nat_lt (length r.attempts) most) (delay base (length r.attempts)) again low (ap outcome_after (sym decides) ∙ sym is ∙ refused.0))
]
  where
    retries : (reply : Reply) → IsRetried (read_reply (Some reply)) → is_retry reply.status reply.nack ≡ true
    retries reply retried =
        let same : record { status = reply.status; nack = reply.nack } ≡ retried.reply = (let came = retried.came in cc) in
        ap (λ (x : core.Reply). is_retry x.status x.nack) same ∙ retried.retries

module _ {most : ℕ} {ms : List Message} where
  pub reasons_none : {closed : Bool} {r : ReasonState} {es : List MessageEnd} → es ≡ [] → HaveReasons most ms closed r es
  reasons_none {closed = closed} {r = r} none = subst (HaveReasons most ms closed r) (sym none) (record { parts = λ k p m s there at is. absurd (cc); messages = λ k m e there at is. absurd (cc) })

  -- the bind may be closed by now
  pub reasons_closed : {closed closed' : Bool} {r : ReasonState} {es : List MessageEnd} → (IsTrue closed → IsTrue closed') → HaveReasons most ms closed r es → HaveReasons most ms closed' r es
  reasons_closed stays h = record {
    parts = λ k p m s there at is. elim (h.parts k p m s there at is) [ inl on ↦ inl (stays on) | inr has ↦ inr has ];
    messages = h.messages;
  }

  refused_there : {closed : Bool} {r : ReasonState} {es : List MessageEnd} → HaveReasons most ms closed r es → (k p : ℕ) (s : SegmentEnd) (j : ℕ) (m : Message) (e : MessageEnd) → slice_get ms j ≡ Some m → slice_get (put es k p s) j ≡ Some e → e.result ≡ Refused OutOfMemory → LackedMemory r m.index
  refused_there {es = es} h k p s j m e there at is =
      let (was, was_at, like) = end_of_put es k p s j e at in
      h.messages j m was there was_at (elim like [
        | inl same ↦ ap (λ (x : MessageEnd). x.result) (sym same) ∙ is
        | inr same ↦ refused_before was.result p s (ap (λ (x : MessageEnd). x.result) (sym same) ∙ is)
      ])

  -- one segment end changed, and wasn't given up
  pub reasons_put : {closed : Bool} {r : ReasonState} {es : List MessageEnd} (k p : ℕ) (s : SegmentEnd) → HaveReasons most ms closed r es → (WasGivenUp most s → ⊥) → HaveReasons most ms closed r (put es k p s)
  reasons_put {es = es} k p s h kept = record {
    parts = λ j q m z there at is. elim (got_of_put es k p s j q z at) [ inl now ↦ absurd (kept (subst (WasGivenUp most) now.2 is)) | inr before ↦ h.parts j q m z there before is ];
    messages = refused_there h k p s;
  }

  -- one was given up
  pub reasons_given : {closed : Bool} {r r' : ReasonState} {es : List MessageEnd} (k p : ℕ) (s : SegmentEnd) (message : Message) → HaveReasons most ms closed r es → slice_get ms k ≡ Some message → Grows r r' → IsTrue closed ⊎ HasReason r' message.index p
      → HaveReasons most ms closed r' (put es k p s)
  reasons_given {closed = closed} {r' = r'} {es = es} k p s message h its grows why = record {
    parts = λ j q m z there at is. elim (got_of_put es k p s j q z at) [
      | inl now ↦ (let its' : slice_get ms k ≡ Some m = ap (slice_get ms) (sym now.0) ∙ there in
          let same : message ≡ m = cc in
          subst (λ (x : Message). IsTrue closed ⊎ HasReason r' x.index q) same (subst (λ n. IsTrue closed ⊎ HasReason r' message.index n) (sym now.1) why))
      | inr before ↦ elim (h.parts j q m z there before is) [ inl on ↦ inl on | inr has ↦ inr (grows.parts m.index q has) ]
    ];
    messages = λ j m e there at is. grows.messages m.index (refused_there h k p s j m e there at is);
  }

  -- a message was begun
  pub reasons_begun : {closed : Bool} {r r' : ReasonState} {es : List MessageEnd} (e : MessageEnd) (message : Message) (cost count : ℕ) → HaveReasons most ms closed r es → slice_get ms (length es) ≡ Some message → segments_in e.result ≡ ready cost count → Grows r r'
      → (e.result ≡ Refused OutOfMemory → LackedMemory r' message.index) → HaveReasons most ms closed r' (es ++ e ∷ [])
  reasons_begun {r' = r'} {es = es} e message cost count h its segments grows lacked = record {
    parts = λ j q m z there at is. elim (got_of_more es e j q z at) [
      | inl before ↦ elim (h.parts j q m z there before is) [ inl on ↦ inl on | inr has ↦ inr (grows.parts m.index q has) ]
      | inr now ↦ (let fresh = got_ready cost count q z (ap (λ l. slice_get l q) (sym segments) ∙ now.1) in absurd (waiting_stays most z (ap (λ (x : SegmentEnd). x.outcome) fresh) is))
    ];
    messages = λ j m x there at is. elim (got_of_append es e j x at) [
      | inl before ↦ grows.messages m.index (h.messages j m x there before is)
      | inr now ↦ (let its' : slice_get ms (length es) ≡ Some m = ap (slice_get ms) (sym now.0) ∙ there in
          let same : message ≡ m = cc in
          subst (λ (y : Message). LackedMemory r' y.index) same (lacked (ap (λ (y : MessageEnd). y.result) (sym now.1) ∙ is)))
    ];
  }
