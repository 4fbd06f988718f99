-- What a run finds to send.
use Rattle.std.proofs.Common.{◌≡◌, ◌≢◌, ℕ, ◌<◌, ◌≤◌, List, length, Some, None, inl, inr, refl, sym, ap, ◌∙◌, subst, arith}
use Rattle.std.specs.Prelude.{◌-◌, ◌⊎◌, ◌↔◌, IfSome, Option, slice_get}
use Rattle.sms_worker.specs.Types.{MessageEnd, SegmentEnd}
use Rattle.sms_session.specs.declared.policy.Decision.{Decision}
use Rattle.sms_session.specs.declared.policy.Decision.TheVariants.{Charge, Refuse, RetryAfter}
use Rattle.sms_message.specs.declared.ends.Outcome.TheVariants.{Charged, Refused, Unanswered}
use Rattle.sms_worker.specs.declared.state.open.SegmentPlace.{SegmentPlace}
use Rattle.sms_worker.specs.declared.steps.starting.Source.{Source}
use Rattle.sms_worker.specs.declared.steps.starting.Source.TheVariants.{Queue, Next}
use Rattle.sms_message.specs.Ends.{segment_at, segments_in}
use Rattle.sms_worker.specs.Queues.{last_in}
use Rattle.sms_worker.specs.Rising.{HasNext}
use Rattle.sms_worker.specs.RunState.{NewlyWait, RunState}
use Rattle.sms_worker.specs.Steps.{SettlesTo, outcome_after}
use Rattle.sms_worker.specs.PendingState.{PendingState, changed, settled_one}
use Rattle.sms_worker.proofs.EndLemmas.{get_there, got_of_put, segment_in}

-- the part is one of those that were counted
pub counted_there : (es : List MessageEnd) (k p n : ℕ) → IfSome (slice_get es k) (λ e. n ≡ length (segments_in e.result)) → k < length es → p < n → (s : SegmentEnd) × (segment_at es k p ≡ Some s)
counted_there es k p n exact low few =
    let (e, at) = get_there es k low in
    let is : n ≡ length (segments_in e.result) = subst (λ o. IfSome o (λ e. n ≡ length (segments_in e.result))) at exact in
    let (s, got) = get_there (segments_in e.result) p (omega arith) in
    (s, segment_in es k p e at ∙ got)

-- all parts of the last message were tried
pub none_next : (es : List MessageEnd) (k next n : ℕ) → k ≡ length es - 1 → ((q : ℕ) (s : SegmentEnd) → segment_at es k q ≡ Some s → q < n) → n ≤ next → HasNext es next → ⊥
none_next es k next n last within all (place, is, (s, at)) =
    let long = is.last in
    let part = is.part in
    let same : place.message ≡ k = omega arith in
    let few = within place.part s (ap (λ x. segment_at es x place.part) (sym same) ∙ at) in
    omega arith

pub none_begun : (es : List MessageEnd) (next : ℕ) → length es ≡ 0 → HasNext es next → ⊥
none_begun es next none (place, is, there) = let long = is.last in omega arith

one_pair : (x y : SegmentPlace × Source) (found : Option (SegmentPlace × Source)) → found ≡ Some x → found ≡ Some y → x ≡ y
one_pair x y found a b = cc

next_not_queue : (p place : SegmentPlace) (k : ℕ) (found : Option (SegmentPlace × Source)) → found ≡ Some (p, Next) → found ≡ Some (place, Queue k) → ⊥
next_not_queue p place k found a b = let e : Next ≡ Queue k = ap (λ x. x.1) (one_pair (p, Next) (place, Queue k) found a b) in cc

same_next : (p place : SegmentPlace) (found : Option (SegmentPlace × Source)) → found ≡ Some (p, Next) → found ≡ Some (place, Next) → p ≡ place
same_next p place found a b = ap (λ x. x.0) (one_pair (p, Next) (place, Next) found a b)

same_queue : (p place : SegmentPlace) (j k : ℕ) (found : Option (SegmentPlace × Source)) → found ≡ Some (p, Queue j) → found ≡ Some (place, Queue k) → (p ≡ place) × (j ≡ k)
same_queue p place j k found a b =
    let e = one_pair (p, Queue j) (place, Queue k) found a b in
    let q : Queue j ≡ Queue k = ap (λ x. x.1) e in
    (ap (λ x. x.0) e, (cc))

-- what was found, by what stood to choose
module _ (retry : Option (SegmentPlace × ℕ)) (fresh : Option SegmentPlace) (found : Option (SegmentPlace × Source)) (one : IfSome retry (λ r. found ≡ Some (r.0, Queue r.1))) (other : retry ≡ None → IfSome fresh (λ p. found ≡ Some (p, Next))) (none : (found ≡ None) ↔ ((retry ≡ None) × (fresh ≡ None))) where
  pub found_retry : (D : SegmentPlace → ℕ → Type 0) → IfSome retry (λ r. D r.0 r.1) → (place : SegmentPlace) (k : ℕ) → found ≡ Some (place, Queue k) → D place k
  found_retry D due place k is = by_retry retry fresh one other none due
    where
      by_retry : (retry : Option (SegmentPlace × ℕ)) (fresh : Option SegmentPlace) → IfSome retry (λ r. found ≡ Some (r.0, Queue r.1)) → (retry ≡ None → IfSome fresh (λ p. found ≡ Some (p, Next))) → ((found ≡ None) ↔ ((retry ≡ None) × (fresh ≡ None))) → IfSome retry (λ r. D r.0 r.1) → D place k
      by_retry (Some r) fresh one other none due =
          let (at, in_queue) = same_queue r.0 place r.1 k found one is in
          subst (λ x. D x k) at (subst (D r.0) in_queue due)
      by_retry None (Some p) one other none due =
          absurd (next_not_queue p place k found (other refl) is)
      by_retry None None one other none due =
          let gone = none.1 (refl, refl) in
          absurd (cc)

  pub found_fresh : (N : Type 0) (F : SegmentPlace → Type 0) → (retry ≡ None → N) → IfSome fresh F → (place : SegmentPlace) → found ≡ Some (place, Next) → N × F place
  found_fresh N F quiet there place is = by_retry retry fresh one other none quiet there
    where
      by_retry : (retry : Option (SegmentPlace × ℕ)) (fresh : Option SegmentPlace) → IfSome retry (λ r. found ≡ Some (r.0, Queue r.1)) → (retry ≡ None → IfSome fresh (λ p. found ≡ Some (p, Next))) → ((found ≡ None) ↔ ((retry ≡ None) × (fresh ≡ None))) → (retry ≡ None → N) → IfSome fresh F → N × F place
      by_retry (Some r) fresh one other none quiet there =
          absurd (next_not_queue place r.0 r.1 found is one)
      by_retry None (Some p) one other none quiet there =
          (quiet refl, subst F (same_next p place found (other refl) is) there)
      by_retry None None one other none quiet there =
          let gone = none.1 (refl, refl) in
          absurd (cc)

  pub found_none : (N M : Type 0) → (retry ≡ None → N) → (fresh ≡ None → M) → found ≡ None → N × M
  found_none N M quiet all is = let (a, b) = none.0 is in (quiet a, all b)

-- a segment got its answer, and waits where that asks for it
by_decision : (d : Decision) (n : ℕ) (place : SegmentPlace) (s : SegmentEnd) (run : RunState) → s.outcome ≡ outcome_after d → n ≡ length s.attempts → 1 ≤ length s.attempts → length s.attempts ≤ 10
    → ((ms : ℕ) → d ≡ RetryAfter ms → 1 ≤ n → n ≤ 10 → last_in run.queues (n - 1) ≡ Some place) → (s.outcome ≢ Unanswered) ⊎ (last_in run.queues (length s.attempts - 1) ≡ Some place)
by_decision Charge n place s run is count some few waits = inl (λ e. let z : Charged ≡ Unanswered = sym is ∙ e in absurd (cc))
by_decision Refuse n place s run is count some few waits = inl (λ e. let z : Refused ≡ Unanswered = sym is ∙ e in absurd (cc))
by_decision (RetryAfter ms) n place s run is count some few waits = inr (ap (λ k. last_in run.queues (k - 1)) (sym count) ∙ waits ms refl (omega arith) (omega arith))

pub newly_waits : (before old settled : List MessageEnd) (run : RunState) (place : SegmentPlace) (n : ℕ) (d : Decision) → SettlesTo old place n d settled → old ≡ before → run.ends ≡ settled
    → ((ms : ℕ) → d ≡ RetryAfter ms → 1 ≤ n → n ≤ 10 → last_in run.queues (n - 1) ≡ Some place) → NewlyWait before run
newly_waits before old settled run place n d to was is waits at s there some few =
    elim (got_of_put old place.message place.part to.segment at.message at.part s (sym (ap (λ l. segment_at l at.message at.part) (is ∙ to.now)) ∙ there)) [
      | inl h ↦ (let (message, part, end) = h in
          let same : place ≡ at = λ i. record { message = sym message i; part = sym part i } in
          inr (subst (λ p. (s.outcome ≢ Unanswered) ⊎ (last_in run.queues (length s.attempts - 1) ≡ Some p)) same
          (by_decision d n place s run (ap (λ (x : SegmentEnd). x.outcome) end ∙ to.outcome) (to.count ∙ ap (λ (x : SegmentEnd). length x.attempts) (sym end)) some few waits)))
      | inr h ↦ inl (ap (λ l. segment_at l at.message at.part) (sym was) ∙ h)
    ]

-- no segment has another end
pub none_newly : (before : List MessageEnd) (run : RunState) → run.ends ≡ before → NewlyWait before run
none_newly before run same at s there some few = inl (sym (ap (λ l. segment_at l at.message at.part) same) ∙ there)

-- a segment more of a message is settled
pub settled_in : (a b : RunState) (k : ℕ) (pending : List PendingState) → pending ≡ changed settled_one a.pending k → a ≡ b → record a { pending = pending } ≡ record b { pending = changed settled_one b.pending k }
settled_in a b k pending is same = ap (λ l. record a { pending = l }) is ∙ ap (λ (x : RunState). record x { pending = changed settled_one x.pending k }) same
