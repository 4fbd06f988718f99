-- On the way through all segments.
use Rattle.std.proofs.Common.{◌≡◌, ◌≢◌, ℕ, ◌+◌, ◌<◌, List, length, Some, None, inl, inr, sym, ap, ◌∙◌, subst, arith}
use mathlib.Core.Logic.{dite}
use native.Mathlib.Decide.{ℕ_discrete, dec_lt}
use Rattle.sms_worker.specs.Types.{SegmentEnd, MessageEnd}
use Rattle.sms_message.specs.Ends.{segment_at, put}
use Rattle.sms_message.specs.Results.{IsSettled}
use Rattle.sms_worker.specs.Sweeps.{SettledTo, AllSettled, SweptAt, InPlace}
use Rattle.sms_worker.proofs.EndLemmas.{got_of_put, put_there, no_segment}

pub swept_none : (most k p : ℕ) (es : List MessageEnd) → segment_at es k p ≡ None → SweptAt most k p es es
swept_none most k p es at j q s got = inr (got, λ here. (let e : segment_at es k p ≡ Some s = ap (λ x. segment_at es x p) (sym here.0) ∙ ap (segment_at es j) (sym here.1) ∙ got in cc))

pub swept_settled : (most k p : ℕ) (es : List MessageEnd) (s : SegmentEnd) → segment_at es k p ≡ Some s → IsSettled most s → SweptAt most k p es es
swept_settled most k p es s at done j q z got = dite (ℕ_discrete j k)
    (λ e. dite (ℕ_discrete q p)
    (λ f. let g : segment_at es k p ≡ Some z = ap (λ x. segment_at es x p) (sym e) ∙ ap (segment_at es j) (sym f) ∙ got in let same : s ≡ z = cc in inl (subst (IsSettled most) same done))
    (λ ne. inr (got, λ here. ne here.1)))
    (λ ne. inr (got, λ here. ne here.0))

pub swept_put : (most k p : ℕ) (es : List MessageEnd) (s t : SegmentEnd) → segment_at es k p ≡ Some t → IsSettled most s → SweptAt most k p es (put es k p s)
swept_put most k p es s t at done j q z got = dite (ℕ_discrete j k)
    (λ e. dite (ℕ_discrete q p)
    (λ f. let g : segment_at (put es k p s) k p ≡ Some z = ap (λ x. segment_at (put es k p s) x p) (sym e) ∙ ap (segment_at (put es k p s) j) (sym f) ∙ got in
    let there = put_there es k p t s at in
    let same : s ≡ z = cc in
    inl (subst (IsSettled most) same done))
    (λ ne. elim (got_of_put es k p s j q z got) [ inl h ↦ absurd (ne h.1) | inr h ↦ inr (h, λ here. ne here.1) ]))
    (λ ne. elim (got_of_put es k p s j q z got) [ inl h ↦ absurd (ne h.0) | inr h ↦ inr (h, λ here. ne here.0) ])

pub in_place_same : (es : List MessageEnd) → InPlace es es
in_place_same es j q s got = (s, got)

pub in_place_put : (es : List MessageEnd) (k p : ℕ) (s t : SegmentEnd) → segment_at es k p ≡ Some t → InPlace es (put es k p s)
in_place_put es k p s t at j q z got = elim (got_of_put es k p s j q z got) [
  | inl h ↦ (t, ap (λ x. segment_at es x q) h.0 ∙ ap (segment_at es k) h.1 ∙ at)
  | inr h ↦ (z, h)
]

pub settled_next : (most k p : ℕ) (es es' : List MessageEnd) → SettledTo most k p es → SweptAt most k p es es' → SettledTo most k (p + 1) es'
settled_next most k p es es' before swept j q s got here = elim (swept j q s got) [
  | inl done ↦ done
  | inr other ↦ before j q s other.0 (elim here [
    | inl lt ↦ inl lt
    | inr eq ↦ inr (eq.0, (let ne : q ≢ p = λ f. other.1 (eq.0, f) in let lt = eq.1 in omega arith))
  ])
]

pub settled_message : (most k n : ℕ) (es : List MessageEnd) → SettledTo most k n es → ((q : ℕ) (s : SegmentEnd) → segment_at es k q ≡ Some s → q < n) → SettledTo most (k + 1) 0 es
settled_message most k n es before inside j q s got here = dite (ℕ_discrete j k)
    (λ e. before j q s got (inr (e, inside q s (ap (λ x. segment_at es x q) (sym e) ∙ got))))
    (λ ne. before j q s got (inl (elim here [ inl lt ↦ omega arith | inr eq ↦ absurd (let z = eq.1 in omega arith) ])))

pub settled_all : (most : ℕ) (es : List MessageEnd) → SettledTo most (length es) 0 es → AllSettled most es
settled_all most es before j q s got = before j q s got (inl (inside j q s got))
  where
    inside : (j q : ℕ) (s : SegmentEnd) → segment_at es j q ≡ Some s → j < length es
    inside j q s got = dite (dec_lt j (length es)) (λ lt. lt) (λ ge. (let z = no_segment es j q (omega arith) in absurd (cc)))
