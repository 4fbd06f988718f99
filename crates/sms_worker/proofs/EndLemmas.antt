-- One segment end changed, and one message end more.
use Rattle.std.proofs.Common.{◌≡◌, ℕ, zero, suc, ◌+◌, ◌<◌, ◌≤◌, List, [], ◌∷◌, ◌++◌, length, Some, None, inl, inr, refl, sym, ap, ◌∙◌, arith}
use Rattle.std.specs.Prelude.{◌⊎◌, Option, slice_get, slice_set, IfSome, IfNone}
use Rattle.sms_message.specs.declared.message.Message.{Message}
use Rattle.sms_worker.specs.Types.{SegmentEnd, MessageEnd, MessageResult}
use Rattle.sms_message.specs.declared.ends.MessageResult.TheVariants.{Sent, Refused as NotSent}
use Rattle.sms_message.specs.Ends.{segments_in, segment_at, put_in, with_part, put, total_in, total}
use Rattle.sms_worker.specs.Steps.{Takes, emptied}

module _ {X : Type 0} where
  pub get_set : (xs : List X) (p : ℕ) (x y : X) → slice_get xs p ≡ Some x → slice_get (slice_set xs p y) p ≡ Some y
  get_set [] p x y at = absurd (cc)
  get_set (z ∷ xs) zero x y at = refl
  get_set (z ∷ xs) (suc p) x y at = get_set xs p x y at

  pub set_set : (xs : List X) (p : ℕ) (x y : X) → slice_set (slice_set xs p x) p y ≡ slice_set xs p y
  set_set [] p x y = refl
  set_set (z ∷ xs) zero x y = refl
  set_set (z ∷ xs) (suc p) x y = ap (λ l. z ∷ l) (set_set xs p x y)

  pub got_of_set : (xs : List X) (p : ℕ) (y : X) (q : ℕ) (z : X) → slice_get (slice_set xs p y) q ≡ Some z → ((q ≡ p) × (z ≡ y)) ⊎ (slice_get xs q ≡ Some z)
  got_of_set [] p y q z e = inr e
  got_of_set (x ∷ xs) zero y zero z e = inl (refl, (cc))
  got_of_set (x ∷ xs) zero y (suc q) z e = inr e
  got_of_set (x ∷ xs) (suc p) y zero z e = inr e
  got_of_set (x ∷ xs) (suc p) y (suc q) z e = elim (got_of_set xs p y q z e) [ inl h ↦ inl (ap suc h.0, h.1) | inr h ↦ inr h ]

  pub set_unchanged : (xs : List X) (p : ℕ) (x : X) → slice_get xs p ≡ Some x → slice_set xs p x ≡ xs
  set_unchanged [] p x at = refl
  set_unchanged (y ∷ xs) zero x at = let same : y ≡ x = cc in ap (λ (z : X). z ∷ xs) (sym same)
  set_unchanged (y ∷ xs) (suc p) x at = ap (λ l. y ∷ l) (set_unchanged xs p x at)

  pub got_of_append : (xs : List X) (y : X) (q : ℕ) (z : X) → slice_get (xs ++ y ∷ []) q ≡ Some z → (slice_get xs q ≡ Some z) ⊎ ((q ≡ length xs) × (z ≡ y))
  got_of_append [] y zero z e = inr (refl, (cc))
  got_of_append [] y (suc q) z e = inl e
  got_of_append (x ∷ xs) y zero z e = inl e
  got_of_append (x ∷ xs) y (suc q) z e = elim (got_of_append xs y q z e) [ inl h ↦ inl h | inr h ↦ inr (ap suc h.0, h.1) ]

  pub get_more : (xs : List X) (y : X) (q : ℕ) (z : X) → slice_get xs q ≡ Some z → slice_get (xs ++ y ∷ []) q ≡ Some z
  get_more [] y q z e = absurd (cc)
  get_more (x ∷ xs) y zero z e = e
  get_more (x ∷ xs) y (suc q) z e = get_more xs y q z e

  pub get_last : (xs : List X) (y : X) → slice_get (xs ++ y ∷ []) (length xs) ≡ Some y
  get_last [] y = refl
  get_last (x ∷ xs) y = get_last xs y

  pub get_there : (xs : List X) (p : ℕ) → p < length xs → (x : X) × (slice_get xs p ≡ Some x)
  get_there [] p low = absurd (omega arith)
  get_there (x ∷ xs) zero low = (x, refl)
  get_there (x ∷ xs) (suc p) low = get_there xs p (omega arith)

  pub get_low : (xs : List X) (p : ℕ) (x : X) → slice_get xs p ≡ Some x → p < length xs
  get_low [] p x at = absurd (cc)
  get_low (y ∷ xs) zero x at = omega arith
  get_low (y ∷ xs) (suc p) x at = let h = get_low xs p x at in omega arith

-- in one message
in_there : (r : MessageResult) (p : ℕ) (s t : SegmentEnd) → slice_get (segments_in r) p ≡ Some s → slice_get (segments_in (put_in r p t)) p ≡ Some t
in_there (Sent ss) p s t at = get_set ss p s t at
in_there (NotSent refusal) p s t at = absurd (cc)

in_twice : (r : MessageResult) (p : ℕ) (s t : SegmentEnd) → put_in (put_in r p s) p t ≡ put_in r p t
in_twice (Sent ss) p s t = ap Sent (set_set ss p s t)
in_twice (NotSent refusal) p s t = refl

in_got : (r : MessageResult) (p : ℕ) (t : SegmentEnd) (q : ℕ) (z : SegmentEnd) → slice_get (segments_in (put_in r p t)) q ≡ Some z → ((q ≡ p) × (z ≡ t)) ⊎ (slice_get (segments_in r) q ≡ Some z)
in_got (Sent ss) p t q z e = got_of_set ss p t q z e
in_got (NotSent refusal) p t q z e = inr e

total_set : (f : SegmentEnd → ℕ) (ss : List SegmentEnd) (p : ℕ) (s t : SegmentEnd) → slice_get ss p ≡ Some s → total_in f (slice_set ss p t) + f s ≡ total_in f ss + f t
total_set f [] p s t at = absurd (cc)
total_set f (x ∷ ss) zero s t at = let same : x ≡ s = cc in let q : f x ≡ f s = ap f same in omega arith
total_set f (x ∷ ss) (suc p) s t at = let h = total_set f ss p s t at in omega arith

in_total : (f : SegmentEnd → ℕ) (r : MessageResult) (p : ℕ) (s t : SegmentEnd) → slice_get (segments_in r) p ≡ Some s → total_in f (segments_in (put_in r p t)) + f s ≡ total_in f (segments_in r) + f t
in_total f (Sent ss) p s t at = total_set f ss p s t at
in_total f (NotSent refusal) p s t at = absurd (cc)

-- over all messages
pub put_there : (es : List MessageEnd) (k p : ℕ) (s t : SegmentEnd) → segment_at es k p ≡ Some s → segment_at (put es k p t) k p ≡ Some t
put_there [] k p s t at = absurd (cc)
put_there (e ∷ es) zero p s t at = in_there e.result p s t at
put_there (e ∷ es) (suc k) p s t at = put_there es k p s t at

pub put_twice : (es : List MessageEnd) (k p : ℕ) (s t : SegmentEnd) → put (put es k p s) k p t ≡ put es k p t
put_twice [] k p s t = refl
put_twice (e ∷ es) zero p s t = ap (λ r. record e { result = r } ∷ es) (in_twice e.result p s t)
put_twice (e ∷ es) (suc k) p s t = ap (λ l. e ∷ l) (put_twice es k p s t)

pub got_of_put : (es : List MessageEnd) (k p : ℕ) (t : SegmentEnd) (j q : ℕ) (z : SegmentEnd) → segment_at (put es k p t) j q ≡ Some z → ((j ≡ k) × (q ≡ p) × (z ≡ t)) ⊎ (segment_at es j q ≡ Some z)
got_of_put [] k p t j q z e = inr e
got_of_put (x ∷ es) zero p t zero q z e = elim (in_got x.result p t q z e) [ inl h ↦ let (part, end) = h in inl (refl, part, end) | inr h ↦ inr h ]
got_of_put (x ∷ es) zero p t (suc j) q z e = inr e
got_of_put (x ∷ es) (suc k) p t zero q z e = inr e
got_of_put (x ∷ es) (suc k) p t (suc j) q z e = elim (got_of_put es k p t j q z e) [ inl h ↦ let (message, part, end) = h in inl (ap suc message, part, end) | inr h ↦ inr h ]

pub length-put : (es : List MessageEnd) (k p : ℕ) (t : SegmentEnd) → length (put es k p t) ≡ length es
length-put [] k p t = refl
length-put (e ∷ es) zero p t = refl
length-put (e ∷ es) (suc k) p t = ap suc (length-put es k p t)

-- an end after the change is the same, or has the same number of segments
pub end_of_put : (es : List MessageEnd) (k p : ℕ) (t : SegmentEnd) (j : ℕ) (z : MessageEnd) → slice_get (put es k p t) j ≡ Some z → (e : MessageEnd) × (slice_get es j ≡ Some e) × ((z ≡ e) ⊎ (z ≡ with_part e p t))
end_of_put [] k p t j z e = absurd (cc)
end_of_put (x ∷ es) zero p t zero z e = (x, refl, inr (cc))
end_of_put (x ∷ es) zero p t (suc j) z e = (z, e, inl refl)
end_of_put (x ∷ es) (suc k) p t zero z e = (z, e, inl refl)
end_of_put (x ∷ es) (suc k) p t (suc j) z e = end_of_put es k p t j z e

pub total_put : (f : Message → SegmentEnd → ℕ) (ms : List Message) (es : List MessageEnd) (k p : ℕ) (m : Message) (s t : SegmentEnd) → slice_get ms k ≡ Some m → segment_at es k p ≡ Some s
    → total f ms (put es k p t) + f m s ≡ total f ms es + f m t
total_put f [] es k p m s t there at = absurd (cc)
total_put f (x ∷ ms) [] k p m s t there at = absurd (cc)
total_put f (x ∷ ms) (e ∷ es) zero p m s t there at =
    let same : x ≡ m = cc in
    let h = in_total (f x) e.result p s t at in
    let q : f x s ≡ f m s = ap (λ y. f y s) same in
    let r : f x t ≡ f m t = ap (λ y. f y t) same in
    omega arith
total_put f (x ∷ ms) (e ∷ es) (suc k) p m s t there at = let h = total_put f ms es k p m s t there at in omega arith

-- one segment end changed that counts as much as before
pub total_same : (f : Message → SegmentEnd → ℕ) (ms : List Message) (es : List MessageEnd) (k p : ℕ) (s t : SegmentEnd) → segment_at es k p ≡ Some s → ((m : Message) → f m t ≡ f m s) → total f ms (put es k p t) ≡ total f ms es
total_same f [] es k p s t at same = refl
total_same f (x ∷ ms) [] k p s t at same = absurd (cc)
total_same f (x ∷ ms) (e ∷ es) zero p s t at same =
    let h = in_total (f x) e.result p s t at in
    let q = same x in
    omega arith
total_same f (x ∷ ms) (e ∷ es) (suc k) p s t at same = let h = total_same f ms es k p s t at same in omega arith

pub total_none : (f : Message → SegmentEnd → ℕ) (ms : List Message) → total f ms [] ≡ 0
total_none f [] = refl
total_none f (m ∷ ms) = refl

pub total_append : (f : Message → SegmentEnd → ℕ) (ms : List Message) (es : List MessageEnd) (e : MessageEnd) (m : Message) → slice_get ms (length es) ≡ Some m
    → total f ms (es ++ e ∷ []) ≡ total f ms es + total_in (f m) (segments_in e.result)
total_append f [] es e m at = absurd (cc)
total_append f (x ∷ ms) [] e m at =
    let same : x ≡ m = cc in
    let q : total_in (f x) (segments_in e.result) ≡ total_in (f m) (segments_in e.result) = ap (λ y. total_in (f y) (segments_in e.result)) same in
    let z = total_none f ms in
    omega arith
total_append f (x ∷ ms) (y ∷ es) e m at = let h = total_append f ms es e m at in omega arith

-- one segment is among all
pub part_at_most : (f : Message → SegmentEnd → ℕ) (ms : List Message) (es : List MessageEnd) (k p : ℕ) (m : Message) (s t : SegmentEnd) → slice_get ms k ≡ Some m → segment_at es k p ≡ Some s → f m t ≡ 0 → f m s ≤ total f ms es
part_at_most f ms es k p m s t there at zero_is = let h = total_put f ms es k p m s t there at in omega arith

pub got_of_more : (es : List MessageEnd) (e : MessageEnd) (j q : ℕ) (z : SegmentEnd) → segment_at (es ++ e ∷ []) j q ≡ Some z → (segment_at es j q ≡ Some z) ⊎ ((j ≡ length es) × (slice_get (segments_in e.result) q ≡ Some z))
got_of_more [] e zero q z h = inr (refl, h)
got_of_more [] e (suc j) q z h = inl h
got_of_more (x ∷ es) e zero q z h = inl h
got_of_more (x ∷ es) e (suc j) q z h = elim (got_of_more es e j q z h) [ inl g ↦ inl g | inr g ↦ inr (ap suc g.0, g.1) ]

-- an end in its list
pub end_at : (es : List MessageEnd) (k p : ℕ) (s : SegmentEnd) → segment_at es k p ≡ Some s → (e : MessageEnd) × (slice_get es k ≡ Some e) × (slice_get (segments_in e.result) p ≡ Some s)
end_at [] k p s at = absurd (cc)
end_at (e ∷ es) zero p s at = (e, refl, at)
end_at (e ∷ es) (suc k) p s at = end_at es k p s at

pub set_is_put : (es : List MessageEnd) (k p : ℕ) (e : MessageEnd) (t : SegmentEnd) → slice_get es k ≡ Some e → slice_set es k (with_part e p t) ≡ put es k p t
set_is_put [] k p e t at = refl
set_is_put (x ∷ es) zero p e t at = let same : x ≡ e = cc in ap (λ y. with_part y p t ∷ es) (sym same)
set_is_put (x ∷ es) (suc k) p e t at = ap (λ l. x ∷ l) (set_is_put es k p e t at)

pub segment_in : (es : List MessageEnd) (k p : ℕ) (e : MessageEnd) → slice_get es k ≡ Some e → segment_at es k p ≡ slice_get (segments_in e.result) p
segment_in [] k p e at = absurd (cc)
segment_in (x ∷ es) zero p e at = let same : x ≡ e = cc in ap (λ y. slice_get (segments_in y.result) p) same
segment_in (x ∷ es) (suc k) p e at = segment_in es k p e at

pub set_same : (es : List MessageEnd) (k : ℕ) (e : MessageEnd) → slice_get es k ≡ Some e → slice_set es k e ≡ es
set_same [] k e at = refl
set_same (x ∷ es) zero e at = let same : x ≡ e = cc in ap (λ y. y ∷ es) (sym same)
set_same (x ∷ es) (suc k) e at = ap (λ l. x ∷ l) (set_same es k e at)

pub no_segment : (es : List MessageEnd) (k p : ℕ) → length es ≤ k → segment_at es k p ≡ None
no_segment [] k p le = refl
no_segment (e ∷ es) zero p le = absurd (omega arith)
no_segment (e ∷ es) (suc k) p le = no_segment es k p (omega arith)

pub none_there : {X : Type 0} (xs : List X) (p : ℕ) → length xs ≤ p → slice_get xs p ≡ None
none_there [] p le = refl
none_there (x ∷ xs) zero le = absurd (omega arith)
none_there (x ∷ xs) (suc p) le = none_there xs p (omega arith)

pub if_some : {X : Type 0} (P Q : X → Type 0) (o : Option X) → ((x : X) → P x → Q x) → IfSome o P → IfSome o Q
if_some P Q None f h = h
if_some P Q (Some x) f h = f x h

pub if_none : {X : Type 0} (P Q : Type 0) (o : Option X) → (P → Q) → IfNone o P → IfNone o Q
if_none P Q None f h = f h
if_none P Q (Some x) f h = h

same_part : (ss : List SegmentEnd) (p : ℕ) (s : SegmentEnd) → slice_get ss p ≡ Some s → slice_set ss p s ≡ ss
same_part [] p s at = refl
same_part (x ∷ ss) zero s at = let same : x ≡ s = cc in ap (λ y. y ∷ ss) (sym same)
same_part (x ∷ ss) (suc p) s at = ap (λ l. x ∷ l) (same_part ss p s at)

same_in : (r : MessageResult) (p : ℕ) (s : SegmentEnd) → slice_get (segments_in r) p ≡ Some s → put_in r p s ≡ r
same_in (Sent ss) p s at = ap Sent (same_part ss p s at)
same_in (NotSent refusal) p s at = refl

pub put_same : (es : List MessageEnd) (k p : ℕ) (s : SegmentEnd) → segment_at es k p ≡ Some s → put es k p s ≡ es
put_same [] k p s at = refl
put_same (e ∷ es) zero p s at = ap (λ r. record e { result = r } ∷ es) (same_in e.result p s at)
put_same (e ∷ es) (suc k) p s at = ap (λ l. e ∷ l) (put_same es k p s at)

-- what stands there while it is taken out
pub there_taken : (old es : List MessageEnd) (k p : ℕ) (s : SegmentEnd) → Takes old k p s es → segment_at es k p ≡ Some (emptied s)
there_taken old es k p s (at, is) = ap (λ l. segment_at l k p) is ∙ put_there old k p s (emptied s) at

-- what was taken out is given back, or another in its place
pub back_there : (old es : List MessageEnd) (k p : ℕ) (s : SegmentEnd) → Takes old k p s es → (x : SegmentEnd) × (segment_at es k p ≡ Some x)
back_there old es k p s takes = (emptied s, there_taken old es k p s takes)

pub given_other : (old es new : List MessageEnd) (k p : ℕ) (s s' : SegmentEnd) → Takes old k p s es → new ≡ put es k p s' → new ≡ put old k p s'
given_other old es new k p s s' (at, is) e = e ∙ ap (λ l. put l k p s') is ∙ put_twice old k p (emptied s) s'

pub given_same : (old es new : List MessageEnd) (k p : ℕ) (s : SegmentEnd) → Takes old k p s es → new ≡ put es k p s → new ≡ old
given_same old es new k p s t e = given_other old es new k p s s t e ∙ put_same old k p s t.0
