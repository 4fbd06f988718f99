-- What stands at the front of a stream, and one more frame taken off it.
use Rattle.std.proofs.Common.{◌≡◌, ℕ, ◌+◌, ◌-◌, ◌<◌, ◌≤◌, ◌⊎◌, Bool, true, false, cond, ltb, List, [], ◌∷◌, ◌++◌, length, take, drop, refl, sym, ap, subst, ◌∙◌, arith, inl, inr}
use Rattle.std.specs.List.{AllByRecursion}
use Rattle.std.specs.Int.{w32, from_be_bytes}
use Rattle.std.proofs.lemmas.Bool.{cases_lt, ltb-false, ltb-true, lt-ltb, le-ltb}
use Rattle.std.proofs.lemmas.List.{take-append-drop, take-append-le, length-take-le}
use Rattle.std.proofs.Math.Seq.{take-append-add}
use Rattle.sms_pdu.specs.declared.front.Front.{Front}
use Rattle.sms_pdu.specs.declared.front.Front.TheVariants.{Short, Bad, Cut, Whole}
use Rattle.sms_pdu.specs.Frame.{announced, IsFrame, IsShort, IsCut, IsBad, IsRest, front_at}

-- the first four octets of a longer stream are those of its front
pub announced-append : (s t : List ℕ) → 4 ≤ length s → announced (s ++ t) ≡ announced s
announced-append s t le = ap (λ (x : List ℕ). from_be_bytes w32 x) (take-append-le 4 s t le)

pub announced-take : (n : ℕ) (s : List ℕ) → 4 ≤ n → n ≤ length s → announced (take n s) ≡ announced s
announced-take n s le long =
    sym (announced-append (take n s) (drop n s) (omega (arith, length-take-le n s long))) ∙ ap announced (take-append-drop n s)

-- ---- the cases of the front

abbrev front_if : Bool → Bool → Bool → Bool → ℕ → Front
front_if a b c d n = cond a Short (cond b Bad (cond c Bad (cond d (Cut n) (Whole n))))

pub record FoundWhole (s : List ℕ) (n : ℕ) : Type 0 where
  pub is : n ≡ announced s
  pub begun : 4 ≤ length s
  pub least : 16 ≤ n
  pub most : n ≤ 70000
  pub there : n ≤ length s

-- the tests of a front that isn't short or bad: whether its rest is there is told by `cut`
record Tested (a b c d cut : Bool) (m n : ℕ) : Type 0 where
  begun : a ≡ false
  least : b ≡ false
  most : c ≡ false
  there : d ≡ cut
  is : n ≡ m

whole_by : (a b c d : Bool) (m n : ℕ) → Whole n ≡ front_if a b c d m → Tested a b c d false m n
whole_by true b c d m n e = absurd cc
whole_by false true c d m n e = absurd cc
whole_by false false true d m n e = absurd cc
whole_by false false false true m n e = absurd cc
whole_by false false false false m n e = record { begun = refl; least = refl; most = refl; there = refl; is = cc }

pub found_whole : (s : List ℕ) (n : ℕ) → Whole n ≡ front_at s → FoundWhole s n
found_whole s n e =
    let w = whole_by (ltb (length s) 4) (ltb (announced s) 16) (ltb 70000 (announced s)) (ltb (length s) (announced s)) (announced s) n e in
    let h0 : 4 ≤ length s = ltb-false _ _ w.begun in
    let h1 : 16 ≤ announced s = ltb-false _ _ w.least in
    let h2 : announced s ≤ 70000 = ltb-false _ _ w.most in
    let h3 : announced s ≤ length s = ltb-false _ _ w.there in
    record { is = w.is; begun = h0; least = omega (arith, w.is); most = omega (arith, w.is); there = omega (arith, w.is) }

short_by : (a b c d : Bool) (m : ℕ) → Short ≡ front_if a b c d m → a ≡ true
short_by true b c d m e = refl
short_by false true c d m e = absurd cc
short_by false false true d m e = absurd cc
short_by false false false true m e = absurd cc
short_by false false false false m e = absurd cc

pub found_short : (s : List ℕ) → Short ≡ front_at s → IsShort s
found_short s e = ltb-true _ _ (short_by (ltb (length s) 4) (ltb (announced s) 16) (ltb 70000 (announced s)) (ltb (length s) (announced s)) (announced s) e)

bad_by : (a b c d : Bool) (m : ℕ) → Bad ≡ front_if a b c d m → (a ≡ false) × ((b ≡ true) ⊎ (c ≡ true))
bad_by true b c d m e = absurd cc
bad_by false true c d m e = (refl, inl refl)
bad_by false false true d m e = (refl, inr refl)
bad_by false false false true m e = absurd cc
bad_by false false false false m e = absurd cc

pub found_bad : (s : List ℕ) → Bad ≡ front_at s → IsBad s
found_bad s e =
    let w = bad_by (ltb (length s) 4) (ltb (announced s) 16) (ltb 70000 (announced s)) (ltb (length s) (announced s)) (announced s) e in
    record { begun = ltb-false _ _ w.0; bad = elim w.1 [ inl h ↦ inl (ltb-true _ _ h) | inr h ↦ inr (ltb-true _ _ h) ] }

cut_by : (a b c d : Bool) (m n : ℕ) → Cut n ≡ front_if a b c d m → Tested a b c d true m n
cut_by true b c d m n e = absurd cc
cut_by false true c d m n e = absurd cc
cut_by false false true d m n e = absurd cc
cut_by false false false true m n e = record { begun = refl; least = refl; most = refl; there = refl; is = cc }
cut_by false false false false m n e = absurd cc

pub found_cut : (s : List ℕ) (n : ℕ) → Cut n ≡ front_at s → IsCut s × (n ≡ announced s)
found_cut s n e =
    let w = cut_by (ltb (length s) 4) (ltb (announced s) 16) (ltb 70000 (announced s)) (ltb (length s) (announced s)) (announced s) n e in
    (record { begun = ltb-false _ _ w.begun; good = record { least = ltb-false _ _ w.least; most = ltb-false _ _ w.most }; cut = ltb-true _ _ w.there }, w.is)

bad_if : (a b c d : Bool) (n : ℕ) → a ≡ false → (b ≡ true) ⊎ (c ≡ true) → front_if a b c d n ≡ Bad
bad_if true b c d n e h = absurd cc
bad_if false true c d n e h = refl
bad_if false false true d n e h = refl
bad_if false false false d n e (inl h) = absurd cc
bad_if false false false d n e (inr h) = absurd cc

-- and a stream with a bad length is found so
pub bad_found : (s : List ℕ) → IsBad s → front_at s ≡ Bad
bad_found s h =
    let below : (ltb (announced s) 16 ≡ true) ⊎ (ltb 70000 (announced s) ≡ true) = elim h.bad [ inl k ↦ inl (lt-ltb _ _ k) | inr k ↦ inr (lt-ltb _ _ k) ] in
    bad_if (ltb (length s) 4) (ltb (announced s) 16) (ltb 70000 (announced s)) (ltb (length s) (announced s)) (announced s) (le-ltb _ _ h.begun) below

-- ---- rests

-- a rest with a good length is shorter than it
pub rest_pends : (r : List ℕ) → IsRest r → 4 ≤ length r → 16 ≤ announced r → announced r ≤ 70000 → length r < announced r
rest_pends r (inl h) a b c = absurd (omega arith)
rest_pends r (inr (inl h)) a b c = h.cut
rest_pends r (inr (inr h)) a b c = elim h.bad [ inl k ↦ absurd (omega arith) | inr k ↦ absurd (omega arith) ]

-- ---- frames taken off the front

pub AllByRecursion-append : {X : Type 0} (P : X → Type 0) (xs ys : List X) → AllByRecursion P xs → AllByRecursion P ys → AllByRecursion P (xs ++ ys)
AllByRecursion-append P [] ys h k = k
AllByRecursion-append P (x ∷ xs) ys h k = (h.0, AllByRecursion-append P xs ys h.1 k)

pub whole_is_frame : (s : List ℕ) (n : ℕ) → FoundWhole s n → IsFrame (take n s)
whole_is_frame s n w =
    let len : length (take n s) ≡ n = length-take-le n s w.there in
    let says : announced (take n s) ≡ announced s = announced-take n s (omega (arith, w.least)) w.there in
    record { good = record { least = omega (arith, len, w.least); most = omega (arith, len, w.most) }; announces = says ∙ sym w.is ∙ sym len }

-- ---- a rest that is completed

-- a rest is no longer than the frame that it begins
rest_fits : (r p : List ℕ) (n : ℕ) → IsRest r → FoundWhole (r ++ p) n → length r ≤ n
rest_fits r p n rest w =
    elim (cases_lt (length r) 4) [
      | inl short ↦ omega (arith, w.least)
      | inr begun ↦
          let says : announced (r ++ p) ≡ announced r = announced-append r p begun in
          let lt = rest_pends r rest begun (omega (arith, says, w.is, w.least)) (omega (arith, says, w.is, w.most)) in
          omega (arith, says, w.is, lt)
    ]

-- with what the piece still has of it, it is that frame
pub whole_joined : (r p last : List ℕ) (n : ℕ) → IsRest r → Whole n ≡ front_at (r ++ p) → last ≡ take (n - length r) p → IsFrame (r ++ last)
whole_joined r p last n rest found is =
    let w = found_whole (r ++ p) n found in
    let le = rest_fits r p n rest w in
    let split : n ≡ length r + (n - length r) = omega (arith, le) in
    let same : take n (r ++ p) ≡ r ++ last = ap (λ k. take k (r ++ p)) split ∙ take-append-add r p (n - length r) ∙ ap (λ l. r ++ l) (sym is) in
    subst IsFrame same (whole_is_frame (r ++ p) n w)
