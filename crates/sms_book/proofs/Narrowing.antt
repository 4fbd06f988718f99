-- What the last prefix before some digits tells of the prefixes that they begin with.
use Rattle.std.proofs.Common.{◌≡◌, ℕ, ◌-◌, ◌<◌, ◌≤◌, List, [], ◌∷◌, ◌++◌, length, take, refl, sym, ap, ◌∙◌, subst, arith}
use Rattle.std.specs.Cmp.Lexicographic.{slice_cmp}
use Rattle.std.specs.Ordering.{nat_cmp, ordering_then}
use Rattle.std.specs.declared.cmp.Ordering.{Ordering}
use Rattle.std.specs.declared.cmp.Ordering.TheVariants.{Less, Equal, Greater}
use Rattle.std.proofs.lemmas.List.{length-take-le, take-take, take_all}
use Rattle.std.proofs.lemmas.Cmp.{nat_cmp_total, ranked, tied_itself}
use native.Mathlib.Decide.{ℕ_discrete, dec_lt}
use mathlib.Core.Logic.{dite}
use Rattle.sms_book.specs.Tariffs.{Price, price_at, Begins}
use Rattle.sms_book.specs.Indexes.{prefix_in, Before, IsIndex, IsRoom, IsAmong, IsShared}
use Rattle.sms_book.proofs.Halving.{before_trans, not_itself}
use Rattle.sms_book.proofs.Longest.{begins_short, begins_take, take_begins}

-- what begins with a prefix doesn't come before it
pub not_before_front : (p rest : List ℕ) → ¬ (Before (p ++ rest) p)
not_before_front [] [] e = absurd (cc)
not_before_front [] (y ∷ rest) e = absurd (cc)
not_before_front (x ∷ p) rest e = not_before_front p rest (head (nat_cmp x x) (tied_itself nat_cmp_total x) e)
  where
    head : (o : Ordering) → o ≡ Equal → ordering_then o (slice_cmp nat_cmp (p ++ rest) p) ≡ Less → Before (p ++ rest) p
    head Less is e = absurd (cc)
    head Equal is e = e
    head Greater is e = absurd (cc)

-- what lies between a prefix and what begins with it begins with it
pub between : (p rest q : List ℕ) → ¬ (Before q p) → Before q (p ++ rest) → Begins q p
between [] rest q low high = (q, refl)
between (x ∷ p) rest [] low high = absurd (low refl)
between (x ∷ p) rest (y ∷ q) low high = by (nat_cmp y x) refl (between p rest q)
  where
    by : (o : Ordering) → o ≡ nat_cmp y x → (¬ (Before q p) → Before q (p ++ rest) → Begins q p) → Begins (y ∷ q) (x ∷ p)
    by Less is more = absurd (low (ap (λ (r : Ordering). ordering_then r (slice_cmp nat_cmp q p)) (sym is)))
    by Greater is more = let e : Greater ≡ Less = ap (λ (r : Ordering). ordering_then r (slice_cmp nat_cmp q (p ++ rest))) is ∙ high in absurd (cc)
    by Equal is more =
        let same : y ≡ x = ranked y x Equal is in
        let b = more (λ e. low (ap (λ (r : Ordering). ordering_then r (slice_cmp nat_cmp q p)) (sym is) ∙ e)) (ap (λ (r : Ordering). ordering_then r (slice_cmp nat_cmp q (p ++ rest))) is ∙ high) in
        (b.0, (λ i. same i ∷ b.1 i))

-- the digits' front of a length that reaches to a prefix begins with it as they do
pub in_front : (digits prefix : List ℕ) (n : ℕ) → length prefix ≤ n → Begins digits prefix → Begins (take n digits) prefix
in_front digits prefix n short b = take_begins (take n digits) prefix (length prefix) (begins_take digits prefix b ∙ sym (take-take (length prefix) n digits short))

pub of_front : (digits prefix : List ℕ) (n : ℕ) → n ≤ length digits → Begins (take n digits) prefix → Begins digits prefix
of_front digits prefix n within b =
    let short = begins_short (take n digits) prefix b in
    let size = length-take-le n digits within in
    take_begins digits prefix (length prefix) (begins_take (take n digits) prefix b ∙ take-take (length prefix) n digits (omega arith))

module _ (prices : List Price) (order : List ℕ) (n : ℕ) (front : List ℕ) (at : ℕ) (index : IsIndex prices order n) (room : IsRoom prices order front at) where
  -- a prefix that the digits begin with stands before their place
  stands_below : (place : ℕ) → Begins front (price_at prices place).prefix → (t : IsAmong order place) → t.at < at
  stands_below place b t = dite (dec_lt t.at at)
      (λ low. low)
      (λ no. absurd (not_before_front (price_at prices place).prefix b.0
      (subst (λ (x : List ℕ × List ℕ). Before x.0 x.1) (λ i. (b.1 i, (price_at prices (t.is i)).prefix)) (room.above t.at (omega arith) t.within))))

  pub none_begins : at ≡ 0 → (place : ℕ) → place < n → Begins front (price_at prices place).prefix → ⊥
  none_begins is place low b = let below = stands_below place b (index.all place low) in absurd (omega arith)

  module _ (same : ℕ) (some : 0 < at) (shared : IsShared (prefix_in prices order (at - 1)) front same) where
    abbrev last : List ℕ
    last = prefix_in prices order (at - 1)

    before : Before last front
    before = room.below (at - 1) (omega arith)

    -- the last before their place doesn't come before it
    not_above : (place : ℕ) (t : IsAmong order place) → t.at < at → ¬ (Before last (price_at prices place).prefix)
    not_above place t below e = dite (ℕ_discrete t.at (at - 1))
        (λ is. not_itself last (subst (λ (x : List ℕ). Before last x) ((λ i. (price_at prices (sym t.is i)).prefix) ∙ ap (prefix_in prices order) is) e))
        (λ ne. not_itself last (before_trans last (prefix_in prices order t.at) last (subst (λ (x : List ℕ). Before last x) (λ i. (price_at prices (sym t.is i)).prefix) e) (index.rising t.at (at - 1) (omega arith) (let w = room.within in omega arith))))

    pub reaches : (place : ℕ) → place < n → Begins front (price_at prices place).prefix → length (price_at prices place).prefix ≤ same
    reaches place low b =
        let p = (price_at prices place).prefix in
        let t = index.all place low in
        let fits = between p b.0 last (not_above place t (stands_below place b t)) (subst (λ (x : List ℕ). Before last x) b.1 before) in
        shared.most (length p) (begins_short last p fits) (begins_short front p b) (sym (begins_take last p fits) ∙ begins_take front p b)

    pub shorter : same < length front
    shorter = dite (dec_lt same (length front))
        (λ low. low)
        (λ no.
        let inside = shared.inside in
        let all : take same front ≡ front = take_all same front (omega arith) in
        let b = take_begins last front same (sym (shared.same ∙ all)) in
        absurd (not_before_front front b.0 (subst (λ (x : List ℕ). Before x front) b.1 before)))

    pub whole : same ≡ length last → Begins front last
    whole is = take_begins front last same (sym (take_all same last (omega arith)) ∙ shared.same)
