-- Prefixes in their order: what a comparison with the middle one tells, and a place that is put in between.
use Rattle.std.proofs.Common.{◌≡◌, ℕ, zero, suc, ◌+◌, ◌<◌, ◌≤◌, List, length, refl, sym, ap, ◌∙◌, subst, arith}
use Rattle.std.specs.Prelude.{slice_index, insert}
use Rattle.std.specs.Cmp.Lexicographic.{slice_cmp}
use Rattle.std.specs.Ordering.{nat_cmp, ordering_reverse}
use Rattle.std.specs.declared.cmp.Ordering.{Ordering}
use Rattle.std.specs.declared.cmp.Ordering.TheVariants.{Less, Equal, Greater}
use Rattle.std.proofs.lemmas.Cmp.{nat_list_cmp_total, tied_itself}
use Rattle.std.proofs.lemmas.List.Edits.{length-insert, get_or-insert_below, get_or-insert_at, get_or-insert_above}
use native.Mathlib.Decide.{ℕ_discrete, dec_lt}
use mathlib.Core.Logic.{dite}
use Rattle.sms_book.specs.Tariffs.{Price, price_at}
use Rattle.sms_book.specs.Indexes.{prefix_in, Before, IsIndex, IsRoom, IsAmong}

pub before_trans : (a b c : List ℕ) → Before a b → Before b c → Before a c
before_trans a b c p q = nat_list_cmp_total.trans a b c p q

-- what is greater comes after
pub before_greater : (a b : List ℕ) → slice_cmp nat_cmp a b ≡ Greater → Before b a
before_greater a b e = flip (slice_cmp nat_cmp b a) (sym e ∙ nat_list_cmp_total.antisymm a b)
  where
    flip : (o : Ordering) → Greater ≡ ordering_reverse o → o ≡ Less
    flip Less e = refl
    flip Equal e = absurd (cc)
    flip Greater e = absurd (cc)

-- nothing comes before itself
pub not_itself : (a : List ℕ) → ¬ (Before a a)
not_itself a e = let same = tied_itself nat_list_cmp_total a in absurd (cc)

-- below the middle, and above it
pub below_middle : (prices : List Price) (order : List ℕ) (n : ℕ) (prefix : List ℕ) (middle i : ℕ) → IsIndex prices order n → middle < length order → Before (prefix_in prices order middle) prefix → i < middle + 1
    → Before (prefix_in prices order i) prefix
below_middle prices order n prefix middle i index low less at = dite (ℕ_discrete i middle)
    (λ is. subst (λ (j : ℕ). Before (prefix_in prices order j) prefix) (sym is) less)
    (λ ne. before_trans _ (prefix_in prices order middle) _ (index.rising i middle (omega arith) low) less)

pub above_middle : (prices : List Price) (order : List ℕ) (n : ℕ) (prefix : List ℕ) (middle i : ℕ) → IsIndex prices order n → Before prefix (prefix_in prices order middle) → middle ≤ i → i < length order
    → Before prefix (prefix_in prices order i)
above_middle prices order n prefix middle i index more at low = dite (ℕ_discrete i middle)
    (λ is. subst (λ (j : ℕ). Before prefix (prefix_in prices order j)) (sym is) more)
    (λ ne. before_trans _ (prefix_in prices order middle) _ more (index.rising middle i (omega arith) low))

-- where there is room for a prefix no place has it
pub no_place : (prices : List Price) (order : List ℕ) (n : ℕ) (prefix : List ℕ) (at place : ℕ) → IsIndex prices order n → IsRoom prices order prefix at → place < n → (price_at prices place).prefix ≡ prefix → ⊥
no_place prices order n prefix at place index room low same = there (index.all place low)
  where
    there : IsAmong order place → ⊥
    there t =
        let is : prefix_in prices order t.at ≡ prefix = ap (λ (j : ℕ). (price_at prices j).prefix) t.is ∙ same in
        dite (dec_lt t.at at)
        (λ below. not_itself prefix (subst (λ (p : List ℕ). Before p prefix) is (room.below t.at below)))
        (λ no. not_itself prefix (subst (λ (p : List ℕ). Before prefix p) is (room.above t.at (omega arith) t.within)))

-- the next place, put where there is room for its prefix
module _ (prices : List Price) (order : List ℕ) (n at : ℕ) (index : IsIndex prices order n) (room : IsRoom prices order (price_at prices n).prefix at) where
  old_below : (k : ℕ) → k < at → prefix_in prices (insert order at n) k ≡ prefix_in prices order k
  old_below k low = ap (λ (j : ℕ). (price_at prices j).prefix) (get_or-insert_below order at n 0 k low room.within)

  new_here : prefix_in prices (insert order at n) at ≡ (price_at prices n).prefix
  new_here = ap (λ (j : ℕ). (price_at prices j).prefix) (get_or-insert_at order at n 0 room.within)

  old_above : (k : ℕ) → at ≤ k → prefix_in prices (insert order at n) (k + 1) ≡ prefix_in prices order k
  old_above k low = ap (λ (j : ℕ). (price_at prices j).prefix) (get_or-insert_above order at n 0 k low room.within)

  -- a place of the longer list is one of the shorter before it, the new one, or the next of one of the shorter
  where_in : (P : ℕ → Type 0) (k : ℕ) → (k < at → P k) → (k ≡ at → P k) → ((j : ℕ) → k ≡ j + 1 → at ≤ j → P k) → P k
  where_in P zero low here high = dite (dec_lt zero at) low (λ no. here (omega arith))
  where_in P (suc k) low here high = dite (dec_lt (suc k) at) low (λ no. dite (ℕ_discrete (suc k) at) here (λ ne. high k (omega arith) (omega arith)))

  rising_new : (i j : ℕ) → i < j → j < length (insert order at n) → Before (prefix_in prices (insert order at n) i) (prefix_in prices (insert order at n) j)
  rising_new i j less low =
      let long = length-insert order at n room.within in
      let within = room.within in
      let p = λ (k : ℕ). prefix_in prices (insert order at n) k in
      where_in (λ j. i < j → j < length (insert order at n) → Before (p i) (p j)) j
      (λ below l m. subst (λ (x : List ℕ × List ℕ). Before x.0 x.1) (λ t. (sym (old_below i (omega arith)) t, sym (old_below j below) t)) (index.rising i j l (omega arith)))
      (λ is l m. subst (λ (y : ℕ). i < y → Before (p i) (p y)) (sym is) (λ l'. subst (λ (x : List ℕ × List ℕ). Before x.0 x.1) (λ t. (sym (old_below i l') t, sym new_here t)) (room.below i l')) l)
      (λ k is above l m.
      let short : k < length order = omega arith in
      subst (λ (y : ℕ). i < y → Before (p i) (p y)) (sym is)
      (λ l'. where_in (λ i. i < k + 1 → Before (p i) (p (k + 1))) i
      (λ below l''. subst (λ (x : List ℕ × List ℕ). Before x.0 x.1) (λ t. (sym (old_below i below) t, sym (old_above k above) t)) (index.rising i k (omega arith) short))
      (λ is' l''. subst (λ (y : ℕ). Before (p y) (p (k + 1))) (sym is') (subst (λ (x : List ℕ × List ℕ). Before x.0 x.1) (λ t. (sym new_here t, sym (old_above k above) t)) (room.above k above short)))
      (λ h is' above' l''. subst (λ (y : ℕ). Before (p y) (p (k + 1))) (sym is') (subst (λ (x : List ℕ × List ℕ). Before x.0 x.1) (λ t. (sym (old_above h above') t, sym (old_above k above) t)) (index.rising h k (omega arith) short)))
      l')
      l) less low

  places_new : (i : ℕ) → i < length (insert order at n) → slice_index (insert order at n) i < n + 1
  places_new i low =
      let long = length-insert order at n room.within in
      where_in (λ i. i < length (insert order at n) → slice_index (insert order at n) i < n + 1) i
      (λ below l. let e = get_or-insert_below order at n 0 i below room.within in let h = index.places i (let w = room.within in omega arith) in omega arith)
      (λ is l. let e = ap (slice_index (insert order at n)) is in let f = get_or-insert_at order at n 0 room.within in omega arith)
      (λ k is above l. let e = ap (slice_index (insert order at n)) is in let f = get_or-insert_above order at n 0 k above room.within in let h = index.places k (omega arith) in omega arith) low

  all_new : (place : ℕ) → place < n + 1 → IsAmong (insert order at n) place
  all_new place low = dite (ℕ_discrete place n)
      (λ is. record { at = at; within = (let long = length-insert order at n room.within in let w = room.within in omega arith); is = get_or-insert_at order at n 0 room.within ∙ sym is })
      (λ ne. from_old (index.all place (omega arith)))
    where
      from_old : IsAmong order place → IsAmong (insert order at n) place
      from_old t =
          let long = length-insert order at n room.within in
          let short = t.within in
          dite (dec_lt t.at at)
          (λ below. record { at = t.at; within = omega arith; is = get_or-insert_below order at n 0 t.at below room.within ∙ t.is })
          (λ no. record { at = t.at + 1; within = omega arith; is = get_or-insert_above order at n 0 t.at (omega arith) room.within ∙ t.is })

  pub put_in_order : IsIndex prices (insert order at n) (n + 1)
  put_in_order = record { places = places_new; rising = rising_new; all = all_new }
