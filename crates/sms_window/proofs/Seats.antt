-- How seats begin, split, join and end.
use Rattle.std.proofs.Common.{◌≡◌, ◌≢◌, ℕ, zero, suc, ◌+◌, ◌-◌, ◌*◌, ◌/◌, ◌%◌, ◌^◌, ◌<◌, ◌≤◌, List, [], ◌∷◌, ◌++◌, set, refl, sym, ap, ◌∙◌, subst, arith, ⊎_elim}
use Rattle.std.specs.Prelude.{slice_index}
use Rattle.std.specs.Int.{bit_at, w64, leading_zeros}
use mathlib.Core.Option.{some}
use lib.ListN.{get_elem?}
use Rattle.std.proofs.lemmas.Nat.{leading_top, one_shl, pow_below, pow_pos, shr_below, le-div}
use Rattle.std.proofs.lemmas.Nat.Bits.{bit_at-pow_same, bit_at-pow_other, bit_at-zero, bit_at_above}
use Rattle.atomic_table.specs.Table.{Splits}
use Rattle.atomic_table.proofs.Lists.{at_set, at_snoc}
use Rattle.sms_core.specs.Holds.{SamePairs}
use Rattle.sms_core.proofs.Bits.{bit_at_more, bit_at_less}
use Rattle.sms_core.proofs.Pairs.{spread, spread-zero}
use Rattle.sms_core.proofs.Held.{lawful_same}
use Rattle.sms_window.specs.declared.view.View.{View}
use Rattle.sms_window.specs.declared.view.Opening.{Opening}
use Rattle.sms_core.specs.Numbers.{times}
use Rattle.sms_window.specs.Rule.{pairs_of, IsSeat, IsWindow}
use Rattle.sms_window.specs.SeatState.{IsSound}
use Rattle.sms_window.specs.Seats.{other_names, CanSplit, name_to_give, giver, given}
use Rattle.sms_window.proofs.Views.{total_set, total_snoc, own, weigh-pairs_of, times-numbers_of}

-- the highest bit that is set in a word
pub record IsTopBit (w top : ℕ) : Type 0 where
  pub inside : top < 64
  pub set_there : bit_at w top ≡ 1
  pub none_above : (i : ℕ) → top < i → bit_at w i ≡ 0

pub top_bit : (w : ℕ) → 0 < w → w < 2 ^ 64 → IsTopBit w (63 - leading_zeros w64 w)
top_bit w pos small =
    let (j, is, low, high) = leading_top 64 w pos small in
    let e : 63 - leading_zeros w64 w ≡ j = omega arith in
    let one : bit_at w j ≡ 1 = top_is_one w j low high in
    record { inside = omega arith; set_there = ap (bit_at w) e ∙ one; none_above = λ i lt. bit_at_above w (suc j) i high (omega arith) }
  where
    top_is_one : (w j : ℕ) → 2 ^ j ≤ w → w < 2 ^ suc j → bit_at w j ≡ 1
    top_is_one w j low high =
        let e : 2 ^ suc j ≡ 2 ^ (1 + j) = ap (λ (i : ℕ). 2 ^ i) (omega arith) in
        let a = shr_below w 1 j (omega arith) in
        let p = pow_pos j in
        let b = le-div 1 w (2 ^ j) p (omega arith) in
        let q : w / 2 ^ j ≡ 1 = omega arith in
        ap (λ (i : ℕ). i % 2) q

-- what a seat's family says of its own name and of the next to give
pub record Gives (v : View) : Type 0 where
  pub inside : name_to_give v < 64
  pub there : bit_at v.family (name_to_give v) ≡ 1
  pub other : name_to_give v ≢ v.name
  pub fits : 2 ^ name_to_give v ≤ v.family
  pub stays : bit_at (v.family - 2 ^ name_to_give v) v.name ≡ 1

pub name_apart : (v : View) → v.family < 2 ^ 64 → v.name < 64 → bit_at v.family v.name ≡ 1 → CanSplit v → Gives v
name_apart v small in_range has can =
    let less = bit_at_less v.family v.name in_range small has in
    let y : ℕ = less.rest in
    let sum : v.family ≡ y + 2 ^ v.name = less.sum in
    let is : other_names v ≡ y = omega arith in
    let t = top_bit (other_names v) can (omega arith) in
    let j : ℕ = name_to_give v in
    let set_there : bit_at (other_names v) j ≡ 1 = t.set_there in
    let there : bit_at y j ≡ 1 = ap (λ (w : ℕ). bit_at w j) (sym is) ∙ set_there in
    let ne : j ≢ v.name = λ e. let a : bit_at y v.name ≡ 1 = ap (bit_at y) (sym e) ∙ there in let b = less.clear in omega arith in
    let more = bit_at_more y v.name less.clear j in
    let c : bit_at v.family j ≡ bit_at (y + 2 ^ v.name) j = ap (λ (w : ℕ). bit_at w j) sum in
    let d = bit_at-pow_other v.name j ne in
    let here : bit_at v.family j ≡ 1 = omega arith in
    let less' = bit_at_less v.family j t.inside small here in
    let z : ℕ = less'.rest in
    let sum' : v.family ≡ z + 2 ^ j = less'.sum in
    let rest : v.family - 2 ^ j ≡ z = omega arith in
    let bits = bit_at_more z j less'.clear v.name in
    let e : bit_at v.family v.name ≡ bit_at (z + 2 ^ j) v.name = ap (λ (w : ℕ). bit_at w v.name) sum' in
    let f = bit_at-pow_other j v.name (λ e. ne (sym e)) in
    let g : bit_at (v.family - 2 ^ j) v.name ≡ bit_at z v.name = ap (λ (w : ℕ). bit_at w v.name) rest in
    record { inside = t.inside; there = here; other = ne; fits = omega arith; stays = omega arith }

-- the name as `split` computes it, and its bit
pub name_given : (v : View) (family name : ℕ) → family ≡ v.family → name ≡ v.name → name < 64 → 63 - leading_zeros w64 (family - 1 * 2 ^ name % 2 ^ 64) ≡ name_to_give v
name_given v family name f n lt = ap (λ (w : ℕ). 63 - leading_zeros w64 (family - w)) (one_shl name 64 lt) ∙ (λ i. 63 - leading_zeros w64 (f i - 2 ^ n i))

pub bit_given : {S : Type 0} (v : View) (taken : List S) (name family slots : ℕ) → IsSound v taken name family slots → family < 2 ^ 64 → CanSplit v
    → Gives v × (1 * 2 ^ (63 - leading_zeros w64 (family - 1 * 2 ^ name % 2 ^ 64)) % 2 ^ 64 ≡ 2 ^ name_to_give v)
bit_given v taken name family slots i small can =
    let g = name_apart v (let e = i.family in omega arith) (let e = i.name in let l = i.small in omega arith) ((λ k. bit_at (sym i.family k) (sym i.name k)) ∙ i.has_own) can in
    let e = name_given v family name i.family i.name i.small in
    let k : ℕ = 63 - leading_zeros w64 (family - 1 * 2 ^ name % 2 ^ 64) in
    (g, one_shl k 64 (omega (arith, g.inside)) ∙ ap (λ (m : ℕ). 2 ^ m) e)

-- each weight that a view without slots does not have
own_bare : (f : ℕ × ℕ → ℕ) (v : View) → v.slots ≡ 0 → own f v ≡ 0
own_bare f v e = ap (λ (w : ℕ). spread f v.name w 64) e ∙ spread-zero f v.name 64

-- a split leaves the pairs
pub split_pairs : (views : List View) (id : ℕ) (v left right : View) → get_elem? views id ≡ some v → left.name ≡ v.name → left.slots ≡ v.slots → right.slots ≡ 0 → SamePairs (pairs_of views) (pairs_of (set views id left ++ right ∷ []))
split_pairs views id v left right at n s bare f =
    let a = weigh-pairs_of f (set views id left ++ right ∷ []) in
    let b = weigh-pairs_of f views in
    let t = total_set (own f) views id v left at in
    let u = total_snoc (own f) (set views id left) right in
    let e : own f left ≡ own f v = λ i. spread f (n i) (s i) 64 in
    let z = own_bare f right bare in
    omega arith

module _ {S : Type 0} (o : Opening) where
  pub splits_keeps : (id : ℕ) (v : View) → 0 < v.family → CanSplit v → Splits {S = S} (IsWindow o) id v (giver v) (given v)
  splits_keeps id v live can s r at =
      let next = slice_index s.words 1 in
      let seat = r.seats id v at in
      let own_name = seat.whole.named live in
      let n = name_apart v seat.whole.family own_name.0 own_name.1 can in
      let j : ℕ = name_to_give v in
      let less = bit_at_less v.family j n.inside seat.whole.family n.there in
      let y : ℕ = less.rest in
      let sum : v.family ≡ y + 2 ^ j = less.sum in
      let rest : v.family - 2 ^ j ≡ y = omega arith in
      let bits : (k : ℕ) → bit_at v.family k ≡ bit_at y k + bit_at (2 ^ j) k = λ k. ap (λ (w : ℕ). bit_at w k) sum ∙ bit_at_more y j less.clear k in
      let p = split_pairs s.views id v (giver v) (given v) at refl refl refl in
      let kept : bit_at (v.family - 2 ^ j) v.name ≡ 1 = n.stays in
      let live' : 0 < v.family - 2 ^ j = positive (v.family - 2 ^ j) v.name kept in
      record {
        two = r.two;
        lawful = lawful_same _ _ p r.lawful;
        word = p (λ x. 2 ^ x.1) ∙ r.word;
        names = λ k lt.
            let t = total_set (λ u. bit_at u.family k) s.views id v (giver v) at in
            let u = total_snoc (λ u. bit_at u.family k) (set s.views id (giver v)) (given v) in
            let q : bit_at (v.family - 2 ^ j) k ≡ bit_at y k = ap (λ (w : ℕ). bit_at w k) rest in
            let b = bits k in let m = r.names k lt in omega arith;
        drawn = λ k.
            let t = total_set (λ u. times k u.numbers) s.views id v (giver v) at in
            let u = total_snoc (λ u. times k u.numbers) (set s.views id (giver v)) (given v) in
            let m = r.drawn k in
            let before = times-numbers_of k s.views in
            let after = times-numbers_of k (set s.views id (giver v) ++ given v ∷ []) in
            omega arith;
        next = r.next;
        seats = λ i u e. ⊎_elim
            (λ (was : get_elem? (set s.views id (giver v)) i ≡ some u). ⊎_elim
            (λ (x : (i ≡ id) × (giver v ≡ u)). subst (IsSeat o.first next) x.1 (record { whole = record { family = omega arith; slots = seat.whole.slots; named = λ _. (own_name.0, kept) }; spent = λ z. absurd (omega arith); seen = seat.seen; below = seat.below; rising = seat.rising; first = λ _. seat.first live }))
            (λ (x : (i ≢ id) × (get_elem? s.views i ≡ some u)). r.seats i u x.1)
            (at_set s.views id i (giver v) u was))
            (λ (is : given v ≡ u). subst (IsSeat o.first next) is (record { whole = record { family = pow_below j 64 n.inside; slots = omega arith; named = λ _. (n.inside, bit_at-pow_same j) }; spent = λ _. (refl, refl); seen = seat.seen; below = tt; rising = λ _. tt; first = λ _. seat.first live }))
            (at_snoc (set s.views id (giver v)) (given v) u i e);
      }
    where
      positive : (w k : ℕ) → bit_at w k ≡ 1 → 0 < w
      positive zero k e = absurd (omega (arith, bit_at-zero k))
      positive (suc w) k e = omega arith
