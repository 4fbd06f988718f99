-- What a step does to the hold set and the numbers, and that it keeps the rule.
use Rattle.std.proofs.Common.{◌≡◌, ◌≢◌, ℕ, ◌+◌, ◌-◌, ◌*◌, ◌/◌, ◌%◌, ◌^◌, ◌<◌, ◌≤◌, List, [], ◌∷◌, ◌++◌, set, length, refl, sym, ap, ◌∙◌, subst, arith, ⊎_elim, length-set, get_or-set_other, get_or-set_same}
use Rattle.std.specs.Prelude.{slice_index, bit_and}
use Rattle.std.specs.Int.{bit_at}
use mathlib.Core.Logic.{dite}
use mathlib.Core.Option.{Option, some}
use native.Mathlib.Decide.{ℕ_discrete}
use lib.ListN.{get_elem?}
use Rattle.std.proofs.Math.Nat.{mod-eq_of_lt}
use Rattle.std.proofs.lemmas.Nat.{or_disjoint, or_lt, pow_below}
use Rattle.std.proofs.lemmas.Nat.Bits.{and_pow, same_from_bits, bit_at-zero, bit_at_cat_high}
use Rattle.atomic_table.specs.Table.{State, keeps, stepped}
use Rattle.atomic_table.proofs.Lists.{at_set}
use Rattle.sms_core.specs.Holds.{is_slot, holders_of, IsLawful, word_of, SamePairs, Claims, Releases}
use Rattle.sms_core.specs.Limits.{top_number}
use Rattle.sms_core.specs.Numbers.{times, AreDrawn, once_below}
use Rattle.sms_core.proofs.Bits.{bit_at_more, bit_at_less}
use Rattle.sms_core.proofs.Pairs.{spread, spread_add, spread-pow, bits_of_lawful, weigh-pairs_below, spread-is_slot, spread-is_slot_above, spread-word}
use Rattle.sms_core.proofs.Held.{lawful_same, lawful_claims, lawful_releases}
use Rattle.sms_window.specs.declared.view.View.{View}
use Rattle.sms_window.specs.declared.view.Opening.{Opening}
use Rattle.sms_window.specs.Rule.{total, pairs_of, numbers_of, IsSeat, IsWindow}
use Rattle.sms_window.specs.Seats.{used_up, met_with, with_slots, seen_with, drawn_with}
use Rattle.sms_window.specs.Steps.{IsHoldSet, IsClaim, IsRelease, IsDraw}
use Rattle.sms_core.proofs.Numbers.{below_later, below_append, rising_push, times_push}
use Rattle.sms_window.proofs.Views.{total_set, total_one, own, own_le, pairs_set, weigh-pairs_of, set_at, times-numbers_of}

-- `w | 1 << k`, as a sum
pub or_more : (w k : ℕ) → k < 64 → w < 2 ^ 64 → bit_at w k ≡ 0 → w + 2 ^ k < 2 ^ 64
or_more w k inside small clear =
    let none_both : bit_and w (2 ^ k) ≡ 0 = and_pow w k ∙ rw clear (omega arith) in
    let sum = or_disjoint w (2 ^ k) none_both in
    let lt = or_lt 64 w (2 ^ k) small (pow_below k 64 inside) in
    omega arith

-- a word without bits from 64 on
no_more : (w : ℕ) → ((k : ℕ) → 64 ≤ k → bit_at w k ≡ 0) → w < 2 ^ 64
no_more w clear =
    let high : ℕ = w / 2 ^ 64 in
    let low : ℕ = w % 2 ^ 64 in
    let cut : w ≡ w / 2 ^ 64 * 2 ^ 64 + w % 2 ^ 64 = omega arith in
    let none_high : w / 2 ^ 64 ≡ 0 = same_from_bits (w / 2 ^ 64) 0 (λ i.
    let c = bit_at_cat_high (w / 2 ^ 64) 64 (w % 2 ^ 64) (i + 64) (omega arith) (omega arith) in
    let z = clear (i + 64) (omega arith) in
    let e : bit_at w (i + 64) ≡ bit_at (w / 2 ^ 64 * 2 ^ 64 + w % 2 ^ 64) (i + 64) = ap (λ (n : ℕ). bit_at n (i + 64)) cut in
    let back : bit_at (w / 2 ^ 64) (i + 64 - 64) ≡ bit_at (w / 2 ^ 64) i = ap (bit_at (w / 2 ^ 64)) (omega arith) in
    let o = bit_at-zero i in
    omega arith) in
    omega arith

seat_later : (opening next later : ℕ) (v : View) → next ≤ later → IsSeat opening next v → IsSeat opening later v
seat_later opening next later v le s = record { whole = s.whole; spent = s.spent; seen = let e = s.seen in omega arith; below = s.below; rising = s.rising; first = s.first }

seats_set : (opening next later : ℕ) (views : List View) (id : ℕ) (w : View) → next ≤ later → ((j : ℕ) (u : View) → get_elem? views j ≡ some u → IsSeat opening next u) → IsSeat opening later w
    → (j : ℕ) (u : View) → get_elem? (set views id w) j ≡ some u → IsSeat opening later u
seats_set opening next later views id w le others mine j u e =
    ⊎_elim
    (λ (x : (j ≡ id) × (w ≡ u)). subst (IsSeat opening later) x.1 mine)
    (λ (x : (j ≢ id) × (get_elem? views j ≡ some u)). seat_later opening next later u le (others j u x.1))
    (at_set views id j w u e)

-- the hold sets before and after a step that leaves the seat's slots
pub same_pairs : (views : List View) (id : ℕ) (v w : View) → get_elem? views id ≡ some v → w.name ≡ v.name → w.slots ≡ v.slots → SamePairs (pairs_of views) (pairs_of (set views id w))
same_pairs views id v w at n s f = let t = pairs_set f views id v w at in let e : own f w ≡ own f v = λ i. spread f (n i) (s i) 64 in omega arith

claims_pairs : (views : List View) (id : ℕ) (v w : View) (k : ℕ) → get_elem? views id ≡ some v → k < 64 → holders_of k (pairs_of views) ≡ 0 → w.name ≡ v.name → w.slots ≡ v.slots + 2 ^ k
    → (bit_at v.slots k ≡ 0) × Claims (pairs_of views) v.name k (pairs_of (set views id w))
claims_pairs views id v w k at inside free n s =
    let le = own_le (is_slot k) views id v at in
    let mine : bit_at v.slots k ≡ 0 = let e = spread-is_slot v.name v.slots 64 k inside in omega arith in (
      mine,
      (
        free,
        λ f.
            let t = pairs_set f views id v w at in
            let e : own f w ≡ spread f v.name (v.slots + 2 ^ k) 64 = λ i. spread f (n i) (s i) 64 in
            let a = spread_add f v.name v.slots (2 ^ k) (v.slots + 2 ^ k) 64 (bit_at_more v.slots k mine) in
            let p = spread-pow f v.name k 64 inside in
            omega arith,
      ),
    )

releases_pairs : (views : List View) (id : ℕ) (v w : View) (k : ℕ) → get_elem? views id ≡ some v → k < 64 → v.slots < 2 ^ 64 → bit_at v.slots k ≡ 1 → w.name ≡ v.name → w.slots ≡ v.slots - 2 ^ k
    → (2 ^ k ≤ v.slots) × Releases (pairs_of views) v.name k (pairs_of (set views id w))
releases_pairs views id v w k at inside small has n s =
    let less = bit_at_less v.slots k inside small has in
    let y : ℕ = less.rest in
    let sum : v.slots ≡ y + 2 ^ k = less.sum in
    let rest : w.slots ≡ y = s ∙ omega arith in (
      omega arith,
      λ f.
          let t = pairs_set f views id v w at in
          let e : own f w ≡ spread f v.name y 64 = λ i. spread f (n i) (rest i) 64 in
          let a = spread_add f v.name y (2 ^ k) v.slots 64 (λ i. ap (λ (m : ℕ). bit_at m i) sum ∙ bit_at_more y k less.clear i) in
          let p = spread-pow f v.name k 64 inside in
          omega arith,
    )

pub met_seat : (opening next : ℕ) (v : View) (word : ℕ) → IsSeat opening next v → IsSeat opening next (met_with v word)
met_seat opening next v word s = record { whole = s.whole; spent = s.spent; seen = s.seen; below = s.below; rising = s.rising; first = s.first }

slots_seat : (opening next : ℕ) (v : View) (slots word : ℕ) → slots < 2 ^ 64 → (v.family ≡ 0 → slots ≡ 0) → IsSeat opening next v → IsSeat opening next (with_slots v slots word)
slots_seat opening next v slots word lt bare s = record { whole = record { family = s.whole.family; slots = lt; named = s.whole.named }; spent = λ e. (bare e, (s.spent e).1); seen = s.seen; below = s.below; rising = s.rising; first = s.first }

pub seen_seat : (opening next : ℕ) (v : View) (n : ℕ) → v.seen ≤ n → n ≤ next → IsSeat opening next v → IsSeat opening next (seen_with v n)
seen_seat opening next v n up le s = record { whole = s.whole; spent = s.spent; seen = le; below = below_later v.seen n v.numbers up s.below; rising = s.rising; first = s.first }

drawn_seat : (opening n : ℕ) (v : View) → v.seen ≤ n → 0 < v.family → IsSeat opening n v → IsSeat opening (n + 1) (drawn_with v n)
drawn_seat opening n v up live s = record {
  whole = s.whole;
  spent = λ e. absurd (omega arith);
  seen = omega arith;
  below = below_append (n + 1) v.numbers (n ∷ []) (below_later v.seen (n + 1) v.numbers (omega arith) s.below) (omega arith, tt);
  rising = λ one. rising_push v.numbers n v.seen up s.below (s.rising one);
  first = s.first;
}

module _ {S : Type 0} (o : Opening) where
  -- the hold set of a state, with one of its seats
  pub hold_set : (s : State S View) → IsWindow o s → (id : ℕ) (v : View) → get_elem? s.views id ≡ some v → IsHoldSet v (slice_index s.words 0) (pairs_of s.views)
  hold_set s r id v at = record { lawful = r.lawful; word = r.word; own = λ f. let a = own_le f s.views id v at in let b = weigh-pairs_below f v.name v.slots 64 in omega arith }

  pub word_small : (s : State S View) → IsWindow o s → slice_index s.words 0 < 2 ^ 64
  word_small s r = no_more (slice_index s.words 0) clear
    where
      total_nothing : (views : List View) (k : ℕ) → 64 ≤ k → total (own (is_slot k)) views ≡ 0
      total_nothing [] k above = refl
      total_nothing (v ∷ views) k above = omega (arith, spread-is_slot_above v.name v.slots 64 k above, total_nothing views k above)

      clear : (k : ℕ) → 64 ≤ k → bit_at (slice_index s.words 0) k ≡ 0
      clear k above =
          let b = bits_of_lawful (pairs_of s.views) r.lawful k in
          let e : bit_at (slice_index s.words 0) k ≡ bit_at (word_of (pairs_of s.views)) k = ap (λ (m : ℕ). bit_at m k) (sym r.word) in
          let w = weigh-pairs_of (is_slot k) s.views in
          let z = total_nothing s.views k above in
          omega arith

  -- a slot of a seat is a bit of the word
  pub slot_in_word : (s : State S View) → IsWindow o s → (id : ℕ) (v : View) (k : ℕ) → get_elem? s.views id ≡ some v → k < 64 → bit_at v.slots k ≡ 1 → bit_at (slice_index s.words 0) k ≡ 1
  slot_in_word s r id v k at inside has =
      let le = own_le (is_slot k) s.views id v at in
      let e = spread-is_slot v.name v.slots 64 k inside in
      let law = r.lawful k in
      let b = bits_of_lawful (pairs_of s.views) r.lawful k in
      let c : bit_at (slice_index s.words 0) k ≡ bit_at (word_of (pairs_of s.views)) k = ap (λ (m : ℕ). bit_at m k) (sym r.word) in
      omega arith

  -- the rule after the change of one view
  rebuilt : (s : State S View) → IsWindow o s → (words : List ℕ) (homes : List (Option S)) (id : ℕ) (v w : View) → get_elem? s.views id ≡ some v
      → length words ≡ 2 → IsLawful (pairs_of (set s.views id w)) → word_of (pairs_of (set s.views id w)) ≡ slice_index words 0
      → w.family ≡ v.family
      → ((n : ℕ) → times n w.numbers + once_below n (slice_index s.words 1) ≡ times n v.numbers + once_below n (slice_index words 1))
      → slice_index s.words 1 ≤ slice_index words 1 → slice_index words 1 ≤ used_up
      → IsSeat o.first (slice_index words 1) w
      → IsWindow o record { words = words; homes = homes; views = set s.views id w }
  rebuilt s r words homes id v w at two law word family numbers up top mine = record {
    two = two;
    lawful = law;
    word = word;
    names = λ n lt. let t = total_set (λ u. bit_at u.family n) s.views id v w at in let e : bit_at w.family n ≡ bit_at v.family n = ap (λ (f : ℕ). bit_at f n) family in let b = r.names n lt in omega arith;
    drawn = λ n.
        let t = total_set (λ u. times n u.numbers) s.views id v w at in
        let e = numbers n in
        let b = r.drawn n in
        let old = times-numbers_of n s.views in
        let new = times-numbers_of n (set s.views id w) in
        omega arith;
    next = let b = r.next in (omega arith, top);
    seats = seats_set o.first (slice_index s.words 1) (slice_index words 1) s.views id w up r.seats mine;
  }

  -- a step that leaves the words, and the seat's slots, names and numbers
  pub looked : (s : State S View) → IsWindow o s → (i n id : ℕ) (c : List (ℕ × S)) (v w : View) → get_elem? s.views id ≡ some v → i < 2 → n ≡ slice_index s.words i
      → w.name ≡ v.name → w.slots ≡ v.slots → w.family ≡ v.family → w.numbers ≡ v.numbers → IsSeat o.first (slice_index s.words 1) w
      → IsWindow o (stepped s i n id c w keeps)
  looked s r i n id c v w at lt same name slots family numbers mine =
      let words = set s.words i n in
      let wide : i < length s.words = let t = r.two in omega arith in
      let same0 : slice_index words 0 ≡ slice_index s.words 0 = dite (ℕ_discrete i 0) (λ e. let g = get_or-set_same s.words i n 0 wide in ap (slice_index words) (sym e) ∙ g ∙ same ∙ ap (slice_index s.words) e) (λ ne. get_or-set_other s.words i 0 n 0 (λ e. ne (sym e))) in
      let same1 : slice_index words 1 ≡ slice_index s.words 1 = dite (ℕ_discrete i 1) (λ e. let g = get_or-set_same s.words i n 0 wide in ap (slice_index words) (sym e) ∙ g ∙ same ∙ ap (slice_index s.words) e) (λ ne. get_or-set_other s.words i 1 n 0 (λ e. ne (sym e))) in
      let p = same_pairs s.views id v w at name slots in
      rebuilt s r words s.homes id v w at (length-set s.words i n ∙ r.two) (lawful_same _ _ p r.lawful) (p (λ x. 2 ^ x.1) ∙ r.word ∙ sym same0) family
      (λ x. ap (λ (l : List ℕ). times x l + once_below x (slice_index s.words 1)) numbers ∙ ap (λ (m : ℕ). times x v.numbers + once_below x m) (sym same1))
      (omega arith) (let b = r.next.1 in omega arith) (subst (λ (m : ℕ). IsSeat o.first m w) (sym same1) mine)

  -- a claim of a slot keeps the rule, and is one of the seat's and of the hold set's
  pub record IsKeptClaim (s : State S View) (id : ℕ) (c : List (ℕ × S)) (v : View) (k old new : ℕ) (w : View) : Type 0 where
    pub rule : IsWindow o (stepped s 0 new id c w keeps)
    pub claim : IsClaim v k old w
    pub pairs : Claims (pairs_of s.views) v.name k (pairs_of (set s.views id w))

  -- and so is a release
  pub record IsKeptRelease (s : State S View) (id : ℕ) (c : List (ℕ × S)) (v : View) (k old new : ℕ) (w : View) : Type 0 where
    pub rule : IsWindow o (stepped s 0 new id c w keeps)
    pub release : IsRelease v k old w
    pub pairs : Releases (pairs_of s.views) v.name k (pairs_of (set s.views id w))

  -- a claim of a slot that is clear
  pub claimed : (s : State S View) → IsWindow o s → (id : ℕ) (c : List (ℕ × S)) (v : View) (k old new : ℕ) → get_elem? s.views id ≡ some v → k < 64 → old < 2 ^ 64 → slice_index s.words 0 ≡ old → bit_at old k ≡ 0 → new ≡ old + 2 ^ k → 0 < v.family
      → IsKeptClaim s id c v k old new (with_slots v (v.slots + 2 ^ k) new)
  claimed s r id c v k old new at inside fits e clear is live =
      let w = with_slots v (v.slots + 2 ^ k) new in
      let two = r.two in
      let lt = or_more old k inside fits clear in
      let free : holders_of k (pairs_of s.views) ≡ 0 = sym (bits_of_lawful (pairs_of s.views) r.lawful k) ∙ ap (λ (m : ℕ). bit_at m k) (r.word ∙ e) ∙ clear in
      let d = claims_pairs s.views id v w k at inside free refl refl in
      let words = set s.words 0 new in
      let w0 : slice_index words 0 ≡ new = get_or-set_same s.words 0 new 0 (omega arith) in
      let w1 : slice_index words 1 ≡ slice_index s.words 1 = get_or-set_other s.words 0 1 new 0 (λ e. omega arith) in
      let claims = d.1 in
      let word : word_of (pairs_of (set s.views id w)) ≡ slice_index words 0 = claims.1 (λ p. 2 ^ p.1) ∙ ap (λ (m : ℕ). m + 2 ^ k) (r.word ∙ e) ∙ sym is ∙ sym w0 in
      let seat = r.seats id v at in
      let room : v.slots + 2 ^ k < 2 ^ 64 = let le = own_le (λ p. 2 ^ p.1) s.views id v at in let m = spread-word v.name v.slots 64 in let b = seat.whole.slots in let q = mod-eq_of_lt b in let x = r.word in omega arith in
      let rule : IsWindow o (stepped s 0 new id c w keeps) = rebuilt s r words s.homes id v w at (length-set s.words 0 new ∙ r.two) (lawful_claims _ _ _ _ d.1 r.lawful) word refl
      (λ x. ap (λ (m : ℕ). times x v.numbers + once_below x m) (sym w1)) (omega arith) (let b = r.next.1 in omega arith)
      (subst (λ (m : ℕ). IsSeat o.first m w) (sym w1) (slots_seat o.first (slice_index s.words 1) v _ new room (λ z. absurd (omega arith)) seat)) in
      let before : IsHoldSet v old (pairs_of s.views) = subst (λ (n : ℕ). IsHoldSet v n (pairs_of s.views)) e (hold_set s r id v at) in
      let after : IsHoldSet w new (pairs_of (set s.views id w)) = subst (λ (n : ℕ). IsHoldSet w n (pairs_of (set s.views id w))) w0 (hold_set _ rule id w (set_at s.views id v w at)) in
      record {
        rule = rule;
        claim = record { old = pairs_of s.views; new = pairs_of (set s.views id w); before = before; after = after; claims = d.1; free = d.0 };
        pairs = d.1;
      }

  -- a release of a slot that the seat holds
  pub released : (s : State S View) → IsWindow o s → (id : ℕ) (c : List (ℕ × S)) (v : View) (k old new : ℕ) → get_elem? s.views id ≡ some v → k < 64 → bit_at v.slots k ≡ 1 → slice_index s.words 0 ≡ old → old ≡ new + 2 ^ k → 0 < v.family
      → IsKeptRelease s id c v k old new (with_slots v (v.slots - 2 ^ k) new)
  released s r id c v k old new at inside has e is live =
      let w = with_slots v (v.slots - 2 ^ k) new in
      let two = r.two in
      let seat = r.seats id v at in
      let small : v.slots < 2 ^ 64 = seat.whole.slots in
      let d = releases_pairs s.views id v w k at inside small has refl refl in
      let words = set s.words 0 new in
      let w0 : slice_index words 0 ≡ new = get_or-set_same s.words 0 new 0 (omega arith) in
      let w1 : slice_index words 1 ≡ slice_index s.words 1 = get_or-set_other s.words 0 1 new 0 (λ e. omega arith) in
      let word : word_of (pairs_of (set s.views id w)) ≡ slice_index words 0 = let f = d.1 (λ p. 2 ^ p.1) in let x = r.word in omega arith in
      let rule : IsWindow o (stepped s 0 new id c w keeps) = rebuilt s r words s.homes id v w at (length-set s.words 0 new ∙ r.two) (lawful_releases _ _ _ _ d.1 r.lawful) word refl
      (λ x. ap (λ (m : ℕ). times x v.numbers + once_below x m) (sym w1)) (omega arith) (let b = r.next.1 in omega arith)
      (subst (λ (m : ℕ). IsSeat o.first m w) (sym w1) (slots_seat o.first (slice_index s.words 1) v _ new (omega arith) (λ z. absurd (omega arith)) seat)) in
      let before : IsHoldSet v old (pairs_of s.views) = subst (λ (n : ℕ). IsHoldSet v n (pairs_of s.views)) e (hold_set s r id v at) in
      let after : IsHoldSet w new (pairs_of (set s.views id w)) = subst (λ (n : ℕ). IsHoldSet w n (pairs_of (set s.views id w))) w0 (hold_set _ rule id w (set_at s.views id v w at)) in
      record {
        rule = rule;
        release = record { old = pairs_of s.views; new = pairs_of (set s.views id w); before = before; after = after; releases = d.1 };
        pairs = d.1;
      }

  -- a draw of the next number
  pub drew : (s : State S View) → IsWindow o s → (id : ℕ) (c : List (ℕ × S)) (v : View) (n new : ℕ) → get_elem? s.views id ≡ some v → slice_index s.words 1 ≡ n → new ≡ n + 1 → n ≤ top_number → 0 < v.family
      → IsWindow o (stepped s 1 new id c (drawn_with v n) keeps) × IsDraw v n (drawn_with v n)
  drew s r id c v n new at e is fits live =
      let w = drawn_with v n in
      let seat : IsSeat o.first n v = subst (λ (m : ℕ). IsSeat o.first m v) e (r.seats id v at) in
      let two = r.two in
      let words = set s.words 1 new in
      let w0 : slice_index words 0 ≡ slice_index s.words 0 = get_or-set_other s.words 1 0 new 0 (λ e. omega arith) in
      let w1 : slice_index words 1 ≡ n + 1 = get_or-set_same s.words 1 new 0 (omega arith) ∙ is in
      let p = same_pairs s.views id v w at refl refl in
      let push : (x : ℕ) → times x (v.numbers ++ n ∷ []) + once_below x n ≡ times x v.numbers + once_below x (n + 1) = λ x. times_push x n v.numbers in
      let rule : IsWindow o (stepped s 1 new id c w keeps) =
      rebuilt s r words s.homes id v w at (length-set s.words 1 new ∙ r.two) (lawful_same _ _ p r.lawful) (p (λ x. 2 ^ x.1) ∙ r.word ∙ sym w0) refl
      (λ x. ap (λ (m : ℕ). times x (v.numbers ++ n ∷ []) + once_below x m) e ∙ push x ∙ ap (λ (m : ℕ). times x v.numbers + once_below x m) (sym w1))
      (omega arith) (omega arith) (subst (λ (m : ℕ). IsSeat o.first m w) (sym w1) (drawn_seat o.first n v seat.seen live seat)) in
      let first : v.first ≡ o.first = seat.first live in
      let drawn : AreDrawn v.first n (numbers_of s.views) = λ x. ap (λ (m : ℕ). times x (numbers_of s.views) + once_below x m) first ∙ r.drawn x ∙ ap (once_below x) e in (
        rule,
        record {
          all = numbers_of s.views;
          own = λ x. let a = total_one (λ u. times x u.numbers) s.views id v at in let b = times-numbers_of x s.views in omega arith;
          before = drawn;
          after = λ x. let a = drawn x in let b = times_push x n (numbers_of s.views) in omega arith;
          draws = (refl, refl);
        },
      )
