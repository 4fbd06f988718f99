-- The table when it is made, and when it is closed.
use Rattle.std.proofs.Common.{◌≡◌, ◌≢◌, ℕ, zero, suc, ◌-◌, ◌^◌, ◌<◌, ◌≤◌, List, [], ◌∷◌, refl, sym, ap, ◌∙◌, subst, arith}
use Rattle.std.specs.Prelude.{slice_index}
use Rattle.std.specs.Int.{bit_at}
use mathlib.Core.Logic.{dite}
use mathlib.Core.Option.{some, some-ne-none, some-injective}
use native.Mathlib.Decide.{dec_lt}
use lib.ListN.{get_elem?}
use Rattle.std.proofs.lemmas.Bool.Decides.{nat_tests}
use Rattle.std.proofs.lemmas.Nat.{pow_pos}
use Rattle.std.proofs.Math.Nat.{mod-eq_of_lt}
use Rattle.std.proofs.lemmas.Nat.Bits.{bit_at-lt, bit_at-zero, bit_at_ones, same_from_bits_below}
use Rattle.atomic_table.specs.Table.{State, opening, Seen, Final}
use Rattle.sms_core.specs.Holds.{is_slot}
use Rattle.sms_core.proofs.Pairs.{spread, spread-is_slot, spread-is_slot_above, spread-zero, spread-word}
use Rattle.sms_window.specs.declared.view.View.{View}
use Rattle.sms_window.specs.declared.view.Opening.{Opening}
use Rattle.sms_core.specs.Numbers.{times, once_below}
use Rattle.sms_window.specs.Rule.{IsSeat, IsWindow, keeper}
use Rattle.sms_window.specs.Seats.{used_up}
use Rattle.sms_window.specs.Outcome.{IsEnd}
use Rattle.sms_window.proofs.Views.{total_one, total_two, total_only, own, weigh-pairs_of, times-numbers_of}
use Rattle.sms_core.proofs.Numbers.{below_later}
use Rattle.sms_window.proofs.Moves.{slot_in_word}

pub opens : {S : Type 0} (o : Opening) → 0 < o.limit → o.limit ≤ 64 → o.first ≤ used_up → IsWindow {S = S} o (opening ((2 ^ 64 - 2 ^ o.limit) ∷ o.first ∷ []) [] (keeper o))
opens o pos le top =
    let v = keeper o in
    let p = pow_pos o.limit in
    let small : 2 ^ 64 - 2 ^ o.limit < 2 ^ 64 = omega arith in
    record {
      two = refl;
      lawful = λ k. let e = weigh-pairs_of (is_slot k) (v ∷ []) in dite (dec_lt k 64)
          (λ lt. let a = spread-is_slot v.name v.slots 64 k lt in let b = bit_at-lt v.slots k in omega arith)
          (λ no. let a = spread-is_slot_above v.name v.slots 64 k (omega arith) in omega arith);
      word = let e = weigh-pairs_of (λ x. 2 ^ x.1) (v ∷ []) in let a = spread-word v.name v.slots 64 in let m = mod-eq_of_lt small in omega arith;
      names = λ n lt. let e = bit_at_ones 64 n lt in omega arith;
      drawn = λ n. omega arith;
      next = (omega arith, top);
      seats = one_seat;
    }
  where
    one_seat : (id : ℕ) (v : View) → get_elem? (keeper o ∷ []) id ≡ some v → IsSeat o.first o.first v
    one_seat zero v e = subst (IsSeat o.first o.first) (some-injective _ _ e) (record { whole = record { family = omega arith; slots = let p = pow_pos o.limit in omega arith; named = λ _. (omega arith, bit_at_ones 64 0 (omega arith)) }; spent = λ z. absurd (omega arith); seen = omega arith; below = tt; rising = λ _. tt; first = λ _. refl })
    one_seat (suc id) v e = absurd (some-ne-none v (sym e))

module _ {S : Type 0} (o : Opening) where
  -- where a seat has all names, no other has anything
  alone : (s : State S View) → IsWindow o s → (id : ℕ) (v : View) → get_elem? s.views id ≡ some v → v.family ≡ 2 ^ 64 - 1
      → (j : ℕ) (u : View) → j ≢ id → get_elem? s.views j ≡ some u → (u.slots ≡ 0) × (u.numbers ≡ [])
  alone s r id v at all j u ne there =
      let seat = r.seats j u there in
      seat.spent (same_from_bits_below 64 u.family 0 seat.whole.family (omega arith) (λ n lt.
      let t = total_two (λ x. bit_at x.family n) s.views j id u v ne there at in
      let one = r.names n lt in
      let mine : bit_at v.family n ≡ 1 = ap (λ (w : ℕ). bit_at w n) all ∙ bit_at_ones 64 n lt in
      let z = bit_at-zero n in
      omega arith))

  pub ends : (s : State S View) → IsWindow o s → (id : ℕ) (v : View) → get_elem? s.views id ≡ some v → 0 < v.family → IsEnd v (slice_index s.words 0) (slice_index s.words 1)
  ends s r id v at live =
      let seat = r.seats id v at in
      let next = slice_index s.words 1 in
      record {
        slots = λ k lt has. slot_in_word o s r id v k at lt has;
        numbers = below_later v.seen next v.numbers seat.seen seat.below;
        next = (let f = seat.first live in let n = r.next.0 in omega arith, r.next.1);
        seen = seat.seen;
        held = λ all.
            let others = alone s r id v at all in
            let e = weigh-pairs_of (λ x. 2 ^ x.1) s.views in
            let t = total_only (own (λ x. 2 ^ x.1)) s.views id v at (λ j u ne there. ap (λ (w : ℕ). spread (λ x. 2 ^ x.1) u.name w 64) (others j u ne there).0 ∙ spread-zero (λ x. 2 ^ x.1) u.name 64) in
            let a = spread-word v.name v.slots 64 in
            let m = mod-eq_of_lt seat.whole.slots in
            let w = r.word in
            omega arith;
        drawn = λ all n.
            let others = alone s r id v at all in
            let t = total_only (λ u. times n u.numbers) s.views id v at (λ j u ne there. ap (times n) (others j u ne there).1) in
            let d = r.drawn n in
            let a = times-numbers_of n s.views in
            let f : once_below n v.first ≡ once_below n o.first = ap (once_below n) (seat.first live) in
            omega arith;
      }

  -- no number is twice among those of one seat
  once : (s : State S View) → IsWindow o s → (id : ℕ) (v : View) → get_elem? s.views id ≡ some v → (n : ℕ) → times n v.numbers ≤ 1
  once s r id v at n =
      let all = times-numbers_of n s.views in
      let one = total_one (λ u. times n u.numbers) s.views id v at in
      let d = r.drawn n in
      let most : once_below n (slice_index s.words 1) ≤ 1 = grind (arith, nat_tests) in
      omega arith

  pub closes_once : (ws : List ℕ) (xs : List S) (id : ℕ) (v : View) → Final (Seen (IsWindow o) id v) ws xs → (n : ℕ) → times n v.numbers ≤ 1
  closes_once ws xs id v f n = let (s, (rule, at), same, homes, stays) = f in once s rule id v at n

  -- the same, of what `close_with` gives
  pub closes : (ws : List ℕ) (xs : List S) (id : ℕ) (v : View) → Final (Seen (IsWindow o) id v) ws xs → 0 < v.family → (word number : ℕ) → get_elem? ws 0 ≡ some word → get_elem? ws 1 ≡ some number → IsEnd v word number
  closes ws xs id v f live word number a b =
      let (s, (rule, at), same, homes, stays) = f in
      let t = ends s rule id v at live in
      let first : slice_index s.words 0 ≡ word = ap (λ (l : List ℕ). slice_index l 0) same ∙ value_at ws 0 word a in
      let second : slice_index s.words 1 ≡ number = ap (λ (l : List ℕ). slice_index l 1) same ∙ value_at ws 1 number b in
      subst (λ (p : ℕ × ℕ). IsEnd v p.0 p.1) (λ i. (first i, second i)) t
    where
      value_at : (l : List ℕ) (i n : ℕ) → get_elem? l i ≡ some n → slice_index l i ≡ n
      value_at [] i n e = absurd (some-ne-none n (sym e))
      value_at (x ∷ xs) zero n e = some-injective x n e
      value_at (x ∷ xs) (suc i) n e = value_at xs i n e
