-- How seats join.
use Rattle.std.proofs.Common.{◌≡◌, ◌≢◌, ℕ, ◌+◌, ◌^◌, ◌<◌, ◌≤◌, ◌==◌, max, Bool, if◌then◌else◌, List, set, refl, sym, ap, ◌∙◌, subst, true≢false, arith, ⊎_elim, eq-eqb, ne_eqb}
use Rattle.std.specs.Prelude.{slice_index}
use Rattle.std.specs.Int.{bit_at}
use mathlib.Core.Logic.{dite}
use mathlib.Core.Option.{some}
use native.Mathlib.Decide.{ℕ_discrete, dec_lt}
use lib.ListN.{get_elem?}
use Rattle.std.proofs.lemmas.Nat.Bits.{bit_at-zero, bit_at_above}
use Rattle.atomic_table.specs.Table.{State, Joins}
use Rattle.atomic_table.proofs.Lists.{at_set, set_else}
use Rattle.sms_core.specs.Holds.{weigh, is_slot, Passes}
use Rattle.sms_core.proofs.Bits.{bit_at_add, add_below}
use Rattle.sms_core.proofs.Pairs.{spread, spread_add, spread-is_slot, spread-zero, spread-holder, spread-at}
use Rattle.sms_window.specs.declared.view.View.{View}
use Rattle.sms_window.specs.declared.view.Opening.{Opening}
use Rattle.sms_core.specs.Numbers.{times}
use Rattle.sms_window.specs.Rule.{total, pairs_of, IsSeat, IsWindow}
use Rattle.sms_window.specs.Seats.{joined, nobody}
use Rattle.sms_window.proofs.Views.{total_set, total_join, total_two, total_same, own, weigh-pairs_of, times-numbers_of}
use Rattle.sms_core.proofs.Numbers.{times_append, below_later, below_append}

-- f of the pair where one name has become another
abbrev turned : (ℕ × ℕ → ℕ) → ℕ → ℕ → ℕ × ℕ → ℕ
turned f from to p = f (if p.0 == from then to else p.0, p.1)

-- a seat and another have no bit in common where all bits of a kind add up to at most 1
apart_of : (f : View → ℕ) (views : List View) (id other : ℕ) (v w : View) → other ≢ id → get_elem? views id ≡ some v → get_elem? views other ≡ some w → total f views ≤ 1 → f v + f w ≤ 1
apart_of f views id other v w ne at there le = let t = total_two f views id other v w (λ e. ne (sym e)) at there in omega arith

less_64 : (w : ℕ) (n : ℕ) → w < 2 ^ 64 → 64 ≤ n → bit_at w n ≡ 0
less_64 w n small le = bit_at_above w 64 n small le

module _ {S : Type 0} (o : Opening) where
  pub families_apart : (s : State S View) → IsWindow o s → (id other : ℕ) (v w : View) → other ≢ id → get_elem? s.views id ≡ some v → get_elem? s.views other ≡ some w → (k : ℕ) → bit_at v.family k + bit_at w.family k ≤ 1
  families_apart s r id other v w ne at there k = dite (dec_lt k 64)
      (λ lt. apart_of (λ u. bit_at u.family k) s.views id other v w ne at there (let e = r.names k lt in omega arith))
      (λ no. let a = less_64 v.family k (r.seats id v at).whole.family (omega arith) in let b = less_64 w.family k (r.seats other w there).whole.family (omega arith) in omega arith)

  pub slots_apart : (s : State S View) → IsWindow o s → (id other : ℕ) (v w : View) → other ≢ id → get_elem? s.views id ≡ some v → get_elem? s.views other ≡ some w → (k : ℕ) → bit_at v.slots k + bit_at w.slots k ≤ 1
  slots_apart s r id other v w ne at there k = dite (dec_lt k 64)
      (λ lt.
      let l = r.lawful k in
      let e = weigh-pairs_of (is_slot k) s.views in
      let t = apart_of (own (is_slot k)) s.views id other v w ne at there (omega arith) in
      let a = spread-is_slot v.name v.slots 64 k lt in
      let b = spread-is_slot w.name w.slots 64 k lt in
      omega arith)
      (λ no. let a = less_64 v.slots k (r.seats id v at).whole.slots (omega arith) in let b = less_64 w.slots k (r.seats other w there).whole.slots (omega arith) in omega arith)

  pub joins_keeps : (id : ℕ) (v : View) (other : ℕ) (w : View) → 0 < v.family → 0 < w.family → Joins {S = S} (IsWindow o) id v other w (joined v w) nobody
  joins_keeps id v other w live live' s r at ne there' =
      let there : get_elem? s.views other ≡ some w = sym (set_else s.views id other (joined v w) ne) ∙ there' in
      let next = slice_index s.words 1 in
      let both = joined v w in
      let views = set (set s.views id both) other nobody in
      let sv = r.seats id v at in
      let sw = r.seats other w there in
      let fa = families_apart s r id other v w ne at there in
      let sa = slots_apart s r id other v w ne at there in
      let weight : (g : ℕ → ℕ) → weigh (λ p. g p.1) (pairs_of views) ≡ weigh (λ p. g p.1) (pairs_of s.views) = λ g.
      let f : ℕ × ℕ → ℕ = λ p. g p.1 in
      let a = weigh-pairs_of f views in
      let b = weigh-pairs_of f s.views in
      let e : own f both ≡ own f v + own f w = spread_add f v.name v.slots w.slots (v.slots + w.slots) 64 (bit_at_add v.slots w.slots sa) ∙ ap (λ (m : ℕ). own f v + m) (spread-holder g v.name w.name w.slots 64) in
      let t = total_join (own f) s.views id other v w both nobody ne at there e (spread-zero f 0 64) in
      omega arith in
      record {
        two = r.two;
        lawful = λ slot. let e = weight (λ k. if k == slot then 1 else 0) in let l = r.lawful slot in omega arith;
        word = weight (λ k. 2 ^ k) ∙ r.word;
        names = λ n lt. total_join (λ u. bit_at u.family n) s.views id other v w both nobody ne at there (bit_at_add v.family w.family fa n) (bit_at-zero n) ∙ r.names n lt;
        drawn = λ n. let e = total_join (λ u. times n u.numbers) s.views id other v w both nobody ne at there (times_append n v.numbers w.numbers) refl in let d = r.drawn n in let a = times-numbers_of n s.views in let b = times-numbers_of n views in omega arith;
        next = r.next;
        seats = λ i u e. ⊎_elim
            (λ (x : (i ≡ other) × (nobody ≡ u)). subst (IsSeat o.first next) x.1 (record { whole = record { family = omega arith; slots = omega arith; named = λ z. absurd (omega arith) }; spent = λ _. (refl, refl); seen = omega arith; below = tt; rising = λ _. tt; first = λ z. absurd (omega arith) }))
            (λ (x : (i ≢ other) × (get_elem? (set s.views id both) i ≡ some u)). ⊎_elim
            (λ (y : (i ≡ id) × (both ≡ u)). subst (IsSeat o.first next) y.1 (record {
              whole = record {
                family = add_below 64 v.family w.family sv.whole.family sw.whole.family fa;
                slots = add_below 64 v.slots w.slots sv.whole.slots sw.whole.slots sa;
                named = λ _. let n = sv.whole.named live in (n.0, let b = bit_at_add v.family w.family fa v.name in let c = fa v.name in let d = n.1 in omega arith);
              };
              spent = λ z. absurd (omega arith);
              seen = let a = sv.seen in let b = sw.seen in omega arith;
              below = below_append (max v.seen w.seen) v.numbers w.numbers (below_later v.seen _ v.numbers (omega arith) sv.below) (below_later w.seen _ w.numbers (omega arith) sw.below);
              rising = λ one. absurd (true≢false one);
              first = λ _. sv.first live;
            }))
            (λ (y : (i ≢ id) × (get_elem? s.views i ≡ some u)). r.seats i u y.1)
            (at_set s.views id i both u x.1))
            (at_set (set s.views id both) other i nobody u e);
      }

  -- a join moves the pairs of one name to the other
  pub passes : (s : State S View) → IsWindow o s → (id other : ℕ) (v w : View) → 0 < v.family → 0 < w.family → other ≢ id → get_elem? s.views id ≡ some v → get_elem? s.views other ≡ some w
      → Passes (pairs_of s.views) (λ name. name == w.name) v.name (pairs_of (set (set s.views id (joined v w)) other nobody))
  passes s r id other v w live live' ne at there f =
      let both = joined v w in
      let views = set (set s.views id both) other nobody in
      let g : ℕ × ℕ → ℕ = λ p. f (if p.0 == w.name then v.name else p.0, p.1) in
      let sw = r.seats other w there in
      let a = weigh-pairs_of f views in
      let b = weigh-pairs_of g s.views in
      let sa = slots_apart s r id other v w ne at there in
      let e : own f both ≡ own f v + spread f v.name w.slots 64 = spread_add f v.name v.slots w.slots (v.slots + w.slots) 64 (bit_at_add v.slots w.slots sa) in
      let moved : own g w ≡ spread f v.name w.slots 64 = spread-at f g w.name v.name w.slots 64 (λ k. ap (λ (c : Bool). f (if c then v.name else w.name, k)) (eq-eqb w.name w.name refl)) in
      let rest = total_same (own g) (own f) (set s.views other nobody) (λ j u got. ⊎_elim
      (λ (x : (j ≡ other) × (nobody ≡ u)). own_same u (ap (λ (y : View). y.slots) (sym x.1)))
      (λ (x : (j ≢ other) × (get_elem? s.views j ≡ some u)). others j u x.0 x.1)
      (at_set s.views other j nobody u got)) in
      let t1 = total_set (own f) s.views id v both at in
      let t2 = total_set (own f) (set s.views id both) other w nobody (set_else s.views id other both ne ∙ there) in
      let t3 = total_set (own g) s.views other w nobody there in
      let t4 = total_set (own f) s.views other w nobody there in
      let z1 = spread-zero f 0 64 in
      let z2 = spread-zero g 0 64 in
      omega arith
    where
      own_same : (u : View) → u.slots ≡ 0 → own (turned f w.name v.name) u ≡ own f u
      own_same u e = ap (λ (x : ℕ). spread (turned f w.name v.name) u.name x 64) e ∙ spread-zero (turned f w.name v.name) u.name 64 ∙ sym (ap (λ (x : ℕ). spread f u.name x 64) e ∙ spread-zero f u.name 64)

      others : (j : ℕ) (u : View) → j ≢ other → get_elem? s.views j ≡ some u → own (turned f w.name v.name) u ≡ own f u
      others j u apart got = dite (ℕ_discrete u.family 0)
          (λ none_left. own_same u ((r.seats j u got).spent none_left).0)
          (λ some_left.
          let nu = (r.seats j u got).whole.named (omega arith) in
          let nw = (r.seats other w there).whole.named live' in
          let two = total_two (λ x. bit_at x.family u.name) s.views j other u w apart got there in
          let one = r.names u.name nu.0 in
          let differ : u.name ≢ w.name = λ e. let h : bit_at w.family u.name ≡ 1 = ap (bit_at w.family) e ∙ nw.1 in let k = nu.1 in omega arith in
          spread-at f (turned f w.name v.name) u.name u.name u.slots 64 (λ k. ap (λ (c : Bool). f (if c then v.name else u.name, k)) (ne_eqb u.name w.name differ)))
