-- From what a step tells to what a call says.
use Rattle.std.proofs.Common.{◌≡◌, ◌≢◌, ℕ, ◌+◌, ◌-◌, ◌*◌, ◌%◌, ◌^◌, ◌<◌, sym, ap, ◌∙◌, subst, arith}
use Rattle.std.specs.Prelude.{bit_and, bit_or}
use Rattle.std.specs.Int.{bit_at, w64, trailing_ones}
use Rattle.std.proofs.lemmas.Nat.{or_disjoint, or_lt, one_shl, pow_below}
use Rattle.std.proofs.lemmas.Nat.Bits.{and_pow, bit_at-trailing_ones, bit_at-pow_same, bit_at-pow_other, bit_at-zero}
use mathlib.Core.Logic.{dite}
use native.Mathlib.Decide.{ℕ_discrete}
use Rattle.sms_core.proofs.Bits.{bit_at_more, clear_bit}
use Rattle.sms_window.specs.declared.view.View.{View}
use Rattle.sms_window.specs.Seats.{met_with, with_slots}
use Rattle.sms_window.specs.Steps.{IsClaim, IsRelease, ClaimExchange, ReleaseFetch}
use Rattle.sms_window.specs.Outcome.{GotSlot, FreedSlot}

-- `w | 1 << k`
pub or_bit : (w k : ℕ) → k < 64 → w < 2 ^ 64 → bit_at w k ≡ 0 → (bit_or w (1 * 2 ^ k % 2 ^ 64) ≡ w + 2 ^ k) × (w + 2 ^ k < 2 ^ 64)
or_bit w k inside small clear =
    let shl = one_shl k 64 inside in
    let fits = pow_below k 64 inside in
    let none_both : bit_and w (2 ^ k) ≡ 0 = and_pow w k ∙ rw clear (omega arith) in
    let sum = or_disjoint w (2 ^ k) none_both in
    let lt = or_lt 64 w (2 ^ k) small fits in
    (ap (bit_or w) shl ∙ sum, omega arith)

-- powers of two that are the same
pow_same : (k j : ℕ) → 2 ^ k ≡ 2 ^ j → k ≡ j
pow_same k j e = dite (ℕ_discrete k j) (λ same. same) (λ ne. let a = bit_at-pow_same k in let b = bit_at-pow_other j k ne in let c : bit_at (2 ^ k) k ≡ bit_at (2 ^ j) k = ap (λ (n : ℕ). bit_at n k) e in absurd (omega arith))

-- `trailing_ones` of a word that is not full is its least clear slot
pub record IsLeastClear (word slot : ℕ) : Type 0 where
  pub inside : slot < 64
  pub clear : bit_at word slot ≡ 0
  pub least : (i : ℕ) → i < slot → bit_at word i ≡ 1

pub least_clear : (found slot : ℕ) → slot ≡ trailing_ones w64 found → found < 2 ^ 64 → found ≢ 2 ^ 64 - 1 → IsLeastClear found slot
least_clear found slot is small not_full =
    subst (IsLeastClear found) (sym is) (told (bit_at-trailing_ones w64 found (omega arith)))
  where
    told : (trailing_ones w64 found < 64) × (bit_at found (trailing_ones w64 found) ≡ 0) × ((i : ℕ) → i < trailing_ones w64 found → bit_at found i ≡ 1) → IsLeastClear found (trailing_ones w64 found)
    told (inside, clear, least) = record { inside = inside; clear = clear; least = least }

-- an exchange that claims and hits, after a load that left u: the seat holds the slot now
pub got : (v u w : View) (found now slot new : ℕ) → u ≡ met_with v found → ClaimExchange 0 found new u now w → now ≡ found → slot < 64 → bit_at found slot ≡ 0 → ((i : ℕ) → i < slot → bit_at found i ≡ 1) → new ≡ found + 2 ^ slot
    → GotSlot v slot w
got v u w found now slot new looked told same inside clear least sum =
    let t = subst (λ (x : View). ClaimExchange 0 found new x now w) looked told in
    let which : t.slot ≡ slot = pow_same t.slot slot (let e = t.more in omega arith) in
    let h = t.hit same in
    let is : w ≡ with_slots v (v.slots + 2 ^ slot) new = h.0 ∙ (λ i. with_slots v (v.slots + 2 ^ which i) new) in
    let claim : IsClaim (met_with v found) slot found w = subst (λ (p : ℕ × ℕ). IsClaim (met_with v found) p.0 p.1 w) (λ i. (which i, same i)) h.1 in
    let met : w.met ≡ new = ap (λ (x : View). x.met) is in
    record {
      now = (inside, ap (λ (x : View). bit_at x.slots slot) is ∙ bit_at_more v.slots slot claim.free slot ∙ (let a = claim.free in let b = bit_at-pow_same slot in omega arith));
      after = is ∙ (λ i. with_slots v (v.slots + 2 ^ slot) (sym met i));
      claim = (
        found,
        record { old = claim.old; new = claim.new; before = record { lawful = claim.before.lawful; word = claim.before.word; own = claim.before.own }; after = claim.after; claims = claim.claims; free = claim.free },
      );
      least = λ i lt. ap (λ (m : ℕ). bit_at m i) (met ∙ sum) ∙ bit_at_more found slot clear i ∙ (let a = least i lt in let b = bit_at-pow_other slot i (λ e. omega arith) in omega arith);
    }

-- a fetch that releases: the seat has the slot no more
pub freed : (v w : View) (found slot mask : ℕ) → ReleaseFetch 0 mask v found w → slot < 64 → mask ≡ 2 ^ 64 - 1 - 2 ^ slot → FreedSlot v slot w
freed v w found slot mask told inside is =
    let mine : 2 ^ told.slot < 2 ^ 64 = pow_below told.slot 64 told.held.0 in
    let fits : 2 ^ slot < 2 ^ 64 = pow_below slot 64 inside in
    let which : told.slot ≡ slot = pow_same told.slot slot (let e = told.less in omega arith) in
    let after : w ≡ with_slots v (v.slots - 2 ^ slot) (bit_and found mask) = told.after ∙ (λ i. with_slots v (v.slots - 2 ^ which i) (bit_and found mask)) in
    let met : w.met ≡ bit_and found mask = ap (λ (x : View). x.met) after in
    record { after = after ∙ (λ i. with_slots v (v.slots - 2 ^ slot) (sym met i)); release = (found, subst (λ (k : ℕ). IsRelease v k found w) which told.release) }

-- a family with a name in it is not empty
pub live : (family name : ℕ) → bit_at family name ≡ 1 → 0 < family
live family name e = dite (ℕ_discrete family 0) (λ z. let a = ap (λ (w : ℕ). bit_at w name) z in let b = bit_at-zero name in absurd (omega arith)) (λ ne. omega arith)

-- `w & !(1 << k)`
pub and_clear : (w k : ℕ) → k < 64 → w < 2 ^ 64 → bit_at w k ≡ 1 → bit_and w (2 ^ 64 - 1 - 1 * 2 ^ k % 2 ^ 64) ≡ w - 2 ^ k
and_clear w k inside small has =
    let shl = one_shl k 64 inside in
    let c = clear_bit w k inside small has in
    let e : bit_and w (2 ^ 64 - 1 - 1 * 2 ^ k % 2 ^ 64) ≡ bit_and w (2 ^ 64 - 1 - 2 ^ k) = ap (λ (m : ℕ). bit_and w (2 ^ 64 - 1 - m)) shl in
    omega arith

pub mask_is : (k : ℕ) → k < 64 → 2 ^ 64 - 1 - 1 * 2 ^ k % 2 ^ 64 ≡ 2 ^ 64 - 1 - 2 ^ k
mask_is k inside = ap (λ (m : ℕ). 2 ^ 64 - 1 - m) (one_shl k 64 inside)
