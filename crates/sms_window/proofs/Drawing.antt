-- What a seat drew, stretch by stretch.
use Rattle.std.proofs.Common.{◌≡◌, ℕ, ◌+◌, ◌-◌, ◌^◌, ◌<◌, ◌≤◌, List, [], ◌∷◌, ◌++◌, append_assoc, refl, sym, ap, ◌∙◌, arith, eq-eqb, ne_eqb}
use mathlib.Core.Logic.{dite}
use native.Mathlib.Decide.{ℕ_discrete}
use Rattle.sms_core.specs.Numbers.{times, AllBelow, AllAbove, IsRising}
use Rattle.sms_core.proofs.Numbers.{below_later, below_append}
use Rattle.sms_window.specs.declared.view.View.{View}
use Rattle.sms_window.specs.declared.outcome.Claim.TheVariants.{Got, Full, Contended}
use Rattle.sms_window.specs.Seats.{used_up}
use Rattle.sms_window.specs.Drawing.{AllFrom, drawn_on, HasDrawn, DrawsNone, DrawsOne, LooksDrawNone, ClaimsDrawNone, ReleasesDrawNone, DrawsAddUp, DrawsEachOnce}

from_earlier : (low earlier : ℕ) (xs : List ℕ) → earlier ≤ low → AllFrom low xs → AllFrom earlier xs
from_earlier low earlier [] le a = tt
from_earlier low earlier (x ∷ xs) le a = ((let b = a.0 in omega arith), from_earlier low earlier xs le a.1)

from_append : (low : ℕ) (xs ys : List ℕ) → AllFrom low xs → AllFrom low ys → AllFrom low (xs ++ ys)
from_append low [] ys a b = b
from_append low (x ∷ xs) ys a b = (a.0, from_append low xs ys a.1 b)

above_from : (x low : ℕ) (ys : List ℕ) → x < low → AllFrom low ys → AllAbove x ys
above_from x low [] lt a = tt
above_from x low (y ∷ ys) lt a = ((let b = a.0 in omega arith), above_from x low ys lt a.1)

above_append : (low : ℕ) (xs ys : List ℕ) → AllAbove low xs → AllAbove low ys → AllAbove low (xs ++ ys)
above_append low [] ys a b = b
above_append low (x ∷ xs) ys a b = (a.0, above_append low xs ys a.1 b)

-- rising numbers below a seam, and rising ones from it on
rising_append : (seam : ℕ) (xs ys : List ℕ) → AllBelow seam xs → AllFrom seam ys → IsRising xs → IsRising ys → IsRising (xs ++ ys)
rising_append seam [] ys below from a b = b
rising_append seam (x ∷ xs) ys below from a b = (above_append x xs ys a.0 (above_from x seam ys below.0 from), rising_append seam xs ys below.1 from a.1 b)

above_never : (n : ℕ) (xs : List ℕ) → AllAbove n xs → times n xs ≡ 0
above_never n [] a = refl
above_never n (x ∷ xs) a = let lt = a.0 in rw (ne_eqb x n (λ e. omega arith)) (let r = above_never n xs a.1 in omega arith)

rising_once : (n : ℕ) (xs : List ℕ) → IsRising xs → times n xs ≤ 1
rising_once n [] a = omega arith
rising_once n (x ∷ xs) a = dite (ℕ_discrete x n)
    (λ e. rw (eq-eqb x n e) (let z : times x xs ≡ 0 = above_never x xs a.0 in let same : times n xs ≡ times x xs = ap (λ (k : ℕ). times k xs) (sym e) in omega arith))
    (λ ne. rw (ne_eqb x n ne) (let r = rising_once n xs a.1 in omega arith))

pub draws_none : DrawsNone
draws_none v = record { after = λ i. record v { numbers = nothing_more v.numbers i }; later = omega arith; from = tt; below = tt; rising = tt; lawful = tt }
  where
    nothing_more : (xs : List ℕ) → xs ≡ xs ++ []
    nothing_more [] = refl
    nothing_more (x ∷ xs) = ap (λ (l : List ℕ). x ∷ l) (nothing_more xs)

pub draws_add_up : DrawsAddUp
draws_add_up v w u xs ys a b = record {
  after = b.after ∙ (λ i. drawn_on (a.after i) ys u.slots u.seen u.met) ∙ (λ i. record v { numbers = append_assoc v.numbers xs ys i; slots = u.slots; seen = u.seen; met = u.met });
  later = let c = a.later in let d = b.later in omega arith;
  from = from_append v.seen xs ys a.from (from_earlier w.seen v.seen ys a.later b.from);
  below = below_append u.seen xs ys (below_later w.seen u.seen xs b.later a.below) b.below;
  rising = rising_append w.seen xs ys a.below b.from a.rising b.rising;
  lawful = below_append used_up xs ys a.lawful b.lawful;
}

-- a step that left the numbers, and after which the seat has seen no less
pub draws_no_more : (v w u : View) (drawn : List ℕ) → HasDrawn v drawn w → w.seen ≤ u.seen → u ≡ record w { slots = u.slots; seen = u.seen; met = u.met } → HasDrawn v drawn u
draws_no_more v w u drawn a le is = record {
  after = is ∙ (λ i. record (a.after i) { slots = u.slots; seen = u.seen; met = u.met });
  later = let b = a.later in omega arith;
  from = a.from;
  below = below_later w.seen u.seen drawn le a.below;
  rising = a.rising;
  lawful = a.lawful;
}

pub draws_one : DrawsOne
draws_one v w u drawn n a drew =
    let seen : u.seen ≡ n + 1 = ap (λ (x : View). x.seen) drew.after in
    let one : HasDrawn w (n ∷ []) u = record {
      after = drew.after ∙ (λ i. record w { numbers = w.numbers ++ n ∷ []; slots = ap (λ (x : View). x.slots) (sym drew.after) i; seen = sym seen i; met = ap (λ (x : View). x.met) (sym drew.after) i });
      later = let b = drew.later in omega arith;
      from = (drew.later, tt);
      below = ((omega arith), tt);
      rising = (tt, tt);
      lawful = ((let b = drew.lawful in omega arith), tt);
    } in
    draws_add_up v w u drawn (n ∷ []) a one

-- with the fields that a step changed written by the view after it
as_after : (w u : View) (slots seen met : ℕ) → u ≡ record w { slots = slots; seen = seen; met = met } → u ≡ record w { slots = u.slots; seen = u.seen; met = u.met }
as_after w u slots seen met e = e ∙ (λ i. record w { slots = ap (λ (x : View). x.slots) (sym e) i; seen = ap (λ (x : View). x.seen) (sym e) i; met = ap (λ (x : View). x.met) (sym e) i })

pub looks_draw_none : LooksDrawNone
looks_draw_none v w u drawn found a saw = draws_no_more v w u drawn a (let l = saw.later in let s = saw.seen in omega arith) (as_after w u w.slots found w.met saw.after)

pub claims_draw_none : ClaimsDrawNone
claims_draw_none v w u drawn (Got slot) a got = draws_no_more v w u drawn a (let e : u.seen ≡ w.seen = ap (λ (x : View). x.seen) got.after in omega arith) (as_after w u (w.slots + 2 ^ slot) w.seen u.met got.after)
claims_draw_none v w u drawn Full a e = draws_no_more v w u drawn a (let s : u.seen ≡ w.seen = ap (λ (x : View). x.seen) e in omega arith) (as_after w u w.slots w.seen (2 ^ 64 - 1) e)
claims_draw_none v w u drawn (Contended found) a e = draws_no_more v w u drawn a (let s : u.seen ≡ w.seen = ap (λ (x : View). x.seen) e in omega arith) (as_after w u w.slots w.seen found e)

pub releases_draw_none : ReleasesDrawNone
releases_draw_none v w u drawn slot a freed = draws_no_more v w u drawn a (let e : u.seen ≡ w.seen = ap (λ (x : View). x.seen) freed.after in omega arith) (as_after w u (w.slots - 2 ^ slot) w.seen u.met freed.after)

pub draws_each_once : DrawsEachOnce
draws_each_once v w drawn n a = rising_once n drawn a.rising
