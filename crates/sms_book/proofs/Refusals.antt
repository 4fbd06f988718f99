-- Which rates are refused, and that there is one refusal of them.
use Rattle.std.proofs.Common.{◌≡◌, ℕ, ◌<◌, ◌≤◌, List, [], ◌∷◌, length, map, refl, sym, ap, ◌∙◌, subst, arith}
use Rattle.std.specs.Prelude.{slice_index_or, string_bytes}
use Rattle.std.proofs.lemmas.List.{get_or-map}
use native.Mathlib.Decide.{ℕ_discrete, dec_lt}
use mathlib.Core.Logic.{dite}
use Rattle.sms_book.specs.declared.rate.Rate.{Rate}
use Rattle.sms_book.specs.declared.error.TariffError.{TariffError}
use Rattle.sms_book.specs.declared.error.TariffError.TheVariants.{TooMany, BadPrefix, BadCredits, Duplicate, OutOfMemory}
use Rattle.sms_book.specs.Limits.{most_rates}
use Rattle.sms_book.specs.Openings.{HaveOneName}
use Rattle.sms_book.specs.Tariffs.{Price, price_of, prices_of, no_price, price_at, prefixes, IsPrefix, IsGoodAt, IsTariff, IsReached, HasBadCredits, IsDuplicate, IsFault, Refuses}

pub price_read : (rates : List Rate) (place : ℕ) (r : Rate) → place < length rates → price_at (prices_of rates) place ≡ price_of (slice_index_or rates place r)
price_read rates place r low = get_or-map price_of rates place r no_price low

pub price_there : (rates : List Rate) (place : ℕ) (r : Rate) → place < length rates → r ≡ slice_index_or rates place r → price_at (prices_of rates) place ≡ price_of r
price_there rates place r low is = get_or-map price_of rates place r no_price low ∙ ap price_of (sym is)

pub prefixes_are : (rates : List Rate) → map (λ r. string_bytes r.prefix) rates ≡ prefixes (prices_of rates)
prefixes_are [] = refl
prefixes_are (r ∷ rates) = ap (λ (l : List (List ℕ)). string_bytes r.prefix ∷ l) (prefixes_are rates)

-- the first fault refuses the rates
pub first_fault : (prices : List Price) (place : ℕ) (e : TariffError) → length prices ≤ most_rates → place < length prices → ((k : ℕ) → k < place → IsGoodAt prices k) → IsFault prices place e → Refuses prices e
first_fault prices place TooMany few there before f = absurd f
first_fault prices place OutOfMemory few there before f = absurd f
first_fault prices place (BadPrefix at) few there before f =
    subst (λ (j : ℕ). IsReached prices j × ((at ≡ j) × ¬ (IsPrefix (price_at prices j).prefix)) → Refuses prices (BadPrefix at)) f.0 (λ x. (x.0, x.1)) (record { few = few; there = there; before = before }, f)
first_fault prices place (BadCredits at) few there before f =
    subst (λ (j : ℕ). IsReached prices j × HasBadCredits prices j at → Refuses prices (BadCredits at)) f.is (λ x. (x.0, x.1)) (record { few = few; there = there; before = before }, f)
first_fault prices place (Duplicate first second) few there before f =
    subst (λ (j : ℕ). IsReached prices j × IsDuplicate prices j first second → Refuses prices (Duplicate first second))
    f.is (λ x. (x.0, x.1)) (record { few = few; there = there; before = before }, f)

-- a rate with a fault isn't good
not_good : (prices : List Price) (place : ℕ) (e : TariffError) → IsFault prices place e → ¬ (IsGoodAt prices place)
not_good prices place TooMany f g = f
not_good prices place OutOfMemory f g = f
not_good prices place (BadPrefix at) f g = f.1 g.prefix
not_good prices place (BadCredits at) f g = f.credits g.credits
not_good prices place (Duplicate first second) f g = g.apart first f.double

-- a tariff is refused for nothing
pub tariff_stands : (prices : List Price) (e : TariffError) → IsTariff prices → ¬ (Refuses prices e)
tariff_stands prices TooMany t r = let few = t.few in absurd (omega arith)
tariff_stands prices OutOfMemory t r = r
tariff_stands prices (BadPrefix at) t r = not_good prices at (BadPrefix at) r.1 (t.good at r.0.there)
tariff_stands prices (BadCredits at) t r = not_good prices at (BadCredits at) r.1 (t.good at r.0.there)
tariff_stands prices (Duplicate first second) t r = not_good prices second (Duplicate first second) r.1 (t.good second r.0.there)

-- two places that are both reached and both have a fault are one
same_place : (prices : List Price) (a b : ℕ) (e f : TariffError) → IsReached prices a → IsReached prices b → IsFault prices a e → IsFault prices b f → a ≡ b
same_place prices a b e f ra rb fa fb = dite (ℕ_discrete a b)
    (λ is. is)
    (λ ne. dite (dec_lt a b) (λ low. absurd (not_good prices a e fa (rb.before a low))) (λ no. absurd (not_good prices b f fb (ra.before b (omega arith)))))

-- a place has one fault
one_fault : (prices : List Price) (place : ℕ) (e f : TariffError) → IsReached prices place → IsFault prices place e → IsFault prices place f → e ≡ f
one_fault prices place TooMany f r a b = absurd a
one_fault prices place OutOfMemory f r a b = absurd a
one_fault prices place (BadPrefix at) TooMany r a b = absurd b
one_fault prices place (BadPrefix at) OutOfMemory r a b = absurd b
one_fault prices place (BadPrefix at) (BadPrefix bt) r a b = ap BadPrefix (a.0 ∙ sym b.0)
one_fault prices place (BadPrefix at) (BadCredits bt) r a b = absurd (a.1 b.prefix)
one_fault prices place (BadPrefix at) (Duplicate first second) r a b = absurd (a.1 b.prefix)
one_fault prices place (BadCredits at) TooMany r a b = absurd b
one_fault prices place (BadCredits at) OutOfMemory r a b = absurd b
one_fault prices place (BadCredits at) (BadPrefix bt) r a b = absurd (b.1 a.prefix)
one_fault prices place (BadCredits at) (BadCredits bt) r a b = ap BadCredits (a.is ∙ sym b.is)
one_fault prices place (BadCredits at) (Duplicate first second) r a b = absurd (a.credits b.credits)
one_fault prices place (Duplicate first second) TooMany r a b = absurd b
one_fault prices place (Duplicate first second) OutOfMemory r a b = absurd b
one_fault prices place (Duplicate first second) (BadPrefix bt) r a b = absurd (b.1 a.prefix)
one_fault prices place (Duplicate first second) (BadCredits bt) r a b = absurd (b.credits a.credits)
one_fault prices place (Duplicate first second) (Duplicate other third) r a b = (λ i. Duplicate (firsts i) ((a.is ∙ sym b.is) i))
  where
    firsts : first ≡ other
    firsts = one first other a.double b.double (ℕ_discrete first other)
      where
        one : (x y : ℕ) → HaveOneName (prefixes prices) x place → HaveOneName (prefixes prices) y place → Dec (x ≡ y) → x ≡ y
        one x y p q (yes is) = is
        one x y p q (no ne) = dite (dec_lt x y)
            (λ low. absurd ((r.before y q.before).apart x record { before = low; there = let l = p.there in let m = q.before in omega arith; same = p.same ∙ sym q.same }))
            (λ no'. absurd ((r.before x p.before).apart y record { before = omega arith; there = let l = p.there in let m = p.before in omega arith; same = q.same ∙ sym p.same }))

from_place : (prices : List Price) (place : ℕ) (e f : TariffError) → IsReached prices place → IsFault prices place e → Refuses prices f → e ≡ f
from_place prices place e TooMany r a b = let few = r.few in absurd (omega arith)
from_place prices place e OutOfMemory r a b = absurd b
from_place prices place e (BadPrefix at) r a b =
    one_fault prices place e (BadPrefix at) r a (subst (λ (j : ℕ). IsFault prices j (BadPrefix at)) (same_place prices at place (BadPrefix at) e b.0 r b.1 a) b.1)
from_place prices place e (BadCredits at) r a b =
    one_fault prices place e (BadCredits at) r a (subst (λ (j : ℕ). IsFault prices j (BadCredits at)) (same_place prices at place (BadCredits at) e b.0 r b.1 a) b.1)
from_place prices place e (Duplicate first second) r a b =
    one_fault prices place e (Duplicate first second) r a (subst (λ (j : ℕ). IsFault prices j (Duplicate first second)) (same_place prices second place (Duplicate first second) e b.0 r b.1 a) b.1)

-- the rates are refused for one thing
pub one_refusal : (prices : List Price) (e f : TariffError) → Refuses prices e → Refuses prices f → e ≡ f
one_refusal prices TooMany TooMany a b = refl
one_refusal prices TooMany OutOfMemory a b = absurd b
one_refusal prices TooMany (BadPrefix bt) a b = let few = b.0.few in absurd (omega arith)
one_refusal prices TooMany (BadCredits bt) a b = let few = b.0.few in absurd (omega arith)
one_refusal prices TooMany (Duplicate first second) a b = let few = b.0.few in absurd (omega arith)
one_refusal prices OutOfMemory f a b = absurd a
one_refusal prices (BadPrefix at) f a b = from_place prices at (BadPrefix at) f a.0 a.1 b
one_refusal prices (BadCredits at) f a b = from_place prices at (BadCredits at) f a.0 a.1 b
one_refusal prices (Duplicate first second) f a b = from_place prices second (Duplicate first second) f a.0 a.1 b

-- the refusal that was told is the one that there is
pub told : (prices : List Price) (f e : TariffError) → Refuses prices f → (f ≡ e → Refuses prices e) × (Refuses prices e → f ≡ e)
told prices f e r = (λ q. subst (Refuses prices) q r, one_refusal prices f e r)
