-- Sums that end at the greatest number of 64 bits.
use Rattle.std.proofs.Common.{◌≡◌, ℕ, ◌+◌, ◌-◌, ◌^◌, ◌<◌, List, length, take, get_or, min, sum_by, ap, ◌∙◌, sym, refl, arith}
use Rattle.std.proofs.lemmas.List.{take_more}
use Rattle.std.proofs.lemmas.List.Sums.{sum_by_push}
use Rattle.sms_core.specs.declared.row.Row.{Row}
use Rattle.sms_files.specs.Summary.{capped, credits_of}
use Rattle.sms_files.specs.declared.report.summary.Credits.{Credits}

capped_add : (s x : ℕ) → min (capped s + x) (2 ^ 64 - 1) ≡ capped (s + x)
capped_add s x = omega arith

sum_more : {X : Type 0} (f : X → ℕ) (xs : List X) (i : ℕ) (d : X) → i < length xs → sum_by f (take (i + 1) xs) ≡ sum_by f (take i xs) + f (get_or xs i d)
sum_more f xs i d low = ap (sum_by f) (take_more xs i d low) ∙ sum_by_push f (take i xs) (get_or xs i d)

-- the sum over one element more
pub capped_more : {X : Type 0} (f : X → ℕ) (xs : List X) (i : ℕ) (x d : X) (old one new : ℕ) → i < length xs → x ≡ get_or xs i d
    → old ≡ capped (sum_by f (take i xs)) → one ≡ f x → new ≡ min (old + one) (2 ^ 64 - 1) → new ≡ capped (sum_by f (take (i + 1) xs))
capped_more f xs i x d old one new low is before adds sum =
    sum ∙ ap (λ (n : ℕ). min (n + one) (2 ^ 64 - 1)) before
    ∙ ap (λ (n : ℕ). min (capped (sum_by f (take i xs)) + n) (2 ^ 64 - 1)) (adds ∙ ap f is)
    ∙ capped_add (sum_by f (take i xs)) (f (get_or xs i d))
    ∙ ap capped (sym (sum_more f xs i d low))

-- the sums of the columns over one row more
pub credits_more : (rows : List Row) (i : ℕ) (d : Row) (old new : Credits) → i < length rows → old ≡ credits_of (take i rows)
    → new.charged ≡ min (old.charged + (get_or rows i d).charged) (2 ^ 64 - 1)
    → new.returned ≡ min (old.returned + (get_or rows i d).returned) (2 ^ 64 - 1)
    → new.reserved ≡ min (old.reserved + (get_or rows i d).reserved) (2 ^ 64 - 1)
    → new ≡ credits_of (take (i + 1) rows)
credits_more rows i d old new low before charged returned reserved =
    let row = get_or rows i d in
    let a = capped_more (λ r. r.charged) rows i row d old.charged row.charged new.charged low refl (ap (λ c. c.charged) before) refl charged in
    let b = capped_more (λ r. r.returned) rows i row d old.returned row.returned new.returned low refl (ap (λ c. c.returned) before) refl returned in
    let e = capped_more (λ r. r.reserved) rows i row d old.reserved row.reserved new.reserved low refl (ap (λ c. c.reserved) before) refl reserved in
    λ j. record { charged = a j; returned = b j; reserved = e j }
