-- The lines of accounts, where no account or no row is left.
use Rattle.std.proofs.Common.{◌≡◌, ◌≤◌, ℕ, zero, suc, min, List, [], ◌∷◌, length, drop, refl, arith}
use Rattle.sms_core.specs.declared.row.Row.{Row}
use Rattle.sms_book.specs.declared.opening.Opening.{Opening}
use Rattle.sms_files.specs.Report.{row_texts}

no_rows : (os : List Opening) → row_texts os [] ≡ []
no_rows [] = refl
no_rows (o ∷ os) = refl

pub rows_end : (os : List Opening) (rs : List Row) (n : ℕ) → min (length os) (length rs) ≤ n → row_texts (drop n os) (drop n rs) ≡ []
rows_end [] rs zero h = refl
rows_end [] rs (suc n) h = refl
rows_end (o ∷ os) [] zero h = refl
rows_end (o ∷ os) [] (suc n) h = no_rows (drop n os)
rows_end (o ∷ os) (r ∷ rs) zero h = absurd (omega (arith, h))
rows_end (o ∷ os) (r ∷ rs) (suc n) h = rows_end os rs n (omega (arith, h))
