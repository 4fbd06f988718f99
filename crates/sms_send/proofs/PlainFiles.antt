-- What is found of files that are read without references.
use Rattle.std.proofs.Common.{◌≡◌, ℕ, Bool, true, false, List, Option, None, Some}
use Rattle.sms_files.specs.Inputs.{Told}
use Rattle.sms_send.specs.PlainFiles.{IsLeftOf, sees}

module _ (refs : Bool) (finds : List ℕ → Option Told → Type 0) (name : List ℕ) where
  pub not_found : finds name None → sees refs finds name None
  not_found is = by refs
    where
      by : (b : Bool) → sees b finds name None
      by false = is
      by true = is

  pub as_given : (given : Told) → refs ≡ false → finds name (Some given) → sees refs finds name (Some given)
  as_given given e is = rw e is

  pub as_left : (given left : Told) → refs ≡ true → finds name (Some given) → IsLeftOf given left → sees refs finds name (Some left)
  as_left given left e is leaves = rw e (given, is, leaves)
