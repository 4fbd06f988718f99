-- What attempts come to, by the last.
use Rattle.std.proofs.Common.{◌≡◌, ℕ, zero, suc, ◌-◌, List, [], ◌∷◌, length, map, Option, Some, refl, arith}
use Rattle.std.specs.Prelude.{slice_get}
use Rattle.sms_core.specs.Replies.{outcome_of, outcome_of_last}
use Rattle.sms_journal.specs.declared.audit.part.Answer.{Answer}
use Rattle.sms_journal.specs.Replied.{said}
use Rattle.sms_journal.specs.Schedules.{last_lets_again, lets_again}

come : (xs : List (Option Answer)) (n : ℕ) (x : Option Answer) → length xs ≡ suc n → slice_get xs n ≡ Some x → outcome_of (map said xs) ≡ outcome_of_last (said x)
come [] n x long is = absurd (omega arith)
come (a ∷ []) zero x long is = let same : a ≡ x = cc in rw same refl
come (a ∷ []) (suc n) x long is = absurd (omega arith)
come (a ∷ b ∷ xs) zero x long is = absurd (omega arith)
come (a ∷ b ∷ xs) (suc n) x long is = come (b ∷ xs) n x (omega arith) is

let_again : (xs : List (Option Answer)) (n : ℕ) (x : Option Answer) → length xs ≡ suc n → slice_get xs n ≡ Some x → last_lets_again (map said xs) ≡ lets_again (said x)
let_again [] n x long is = absurd (omega arith)
let_again (a ∷ []) zero x long is = let same : a ≡ x = cc in rw same refl
let_again (a ∷ []) (suc n) x long is = absurd (omega arith)
let_again (a ∷ b ∷ xs) zero x long is = absurd (omega arith)
let_again (a ∷ b ∷ xs) (suc n) x long is = let_again (b ∷ xs) n x (omega arith) is

pub come_to_last : (xs : List (Option Answer)) (x : Option Answer) → slice_get xs (length xs - 1) ≡ Some x → outcome_of (map said xs) ≡ outcome_of_last (said x)
come_to_last [] x is = absurd (cc)
come_to_last (a ∷ xs) x is = let e : length (a ∷ xs) - 1 ≡ length xs = omega arith in come (a ∷ xs) (length xs) x refl (rw e at is)

pub again_by_last : (xs : List (Option Answer)) (x : Option Answer) → slice_get xs (length xs - 1) ≡ Some x → last_lets_again (map said xs) ≡ lets_again (said x)
again_by_last [] x is = absurd (cc)
again_by_last (a ∷ xs) x is = let e : length (a ∷ xs) - 1 ≡ length xs = omega arith in let_again (a ∷ xs) (length xs) x refl (rw e at is)
