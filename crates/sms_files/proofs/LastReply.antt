-- The last of some attempts.
use Rattle.std.proofs.Common.{◌≡◌, ℕ, zero, suc, ◌+◌, ◌-◌, List, [], ◌∷◌, length, Some, ap, arith}
use Rattle.std.specs.Prelude.{slice_get}
use Rattle.sms_message.specs.declared.ends.Attempt.{Attempt}
use Rattle.sms_files.specs.Report.{answer_text, last_text}

some_inside : {S : Type 0} → (a b : Attempt S) → Some a ≡ Some b → a ≡ b
some_inside a b e = cc

last_at : {S : Type 0} → (list : List (Attempt S)) (n : ℕ) (a : Attempt S) → n + 1 ≡ length list → slice_get list n ≡ Some a → last_text list ≡ answer_text a.reply
last_at [] n a h e = absurd (omega (arith, h))
last_at {S = S} (x ∷ []) zero a h e = ap (λ (y : Attempt S). answer_text y.reply) (some_inside x a e)
last_at (x ∷ []) (suc n) a h e = absurd (omega (arith, h))
last_at (x ∷ (y ∷ ys)) zero a h e = absurd (omega (arith, h))
last_at (x ∷ (y ∷ ys)) (suc n) a h e = last_at (y ∷ ys) n a (omega (arith, h)) e

pub last_is : {S : Type 0} → (list : List (Attempt S)) (a : Attempt S) → slice_get list (length list - 1) ≡ Some a → last_text list ≡ answer_text a.reply
last_is [] a e = cc
last_is (x ∷ xs) a e = last_at (x ∷ xs) (length (x ∷ xs) - 1) a (omega arith) e
