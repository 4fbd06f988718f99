-- Messages that have more parts than a header can count, and the plans of all.
use Rattle.std.proofs.Common.{◌≡◌, ◌<◌, ◌≤◌, ℕ, List, length, take, subst, arith}
use Rattle.std.specs.List.{AllZip}
use Rattle.sms_files.proofs.Lists.{take_whole}
use Rattle.std.proofs.lemmas.Bool.Decides.{nat_tests}
use Rattle.sms_journal.specs.Plans.{countable}

pub uncountable : (parts : ℕ) → 255 < parts → 0 ≡ countable parts
uncountable parts many = grind (arith, nat_tests)

pub counted : (count parts : ℕ) → count < 256 → count ≡ parts → count ≡ countable parts
counted count parts small is = grind (arith, nat_tests)

-- those of all messages
pub zip_all : {A B : Type 0} (R : A → B → Type 0) (xs : List A) (ys : List B) (k : ℕ) → length xs ≤ k → AllZip R (take k xs) ys → AllZip R xs ys
zip_all R xs ys k high h = subst (λ l. AllZip R l ys) (take_whole xs k high) h
