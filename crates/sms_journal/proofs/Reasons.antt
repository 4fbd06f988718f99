-- The plan of a message, and its admission.
use Rattle.std.proofs.Common.{◌≡◌, ◌∙◌, ◌<◌, ◌≤◌, sym, refl, ap, ℕ, Bool, true, false, length, Some, None, arith}
use Rattle.std.specs.Prelude.{Option, ◌==◌, ◌&&◌, not, is_some, nat_le, nat_lt}
use Rattle.std.proofs.lemmas.Bool.Decides.{nat_tests}
use Rattle.sms_segment.specs.Message.{IsTooLong}
use Rattle.sms_segment.proofs.TextLemmas.{length-parts_of, some-parts_of, too_long, too_long-parts}
use Rattle.sms_message.specs.declared.message.Message.{Message}
use Rattle.sms_message.specs.declared.rules.Rules.{Rules}
use Rattle.sms_message.specs.declared.ends.MessageRefusal.{MessageRefusal}
use Rattle.sms_message.specs.declared.ends.MessageRefusal.TheVariants.{NoAccount, NoCredit, TooLong, BadAddress, BindClosed, OutOfMemory}
use Rattle.sms_message.specs.Admission.{IsKnown, IsRefusalOf, IsShort}
use Rattle.sms_message.specs.Submits.{HasAddresses, coded_text, parts_for, reference_of}
use Rattle.sms_journal.specs.declared.rest.plan.Plan.{Plan}
use Rattle.sms_journal.specs.Plans.{IsPlan, account_of, countable, is_admitted, may_refuse}
use Rattle.sms_journal.specs.RestLaws.{PartsAreOfAdmission, PlansAreUnique, RefusalsAreOfAdmission}

-- ---- truth

both : (a b : Bool) → a ≡ true → b ≡ true → (a && b) ≡ true
both true true h g = refl
both true false h g = absurd (cc)
both false b h g = absurd (cc)

parted : (a b : Bool) → (a && b) ≡ true → (a ≡ true) × (b ≡ true)
parted true true h = (refl, refl)
parted true false h = absurd (cc)
parted false b h = absurd (cc)

negated : (a : Bool) → not a ≡ true → a ≡ true → ⊥
negated true h g = absurd (cc)
negated false h g = absurd (cc)

to_negated : (a : Bool) → (a ≡ true → ⊥) → not a ≡ true
to_negated true h = absurd (h refl)
to_negated false h = refl

same_truth : (a b : Bool) → (a ≡ true → b ≡ true) → (b ≡ true → a ≡ true) → a ≡ b
same_truth true true h g = refl
same_truth true false h g = sym (h refl)
same_truth false true h g = g refl
same_truth false false h g = refl

-- ---- what a plan says

known_to : (accounts : ℕ) (account : Option ℕ) → is_some (account_of accounts account) ≡ true → IsKnown accounts account
known_to accounts None h = absurd (cc)
known_to accounts (Some a) h = by (nat_lt a accounts) refl
  where
    by : (t : Bool) → nat_lt a accounts ≡ t → a < accounts
    by true p = grind (arith, nat_tests)
    by false p = let none : false ≡ true = rw p at h in absurd (cc)

known_from : (accounts : ℕ) (account : Option ℕ) → IsKnown accounts account → is_some (account_of accounts account) ≡ true
known_from accounts None h = absurd h
known_from accounts (Some a) h = let p : nat_lt a accounts ≡ true = grind (arith, nat_tests) in rw p refl

no_parts : (parts count : ℕ) → 0 < count → parts ≡ countable count → (parts == 0) ≡ true → 255 < count
no_parts parts count some is none = grind (arith, nat_tests)

many : (parts count : ℕ) → parts ≡ countable count → 255 < count → (parts == 0) ≡ true
many parts count is high = grind (arith, nat_tests)

has_parts : (parts : ℕ) → (nat_le 1 parts ≡ true) → (parts == 0) ≡ true → ⊥
has_parts parts some none = let low : parts ≡ 0 = grind (arith, nat_tests) in let high : 1 ≤ parts = grind (arith, nat_tests) in omega (arith, low, high)

to_parts : (parts : ℕ) → ((parts == 0) ≡ true → ⊥) → nat_le 1 parts ≡ true
to_parts parts h = by (parts == 0) refl
  where
    by : (t : Bool) → (parts == 0) ≡ t → nat_le 1 parts ≡ true
    by true p = absurd (h p)
    by false p = grind (arith, nat_tests)

module _ (rules : Rules) (accounts : ℕ) (m : Message) (plan : Plan) (is : IsPlan rules.long_reference rules.tariff accounts m plan) where
  known : is_some plan.account ≡ true → IsKnown accounts m.account
  known h = known_to accounts m.account (ap is_some (sym is.account) ∙ h)

  is_known : IsKnown accounts m.account → is_some plan.account ≡ true
  is_known h = ap is_some is.account ∙ known_from accounts m.account h

  long : (plan.parts == 0) ≡ true → IsTooLong (coded_text m) (reference_of rules m)
  long h =
      let high = no_parts plan.parts (length (parts_for rules.long_reference m)) (some-parts_of (coded_text m) (reference_of rules m)) is.parts h in
      too_long (coded_text m) (reference_of rules m) (omega (arith, high, length-parts_of (coded_text m) (reference_of rules m)))

  is_long : IsTooLong (coded_text m) (reference_of rules m) → (plan.parts == 0) ≡ true
  is_long h = many plan.parts (length (parts_for rules.long_reference m)) is.parts (too_long-parts (coded_text m) (reference_of rules m) h)

  admitted : is_admitted plan ≡ true → IsKnown accounts m.account × HasAddresses m × IsShort rules m
  admitted h =
      let first = parted (is_some plan.account) (plan.addresses && nat_le 1 plan.parts) h in
      let second = parted plan.addresses (nat_le 1 plan.parts) first.1 in
      (known first.0, is.addresses.0 second.0, λ too. has_parts plan.parts second.1 (is_long too))

  is_admitted_so : IsKnown accounts m.account × HasAddresses m × IsShort rules m → is_admitted plan ≡ true
  is_admitted_so h =
      both (is_some plan.account) (plan.addresses && nat_le 1 plan.parts) (is_known h.0) (both plan.addresses (nat_le 1 plan.parts) (is.addresses.1 h.1) (to_parts plan.parts (λ none. h.2 (long none))))

  refusal_is : (refusal : MessageRefusal) → may_refuse plan refusal ≡ true → IsRefusalOf rules accounts m refusal
  refusal_is NoAccount h = λ k. negated (is_some plan.account) h (is_known k)
  refusal_is BadAddress h =
      let parts = parted (is_some plan.account) (not plan.addresses) h in
      (known parts.0, λ good. negated plan.addresses parts.1 (is.addresses.1 good))
  refusal_is TooLong h =
      let first = parted (is_some plan.account) (plan.addresses && plan.parts == 0) h in
      let second = parted plan.addresses (plan.parts == 0) first.1 in
      (known first.0, is.addresses.0 second.0, long second.1)
  refusal_is NoCredit h = admitted h
  refusal_is BindClosed h = tt
  refusal_is OutOfMemory h = let parts = parted (is_some plan.account) plan.addresses h in (known parts.0, is.addresses.0 parts.1)

  refusal_from : (refusal : MessageRefusal) → IsRefusalOf rules accounts m refusal → may_refuse plan refusal ≡ true
  refusal_from NoAccount h = to_negated (is_some plan.account) (λ some. h (known some))
  refusal_from BadAddress h = both (is_some plan.account) (not plan.addresses) (is_known h.0) (to_negated plan.addresses (λ good. h.1 (is.addresses.0 good)))
  refusal_from TooLong h = both (is_some plan.account) (plan.addresses && plan.parts == 0) (is_known h.0) (both plan.addresses (plan.parts == 0) (is.addresses.1 h.1) (is_long h.2))
  refusal_from NoCredit h = is_admitted_so h
  refusal_from BindClosed h = refl
  refusal_from OutOfMemory h = both (is_some plan.account) plan.addresses (is_known h.0) (is.addresses.1 h.1)

pub refusals_are_of_admission : RefusalsAreOfAdmission
refusals_are_of_admission rules accounts m plan refusal is = (refusal_is rules accounts m plan is refusal, refusal_from rules accounts m plan is refusal)

pub parts_are_of_admission : PartsAreOfAdmission
parts_are_of_admission rules accounts m plan is = (admitted rules accounts m plan is, is_admitted_so rules accounts m plan is)

pub plans_are_unique : PlansAreUnique
plans_are_unique rules accounts m plan other is too =
    let account : plan.account ≡ other.account = is.account ∙ sym too.account in
    let addresses : plan.addresses ≡ other.addresses = same_truth plan.addresses other.addresses (λ h. too.addresses.1 (is.addresses.0 h)) (λ h. is.addresses.1 (too.addresses.0 h)) in
    let parts : plan.parts ≡ other.parts = is.parts ∙ sym too.parts in
    let cost : plan.cost ≡ other.cost = is.cost ∙ sym too.cost in
    λ j. record { account = account j; addresses = addresses j; parts = parts j; cost = cost j }
