-- The record that a fault of a tariff file names: it is no rate, it is one too many, or no tariff takes it beside those before it.
use Rattle.std.proofs.Common.{◌≡◌, ◌∙◌, sym, refl, ap, ℕ, zero, suc, ◌+◌, ◌-◌, ◌<◌, ◌≤◌, ◌⊎◌, inl, inr, Bool, true, false, List, [], ◌∷◌, length, Option, Some, None, arith}
use Rattle.std.specs.Prelude.{◌&&◌, nat_le, nat_lt, All, slice_index_or, string_bytes}
use Rattle.std.specs.Char.{IsAsciiDigit}
use Rattle.std.specs.List.{AllZip}
use Rattle.std.specs.Str.{bytes_eq}
use Rattle.std.proofs.lemmas.Bool.Decides.{nat_tests}
use Rattle.std.proofs.lemmas.List.{length-map}
use Rattle.std.proofs.lemmas.Slice.Eq.{bytes_eq-Decides}
use Rattle.sms_book.specs.Openings.{HaveOneName}
use Rattle.sms_book.specs.Tariffs.{IsCredits, IsPrefix, Refuses, prefixes, price_at, price_of, prices_of}
use Rattle.sms_book.specs.declared.error.TariffError.{TariffError}
use Rattle.sms_book.specs.declared.error.TariffError.TheVariants.{TooMany, BadPrefix, BadCredits, Duplicate, OutOfMemory}
use Rattle.sms_book.specs.declared.rate.Rate.{Rate}
use Rattle.sms_files.specs.Accounts.{name_in}
use Rattle.sms_files.specs.FieldFlaws.{first_flaw}
use Rattle.sms_files.specs.Fields.{Field, Record, number_at, text_in}
use Rattle.sms_files.specs.Flaws.{are_digits, credits_flaw, digits_flaw, first_named, flaw_at, flaw_beside, flaw_there, is_price, price_flaw, record_behind}
use Rattle.sms_files.specs.Rates.{SaysRate, TellsRates, TellsTariff, most_rates, rate_flaw, rates_fault, rates_header_flaw, trouble_of}
use Rattle.sms_files.specs.Records.{IsBadRecord, record_fault}
use Rattle.sms_files.specs.declared.fault.InputFault.TheVariants as told
use Rattle.sms_files.specs.declared.fault.Source.TheVariants.{Tariff}
use Rattle.sms_files.specs.declared.flaw.Flaw.{Flaw}
use Rattle.sms_files.specs.declared.flaw.Flaw.TheVariants.{Missing, NotDigits, NotNumber, OneTooMany, Taken}
use Rattle.sms_files.specs.declared.tables.record_flaw.RecordFlaw.{RecordFlaw}
use Rattle.sms_files.proofs.FirstFlaws.{Found, IsBad, all_fine, first_alone, found, none_some, placed_many, placed_row, same_trouble}
use Rattle.sms_files.proofs.NewAccounts.{name-read}

both : (a b : Bool) → (a && b) ≡ true → (a ≡ true) × (b ≡ true)
both true b h = (refl, h)
both false b h = cc

-- ---- what is wrong with a rate by itself

-- the digits of a prefix
digits_all : (octets : List ℕ) → are_digits octets ≡ true → All IsAsciiDigit octets
digits_all [] h k d lt = absurd (omega (arith, lt))
digits_all (c ∷ cs) h zero d lt =
    let p = both (nat_le 48 c && nat_le c 57) (are_digits cs) h in
    let q = both (nat_le 48 c) (nat_le c 57) p.0 in
    let low : 48 ≤ c = grind (arith, nat_tests, q) in
    let high : c ≤ 57 = grind (arith, nat_tests, q) in
    (low, high)
digits_all (c ∷ cs) h (suc k) d lt = digits_all cs (both (nat_le 48 c && nat_le c 57) (are_digits cs) h).1 k d (omega (arith, lt))

prefix_of : (octets : List ℕ) → (nat_le (length octets) 20 && are_digits octets) ≡ true → IsPrefix octets
prefix_of octets h =
    let p = both (nat_le (length octets) 20) (are_digits octets) h in
    let short : length octets ≤ 20 = grind (arith, nat_tests, p) in
    (short, digits_all octets p.1)

no_digits : (r : Record) → ¬ (IsPrefix (name_in r)) → digits_flaw r ≡ Some (NotDigits 1)
no_digits r wrong = by (nat_le (length (name_in r)) 20 && are_digits (name_in r)) refl
  where
    by : (b : Bool) → (nat_le (length (name_in r)) 20 && are_digits (name_in r)) ≡ b → digits_flaw r ≡ Some (NotDigits 1)
    by true h = absurd (wrong (prefix_of (name_in r) h))
    by false h = rw h refl

are_all : (octets : List ℕ) → All IsAsciiDigit octets → are_digits octets ≡ true
are_all [] all = refl
are_all (c ∷ cs) all =
    let c_is = all 0 0 (omega arith) in
    let low : nat_le 48 c ≡ true = grind (arith, nat_tests, c_is) in
    let high : nat_le c 57 ≡ true = grind (arith, nat_tests, c_is) in
    let others : are_digits cs ≡ true = are_all cs (λ k d lt. all (suc k) d (omega (arith, lt))) in
    rw (low, high, others) refl

has_digits : (r : Record) → IsPrefix (name_in r) → digits_flaw r ≡ None
has_digits r is =
    let shortness = is.0 in
    let short : nat_le (length (name_in r)) 20 ≡ true = grind (arith, nat_tests, shortness) in
    let digits = are_all (name_in r) is.1 in
    rw (short, digits) refl

-- its credits
no_price : (r : Record) (n : ℕ) → number_at 0xFFFF_FFFF r 1 ≡ Some n → ¬ (IsCredits n) → credits_flaw r ≡ Some (NotNumber 2)
no_price r n number wrong = by (nat_le 1 n) (nat_le n 1_000) refl refl
  where
    by : (a b : Bool) → nat_le 1 n ≡ a → nat_le n 1_000 ≡ b → credits_flaw r ≡ Some (NotNumber 2)
    by true true p q =
        let low : 1 ≤ n = grind (arith, nat_tests, p) in
        let high : n ≤ 1_000 = grind (arith, nat_tests, q) in
        absurd (wrong (low, high))
    by true false p q = rw (number, p, q) refl
    by false b p q = rw (number, p) refl

has_price : (r : Record) (n : ℕ) → number_at 0xFFFF_FFFF r 1 ≡ Some n → IsCredits n → credits_flaw r ≡ None
has_price r n number is =
    let low : nat_le 1 n ≡ true = grind (arith, nat_tests, is) in
    let high : nat_le n 1_000 ≡ true = grind (arith, nat_tests, is) in
    rw (number, low, high) refl

-- ---- a rate where it stands

beside_at : (header : Record) (rs : List Record) (k : ℕ) (name : Field) → flaw_beside Tariff name (suc (suc k)) (header ∷ rs) ≡ first_named name 2 k rs
beside_at header rs k name = let same : suc (suc k) - 2 ≡ k = omega arith in ap (λ n. first_named name 2 n rs) same

rate_at : (header : Record) (rs : List Record) (k : ℕ) (r : Record) → record_behind k rs ≡ Some r → 1 + k ≤ most_rates
    → flaw_at Tariff (header ∷ rs) (suc (suc k)) ≡ first_flaw (first_flaw (rate_flaw r) (price_flaw r)) (first_named (name_in r) 2 k rs)
rate_at header rs k r there low =
    ap (flaw_there Tariff (suc (suc k)) (header ∷ rs)) there
    ∙ ap (λ f. first_flaw f (flaw_beside Tariff (name_in r) (suc (suc k)) (header ∷ rs)))
    (placed_row (rates_header_flaw r) (first_flaw (rate_flaw r) (price_flaw r)) most_rates (suc (suc k)) (omega arith) (omega (arith, low)))
    ∙ ap (first_flaw (first_flaw (rate_flaw r) (price_flaw r))) (beside_at header rs k (name_in r))

rate_past : (header : Record) (rs : List Record) (k : ℕ) (r : Record) → record_behind k rs ≡ Some r → most_rates < 1 + k → flaw_at Tariff (header ∷ rs) (suc (suc k)) ≡ Some OneTooMany
rate_past header rs k r there high =
    ap (flaw_there Tariff (suc (suc k)) (header ∷ rs)) there
    ∙ ap (λ f. first_flaw f (flaw_beside Tariff (name_in r) (suc (suc k)) (header ∷ rs)))
    (placed_many (rates_header_flaw r) (first_flaw (rate_flaw r) (price_flaw r)) most_rates (suc (suc k)) (omega arith) (omega (arith, high)))

-- why a record has this flaw there
abbrev pub IsBadRate : ℕ → List Record → Record → Flaw → Type 0
IsBadRate few rs r is =
    ((most_rates < 1 + few) × (is ≡ OneTooMany))
    ⊎ ((1 + few ≤ most_rates) × (first_flaw (first_flaw (rate_flaw r) (price_flaw r)) (first_named (name_in r) 2 few rs) ≡ Some is))

bad_rate : (header : Record) (rs : List Record) (few : ℕ) (r : Record) (is : Flaw) → record_behind few rs ≡ Some r → IsBadRate few rs r is → flaw_at Tariff (header ∷ rs) (suc (suc few)) ≡ Some is
bad_rate header rs few r is there (inl (high, many)) = rate_past header rs few r there high ∙ ap Some (sym many)
bad_rate header rs few r is there (inr (low, wrong)) = rate_at header rs few r there low ∙ wrong

-- ---- the record of a rate

pub record RateAt (rs : List Record) (rates : List Rate) (at : ℕ) : Type 0 where
  pub r : Record
  pub x : Rate
  pub there : record_behind at rs ≡ Some r
  pub says : SaysRate r x
  pub price : price_at (prices_of rates) at ≡ price_of x
  pub name : slice_index_or (prefixes (prices_of rates)) at [] ≡ string_bytes x.prefix

rate_there : (rs : List Record) (rates : List Rate) (at : ℕ) → AllZip SaysRate rs rates → at < length (prices_of rates) → RateAt rs rates at
rate_there [] [] at h lt = absurd (omega (arith, lt))
rate_there [] (x ∷ xs) at h lt = absurd h
rate_there (r ∷ rs) [] at h lt = absurd h
rate_there (r ∷ rs) (x ∷ xs) zero h lt = record { r = r; x = x; there = refl; says = h.0; price = refl; name = refl }
rate_there (r ∷ rs) (x ∷ xs) (suc at) h lt =
    let a = rate_there rs xs at h.1 (omega (arith, lt)) in
    record { r = a.r; x = a.x; there = a.there; says = a.says; price = a.price; name = a.name }

-- the first record of a name
first_is : (name : Field) (number few first : ℕ) (rs : List Record) (q : Record) → record_behind first rs ≡ Some q → first < few → bytes_eq (name_in q) name ≡ true
    → ((k : ℕ) (p : Record) → k < first → record_behind k rs ≡ Some p → bytes_eq (name_in p) name ≡ false) → first_named name number few rs ≡ Some (Taken (number + first))
first_is name number zero first rs q there lt same others = absurd (omega (arith, lt))
first_is name number (suc few) zero [] q there lt same others = absurd (none_some q there)
first_is name number (suc few) (suc first) [] q there lt same others = absurd (none_some q there)
first_is name number (suc few) zero (r ∷ rs) q there lt same others =
    let is : r ≡ q = cc in
    let now : bytes_eq (name_in r) name ≡ true = ap (λ (x : Record). bytes_eq (name_in x) name) is ∙ same in
    let number_is : number ≡ number + 0 = omega arith in
    rw now (ap (λ n. Some (Taken n)) number_is)
first_is name number (suc few) (suc first) (r ∷ rs) q there lt same others =
    let now : bytes_eq (name_in r) name ≡ false = others 0 r (omega arith) refl in
    let number_is : number + 1 + first ≡ number + suc first = omega arith in
    rw now (first_is name (number + 1) few first rs q there (omega (arith, lt)) same (λ k p low found. others (suc k) p (omega (arith, low)) found) ∙ ap (λ n. Some (Taken n)) number_is)

same_names : (a b : List ℕ) → a ≡ b → bytes_eq a b ≡ true
same_names a b e = (bytes_eq-Decides a b).1 e

other_names : (a b : List ℕ) → ¬ (a ≡ b) → bytes_eq a b ≡ false
other_names a b apart = by (bytes_eq a b) refl
  where
    by : (t : Bool) → bytes_eq a b ≡ t → bytes_eq a b ≡ false
    by true e = absurd (apart ((bytes_eq-Decides a b).0 e))
    by false e = e

name_is : (rs : List Record) (rates : List Rate) (at : ℕ) (a : RateAt rs rates at) → name_in a.r ≡ slice_index_or (prefixes (prices_of rates)) at []
name_is rs rates at a = name-read a.r (string_bytes a.x.prefix) a.says.0 ∙ sym a.name

-- ---- what a fault says

-- of the records of rates, of which no tariff is made
abbrev pub Flawed : List Record → ℕ → Flaw → Type 0
Flawed rs at is = (r : Record) × (record_behind at rs ≡ Some r) × IsBadRate at rs r is

-- a record that is a rate's has the flaw of its price, and then that of its name
priced : (r : Record) (rs : List Record) (at : ℕ) (is : Flaw) → rate_flaw r ≡ None → price_flaw r ≡ Some is → first_flaw (first_flaw (rate_flaw r) (price_flaw r)) (first_named (name_in r) 2 at rs) ≡ Some is
priced r rs at is good wrong = rw (good, wrong) refl

named : (r : Record) (rs : List Record) (at : ℕ) (is : Flaw) → rate_flaw r ≡ None → price_flaw r ≡ None → first_named (name_in r) 2 at rs ≡ Some is
    → first_flaw (first_flaw (rate_flaw r) (price_flaw r)) (first_named (name_in r) 2 at rs) ≡ Some is
named r rs at is good priced taken = rw (good, priced) taken

prefix_first : (r : Record) → digits_flaw r ≡ Some (NotDigits 1) → price_flaw r ≡ Some (NotDigits 1)
prefix_first r e = rw e refl

credits_second : (r : Record) (o : Option Flaw) → digits_flaw r ≡ None → credits_flaw r ≡ o → price_flaw r ≡ o
credits_second r o e f = rw e f

refused : (rs : List Record) (rates : List Rate) (e : TariffError) (at : ℕ) (is : Flaw) → AllZip SaysRate rs rates → record_fault rate_flaw most_rates 1 rs ≡ None → Refuses (prices_of rates) e
    → trouble_of e ≡ Some (at, is) → Flawed rs at is
refused rs rates TooMany at is zip good why p =
    let same = same_trouble 1000 at OneTooMany is p in
    let at_is = same.0 in
    let a = rate_there rs rates at zip (omega (arith, why, at_is)) in
    (a.r, a.there, inl (omega (arith, at_is), sym same.1))
refused rs rates (BadPrefix place) at is zip good why p =
    let same = same_trouble place at (NotDigits 1) is p in
    let a = rate_there rs rates place zip why.0.there in
    let fine = all_fine rate_flaw most_rates 1 rs good place a.r a.there in
    let wrong : ¬ (IsPrefix (name_in a.r)) = λ prefix. why.1.1 (rw (a.price, sym (name-read a.r (string_bytes a.x.prefix) a.says.0)) prefix) in
    rw (← same.0) (a.r, a.there, inr (fine.1, priced a.r rs place is fine.0 (prefix_first a.r (no_digits a.r wrong) ∙ ap Some same.1)))
refused rs rates (BadCredits place) at is zip good why p =
    let same = same_trouble place at (NotNumber 2) is p in
    let a = rate_there rs rates place zip why.0.there in
    let fine = all_fine rate_flaw most_rates 1 rs good place a.r a.there in
    let prefix : IsPrefix (name_in a.r) = rw (name-read a.r (string_bytes a.x.prefix) a.says.0) (rw a.price at why.1.prefix) in
    let wrong : ¬ (IsCredits a.x.credits) = λ credits. why.1.credits (rw a.price credits) in
    rw (← same.0) (
      a.r,
      a.there,
      inr (fine.1, priced a.r rs place is fine.0 (credits_second a.r _ (has_digits a.r prefix) (no_price a.r a.x.credits a.says.1 wrong) ∙ ap Some same.1)),
    )
refused rs rates (Duplicate first second) at is zip good why p =
    let same = same_trouble second at (Taken (first + 2)) is p in
    let double = why.1.double in
    let before = double.before in
    let there = why.0.there in
    let names = prefixes (prices_of rates) in
    let a = rate_there rs rates second zip there in
    let b = rate_there rs rates first zip (omega (arith, before, there)) in
    let fine = all_fine rate_flaw most_rates 1 rs good second a.r a.there in
    let prefix : IsPrefix (name_in a.r) = rw (name-read a.r (string_bytes a.x.prefix) a.says.0) (rw a.price at why.1.prefix) in
    let credits : IsCredits a.x.credits = rw a.price at why.1.credits in
    let one : name_in b.r ≡ name_in a.r = name_is rs rates first b ∙ double.same ∙ sym (name_is rs rates second a) in
    let long = length-map (prices_of rates) (λ p. p.prefix) in
    let others : (k : ℕ) (q : Record) → k < first → record_behind k rs ≡ Some q → bytes_eq (name_in q) (name_in a.r) ≡ false = λ k q low found.
    let c = rate_there rs rates k zip (omega (arith, low, before, there)) in
    let c_is : c.r ≡ q = some_record c.r q (sym c.there ∙ found) in
    ap (λ (x : Record). bytes_eq (name_in x) (name_in a.r)) (sym c_is)
    ∙ other_names (name_in c.r) (name_in a.r) (λ e.
    (why.0.before first before).apart k (record { before = low; there = omega (arith, before, there, long); same = sym (name_is rs rates k c) ∙ e ∙ sym one ∙ name_is rs rates first b }))
    in
    let taken : first_named (name_in a.r) 2 second rs ≡ Some (Taken (2 + first)) = first_is (name_in a.r) 2 second first rs b.r b.there before (same_names (name_in b.r) (name_in a.r) one) others in
    let number_is : 2 + first ≡ first + 2 = omega arith in
    rw (← same.0) (
      a.r,
      a.there,
      inr (
        fine.1,
        named a.r rs second is fine.0 (credits_second a.r _ (has_digits a.r prefix) (has_price a.r a.x.credits a.says.1 credits)) (taken ∙ ap (λ n. Some (Taken n)) number_is ∙ ap Some same.1),
      ),
    )
  where
    some_record : (x y : Record) → Some x ≡ Some y → x ≡ y
    some_record x y e = cc
refused rs rates OutOfMemory at is zip good why p = absurd why

flawed_there : (header : Record) (rs : List Record) (at place : ℕ) (is : Flaw) → suc (suc at) ≡ place → Flawed rs at is → flaw_at Tariff (header ∷ rs) place ≡ Some is
flawed_there header rs at place is at_is (r, there, bad) = rw (← at_is) (bad_rate header rs at r is there bad)

same_record : (a b : ℕ) (x y : RecordFlaw) → told.BadRecord Tariff a x ≡ told.BadRecord Tariff b y → (a ≡ b) × (x ≡ y)
same_record a b x y e = (cc, cc)

-- after a header no record has a flaw, where the file has none
behind_good : (header : Record) (rs : List Record) → rates_fault (header ∷ rs) ≡ None → record_fault rate_flaw most_rates 1 rs ≡ None
behind_good header rs e = by (rates_header_flaw header) refl
  where
    by : (o : Option Flaw) → rates_header_flaw header ≡ o → record_fault rate_flaw most_rates 1 rs ≡ None
    by None head = rw head at e
    by (Some x) head = absurd (none_some _ (sym (rw head at e)))

of_rates : (rs : List Record) (place : ℕ) (detail : RecordFlaw) → TellsRates rs (told.BadRecord Tariff place detail) → flaw_at Tariff rs place ≡ Some detail.flaw
of_rates [] place detail (rates, are, tells) = absurd are
of_rates (header ∷ rs) place detail (rates, are, inl memory) = cc
of_rates (header ∷ rs) place detail (rates, are, inr (e, at, is, why, p, (there, told_is, flaw_is))) =
    let same = same_record place (at + 2) detail there told_is in
    let place_is = same.0 in
    flawed_there header rs at place is (omega (arith, place_is)) (refused rs rates e at is are.1 (behind_good header rs are.0) why p) ∙ ap Some (sym flaw_is ∙ ap (λ (d : RecordFlaw). d.flaw) (sym same.1))

-- of the first record that is no rate
of_records : (rs : List Record) (place : ℕ) (is : Flaw) → rates_fault rs ≡ Some (place, is) → flaw_at Tariff rs place ≡ Some is
of_records [] place is e = let same = same_trouble 1 place Missing is e in rw (← same.0) (ap Some same.1)
of_records (header ∷ rs) place is e = by (rates_header_flaw header) refl
  where
    by : (o : Option Flaw) → rates_header_flaw header ≡ o → flaw_at Tariff (header ∷ rs) place ≡ Some is
    by (Some x) head =
        let same = same_trouble 1 place x is (rw head at e) in
        rw (← same.0) (first_alone (rates_header_flaw header) ∙ head ∙ ap Some same.1)
    by None head =
        let f = found rate_flaw most_rates 1 place is rs (rw head at e) in
        let place_is = f.place_is in
        flawed_there header rs f.few place is (omega (arith, place_is)) (
          f.r,
          f.there,
          elim f.bad [
            | inl high ↦ inl high
            | inr wrong ↦ inr (wrong.0, rw wrong.1 refl)
          ],
        )

pub rates_flawed : (rs : List Record) (place : ℕ) (detail : RecordFlaw) → TellsTariff rs (told.BadRecord Tariff place detail) → flaw_at Tariff rs place ≡ Some detail.flaw
rates_flawed rs place detail (inl (inl (inl (error, unread)))) = cc
rates_flawed rs place detail (inl (inl (inr memory))) = cc
rates_flawed rs place detail (inl (inr (at, is, (there, told_is, flaw_is), e))) =
    let same = same_record place at detail there told_is in
    rw same.0 (of_records rs at is e) ∙ ap Some (sym flaw_is ∙ ap (λ (d : RecordFlaw). d.flaw) (sym same.1))
rates_flawed rs place detail (inr tells) = of_rates rs place detail tells
