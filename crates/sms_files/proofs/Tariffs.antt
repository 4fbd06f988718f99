-- Why rates are no tariff, and the fault of the first one that is refused.
use Rattle.std.proofs.Common.{◌≡◌, ◌⊎◌, ◌↔◌, ◌<◌, ◌≤◌, ◌+◌, refl, ap, ℕ, List, length, Some, None, Result, Err, IsErrOf, inl, inr, arith}
use Rattle.std.proofs.lemmas.List.{length-map}
use Rattle.sms_book.specs.declared.error.TariffError.{TariffError}
use Rattle.sms_book.specs.declared.error.TariffError.TheVariants.{TooMany, BadPrefix, BadCredits, Duplicate, OutOfMemory}
use Rattle.sms_book.specs.declared.rate.Rate.{Rate}
use Rattle.sms_book.specs.Limits.{most_rates as most_of_tariff}
use Rattle.sms_book.specs.Openings.{HaveOneName}
use Rattle.sms_book.specs.Tariffs.{IsCredits, IsPrefix, IsReached, Price, Refuses, prefixes, price_at, price_of, prices_of}
use Rattle.sms_files.specs.Rates.{TellsPrices, trouble_of}
use Rattle.sms_files.specs.Records.{IsBadRecord}
use Rattle.sms_files.specs.declared.fault.InputFault.{InputFault}
use Rattle.sms_files.specs.declared.fault.Source.TheVariants.{Tariff}
use Rattle.sms_files.specs.declared.flaw.Flaw.{Flaw}
use Rattle.sms_files.specs.declared.flaw.Flaw.TheVariants.{OneTooMany}
use Rattle.sms_files.proofs.FirstFlaws.{same_trouble}

-- why rates are no tariff
pub refuses-so : (rates : List Rate) (r : Result (List Price) TariffError) (e : TariffError) → r ≡ Err e
    → (IsErrOf r TooMany ↔ (most_of_tariff < length rates))
    → ((place : ℕ) → IsErrOf r (BadPrefix place) ↔ (IsReached (prices_of rates) place × ¬ (IsPrefix (price_at (prices_of rates) place).prefix)))
    → ((place : ℕ) → IsErrOf r (BadCredits place) ↔ (IsReached (prices_of rates) place × IsPrefix (price_at (prices_of rates) place).prefix × ¬ (IsCredits (price_at (prices_of rates) place).credits)))
    → ((first second : ℕ) → IsErrOf r (Duplicate first second) ↔ (IsReached (prices_of rates) second × IsPrefix (price_at (prices_of rates) second).prefix × IsCredits (price_at (prices_of rates) second).credits × HaveOneName (prefixes (prices_of rates)) first second))
    → (e ≡ OutOfMemory) ⊎ Refuses (prices_of rates) e
refuses-so rates r TooMany is many prefix credits double = let n = many.0 is in let l = length-map rates price_of in inr (omega arith)
refuses-so rates r (BadPrefix place) is many prefix credits double = let h = (prefix place).0 is in inr (h.0, (refl, h.1))
refuses-so rates r (BadCredits place) is many prefix credits double =
    let (reached, prefix_is, wrong) = (credits place).0 is in inr (reached, record { is = refl; prefix = prefix_is; credits = wrong })
refuses-so rates r (Duplicate first second) is many prefix credits double =
    let (reached, prefix_is, credits_are, named) = (double first second).0 is in inr (reached, record { is = refl; prefix = prefix_is; credits = credits_are; double = named })
refuses-so rates r OutOfMemory is many prefix credits double = inl refl

pub refuses-other : (prices : List Price) (e : TariffError) → (e ≡ OutOfMemory) ⊎ Refuses prices e → ¬ (e ≡ OutOfMemory) → Refuses prices e
refuses-other prices e (inl memory) other = absurd (other memory)
refuses-other prices e (inr why) other = why

-- and their trouble has a place
pub has-place : (prices : List Price) (e : TariffError) → Refuses prices e → trouble_of e ≡ None → ⊥
has-place prices TooMany why is = cc
has-place prices (BadPrefix at) why is = cc
has-place prices (BadCredits at) why is = cc
has-place prices (Duplicate first second) why is = cc
has-place prices OutOfMemory why is = absurd why

-- the place of the rate is within the limit
pub there_low : (prices : List Price) (at : ℕ) → IsReached prices at → at ≤ 1000
there_low prices at h = let low = h.there in let few = h.few in omega arith

-- the fault of a rate that no tariff takes
pub names-rate : (prices : List Price) (e : TariffError) (place : ℕ) (flaw : Flaw) (f : InputFault) → (e ≡ OutOfMemory) ⊎ Refuses prices e → trouble_of e ≡ Some (place, flaw) → IsBadRecord Tariff (place + 2) flaw f → TellsPrices prices f
names-rate prices e place flaw f (inl memory) p bad = let q : trouble_of e ≡ None = ap trouble_of memory in cc
names-rate prices e place flaw f (inr why) p bad = inr (e, place, flaw, why, p, bad)

-- the place of the first of two rates with one prefix
pub first_low : (prices : List Price) (e : TariffError) (first second : ℕ) → (e ≡ OutOfMemory) ⊎ Refuses prices e → e ≡ Duplicate first second → first ≤ 1000
first_low prices e first second (inl memory) is = cc
first_low prices e first second (inr why) is =
    let duplicate : Refuses prices (Duplicate first second) = rw is at why in
    let before = duplicate.1.double.before in
    let low = there_low prices second duplicate.0 in
    omega (arith, before, low)

pub place_low : (prices : List Price) (e : TariffError) (place : ℕ) (flaw : Flaw) → (e ≡ OutOfMemory) ⊎ Refuses prices e → trouble_of e ≡ Some (place, flaw) → place ≤ 1000
place_low prices e place flaw (inl memory) p = let q : trouble_of e ≡ None = ap trouble_of memory in cc
place_low prices TooMany place flaw (inr why) p = let same = same_trouble 1000 place OneTooMany flaw p in let is = same.0 in omega (arith, is)
place_low prices (BadPrefix at) place flaw (inr why) p = let same = same_trouble at place _ flaw p in let is = same.0 in let low = there_low prices at why.0 in omega (arith, is, low)
place_low prices (BadCredits at) place flaw (inr why) p = let same = same_trouble at place _ flaw p in let is = same.0 in let low = there_low prices at why.0 in omega (arith, is, low)
place_low prices (Duplicate first second) place flaw (inr why) p = let same = same_trouble second place _ flaw p in let is = same.0 in let low = there_low prices second why.0 in omega (arith, is, low)
place_low prices OutOfMemory place flaw (inr why) p = absurd why
