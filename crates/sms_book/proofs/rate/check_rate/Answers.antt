use Rattle.std.proofs.Common.{List, ℕ, rules, subst, sym, refl}
use Rattle.std.specs.Prelude.{string_bytes}
use Rattle.sms_book.specs.Openings.{HaveOneName}
use Rattle.sms_book.specs.Tariffs.{Price, IsPrefix, IsCredits}
use Rattle.sms_book.proofs.Refusals.{price_there, prefixes_are}
use Rattle.sms_book.proofs.rate.check_rate.Goals as goal

pub returns-in-Some-clause-refused : goal.returns-in-Some-clause-refused
returns-in-Some-clause-refused c =
    let rate = c.index-rates-place.result in
    let price = price_there c.args.rates.now c.args.place rate c.requires c.index-rates-place.is in
    let prefix : IsPrefix (string_bytes rate.prefix) = subst IsPrefix c.as_bytes.ensures.value (search rules) in
    let credits : IsCredits rate.credits = search rules in
    record {
      is = refl;
      prefix = subst (λ (p : Price). IsPrefix p.prefix) (sym price) prefix;
      credits = subst (λ (p : Price). IsCredits p.credits) (sym price) credits;
      double = subst (λ (l : List (List ℕ)). HaveOneName l c.in-Some.first c.args.place) (prefixes_are c.args.rates.now) c.in-Some.ensures.found.0;
    }

pub returns-in-None-clause-good : goal.returns-in-None-clause-good
returns-in-None-clause-good c =
    let rate = c.index-rates-place.result in
    let price = price_there c.args.rates.now c.args.place rate c.requires c.index-rates-place.is in
    let prefix : IsPrefix (string_bytes rate.prefix) = subst IsPrefix c.as_bytes.ensures.value (search rules) in
    let credits : IsCredits rate.credits = search rules in
    record {
      prefix = subst (λ (p : Price). IsPrefix p.prefix) (sym price) prefix;
      credits = subst (λ (p : Price). IsCredits p.credits) (sym price) credits;
      apart = λ first have. c.in-None.ensures.none refl first (subst (λ (l : List (List ℕ)). HaveOneName l first c.args.place) (sym (prefixes_are c.args.rates.now)) have);
    }
