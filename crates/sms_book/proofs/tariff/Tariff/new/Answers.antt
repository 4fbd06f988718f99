use Rattle.std.proofs.Common.{◌≡◌, Err, refl, ap}
use Rattle.sms_book.specs.declared.error.TariffError.TheVariants.{BadCredits, Duplicate}
use Rattle.sms_book.specs.Tariffs.{prices_of}
use Rattle.sms_book.proofs.Refusals.{told}
use Rattle.sms_book.proofs.tariff.Tariff.new.Goals as goal

pub returns-in-Err-clause-credits : goal.returns-in-Err-clause-credits
returns-in-Err-clause-credits c place =
    let t = told (prices_of c.args.rates.now) c.in-Err.fault (BadCredits place) c.in-Err.ensures.refused in (
      λ is.
          let same : c.in-Err.fault ≡ BadCredits place = cc in
          let (reached, bad) = t.0 same in
          (reached, bad.prefix, bad.credits),
      λ p.
          let (reached, prefix, credits) = p in
          ap Err (t.1 (reached, record { is = refl; prefix = prefix; credits = credits })),
    )

pub returns-in-Err-clause-double : goal.returns-in-Err-clause-double
returns-in-Err-clause-double c first second =
    let t = told (prices_of c.args.rates.now) c.in-Err.fault (Duplicate first second) c.in-Err.ensures.refused in (
      λ is.
          let same : c.in-Err.fault ≡ Duplicate first second = cc in
          let (reached, bad) = t.0 same in
          (reached, bad.prefix, bad.credits, bad.double),
      λ p.
          let (reached, prefix, credits, double) = p in
          ap Err (t.1 (reached, record { is = refl; prefix = prefix; credits = credits; double = double })),
    )
