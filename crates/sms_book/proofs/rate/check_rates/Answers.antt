use Rattle.std.proofs.Common.{arith}
use borrow.Author.Count.{below_more}
use Rattle.std.proofs.lemmas.List.{length-map}
use Rattle.sms_book.specs.Tariffs.{price_of, prices_of, IsGoodAt}
use Rattle.sms_book.proofs.Refusals.{first_fault}
use Rattle.sms_book.proofs.rate.check_rates.Goals as goal

pub loop-place-preserved : goal.loop-place-preserved
loop-place-preserved c = below_more (λ k. IsGoodAt (prices_of c.args.rates.now) k) c.loop-place.place c.loop-place.invariant c.in_default.ensures.good

pub returns-in-Err-clause-refused : goal.returns-in-Err-clause-refused
returns-in-Err-clause-refused c =
    let l = length-map c.args.rates.now price_of in
    first_fault (prices_of c.args.rates.now) c.loop-place.place c.in-Err.fault (omega arith) (omega arith) c.loop-place.invariant c.in-Err.ensures.refused

pub returns-clause-good : goal.returns-clause-good
returns-clause-good c =
    let l = length-map c.args.rates.now price_of in
    record {
      few = omega arith;
      good = λ place low. c.loop-place.invariant place (omega arith);
    }
