use Rattle.std.proofs.Common.{◌≡◌, ◌+◌, ◌++◌, ◌∷◌, [], length, subst, sym, take, arith, rules}
use Rattle.sms_files.specs.Quotes.{AreQuotesOf, IsQuoteOf}
use Rattle.sms_files.specs.Totals.{AreTotals, FitIn, left_in}
use Rattle.sms_files.proofs.CountingQuotes.{fits, left_is, no_quotes_are, no_totals_are, quotes_more, totals_more}
use Rattle.sms_files.proofs.Lists.{take_whole}
use Rattle.sms_files.proofs.report.quote.quoting.quoted.Goals as goal

pub loop-place-init : goal.loop-place-init
loop-place-init c =
    let empty : c.new-quotes.result.items ≡ [] = search rules in
    record {
      count = search rules;
      each = subst (AreQuotesOf c.args.openings.now c.args.long c.args.tariff.now c.args.messages.now) (sym empty) (no_quotes_are c.args.openings.now c.args.long c.args.tariff.now c.args.messages.now);
      totals = subst (λ l. AreTotals c.args.openings.now [] l c.in_ok-totals.totals.items) (sym empty) (no_totals_are c.args.openings.now c.in_ok-totals.totals.items c.in_ok-totals.ensures.count c.in_ok-totals.ensures.each);
    }

pub count-requires : goal.count-requires
count-requires c =
    fits c.args.openings.now c.args.long c.args.tariff.now (take c.loop-place.place c.args.messages.now) c.loop-place.quotes.items c.loop-place.totals.items c.index-messages-place.result c.in_ok-quote.quote
    c.loop-place.invariant.totals (search rules) (search rules)

pub loop-place-preserved : goal.loop-place-preserved
loop-place-preserved c =
    let before = c.loop-place.invariant in
    let m = c.index-messages-place.result in
    let q = c.in_ok-quote.quote in
    let pushed : c.push.new.list.items ≡ c.loop-place.quotes.items ++ q ∷ [] = search rules in
    let said : IsQuoteOf (length c.args.openings.now) c.args.long c.args.tariff.now (left_in c.args.openings.now c.loop-place.totals.items m.account) m q = search rules in
    let fit : FitIn c.args.openings.now m.account q c.loop-place.totals.items =
    fits c.args.openings.now c.args.long c.args.tariff.now (take c.loop-place.place c.args.messages.now) c.loop-place.quotes.items c.loop-place.totals.items m q before.totals (search rules) said in
    let left = left_is c.args.openings.now (take c.loop-place.place c.args.messages.now) c.loop-place.quotes.items c.loop-place.totals.items m.account before.totals in
    record {
      count = search rules;
      each = subst (AreQuotesOf c.args.openings.now c.args.long c.args.tariff.now c.args.messages.now) (sym pushed)
          (quotes_more c.args.openings.now c.args.long c.args.tariff.now c.args.messages.now c.loop-place.quotes.items c.loop-place.place m q c.index-messages-place.is before.count before.each
          (subst (λ free. IsQuoteOf (length c.args.openings.now) c.args.long c.args.tariff.now free m q) left said));
      totals = subst (λ l. AreTotals c.args.openings.now (take (c.loop-place.place + 1) c.args.messages.now) l c.count.new.totals.items) (sym pushed)
          (totals_more c.args.openings.now c.args.messages.now c.loop-place.quotes.items c.loop-place.totals.items c.count.new.totals.items c.loop-place.place m q (omega arith) c.index-messages-place.is before.count
          before.totals fit c.count.ensures.length c.count.ensures.grown);
    }

pub returns-clause-totals : goal.returns-clause-totals
returns-clause-totals c =
    subst (λ l. AreTotals c.args.openings.now l c.loop-place.quotes.items c.loop-place.totals.items) (take_whole c.args.messages.now c.loop-place.place (omega arith)) c.loop-place.invariant.totals
