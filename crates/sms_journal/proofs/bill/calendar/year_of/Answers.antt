use Rattle.std.proofs.Common.{◌≡◌, ◌∙◌, ap, ◌+◌, ◌-◌, arith}
use Rattle.sms_journal.specs.Calendar.{date_of, year_days}
use Rattle.sms_journal.proofs.Days.{some_year, year_later}
use Rattle.sms_journal.proofs.bill.calendar.year_of.Goals as goal

pub loop-left-preserved : goal.loop-left-preserved
loop-left-preserved c =
    let year = c.loop-left.year in
    let left = c.loop-left.left in
    let is = c.days_of_year-left.ensures in
    let same = c.days_of_year.ensures in
    let test = c.loop-left-test.true in
    let some = some_year year in
    let low = c.loop-left.invariant.low in
    let bound = c.loop-left.invariant.bound in
    let count : c.args.days - (left - c.days_of_year-left.result) ≡ (c.args.days - left) + year_days year = omega (arith, is, same, test, low) in
    record {
      low = omega (arith, low);
      bound = omega (arith, is, same, test, some, low, bound);
      day = ap date_of count ∙ year_later (c.args.days - left) year c.loop-left.invariant.day;
    }
