use Rattle.std.proofs.Common.{◌+◌, ◌-◌, ◌<◌, arith}
use Rattle.sms_journal.specs.Calendar.{days_in}
use Rattle.sms_journal.proofs.Days.{day_in_month, last_fits}
use Rattle.sms_journal.proofs.bill.calendar.date_in.Goals as goal
use Rattle.sms_journal.proofs.bill.calendar.date_in.Goals.{then-loop-month-test+else-rest-days_of_month, else-loop-month-test}

pub returns : goal.returns
returns c = λ first there.
    let year = c.args.year in
    let month = c.loop-month.month in
    let rest = c.loop-month.rest in
    let held = c.loop-month.invariant in
    let fits : rest < days_in year month = elim c.loop-month-test.branch [
      | then-loop-month-test+else-rest-days_of_month w ↦ let is = w.days_of_month.ensures in let test = w.if-rest-days_of_month.false in omega (arith, is, test)
      | else-loop-month-test w ↦ let test = w.loop-month-test.false in last_fits year month rest c.args.left (omega (arith, test)) held.high held.sum c.requires
    ] in
    day_in_month first year month rest c.args.left held.low held.high held.sum fits there
