use Rattle.std.proofs.Common.{arith, rules}
use Rattle.sms_journal.proofs.AccountRows.{all_opened, none_opened, one_opened}
use Rattle.sms_journal.proofs.rest.account_rows.rows_of.Goals as goal

pub loop-opening-init : goal.loop-opening-init
loop-opening-init c = none_opened c.args.openings.now c.new-rows.result.items (search rules)

pub loop-opening-preserved : goal.loop-opening-preserved
loop-opening-preserved c =
    one_opened c.args.openings.now c.loop-opening.rows.items c.push.new.list.items c.loop-opening.opening-index c.opening-item.result c.opened.result (omega arith) c.opening-item.is (search rules) (search rules)
    c.loop-opening.invariant

pub returns : goal.returns
returns c = all_opened c.args.openings.now c.loop-opening.rows.items c.loop-opening.opening-index (omega arith) c.loop-opening.invariant
