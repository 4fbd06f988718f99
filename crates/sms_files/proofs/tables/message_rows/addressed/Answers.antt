use Rattle.std.proofs.Common.{rules, map-id}
use Rattle.std.proofs.lemmas.Iterator.Adapters.{YieldsList-from_vec}
use Rattle.std.proofs.lemmas.Iterator.Consumers.{YieldsList-end}
use Rattle.sms_book.specs.Openings.{names_of}
use Rattle.sms_files.proofs.Addressing.{one-more-said}
use Rattle.sms_files.proofs.tables.message_rows.addressed.Goals as goal

pub loop-row-preserved : goal.loop-row-preserved
loop-row-preserved c =
    one-more-said (names_of c.args.openings.now) _ c.loop-row.yielded c.loop-row.messages.items c.push.new.list.items c.in-Some.row c.message_from.result
    c.loop-row.invariant c.message_from.ensures (search rules) c.in_ok-push.ensures.items

pub returns : goal.returns
returns c =
    let end = YieldsList-end (YieldsList-from_vec {s = c.into_iter-row-iterator.result} c.args.rows.items (search rules) (search rules))
    c.loop-row.yielded c.loop-row.row-iterator c.loop-row.yielded_by c.next.result c.next.new.self c.in-None.is c.next.ensures.steps in
    rw (← end.0, map-id) c.loop-row.invariant
