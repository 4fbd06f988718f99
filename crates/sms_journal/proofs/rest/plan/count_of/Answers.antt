use Rattle.std.proofs.Common.{◌≡◌, arith, length, rules}
use Rattle.sms_message.specs.Submits.{coded_text, parts_for, reference_for}
use Rattle.sms_journal.proofs.Plans.{counted, uncountable}
use Rattle.sms_journal.proofs.rest.plan.count_of.Goals as goal

pub returns-in-Some : goal.returns-in-Some
returns-in-Some c =
    let count : c.in-Some.count ≡ length (parts_for c.args.long c.args.message.now) = search rules in
    counted c.in-Some.count (length (parts_for c.args.long c.args.message.now)) (omega arith) count

pub returns-in-None : goal.returns-in-None
returns-in-None c =
    let long = c.args.long in
    let m = c.args.message.now in
    uncountable (length (parts_for long m)) ((c.the_parts_tell_what_is_too_long.ensures (coded_text m) (reference_for long m)).0 (c.in_ok-count.ensures.none.0 (search rules)))
