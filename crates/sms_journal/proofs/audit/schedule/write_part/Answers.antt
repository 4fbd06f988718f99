use Rattle.std.proofs.Common.{◌≡◌, rules}
use Rattle.std.proofs.lemmas.Result.{on_ok_weaker}
use Rattle.sms_journal.proofs.LineLoops.{part_written}
use Rattle.sms_journal.proofs.audit.schedule.write_part.Goals as goal

pub returns : goal.returns
returns c =
    let paid : c.from.result ≡ c.args.part.now.cost = search rules in
    on_ok_weaker c.write_end.result
    (part_written c.args.lines.now c.write_reserve.new.lines c.write_attempts.new.lines c.write_end.new.lines c.args.most c.args.name c.from.result c.args.part.now c.as_slice-attempts.result.now c.is_given_up-given_up.result
    c.as_slice-attempts.ensures c.is_given_up-given_up.ensures paid c.in_ok-write_reserve.ensures c.in_ok-write_attempts.ensures)
    c.write_end.ensures
