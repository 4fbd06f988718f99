use Rattle.std.proofs.Common.{append-nil, arith, sym, ◌∙◌}
use Rattle.sms_bind.specs.Wires.{writer, is_broken}
use Rattle.sms_driver.specs.Handed.{WireEnd}
use Rattle.sms_driver.proofs.Drawn.{joined_first, once_in}
use Rattle.sms_driver.proofs.Writing.{one_written}
use Rattle.sms_driver.proofs.ending.closing.close_one.Goals as goal

pub returns-clause-once : goal.returns-clause-once
returns-clause-once g c n = once_in n _ _ _ c.join_workers.ensures.joined.numbers (c.close.ensures.once n)

pub returns-clause-closed : goal.returns-clause-closed
returns-clause-closed g c = record { seat = _; joined = joined_first _ _ _ _ _ _ c.join.ensures.joined c.join_workers.ensures.joined; end = c.close.ensures.end }

pub returns-clause-log : goal.returns-clause-log
returns-clause-log g c =
    let some = c.requires.away in
    let back = c.take_wire.ensures.away in
    let wire = c.into_inner.result in
    let end : WireEnd = record { first = wire.first; last = g.W.Write.contents (writer wire.wire); broken = is_broken wire.wire; log = wire.log } in (
      record { away = omega arith; requests = c.take_wire.ensures.requests ∙ sym (append-nil c.args.log.now.requests) },
      one_written g.N.LogName.settings end c.args.log.now.given c.take_wire.new.self.given (record { behind = c.take_wire.ensures.behind; wrote = c.take_wire.ensures.wrote }) c.take_wire.ensures.given,
    )
