use Rattle.std.proofs.Common.{◌≢◌, ◌<◌, ◌-◌, ◌∙◌, None, length, map, sym, ap, arith, rules}
use Rattle.sms_book.proofs.Moves.{get_set_else}
use Rattle.sms_worker.specs.declared.state.queue.Queue.{Queue}
use Rattle.sms_worker.specs.Queues.{Waiting}
use Rattle.sms_worker.specs.PendingState.{data_in, pending_at, link_of}
use Rattle.sms_worker.proofs.Naming.{pushed_heads, pushed_links}
use Rattle.sms_worker.proofs.Waiting.{data_appended, pushed_here, pushed_last, pushed_there}
use Rattle.sms_worker.proofs.state.queue.Queues.push.Goals as goal

abbrev none : Queue
none = record { first = None; last = None }

pub returns-clause-waits : goal.returns-clause-waits
returns-clause-waits c some few ws at kept out =
    let w : Waiting = record { place = c.args.place; due_ms = c.args.due_ms } in
    pushed_here c.args.pending.now.items c.link_behind.new.pending.items c.args.self.now.all (c.args.attempts - 1) none c.with.result w ws c.with.ensures c.link_behind.ensures.linked at kept out

pub returns-clause-apart : goal.returns-clause-apart
returns-clause-apart c k ws other at out away =
    let w : Waiting = record { place = c.args.place; due_ms = c.args.due_ms } in
    let low : c.args.attempts - 1 < length c.args.self.now.all = search rules in
    let apart : k ≢ c.args.attempts - 1 = λ e. other (omega (arith, c.if-attempts-lt1.false)) in
    pushed_there c.args.pending.now.items c.link_behind.new.pending.items c.args.self.now.all (c.args.attempts - 1) none c.with.result w k ws c.link_behind.ensures.linked low apart at out away

pub returns-clause-unchanged : goal.returns-clause-unchanged
returns-clause-unchanged c = ap (map data_in) c.link_behind.ensures.linked ∙ data_appended c.args.pending.now.items _ c.args.place c.args.due_ms

pub returns-clause-last : goal.returns-clause-last
returns-clause-last c some few =
    let w : Waiting = record { place = c.args.place; due_ms = c.args.due_ms } in
    let low : c.args.attempts - 1 < length c.args.self.now.all = search rules in
    pushed_last c.args.pending.now.items c.link_behind.new.pending.items c.args.self.now.all (c.args.attempts - 1) none c.with.result w c.with.ensures low

pub returns-clause-others : goal.returns-clause-others
returns-clause-others c k other = get_set_else c.args.self.now.all (c.args.attempts - 1) k c.with.result (λ e. other (omega (arith, c.if-attempts-lt1.false)))

pub returns-clause-heads : goal.returns-clause-heads
returns-clause-heads c k named is =
    let low : c.args.attempts - 1 < length c.args.self.now.all = search rules in
    pushed_heads c.args.self.now.all (c.args.attempts - 1) none c.with.result low k named c.args.place c.with.ensures is

pub returns-clause-links : goal.returns-clause-links
returns-clause-links c from named is = pushed_links c.args.pending.now.items _ c.args.place c.args.due_ms from named (ap (λ l. (link_of (pending_at l from)).next) (sym c.link_behind.ensures.linked) ∙ is)
