use Rattle.std.proofs.Common.{◌≡◌, ◌+◌, ◌≤◌, ◌∙◌, [], rules, arith}
use Rattle.sms_driver.proofs.Returning.{more_hold}
use Rattle.sms_driver.proofs.run.all_requests.Goals as goal

pub thread-requires : goal.thread-requires
thread-requires g c =
    let few = c.requires.few in
    let away = c.loop-thread.invariant.log.away in
    let low : c.loop-thread._thread + 1 ≤ c.args.count = search rules in
    record { few = omega arith }

pub loop-thread-preserved : goal.loop-thread-preserved
loop-thread-preserved g c =
    let i = c.loop-thread.invariant in
    record {
      within = search rules;
      log = record { away = (let was = i.log.away in let more = c.thread.ensures.away in omega arith); given = c.thread.ensures.same.0 ∙ i.log.given; requests = c.thread.ensures.same.1 ∙ i.log.requests };
      long = search rules;
      none = more_hold (λ r. r ≡ []) c.loop-thread.requests.items _ _ c.push_reserved.ensures.items i.none c.thread.ensures.none;
      room = search rules;
    }

pub returns-clause-log : goal.returns-clause-log
returns-clause-log g c =
    let i = c.loop-thread.invariant in
    let all : c.args.count ≤ c.loop-thread._thread = search rules in
    let within = i.within in
    record { away = (let was = i.log.away in omega arith); given = i.log.given; requests = i.log.requests }

pub returns-clause-length : goal.returns-clause-length
returns-clause-length g c =
    let i = c.loop-thread.invariant in
    let all : c.args.count ≤ c.loop-thread._thread = search rules in
    let within = i.within in
    let long = i.long in
    omega arith
