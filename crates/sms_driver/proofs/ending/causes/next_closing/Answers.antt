use Rattle.std.proofs.Common.{rules, ◌≡◌, ◌+◌, ◌-◌, ◌<◌, ◌∙◌, length, ap, sym}
use Rattle.std.specs.Prelude.{take}
use Rattle.sms_driver.specs.Closings.{with_all}
use Rattle.sms_driver.specs.declared.bind_end.BindClosing.{BindClosing}
use Rattle.sms_driver.proofs.Closings.{next_cause, no_cause}
use Rattle.sms_driver.proofs.ending.causes.next_closing.Goals.{in-Some, in-None}
use Rattle.sms_driver.proofs.ending.causes.next_closing.Goals as goal

pub loop-worker-preserved : goal.loop-worker-preserved
loop-worker-preserved c =
    let i = c.loop-worker.invariant in
    let n = c.args.workers in
    let place = c.loop-worker._worker in
    let low : place < n = search rules in
    elim c.match-pop_front.branch [
      | in-Some w ↦
          (let e = next_cause n place c.loop-worker.causes.items c.pop_front.new.self.items w.in-Some.cause low w.in-Some.ensures.items in
          record {
            closing = ap (λ (x : BindClosing). with_all x (take (n - (place + 1)) c.pop_front.new.self.items)) (w.closing-is ∙ w.with_cause-closing.ensures) ∙ ap (with_all c.loop-worker.closing) (sym e.0) ∙ i.closing;
            left = sym e.1 ∙ i.left;
          })
      | in-None w ↦
          (let k = rw w.in-None.is at c.pop_front.ensures.cases in
          let none : length c.loop-worker.causes.items ≡ 0 = grind rules in
          let same : c.loop-worker.causes.items ≡ c.pop_front.new.self.items = rw w.in-None.is at c.pop_front.ensures.items in
          let e = no_cause (n - place) (n - (place + 1)) c.loop-worker.causes.items c.pop_front.new.self.items none same in
          record {
            closing = ap (λ (x : BindClosing). with_all x (take (n - (place + 1)) c.pop_front.new.self.items)) w.closing-is ∙ ap (with_all c.loop-worker.closing) (sym e.0) ∙ i.closing;
            left = sym e.1 ∙ i.left;
          })
    ]
