use Rattle.std.proofs.Common.{◌≡◌, ◌-◌}
use Rattle.std.specs.Prelude.{take, drop}
use Rattle.sms_driver.specs.Closings.{closing_of, with_all}
use Rattle.sms_driver.proofs.ending.causes.next_closing.Given as goal

abbrev pub invariant-loop-worker : goal.invariant-loop-worker
invariant-loop-worker l = record {
  closing : with_all l.closing (take (l.workers - l._worker) l.causes.items) ≡ closing_of (take l.workers l.initial.causes.items);
  left : drop (l.workers - l._worker) l.causes.items ≡ drop l.workers l.initial.causes.items;
}
