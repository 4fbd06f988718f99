use Rattle.std.proofs.Common.{◌≡◌, ◌++◌, ◌-◌, List, map, replicate}
use Rattle.std.specs.Prelude.{take, drop}
use Rattle.atomic_table.specs.Seated.{TableId}
use Rattle.sms_window.specs.declared.view.View.{View}
use Rattle.sms_driver.specs.Joined.{HasJoined}
use Rattle.sms_driver.proofs.ending.closing.join_workers.Given as goal

abbrev pub invariant-loop-worker : goal.invariant-loop-worker
invariant-loop-worker l = record {
  own : l.keeper.window ≡ l.initial.keeper.window;
  joined : (v : View) → HasJoined l.keeper.view (take (l.workers - l._worker) (map (λ s. s.view) l.seats.items)) v → HasJoined l.initial.keeper.view (take l.workers (map (λ s. s.view) l.initial.seats.items)) v;
  left : drop (l.workers - l._worker) (map (λ s. s.view) l.seats.items) ≡ drop l.workers (map (λ s. s.view) l.initial.seats.items);
  rest : (rest : List TableId) → map (λ s. s.window) l.initial.seats.items ≡ replicate l.workers l.window ++ rest → map (λ s. s.window) l.seats.items ≡ replicate (l.workers - l._worker) l.window ++ rest;
}
