use Rattle.std.proofs.Common.{◌≡◌, ◌≤◌, take, drop, length, count_by, vec_len, vec_capacity}
use Rattle.sms_core.specs.Histories.{Runs}
use Rattle.sms_core.specs.Tables.{state_of, IsSound, takes_memory}
use Rattle.sms_core.proofs.tables.Tables.run.Given as goal

abbrev pub invariant-loop-event : goal.invariant-loop-event
invariant-loop-event l =
    record {
      runs : Runs (state_of l.fn.self) (take l.event-index l.events) l.answers.items (state_of l.self);
      sound : IsSound l.self;
      len : vec_len l.answers ≡ l.event-index;
      answers_fit : length l.events ≤ vec_capacity l.answers;
      requests_fit : count_by takes_memory (drop l.event-index l.events) ≤ l.self.ledger.room;
    }
