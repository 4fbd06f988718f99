use Rattle.std.proofs.Common.{◌≡◌, take, count_by}
use Rattle.sms_core.specs.Tables.{takes_memory}
use Rattle.sms_core.proofs.world.reserves_in.Given as goal

abbrev pub invariant-loop-event : goal.invariant-loop-event
invariant-loop-event l = l.count ≡ count_by takes_memory (take l.event-index l.events)
