use Rattle.std.specs.Prelude.{take}
use Rattle.std.specs.List.{AllZip}
use Rattle.sms_journal.specs.Plans.{IsPlan}
use Rattle.sms_journal.proofs.rest.plan.plans_of.Given as goal

abbrev pub invariant-loop-message : goal.invariant-loop-message
invariant-loop-message l = AllZip (IsPlan l.fn.long l.tariff l.fn.accounts) (take l.message-index l.messages) l.plans.items
