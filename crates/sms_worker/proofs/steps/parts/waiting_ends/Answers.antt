use Rattle.std.proofs.Common.{◌++◌, ◌∷◌, [], ap, ◌∙◌, rules}
use Rattle.sms_worker.specs.Begins.{fresh}
use Rattle.sms_worker.proofs.Beginnings.{ready_more}
use Rattle.sms_worker.proofs.steps.parts.waiting_ends.Goals as goal

pub loop-preserved : goal.loop-preserved
loop-preserved c = record {
  items = (search rules) ∙ ap (λ l. l ++ fresh c.args.cost ∷ []) c.loop.invariant.items ∙ ready_more c.args.cost c.loop.counter;
  made = search rules;
  room = search rules;
}
