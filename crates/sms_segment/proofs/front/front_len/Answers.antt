use Rattle.std.proofs.Common.{sym, ◌∙◌, arith}
use Rattle.sms_segment.proofs.FrontLemmas.{front_at, front_before_limit}
use Rattle.sms_segment.proofs.front.front_len.Goals as goal

pub returns-then-parts_pair : goal.returns-then-parts_pair
returns-then-parts_pair c = front_before_limit c.args.coding c.args.limit c.args.units.now c.requires c.if-units-limit.false (sym c.parts_pair.ensures ∙ c.if-parts_pair.true)

pub returns-else-parts_pair : goal.returns-else-parts_pair
returns-else-parts_pair c = front_at c.args.coding c.args.limit c.args.units.now (omega arith) c.if-units-limit.false (sym c.parts_pair.ensures ∙ c.if-parts_pair.false)
