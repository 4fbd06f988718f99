use Rattle.std.proofs.Common.{◌∙◌, ap, map, refl}
use Rattle.sms_core.specs.declared.row.Row.{Row}
use Rattle.sms_core.proofs.Sums.{topped_none}
use Rattle.sms_core.proofs.ledger.Ledger.new.Goals as goal

pub returns : goal.returns
returns c = (refl, ap (map (λ (x : Row). x.topped)) (c.in_ok-vec.ensures.items_if_clones_equal (λ y h. h)) ∙ topped_none c.args.accounts, c.in_ok-new.ensures)
