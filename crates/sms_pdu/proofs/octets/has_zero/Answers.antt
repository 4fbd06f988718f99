use Rattle.std.proofs.Common.{rules, tests, sym, ◌==◌, ◌∙◌}
use Rattle.std.proofs.lemmas.Iterator.Search.{any_from_yields_List}
use Rattle.std.proofs.lemmas.Iterator.{YieldsList-from_slice}
use Rattle.sms_pdu.proofs.octets.has_zero.Goals as goal

-- src/octets.rt:96:1
pub returns : goal.returns
returns c =
    any_from_yields_List (λ octet. octet == 0) _ _ c.any.result c.any.ensures.ran (YieldsList-from_slice c.loop-left.left.now cc) (λ x b q k. search (rules, tests))
    ∙ sym c.loop-left.invariant
