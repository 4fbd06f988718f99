use Rattle.std.proofs.Common.{inl, inr}
use Rattle.sms_alphabet.proofs.Texts.{units_on, units_on_pending, units_all}
use Rattle.sms_alphabet.proofs.spelling.ucs2.Goals as goal

pub loop-unit-preserved : goal.loop-unit-preserved
loop-unit-preserved c =
    rw c.in_ok-push.ensures.items (elim c.in-Some.ensures.steps [
      | inl (pending, spent, left) ↦ units_on_pending _ _ _ _ _ _ c.in-Some.unit c.loop-unit.invariant pending spent left
      | inr (none, (char, left, spelled)) ↦ units_on _ _ _ _ _ _ c.in-Some.unit char c.loop-unit.invariant none left spelled
    ])

pub returns : goal.returns
returns c = units_all _ _ _ _ c.loop-unit.invariant c.in-None.ensures.steps.0 c.in-None.ensures.steps.1
