use Rattle.std.proofs.Common.{IsTrue, false, sym, subst, rules}
use Rattle.sms_message.specs.Addresses.{IsSource}
use Rattle.sms_message.proofs.admission.has_addresses.Goals as goal

never : IsTrue false → ⊥
never t = cc

pub returns-in_default : goal.returns-in_default
returns-in_default c = (
  λ t. absurd (never t),
  λ h.
      let ((source, is), rest) = h in
      absurd (c.source.ensures.bad (search rules) source (subst (λ l. IsSource l source) (sym c.as_str.ensures.value) is)),
)
