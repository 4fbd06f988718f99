-- Settings that are taken can be encoded.
use Rattle.std.proofs.Common.{◌≡◌, ℕ, Ok, arith}
use Rattle.sms_pdu.specs.Grammar.{IsLawful, spelling_of}
use Rattle.sms_pdu.specs.Size.{size_of}
use Rattle.sms_pdu.proofs.Writings.{encoded}
use Rattle.sms_session.specs.Settings.{Setting, bind_pdu}

-- a bind that has a length has a spelling
pub bind_lawful : (s : Setting) (n : ℕ) → size_of (bind_pdu s 0) ≡ Ok n → IsLawful (bind_pdu s 0)
bind_lawful s n e = (spelling_of n (bind_pdu s 0), encoded (bind_pdu s 0) n e tt (omega arith) (omega arith))
