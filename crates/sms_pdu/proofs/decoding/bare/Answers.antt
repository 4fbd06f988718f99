use Rattle.std.proofs.Common.{Result, Ok, sym, ap, ◌∙◌}
use Rattle.sms_pdu.specs.declared.error.PduError.{PduError}
use Rattle.sms_pdu.specs.Reading.{◌>>=◌}
use Rattle.sms_pdu.proofs.decoding.bare.Goals as goal

pub returns-in-Ok : goal.returns-in-Ok
returns-in-Ok c = ap (λ (told : Result (Unit {0}) PduError). told >>= λ done. Ok c.args.body) (sym c.in-Ok.is ∙ c.end.ensures)

pub returns-in-Err : goal.returns-in-Err
returns-in-Err c = ap (λ (told : Result (Unit {0}) PduError). told >>= λ done. Ok c.args.body) (sym c.in-Err.is ∙ c.end.ensures)
