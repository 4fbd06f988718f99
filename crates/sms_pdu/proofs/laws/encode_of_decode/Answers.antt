use Rattle.std.proofs.Common.{sym, ◌∙◌}
use Rattle.sms_pdu.proofs.Told.{only_memory, no_value, same_fault, fault_is}
use Rattle.sms_pdu.proofs.laws.encode_of_decode.Goals as goal

pub returns-in_err-pdu-clause-unchanged : goal.returns-in_err-pdu-clause-unchanged
returns-in_err-pdu-clause-unchanged c = no_value _ _ c.from_residual.result c.from_residual.ensures.1

pub returns-in_err-pdu-clause-memory : goal.returns-in_err-pdu-clause-memory
returns-in_err-pdu-clause-memory c = λ p spelled. same_fault c.from_residual.result _ _ c.from_residual.ensures.1 (c.in_err-pdu.ensures.only p spelled).0

pub returns-in_err-pdu-clause-refused : goal.returns-in_err-pdu-clause-refused
returns-in_err-pdu-clause-refused c = λ e told. fault_is c.from_residual.result _ e c.from_residual.ensures.1 (rw told at c.in_err-pdu.ensures.exact)

pub returns-clause-memory : goal.returns-clause-memory
returns-clause-memory c = λ p spelled. only_memory (λ v. v.items) c.encode-again.result c.args.octets.now (c.encode-again.ensures.only c.args.octets.now c.in_ok-pdu.ensures.found)

pub returns-clause-refused : goal.returns-clause-refused
returns-clause-refused c = λ e told. let never = sym c.in_ok-pdu.ensures.exact ∙ told in absurd cc
