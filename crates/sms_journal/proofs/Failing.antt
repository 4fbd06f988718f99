-- What holds where the output failed, whatever the fault.
use Rattle.std.proofs.Common.{◌≡◌, Result, Ok, Err, IfErr}
use Rattle.sms_files.specs.declared.report.fault.OutputFault.{OutputFault}
use Rattle.sms_files.specs.Output.{output_failed}

pub where-output : {T : Type 0} (r : Result T OutputFault) (P : Type 0) → P → IfErr r (λ fault. fault ≡ output_failed → P)
where-output (Ok x) P p = tt
where-output (Err f) P p = λ _. p
