use Rattle.std.proofs.Common.{inl, inr}
use Rattle.sms_files.proofs.Inputs.{input_of, is_fault}
use Rattle.sms_files.proofs.input.read_input.Goals as goal

pub returns-in-Ok-clause-read : goal.returns-in-Ok-clause-read
returns-in-Ok-clause-read g c = input_of c.args.config.now c.in-Ok.config _ _ _ c.read_files.result c.in-Ok.ensures.config c.read_files.ensures.config c.read_files.ensures.read

pub returns-in-Ok-clause-refused : goal.returns-in-Ok-clause-refused
returns-in-Ok-clause-refused g c = is_fault c.args.config.now c.in-Ok.config _ _ _ c.read_files.result c.in-Ok.ensures.config c.read_files.ensures.refused

pub returns-in-Err-clause-refused : goal.returns-in-Err-clause-refused
returns-in-Err-clause-refused g c = inl c.in-Err.ensures.refused
