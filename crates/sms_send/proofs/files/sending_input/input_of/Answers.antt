use Rattle.std.proofs.Common.{inl, inr}
use Rattle.sms_send.proofs.files.sending_input.input_of.Goals as goal

pub returns-in-Err-check_open-clause-refused : goal.returns-in-Err-check_open-clause-refused
returns-in-Err-check_open-clause-refused c =
    inr (c.if-not-strict.false, (c.in-Ok.input, c.in-Ok.ensures.read, c.in-Err-check_open.ensures.refused))

pub returns-in-Err-clause-refused : goal.returns-in-Err-clause-refused
returns-in-Err-clause-refused c = inl c.in-Err.ensures.refused
