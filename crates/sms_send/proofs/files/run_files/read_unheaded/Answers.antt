use Rattle.std.proofs.Common.{inl, inr}
use Rattle.sms_send.proofs.Telling.{told_so}
use Rattle.sms_send.proofs.files.run_files.read_unheaded.Goals as goal

pub returns-in_err-opened-clause-refused : goal.returns-in_err-opened-clause-refused
returns-in_err-opened-clause-refused g c = told_so c.from_residual.result _ _ c.from_residual.ensures.1 (inr (inl (inl c.in_err-opened.ensures.refused)))

pub returns-in_err-named-clause-refused : goal.returns-in_err-named-clause-refused
returns-in_err-named-clause-refused g c =
    told_so c.from_residual-in_err-named.result _ _ c.from_residual-in_err-named.ensures.1 (inr (inl (inr (_, _, _, c.in_ok-opened.ensures.found, c.in_err-named.ensures.refused))))
