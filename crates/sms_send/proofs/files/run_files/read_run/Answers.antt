use Rattle.std.proofs.Common.{inl}
use Rattle.std.proofs.lemmas.Result.{IfErr-weaker, IfOk-weaker}
use Rattle.std.specs.Prelude.{string_bytes}
use Rattle.sms_send.proofs.Runs.{fails_by, run_by}
use Rattle.sms_send.proofs.Telling.{told_so}
use Rattle.sms_send.proofs.files.run_files.read_run.Goals as goal

pub returns-in_err-read-clause-refused : goal.returns-in_err-read-clause-refused
returns-in_err-read-clause-refused g c = told_so c.from_residual.result _ _ c.from_residual.ensures.1 (inl c.in_err-read.ensures.refused)

pub returns-clause-read : goal.returns-clause-read
returns-clause-read g c =
    IfOk-weaker c.read_by.result _ _ (λ run is. run_by (g.R.InputFiles.finds c.args.rt.now) (string_bytes c.args.config) (string_bytes c.args.written) c.in_ok-read.read run c.in_ok-read.ensures.read is) c.read_by.ensures.read

pub returns-clause-refused : goal.returns-clause-refused
returns-clause-refused g c =
    IfErr-weaker c.read_by.result _ _ (λ fault fails. fails_by (g.R.InputFiles.finds c.args.rt.now) c.args.config c.args.written c.in_ok-read.read fault c.in_ok-read.ensures.read fails) c.read_by.ensures.refused
