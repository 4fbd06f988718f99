use Rattle.std.proofs.Common.{inr}
use Rattle.std.proofs.lemmas.Result.{IfErr-weaker}
use Rattle.sms_send.proofs.Quoting.{on_ok_both, read_is_no_output}
use Rattle.sms_send.proofs.jobs.quote_job.quote_files.Goals as goal

pub returns-in-Ok-clause-quoted : goal.returns-in-Ok-clause-quoted
returns-in-Ok-clause-quoted g c =
    on_ok_both c.quote_input-quoted.result (λ printed warned. record { input = c.in-Ok.input; read = c.in-Ok.ensures.read; printed = printed; warned = warned })
    c.quote_input-quoted.ensures.printed c.quote_input-quoted.ensures.warned

pub returns-in-Ok-clause-refused : goal.returns-in-Ok-clause-refused
returns-in-Ok-clause-refused g c = IfErr-weaker c.quote_input-quoted.result _ _ (λ fault fails. inr (c.in-Ok.input, c.in-Ok.ensures.read, fails)) c.quote_input-quoted.ensures.refused

pub returns-in-Ok-clause-front : goal.returns-in-Ok-clause-front
returns-in-Ok-clause-front g c =
    IfErr-weaker c.quote_input-quoted.result _ _ (λ fault front out. record { input = c.in-Ok.input; read = c.in-Ok.ensures.read; front = front out }) c.quote_input-quoted.ensures.front

pub returns-in-Err-clause-front : goal.returns-in-Err-clause-front
returns-in-Err-clause-front g c = read_is_no_output _ c.in-Err.fault c.in-Err.ensures.refused
