use Rattle.std.proofs.Common.{◌∙◌, inr, subst}
use Rattle.std.specs.Prelude.{string_bytes}
use Rattle.std.specs.Io.KnownBytes.{Appends}
use Rattle.std.proofs.lemmas.Result.{IfErr-weaker, on_ok_weaker}
use Rattle.sms_files.specs.Output.{WritesFront}
use Rattle.sms_send.proofs.Quoting.{printed, printed_front}
use Rattle.sms_send.proofs.jobs.quote_job.quote_input.Goals as goal

pub returns-in-Ok-clause-printed : goal.returns-in-Ok-clause-printed
returns-in-Ok-clause-printed g c =
    on_ok_weaker c.write_both.result (printed c.args.input.now (string_bytes c.in-Ok.quote) c.as_bytes.result.now _ _ c.in-Ok.ensures.quote c.as_bytes.ensures.value) c.write_both.ensures.written

pub returns-in-Ok-clause-warned : goal.returns-in-Ok-clause-warned
returns-in-Ok-clause-warned g c =
    on_ok_weaker c.write_both.result (subst (Appends (g.E.Write.contents c.args.error.now) (g.E.Write.contents c.write_both.new.error)) (c.as_bytes-in-Ok.ensures.value ∙ c.in-Ok.ensures.warnings)) c.write_both.ensures.warned

pub returns-in-Ok-clause-refused : goal.returns-in-Ok-clause-refused
returns-in-Ok-clause-refused g c =
    IfErr-weaker c.write_both.result _ _
    (λ fault failed. inr (failed, printed_front c.args.input.now (string_bytes c.in-Ok.quote) c.as_bytes.result.now _ _ c.in-Ok.ensures.quote c.as_bytes.ensures.value c.write_both.ensures.front))
    c.write_both.ensures.failed

pub returns-in-Ok-clause-front : goal.returns-in-Ok-clause-front
returns-in-Ok-clause-front g c =
    IfErr-weaker c.write_both.result _ _
    (λ fault failed out. subst (WritesFront (g.E.Write.contents c.args.error.now) (g.E.Write.contents c.write_both.new.error)) (c.as_bytes-in-Ok.ensures.value ∙ c.in-Ok.ensures.warnings) c.write_both.ensures.error_front)
    c.write_both.ensures.failed

pub returns-in-Ok-clause-unwritten : goal.returns-in-Ok-clause-unwritten
returns-in-Ok-clause-unwritten g c = IfErr-weaker c.write_both.result _ _ (λ fault failed not. absurd (not failed)) c.write_both.ensures.failed
