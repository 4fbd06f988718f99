use Rattle.std.proofs.Common.{◌∙◌, List, ℕ, OnOk, subst}
use Rattle.std.specs.Io.KnownBytes.{Appends}
use Rattle.sms_send.proofs.jobs.delivered_job.print_parts.Goals as goal

pub returns-in-Ok-clause-printed : goal.returns-in-Ok-clause-printed
returns-in-Ok-clause-printed g c =
    subst (λ (text : List ℕ). OnOk c.print.result (Appends (g.W.Write.contents c.args.output.now) (g.W.Write.contents c.print.new.output) text)) (c.as_str.ensures.value ∙ c.in-Ok.ensures) c.print.ensures.printed
