use Rattle.std.proofs.Common.{codes, ◌++◌, ◌∙◌, ap, inr, refl, subst}
use Rattle.sms_send.proofs.jobs.stop_job.stop_job.Goals as goal

pub returns-clause-refused : goal.returns-clause-refused
returns-clause-refused g c =
    let named = c.in-Ok.ensures ∙ ap (λ name. name ++ codes ".stop") c.as_str-2.ensures.value in
    let refused = subst (g.R.JournalFiles.refuses c.args.rt.now) c.as_str-4.ensures.value (c.in-Err-stop_run.ensures.refused refl) in
    inr (inr (c.in-Ok.sign, c.in-Err-stop_run.kind, named, refl, refused))
