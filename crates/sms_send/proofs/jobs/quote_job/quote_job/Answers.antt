use Rattle.std.specs.Prelude.{string_bytes}
use Rattle.std.proofs.lemmas.Result.{IfErr-weaker, on_ok_weaker}
use Rattle.sms_send.specs.PlainFiles.{sees}
use Rattle.sms_send.proofs.Quoting.{front_asked, job_quotes, quotes_asked}
use Rattle.sms_send.proofs.jobs.quote_job.quote_job.Goals as goal

pub returns-clause-status : goal.returns-clause-status
returns-clause-status g c = c.quote_config.ensures.status

pub returns-clause-quoted : goal.returns-clause-quoted
returns-clause-quoted g c =
    on_ok_weaker c.quote_config.result
    (job_quotes (sees c.args.refs (g.R.InputFiles.finds c.args.rt.now)) (g.R.FullNames.is_full c.args.rt.now) c.is_at_length-at_length.result (string_bytes c.args.config) _ _ _ _) c.quote_config.ensures.quoted

pub returns-clause-beside : goal.returns-clause-beside
returns-clause-beside g c =
    on_ok_weaker c.quote_config.result
    (quotes_asked (sees c.args.refs (g.R.InputFiles.finds c.args.rt.now)) (g.R.FullNames.is_full c.args.rt.now) (g.R.Screen.details c.args.rt.now) c.args.config c.args.verbose c.has_details.result c.is_at_length-at_length.result _ _ _ _
    c.has_details.ensures c.is_at_length-at_length.ensures)
    c.quote_config.ensures.quoted

pub returns-clause-front : goal.returns-clause-front
returns-clause-front g c =
    IfErr-weaker c.quote_config.result _ _
    (λ fault front failed. front_asked (sees c.args.refs (g.R.InputFiles.finds c.args.rt.now)) (g.R.FullNames.is_full c.args.rt.now) (g.R.Screen.details c.args.rt.now) c.args.config c.args.verbose c.has_details.result c.is_at_length-at_length.result _ _
    c.has_details.ensures c.is_at_length-at_length.ensures (front failed))
    c.quote_config.ensures.front

pub returns-clause-refused : goal.returns-clause-refused
returns-clause-refused g c = c.quote_config.ensures.refused

pub returns-clause-unwritten : goal.returns-clause-unwritten
returns-clause-unwritten g c = c.quote_config.ensures.unwritten
