use Rattle.std.proofs.Common.{refl}
use Rattle.std.proofs.lemmas.Result.{IfErr-weaker, IfOk-weaker}
use Rattle.sms_send.proofs.Runs.{unopened_one, unread_one}
use Rattle.sms_send.proofs.files.headed.octets_in.Goals as goal

pub returns-in-Ok-clause-octets : goal.returns-in-Ok-clause-octets
returns-in-Ok-clause-octets g c = IfOk-weaker c.whole_of.result _ _ (λ octets are. (_, c.in-Ok.ensures.found, are)) c.whole_of.ensures.octets

pub returns-in-Ok-clause-refused : goal.returns-in-Ok-clause-refused
returns-in-Ok-clause-refused g c = IfErr-weaker c.whole_of.result _ _ (λ fault fails. unread_one (g.R.InputFiles.finds c.args.rt.now) c.args.name.now c.args.source _ fault c.in-Ok.ensures.found fails) c.whole_of.ensures.refused

pub returns-in-Err-clause-refused : goal.returns-in-Err-clause-refused
returns-in-Err-clause-refused g c = unopened_one (g.R.InputFiles.finds c.args.rt.now) c.args.name.now c.args.source _ c.unopened.result (c.in-Err.ensures.lost refl) c.unopened.ensures
