use Rattle.std.proofs.Common.{◌≡◌, subst, ℕ, List}
use Rattle.std.proofs.lemmas.Result.{IfOk-weaker}
use Rattle.sms_inbox.specs.Lines.{IsWholeLength}
use Rattle.sms_send.specs.Opened.{OfFile}
use Rattle.sms_send.proofs.InboxFiles.{unread_early, unread_file}
use Rattle.sms_send.proofs.Sendings.{beside}
use Rattle.sms_send.proofs.files.inbox_file.whole_at.Goals as goal

pub returns-in-Ok-octets_of-clause-whole : goal.returns-in-Ok-octets_of-clause-whole
returns-in-Ok-octets_of-clause-whole g c =
    let finds = g.R.InputFiles.finds c.args.rt.now in
    let are = subst (λ (n : List ℕ). OfFile finds n (λ bytes. c.in-Ok-octets_of.octets.items ≡ bytes)) c.in-Ok.ensures.ok c.in-Ok-octets_of.ensures.octets in
    IfOk-weaker c.whole_of.result _ _
    (λ whole is. beside finds c.args.name.now c.in-Ok-octets_of.octets.items c.as_slice.result.now (λ o. IsWholeLength o whole) are c.as_slice.ensures.value is) c.whole_of.ensures.whole

pub returns-in-Err-octets_of-clause-refused : goal.returns-in-Err-octets_of-clause-refused
returns-in-Err-octets_of-clause-refused g c = unread_file (g.R.InputFiles.finds c.args.rt.now) c.in-Ok.text c.in-Err-octets_of.fault c.in-Err-octets_of.ensures.refused

pub returns-in-Err-octets_of-clause-early : goal.returns-in-Err-octets_of-clause-early
returns-in-Err-octets_of-clause-early g c = unread_early (g.R.InputFiles.finds c.args.rt.now) c.in-Ok.text c.in-Err-octets_of.fault c.in-Err-octets_of.ensures.refused
