use Rattle.std.proofs.Common.{inl, inr, subst, List, Some, String, Global}
use Rattle.std.proofs.lemmas.Result.{IfErr-weaker, IfOk-weaker}
use Rattle.sms_send.specs.Recovered.{FailsRest, PrintsLeft}
use Rattle.sms_send.proofs.ListedRefs.{asked_with, asked_without}
use Rattle.sms_send.proofs.jobs.recover_job.left_asked.Goals as goal

pub returns-then-not-refs-clause-printed : goal.returns-then-not-refs-clause-printed
returns-then-not-refs-clause-printed g c = IfOk-weaker c.left.result _ _ (λ status is. asked_without c.args.refs c.args.run _ _ c.if-not-refs.true is) c.left.ensures.printed

pub returns-then-not-refs-clause-refused : goal.returns-then-not-refs-clause-refused
returns-then-not-refs-clause-refused g c = IfErr-weaker c.left.result _ _ (λ fault is. inl (asked_without c.args.refs c.args.run _ _ c.if-not-refs.true is)) c.left.ensures.refused

pub returns-in-Ok-clause-printed : goal.returns-in-Ok-clause-printed
returns-in-Ok-clause-printed g c =
    let old = g.W.Write.contents c.args.output.now in
    let new = g.W.Write.contents c.left-in-Ok.new.output in
    IfOk-weaker c.left-in-Ok.result _ _
    (λ status is. asked_with c.args.refs c.args.run c.in-Ok.plain.files c.in-Ok.plain.refs.items _ _ c.if-not-refs.false c.in-Ok.ensures.taken
    (subst (λ (l : List (String Global)). PrintsLeft c.args.accounts (Some l) c.in-Ok.plain.files old new) c.as_slice.ensures.value is)) c.left-in-Ok.ensures.printed

pub returns-in-Ok-clause-refused : goal.returns-in-Ok-clause-refused
returns-in-Ok-clause-refused g c =
    let old = g.W.Write.contents c.args.output.now in
    let new = g.W.Write.contents c.left-in-Ok.new.output in
    IfErr-weaker c.left-in-Ok.result _ _
    (λ fault is. inl (asked_with c.args.refs c.args.run c.in-Ok.plain.files c.in-Ok.plain.refs.items _ _ c.if-not-refs.false c.in-Ok.ensures.taken
    (subst (λ (l : List (String Global)). FailsRest c.args.accounts (Some l) c.in-Ok.plain.files old new fault) c.as_slice.ensures.value is))) c.left-in-Ok.ensures.refused

pub returns-in-Err-clause-refused : goal.returns-in-Err-clause-refused
returns-in-Err-clause-refused g c = inr (c.if-not-refs.false, c.in-Err.ensures.refused)
