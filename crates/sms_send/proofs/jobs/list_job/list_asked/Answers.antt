use Rattle.std.proofs.Common.{refl}
use Rattle.std.proofs.lemmas.Result.{IfErr-weaker, IfOk-weaker}
use Rattle.sms_send.proofs.ListedRefs.{fails_referred, fails_refs, fails_usual, referred, usual}
use Rattle.sms_send.proofs.jobs.list_job.list_asked.Goals as goal

pub returns-then-not-refs-clause-listed : goal.returns-then-not-refs-clause-listed
returns-then-not-refs-clause-listed g c = IfOk-weaker c.listed.result _ _ (λ status is. usual c.args.listing c.args.refs c.args.run _ _ c.if-not-refs.true is) c.listed.ensures.listed

pub returns-then-not-refs-clause-refused : goal.returns-then-not-refs-clause-refused
returns-then-not-refs-clause-refused g c = IfErr-weaker c.listed.result _ _ (λ fault is. fails_usual c.args.listing c.args.refs c.args.run _ _ fault c.if-not-refs.true is) c.listed.ensures.refused

pub returns-in-Ok-clause-listed : goal.returns-in-Ok-clause-listed
returns-in-Ok-clause-listed g c =
    IfOk-weaker c.listed-in-Ok.result _ _
    (λ status is. referred c.args.listing c.args.refs c.args.run _ _ c.in-Ok.plain.files c.in-Ok.plain.refs.items _ c.if-not-refs.false c.in-Ok.ensures.taken (refl, c.as_slice.ensures.value) is) c.listed-in-Ok.ensures.listed

pub returns-in-Ok-clause-refused : goal.returns-in-Ok-clause-refused
returns-in-Ok-clause-refused g c =
    IfErr-weaker c.listed-in-Ok.result _ _
    (λ fault is. fails_referred c.args.listing c.args.refs c.args.run _ _ c.in-Ok.plain.files c.in-Ok.plain.refs.items _ fault c.if-not-refs.false c.in-Ok.ensures.taken (refl, c.as_slice.ensures.value) is) c.listed-in-Ok.ensures.refused

pub returns-in-Err-clause-refused : goal.returns-in-Err-clause-refused
returns-in-Err-clause-refused g c = fails_refs c.args.listing c.args.refs c.args.run _ _ c.in-Err.fault c.if-not-refs.false c.in-Err.ensures.refused
