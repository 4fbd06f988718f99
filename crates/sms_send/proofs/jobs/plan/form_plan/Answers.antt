use Rattle.std.proofs.Common.{ap₂, ◌∙◌, rules}
use Rattle.sms_files.specs.PlanText.{kind_of, message_plan}
use Rattle.sms_files.specs.Messages.{messages_fault}
use Rattle.sms_files.specs.declared.fault.Source.TheVariants.{Messages}
use Rattle.sms_send.proofs.Telling.{no-memory, refused, told-first, told_so}
use Rattle.sms_send.proofs.Plans.{no-fault, one-record-each, plan-is-written}
use Rattle.sms_send.proofs.jobs.plan.form_plan.Goals as goal

pub returns-clause-good : goal.returns-clause-good
returns-clause-good g c = no-fault (g.R.Read.remaining c.args.input) c.in_ok-texts.texts.items c.in_ok-texts.ensures.texts

pub returns-clause-text : goal.returns-clause-text
returns-clause-text g c =
    plan-is-written (kind_of c.args.long) (g.R.Read.remaining c.args.input) c.in_ok-texts.texts.items _ c.in_ok-texts.ensures.texts
    (c.in_ok-text.ensures ∙ ap₂ message_plan c.reference_of.ensures c.deref.ensures.value)

pub returns-clause-records : goal.returns-clause-records
returns-clause-records g c = one-record-each (g.R.Read.remaining c.args.input) c.in_ok-texts.texts.items _ (search rules) c.in_ok-texts.ensures.texts

pub returns-in_err-texts-clause-faulty : goal.returns-in_err-texts-clause-faulty
returns-in_err-texts-clause-faulty g c =
    told_so c.from_residual.result _ _ c.from_residual.ensures.1 (told-first Messages (g.R.Read.remaining c.args.input) messages_fault _ c.in_err-texts.ensures.faulty)

pub returns-in_err-text-clause-faulty : goal.returns-in_err-text-clause-faulty
returns-in_err-text-clause-faulty g c =
    refused c.from_residual-in_err-text.result _ c.from_residual-in_err-text.ensures.1 (no-memory Messages (g.R.Read.remaining c.args.input) messages_fault)
