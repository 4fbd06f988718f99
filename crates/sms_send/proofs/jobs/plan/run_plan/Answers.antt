use Rattle.std.specs.Io.KnownBytes.{Appends}
use Rattle.sms_files.specs.Output.{WritesFront}
use Rattle.sms_files.specs.Messages.{messages_fault}
use Rattle.sms_files.specs.declared.fault.Source.TheVariants.{Messages}
use Rattle.sms_files.specs.PlanText.{kind_of}
use Rattle.sms_send.proofs.Telling.{told-read, told-writing, told_so, where-output}
use Rattle.sms_send.proofs.Plans.{of-plan}
use Rattle.sms_send.proofs.jobs.plan.run_plan.Goals as goal

pub returns-clause-written : goal.returns-clause-written
returns-clause-written g c =
    of-plan (Appends (g.W.Write.contents c.args.output.now) (g.W.Write.contents c.write_out.new.output)) (kind_of c.args.long) (g.R.Read.remaining c.args.input) _ _ c.in_ok-plan.ensures.text c.as_bytes.ensures.value c.in_ok-write_out.ensures.written

pub returns-in_err-write_out-clause-front : goal.returns-in_err-write_out-clause-front
returns-in_err-write_out-clause-front g c =
    where-output c.from_residual-in_err-write_out.result _
    (of-plan (WritesFront (g.W.Write.contents c.args.output.now) (g.W.Write.contents c.write_out.new.output)) (kind_of c.args.long) (g.R.Read.remaining c.args.input) _ _ c.in_ok-plan.ensures.text c.as_bytes.ensures.value c.write_out.ensures.front)

pub returns-in_err-plan-clause-faulty : goal.returns-in_err-plan-clause-faulty
returns-in_err-plan-clause-faulty g c =
    told_so c.from_residual.result _ _ c.from_residual.ensures.1 (told-read Messages (g.R.Read.remaining c.args.input) messages_fault _ c.in_err-plan.ensures.faulty)

pub returns-in_err-write_out-clause-faulty : goal.returns-in_err-write_out-clause-faulty
returns-in_err-write_out-clause-faulty g c =
    told_so c.from_residual-in_err-write_out.result _ _ c.from_residual-in_err-write_out.ensures.1
    (told-writing Messages (g.R.Read.remaining c.args.input) messages_fault _ c.in_ok-plan.ensures.good c.in_err-write_out.ensures.failed)
