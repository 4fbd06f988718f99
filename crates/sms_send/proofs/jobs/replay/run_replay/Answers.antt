use Rattle.std.specs.Prelude.{string_bytes}
use Rattle.std.specs.Io.KnownBytes.{Appends}
use Rattle.sms_files.specs.Output.{WritesFront}
use Rattle.sms_files.specs.Schedule.{schedule_fault}
use Rattle.sms_files.specs.declared.fault.Source.TheVariants.{Schedule}
use Rattle.sms_send.proofs.Telling.{told-read, told-writing, told_so, where-output}
use Rattle.sms_send.proofs.Replaying.{written}
use Rattle.sms_send.proofs.jobs.replay.run_replay.Goals as goal

pub returns-clause-replayed : goal.returns-clause-replayed
returns-clause-replayed g c =
    written (Appends (g.W.Write.contents c.args.output.now) (g.W.Write.contents c.write_out.new.output)) (g.R.Read.remaining c.args.input)
    (string_bytes c.in_ok-text.text) c.as_bytes.result.now c.in_ok-text.ensures.text c.as_bytes.ensures.value c.in_ok-write_out.ensures.written

pub returns-in_err-write_out-clause-front : goal.returns-in_err-write_out-clause-front
returns-in_err-write_out-clause-front g c =
    where-output c.from_residual-in_err-write_out.result _
    (written (WritesFront (g.W.Write.contents c.args.output.now) (g.W.Write.contents c.write_out.new.output)) (g.R.Read.remaining c.args.input)
    (string_bytes c.in_ok-text.text) c.as_bytes.result.now c.in_ok-text.ensures.text c.as_bytes.ensures.value c.write_out.ensures.front)

pub returns-in_err-text-clause-refused : goal.returns-in_err-text-clause-refused
returns-in_err-text-clause-refused g c =
    told_so c.from_residual.result _ _ c.from_residual.ensures.1 (told-read Schedule (g.R.Read.remaining c.args.input) schedule_fault _ c.in_err-text.ensures.refused)

pub returns-in_err-write_out-clause-refused : goal.returns-in_err-write_out-clause-refused
returns-in_err-write_out-clause-refused g c =
    told_so c.from_residual-in_err-write_out.result _ _ c.from_residual-in_err-write_out.ensures.1
    (told-writing Schedule (g.R.Read.remaining c.args.input) schedule_fault _ c.in_ok-text.ensures.accepted c.in_err-write_out.ensures.failed)
