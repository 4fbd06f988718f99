use Rattle.std.specs.Prelude.{string_bytes}
use Rattle.sms_send.proofs.Replaying.{accepted, replayed}
use Rattle.sms_files.specs.Schedule.{schedule_fault}
use Rattle.sms_files.specs.declared.fault.Source.TheVariants.{Schedule}
use Rattle.sms_send.proofs.Telling.{no-memory, refused, told-first, told_so}
use Rattle.sms_send.proofs.jobs.replay.replayed.Goals as goal

pub returns-clause-text : goal.returns-clause-text
returns-clause-text g c =
    replayed (g.R.Read.remaining c.args.input) c.in_ok-world.field-0.world c.text_after-text.new.world c.in_ok-world.field-0.events.items c.as_slice.result.now
    (string_bytes c.in_ok-text.field-0) c.in_ok-world.ensures.schedule c.as_slice.ensures.value c.in_ok-text.ensures

pub returns-clause-accepted : goal.returns-clause-accepted
returns-clause-accepted g c =
    accepted (g.R.Read.remaining c.args.input) c.in_ok-world.field-0.world c.in_ok-world.field-0.events.items c.in_ok-world.ensures.schedule

pub returns-in_err-world-clause-refused : goal.returns-in_err-world-clause-refused
returns-in_err-world-clause-refused g c =
    told_so c.from_residual.result _ _ c.from_residual.ensures.1 (told-first Schedule (g.R.Read.remaining c.args.input) schedule_fault _ c.in_err-world.ensures.faulty)

pub returns-in_err-text-clause-refused : goal.returns-in_err-text-clause-refused
returns-in_err-text-clause-refused g c =
    refused c.from_residual-in_err-text.result _ c.from_residual-in_err-text.ensures.1 (no-memory Schedule (g.R.Read.remaining c.args.input) schedule_fault)
