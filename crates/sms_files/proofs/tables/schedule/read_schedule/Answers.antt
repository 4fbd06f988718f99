use Rattle.std.proofs.Common.{None, ◌≡◌}
use Rattle.std.proofs.lemmas.Result.{IfErr-weaker, IfOk-weaker}
use Rattle.sms_files.specs.Records.{TellsRecords, records_left}
use Rattle.sms_files.specs.Schedule.{AreSchedule, schedule_fault}
use Rattle.sms_files.specs.declared.fault.Source.TheVariants.{Schedule}
use Rattle.sms_files.proofs.Files.{of-input}
use Rattle.sms_files.proofs.tables.schedule.read_schedule.Goals as goal

pub returns-clause-schedule : goal.returns-clause-schedule
returns-clause-schedule g c =
    let remaining = g.R.Read.remaining in
    IfOk-weaker c.schedule_left-schedule.result _ _ (λ schedule h.
    of-input (λ rs. AreSchedule rs schedule.world schedule.events.items × (schedule_fault rs ≡ None))
    (remaining c.args.input) (records_left remaining c.read_all-reader.result) c.read_all-reader.ensures.whole h) c.schedule_left-schedule.ensures.schedule

pub returns-clause-faulty : goal.returns-clause-faulty
returns-clause-faulty g c =
    let remaining = g.R.Read.remaining in
    IfErr-weaker c.schedule_left-schedule.result _ _ (λ fault h.
    of-input (λ rs. TellsRecords Schedule (schedule_fault rs) fault)
    (remaining c.args.input) (records_left remaining c.read_all-reader.result) c.read_all-reader.ensures.whole h) c.schedule_left-schedule.ensures.faulty
