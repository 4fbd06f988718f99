use Rattle.std.proofs.Common.{None, ◌≡◌}
use Rattle.std.specs.List.{AllZip}
use Rattle.csv.specs.Records.{fields_of}
use Rattle.sms_files.specs.Records.{records_left}
use Rattle.sms_files.specs.Schedule.{AreSchedule, Spells, event_flaw, most_events, schedule_fault, world_flaw}
use Rattle.sms_files.specs.declared.fault.Source.TheVariants.{Schedule}
use Rattle.sms_files.proofs.Files.{bad-rest, no-record, whole-file}
use Rattle.sms_files.proofs.Schedules.{bad-world, sets-up}
use Rattle.sms_files.proofs.tables.schedule.schedule_left.Goals as goal

pub returns-in-Err-read_records-clause-faulty : goal.returns-in-Err-read_records-clause-faulty
returns-in-Err-read_records-clause-faulty g c =
    bad-rest Schedule world_flaw event_flaw most_events (records_left g.R.Read.remaining c.args.reader.now) c.in_ok-next_record.field-0 (fields_of c.next_record.new.record)
    (records_left g.R.Read.remaining c.next_record.new.reader) c.in-Err-read_records.fault c.in_ok-next_record.ensures.first c.if-not-branch.false
    (sets-up (fields_of c.next_record.new.record) c.in-Ok.world c.in-Ok.ensures) c.in-Err-read_records.ensures.faulty

pub returns-in-Ok-read_records-clause-schedule : goal.returns-in-Ok-read_records-clause-schedule
returns-in-Ok-read_records-clause-schedule g c =
    whole-file world_flaw event_flaw most_events (λ rs. AllZip Spells rs c.in-Ok-read_records.events.items)
    (λ rs. AreSchedule rs c.in-Ok.world c.in-Ok-read_records.events.items × (schedule_fault rs ≡ None))
    (records_left g.R.Read.remaining c.args.reader.now) c.in_ok-next_record.field-0 (fields_of c.next_record.new.record)
    (records_left g.R.Read.remaining c.next_record.new.reader) c.in_ok-next_record.ensures.first c.if-not-branch.false
    (sets-up (fields_of c.next_record.new.record) c.in-Ok.world c.in-Ok.ensures) c.in-Ok-read_records.ensures.rows
    (λ rs events good. ((c.in-Ok.ensures, events, c.in-Ok-read_records.ensures.limit), good))

pub returns-then-not-branch-clause-faulty : goal.returns-then-not-branch-clause-faulty
returns-then-not-branch-clause-faulty g c =
    let remaining = g.R.Read.remaining in
    no-record Schedule world_flaw event_flaw most_events (records_left remaining c.args.reader.now) c.in_ok-next_record.field-0 (fields_of c.next_record.new.record)
    (records_left remaining c.next_record.new.reader) c.missing_record.result c.in_ok-next_record.ensures.first c.if-not-branch.true c.missing_record.ensures

pub returns-in-Err-clause-faulty : goal.returns-in-Err-clause-faulty
returns-in-Err-clause-faulty g c =
    let remaining = g.R.Read.remaining in
    bad-world (records_left remaining c.args.reader.now) c.in_ok-next_record.field-0 (fields_of c.next_record.new.record) (records_left remaining c.next_record.new.reader) c.world_of.result c.in-Err.fault c.at.result
    c.in_ok-next_record.ensures.first c.if-not-branch.false c.world_of.ensures c.in-Err.is c.at.ensures
