use Rattle.std.proofs.Common.{◌≡◌, ◌≢◌, length, map, arith, rules}
use Rattle.csv.specs.Records.{fields_of}
use Rattle.sms_journal.proofs.Lists.{got_at}
use Rattle.sms_journal.specs.declared.rest.stage.Stage.TheVariants.{Rows}
use Rattle.sms_journal.proofs.Stages.{at_fault, faulty_at, missing_at, nothing_read, stage_more, whole_report}
use Rattle.sms_journal.proofs.rest.stage.check_report.Goals as goal

pub loop-place-init : goal.loop-place-init
loop-place-init c = nothing_read c.args.most c.args.plans.now c.args.openings.now (map fields_of c.args.records.now) c.in_ok-rows.rows.items c.in_ok-rows.ensures

pub loop-place-preserved : goal.loop-place-preserved
loop-place-preserved c =
    let records = c.args.records.now in
    let place = c.loop-place.place in
    let x = c.index-records-place.result in
    stage_more fields_of c.args.most c.args.plans.now c.args.openings.now records place x c.loop-place.stage c.in-Some.next c.loop-place.rows.items c.next_stage.new.rows.items c.next_stage.result c.loop-place.invariant
    (got_at records place x (omega arith) c.index-records-place.is) c.next_stage.ensures c.in-Some.is

pub returns-then-is_end-clause-report : goal.returns-then-is_end-clause-report
returns-then-is_end-clause-report c =
    let is : c.loop-place.stage ≡ Rows (length c.args.openings.now) = search rules in
    whole_report fields_of c.args.most c.args.plans.now c.args.openings.now c.args.records.now c.loop-place.place c.loop-place.stage c.loop-place.rows.items c.loop-place.invariant (omega arith) is

pub returns-clause-faulty : goal.returns-clause-faulty
returns-clause-faulty c =
    let records = c.args.records.now in
    let openings = c.args.openings.now in
    let other : c.loop-place.stage ≢ Rows (length openings) = search rules in
    at_fault c.args.most c.args.plans.now openings (map fields_of records) c.fault_behind-else-is_end.result (length records) (c.fault_behind-else-is_end.ensures (omega arith))
    (missing_at fields_of c.args.most c.args.plans.now openings records c.loop-place.place c.loop-place.stage c.loop-place.rows.items c.loop-place.invariant (omega arith) other)

pub returns-in-None-clause-faulty : goal.returns-in-None-clause-faulty
returns-in-None-clause-faulty c =
    let records = c.args.records.now in
    let openings = c.args.openings.now in
    let place = c.loop-place.place in
    let x = c.index-records-place.result in
    at_fault c.args.most c.args.plans.now openings (map fields_of records) c.fault_behind.result place (c.fault_behind.ensures (omega arith))
    (faulty_at fields_of c.args.most c.args.plans.now openings records place x c.loop-place.stage c.loop-place.rows.items c.next_stage.new.rows.items c.next_stage.result c.loop-place.invariant
    (got_at records place x (omega arith) c.index-records-place.is) (omega arith) c.next_stage.ensures c.in-None.is)
