use Rattle.std.proofs.Common.{arith, ◌≡◌, ◌≤◌, ◌<◌, ◌∙◌, refl, ap, inr, ◌+◌, length, None, Some}
use Rattle.std.specs.List.{AllZip}
use Rattle.std.proofs.lemmas.List.{length-append}
use Rattle.csv.specs.Records.{fields_of}
use Rattle.sms_files.specs.Records.{TellsRecords, record_fault, records_left}
use Rattle.sms_files.specs.declared.fault.InputFault.TheVariants.{OutOfMemory}
use Rattle.sms_files.specs.declared.flaw.Flaw.TheVariants.{OneTooMany}
use Rattle.sms_files.proofs.Runs.{bad-next, device-tells, fault-bad, fault-good, fault-many, flaw-read, if_known, names-record, names-row, no-more, one-more, refused, told_so, was-read}
use Rattle.sms_files.proofs.tables.records.read_records.Goals as goal

pub returns-then-not-branch-clause-rows : goal.returns-then-not-branch-clause-rows
returns-then-not-branch-clause-rows g c =
    let flaw = g.T.FromRecord.flaw in
    let Says = g.T.FromRecord.Says in
    if_known (records_left g.R.Read.remaining c.args.reader.now) (λ left. AllZip Says left c.loop-before.rows.items × (record_fault flaw c.args.most 1 left ≡ None)) (λ left known.
    no-more Says (record_fault flaw c.args.most 1 left) (record_fault flaw c.args.most c.loop-before.before) left c.loop-before.rows.items (records_left g.R.Read.remaining c.loop-before.reader)
    (records_left g.R.Read.remaining c.next_record.new.reader) c.in_ok-next_record.field-0 (fields_of c.next_record.new.record)
    (c.loop-before.invariant.rest left known) c.in_ok-next_record.ensures.first c.if-not-branch.true refl)

pub returns-in-Err-clause-faulty : goal.returns-in-Err-clause-faulty
returns-in-Err-clause-faulty g c =
    let before = c.loop-before.before in
    let flaw = g.T.FromRecord.flaw in
    let Says = g.T.FromRecord.Says in
    let r = fields_of c.next_record.new.record in
    let low : before ≤ c.args.most = omega arith in
    if_known (records_left g.R.Read.remaining c.args.reader.now) (λ left. TellsRecords c.args.source (record_fault flaw c.args.most 1 left) c.at.result) (λ left known.
    names-row c.args.source (before + 1) c.in-Err.fault (record_fault flaw c.args.most 1 left) c.at.result c.at.ensures (λ is is_flaw.
    bad-next Says (record_fault flaw c.args.most 1 left) (record_fault flaw c.args.most before) (before + 1, is) left c.loop-before.rows.items (records_left g.R.Read.remaining c.loop-before.reader)
    (records_left g.R.Read.remaining c.next_record.new.reader) c.in_ok-next_record.field-0 r
    (c.loop-before.invariant.rest left known) c.in_ok-next_record.ensures.first c.if-not-branch.false
    (λ rs. fault-bad flaw c.args.most before r rs is low (flaw-read flaw Says r c.from_record.result c.in-Err.fault is c.from_record.ensures c.in-Err.is is_flaw))))

pub loop-before-preserved : goal.loop-before-preserved
loop-before-preserved g c =
    let before = c.loop-before.before in
    let flaw = g.T.FromRecord.flaw in
    let Says = g.T.FromRecord.Says in
    let pushed = c.in_ok-push-in-Ok.ensures.items in
    let low : before ≤ c.args.most = omega arith in
    let read = was-read flaw Says (fields_of c.next_record.new.record) c.from_record.result c.in-Ok.row c.from_record.ensures c.in-Ok.is in
    record {
      reads = c.in_ok-next_record.ensures.reads;
      count = omega (arith, simp length-append at (ap length pushed), c.loop-before.invariant.count);
      rest = λ left known.
          one-more Says (record_fault flaw c.args.most 1 left) (record_fault flaw c.args.most before) (record_fault flaw c.args.most (before + 1)) left c.loop-before.rows.items c.push.new.list.items c.in-Ok.row (records_left g.R.Read.remaining c.loop-before.reader)
          (records_left g.R.Read.remaining c.next_record.new.reader) c.in_ok-next_record.field-0 (fields_of c.next_record.new.record)
          (c.loop-before.invariant.rest left known) c.in_ok-next_record.ensures.first c.if-not-branch.false
          (λ rs. fault-good flaw c.args.most before (fields_of c.next_record.new.record) rs low read.0) read.1 pushed;
    }

pub returns-then-branch-clause-faulty : goal.returns-then-branch-clause-faulty
returns-then-branch-clause-faulty g c =
    let before = c.loop-before.before in
    let flaw = g.T.FromRecord.flaw in
    let Says = g.T.FromRecord.Says in
    let place : before + 1 ≡ c.args.most + 2 = omega arith in
    let high : c.args.most < before = omega arith in
    if_known (records_left g.R.Read.remaining c.args.reader.now) (λ left. TellsRecords c.args.source (record_fault flaw c.args.most 1 left) c.bad_record.result) (λ left known.
    names-record c.args.source (c.args.most + 2) OneTooMany (record_fault flaw c.args.most 1 left) c.bad_record.result c.bad_record.ensures
    (bad-next Says (record_fault flaw c.args.most 1 left) (record_fault flaw c.args.most before) (before + 1, OneTooMany) left c.loop-before.rows.items (records_left g.R.Read.remaining c.loop-before.reader)
    (records_left g.R.Read.remaining c.next_record-2.new.reader) c.in_ok-next_record-2.field-0 (fields_of c.next_record-2.new.record)
    (c.loop-before.invariant.rest left known) c.in_ok-next_record-2.ensures.first c.if-branch.true
    (λ rs. fault-many flaw c.args.most before (fields_of c.next_record-2.new.record) rs high)
    ∙ ap (λ n. Some (n, OneTooMany)) place))

pub returns-clause-rows : goal.returns-clause-rows
returns-clause-rows g c =
    let flaw = g.T.FromRecord.flaw in
    let Says = g.T.FromRecord.Says in
    if_known (records_left g.R.Read.remaining c.args.reader.now) (λ left. AllZip Says left c.loop-before.rows.items × (record_fault flaw c.args.most 1 left ≡ None)) (λ left known.
    no-more Says (record_fault flaw c.args.most 1 left) (record_fault flaw c.args.most c.loop-before.before) left c.loop-before.rows.items (records_left g.R.Read.remaining c.loop-before.reader)
    (records_left g.R.Read.remaining c.next_record-2.new.reader) c.in_ok-next_record-2.field-0 (fields_of c.next_record-2.new.record)
    (c.loop-before.invariant.rest left known) c.in_ok-next_record-2.ensures.first c.if-branch.false refl)

pub returns-in_err-next_record-clause-faulty : goal.returns-in_err-next_record-clause-faulty
returns-in_err-next_record-clause-faulty g c =
    told_so c.from_residual.result _ _ c.from_residual.ensures.1
    (device-tells c.args.source (records_left g.R.Read.remaining c.args.reader.now) (record_fault g.T.FromRecord.flaw c.args.most 1) _ c.in_err-next_record.ensures.device)

pub returns-in_err-push-in-Ok-clause-faulty : goal.returns-in_err-push-in-Ok-clause-faulty
returns-in_err-push-in-Ok-clause-faulty g c =
    refused c.from_residual-in_err-push-in-Ok.result _ c.from_residual-in_err-push-in-Ok.ensures.1
    (device-tells c.args.source (records_left g.R.Read.remaining c.args.reader.now) (record_fault g.T.FromRecord.flaw c.args.most 1) (OutOfMemory tt) (inr refl))

pub returns-in_err-next_record-2-clause-faulty : goal.returns-in_err-next_record-2-clause-faulty
returns-in_err-next_record-2-clause-faulty g c =
    told_so c.from_residual-in_err-next_record-2.result _ _ c.from_residual-in_err-next_record-2.ensures.1
    (device-tells c.args.source (records_left g.R.Read.remaining c.args.reader.now) (record_fault g.T.FromRecord.flaw c.args.most 1) _ c.in_err-next_record-2.ensures.device)
