use Rattle.std.proofs.Common.{sym, ◌∙◌}
use Rattle.std.specs.List.{AllZip}
use Rattle.std.proofs.lemmas.Result.{IfErr-weaker, IfOk-weaker}
use Rattle.csv.specs.Records.{fields_of}
use Rattle.sms_files.specs.Records.{records_left}
use Rattle.sms_files.specs.Rows.{AreRows, header_of}
use Rattle.sms_files.specs.declared.flaw.Flaw.TheVariants.{Header}
use Rattle.sms_files.proofs.Files.{bad-first, bad-rest, is_header_of, no-record, no_header_of, whole-file}
use Rattle.sms_files.proofs.tables.rows.rows_left.Goals as goal

pub returns-clause-rows : goal.returns-clause-rows
returns-clause-rows g c =
    let remaining = g.R.Read.remaining in
    let first = header_of g.T.Headed.is_header in
    let flaw = g.T.FromRecord.flaw in
    let Says = g.T.FromRecord.Says in
    let most = c.args.most in
    IfOk-weaker c.read_records.result _ _ (λ rows h.
    whole-file first flaw most (λ rs. AllZip Says rs rows.items) (λ rs. AreRows first flaw Says most rs rows.items)
    (records_left remaining c.args.reader.now) c.in_ok-next_record.field-0 (fields_of c.next_record.new.record)
    (records_left remaining c.next_record.new.reader) c.in_ok-next_record.ensures.first c.if-not-branch.false
    (is_header_of g.T.Headed.is_header (fields_of c.next_record.new.record) (sym c.is_header.ensures ∙ c.if-not-is_header.false)) h (λ rs rows good. (good, rows))) c.read_records.ensures.rows

pub returns-clause-faulty : goal.returns-clause-faulty
returns-clause-faulty g c =
    let remaining = g.R.Read.remaining in
    let first = header_of g.T.Headed.is_header in
    let flaw = g.T.FromRecord.flaw in
    IfErr-weaker c.read_records.result _ _ (λ fault h.
    bad-rest c.args.source first flaw c.args.most (records_left remaining c.args.reader.now) c.in_ok-next_record.field-0 (fields_of c.next_record.new.record)
    (records_left remaining c.next_record.new.reader) fault c.in_ok-next_record.ensures.first c.if-not-branch.false
    (is_header_of g.T.Headed.is_header (fields_of c.next_record.new.record) (sym c.is_header.ensures ∙ c.if-not-is_header.false)) h) c.read_records.ensures.faulty

pub returns-then-not-branch-clause-faulty : goal.returns-then-not-branch-clause-faulty
returns-then-not-branch-clause-faulty g c =
    let remaining = g.R.Read.remaining in
    no-record c.args.source (header_of g.T.Headed.is_header) g.T.FromRecord.flaw c.args.most (records_left remaining c.args.reader.now) c.in_ok-next_record.field-0 (fields_of c.next_record.new.record)
    (records_left remaining c.next_record.new.reader) c.missing_record.result c.in_ok-next_record.ensures.first c.if-not-branch.true c.missing_record.ensures

pub returns-then-not-is_header-clause-faulty : goal.returns-then-not-is_header-clause-faulty
returns-then-not-is_header-clause-faulty g c =
    let remaining = g.R.Read.remaining in
    let r = fields_of c.next_record.new.record in
    bad-first c.args.source (header_of g.T.Headed.is_header) g.T.FromRecord.flaw c.args.most (records_left remaining c.args.reader.now) c.in_ok-next_record.field-0 r
    (records_left remaining c.next_record.new.reader) Header c.bad_record.result c.in_ok-next_record.ensures.first c.if-not-branch.false
    (no_header_of g.T.Headed.is_header r (sym c.is_header.ensures ∙ c.if-not-is_header.true)) c.bad_record.ensures
