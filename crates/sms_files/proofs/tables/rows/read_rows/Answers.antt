use Rattle.std.proofs.lemmas.Result.{IfErr-weaker, IfOk-weaker}
use Rattle.sms_files.specs.Records.{TellsRecords, file_fault, records_left}
use Rattle.sms_files.specs.Rows.{AreRows, header_of}
use Rattle.sms_files.proofs.Files.{of-input}
use Rattle.sms_files.proofs.tables.rows.read_rows.Goals as goal

pub returns-clause-rows : goal.returns-clause-rows
returns-clause-rows g c =
    let remaining = g.R.Read.remaining in
    IfOk-weaker c.rows_left-rows.result _ _ (λ rows h.
    of-input (λ rs. AreRows (header_of g.T.Headed.is_header) g.T.FromRecord.flaw g.T.FromRecord.Says c.args.most rs rows.items)
    (remaining c.args.input) (records_left remaining c.read_all-reader.result) c.read_all-reader.ensures.whole h) c.rows_left-rows.ensures.rows

pub returns-clause-faulty : goal.returns-clause-faulty
returns-clause-faulty g c =
    let remaining = g.R.Read.remaining in
    IfErr-weaker c.rows_left-rows.result _ _ (λ fault h.
    of-input (λ rs. TellsRecords c.args.source (file_fault (header_of g.T.Headed.is_header) g.T.FromRecord.flaw c.args.most rs) fault)
    (remaining c.args.input) (records_left remaining c.read_all-reader.result) c.read_all-reader.ensures.whole h) c.rows_left-rows.ensures.faulty
