use Rattle.std.proofs.Common.{◌≡◌, ◌∙◌}
use Rattle.sms_files.specs.Report.{report_of}
use Rattle.sms_files.proofs.Writing.{where-output}
use Rattle.sms_files.proofs.report.report.write_rows_report.Goals as goal

pub returns-clause-written : goal.returns-clause-written
returns-clause-written g c =
    let text : c.as_bytes.result.now ≡ report_of c.args.openings.now c.args.ends.now c.args.rows.now = c.as_bytes.ensures.value ∙ c.in_ok-text.ensures in
    rw text at c.write_out.ensures.written

pub returns-clause-front : goal.returns-clause-front
returns-clause-front g c =
    let text : c.as_bytes.result.now ≡ report_of c.args.openings.now c.args.ends.now c.args.rows.now = c.as_bytes.ensures.value ∙ c.in_ok-text.ensures in
    where-output c.write_out.result _ (rw text at c.write_out.ensures.front)
