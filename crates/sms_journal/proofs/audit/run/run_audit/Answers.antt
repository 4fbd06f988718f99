use Rattle.std.proofs.Common.{◌∙◌, ap, inr}
use Rattle.std.specs.Prelude.{option_copied, string_bytes}
use Rattle.sms_journal.specs.Faults.{fault_of_output}
use Rattle.sms_journal.proofs.AuditFaults.{cut_audit, prints_audit, unaudited_run}
use Rattle.sms_journal.proofs.audit.run.run_audit.Goals as goal

pub returns-in-Err-audit_of-clause-refused : goal.returns-in-Err-audit_of-clause-refused
returns-in-Err-audit_of-clause-refused g c =
    let a = c.args in
    let old = g.W.Write.contents a.output.now in
    unaudited_run a.config.now a.accounts.now a.messages.now (option_copied a.tariff) a.report.now old old c.in-Ok.input c.in-Ok.ensures.read c.in-Err-audit_of.fault c.in-Err-audit_of.ensures.refused

pub returns-in-Ok-write_out-clause-printed : goal.returns-in-Ok-write_out-clause-printed
returns-in-Ok-write_out-clause-printed g c =
    let a = c.args in
    prints_audit a.config.now a.accounts.now a.messages.now (option_copied a.tariff) a.report.now (g.W.Write.contents a.output.now) (g.W.Write.contents c.write_out.new.output) c.in-Ok.input c.in-Ok.ensures.read
    (string_bytes c.in-Ok-audit_of.text) c.as_bytes.result.now c.in-Ok-audit_of.ensures.audited c.as_bytes.ensures.value c.in-Ok-write_out.ensures.written

pub returns-clause-refused : goal.returns-clause-refused
returns-clause-refused g c =
    let a = c.args in
    cut_audit a.config.now a.accounts.now a.messages.now (option_copied a.tariff) a.report.now (g.W.Write.contents a.output.now) (g.W.Write.contents c.write_out.new.output) c.in-Ok.input c.in-Ok.ensures.read
    (string_bytes c.in-Ok-audit_of.text) c.as_bytes.result.now c.from.result c.in-Ok-audit_of.ensures.audited c.as_bytes.ensures.value
    (inr (c.from.ensures ∙ ap fault_of_output c.in-Err-write_out.ensures.failed, c.in-Err-write_out.ensures.front))
