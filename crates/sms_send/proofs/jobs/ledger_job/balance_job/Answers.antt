use Rattle.std.proofs.lemmas.Result.{IfErr-weaker}
use Rattle.sms_ledger.specs.InMemory.{state_in}
use Rattle.std.proofs.Common.{subst, List, ℕ}
use Rattle.sms_send.proofs.Paying.{table_lost}
use Rattle.sms_send.proofs.jobs.ledger_job.balance_job.Goals as goal

pub returns-in-Ok-read-clause-refused : goal.returns-in-Ok-read-clause-refused
returns-in-Ok-read-clause-refused g c =
    let held = subst (λ (name : List ℕ). g.R.LedgerFiles.holds_ledger c.args.rt.now name c.in-Ok.file) c.as_str.ensures.value c.in-Ok.ensures.held in
    IfErr-weaker c.print_table.result _ _ (λ fault lost.
    table_lost (g.R.LedgerFiles.holds_ledger c.args.rt.now) (g.R.LedgerFiles.lacks_ledger c.args.rt.now) g.R.LedgerFile.HeldFile.errs g.R.LedgerFile.HeldFile.octets c.args.name c.in-Ok.file c.in-Ok-read.field-0.octets.items (state_in c.in-Ok-read.field-0.ledger)
    (g.W.Write.contents c.args.output.now) (g.W.Write.contents c.print_table.new.output) fault held c.in-Ok-read.ensures.read lost) c.print_table.ensures.failed
