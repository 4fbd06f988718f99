use Rattle.std.proofs.Common.{◌≡◌, subst, sym, ℕ, List}
use Rattle.std.specs.Io.KnownBytes.{Appends}
use Rattle.std.proofs.lemmas.Result.{IfOk-weaker}
use Rattle.sms_core.specs.declared.row.Row.{Row}
use Rattle.sms_message.specs.declared.ends.MessageEnd.{MessageEnd}
use Rattle.sms_journal.specs.Recovering.{IsRecovered, Recovers}
use Rattle.sms_files.specs.Report.{report_of, ends_status}
use Rattle.sms_journal.proofs.Recoveries.{printed}
use Rattle.sms_journal.proofs.recovery.journaled.recover_notes.Goals as goal

pub returns-in-Ok-clause-recovered : goal.returns-in-Ok-clause-recovered
returns-in-Ok-clause-recovered g c =
    let rs = c.args.rules.now in
    let size = c.args.size in
    let os = c.args.openings.now in
    let ms = c.args.messages.now in
    let notes = c.args.notes.now in
    let ends = c.as_slice.result.now in
    let rows = c.as_slice-in-Ok.result.now in
    let old = g.W.Write.contents c.args.output.now in
    let new = g.W.Write.contents c.print_report.new.output in
    let is : IsRecovered rs size os ms notes ends rows =
    subst (λ (r : List Row). IsRecovered rs size os ms notes ends r) (sym c.as_slice-in-Ok.ensures.value)
    (subst (λ (t : List (MessageEnd (Unit {0}))). IsRecovered rs size os ms notes t c.in-Ok.rows.items) (sym c.as_slice.ensures.value) c.in-Ok.ensures.is) in
    IfOk-weaker c.print_report.result (λ (status : ℕ). Appends old new (report_of os ends rows) × (status ≡ ends_status ends)) (Recovers rs size os ms notes old new)
    (printed rs size os ms notes ends old new rows is) c.print_report.ensures.printed
