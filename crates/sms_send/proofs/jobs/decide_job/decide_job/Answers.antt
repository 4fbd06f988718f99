use Rattle.std.proofs.Common.{inl, inr, subst, List, ℕ}
use Rattle.std.proofs.lemmas.Result.{IfErr-weaker}
use Rattle.std.specs.Io.KnownBytes.{Appends}
use Rattle.std.specs.Prelude.{string_bytes}
use Rattle.sms_files.specs.Output.{WritesFront}
use Rattle.sms_ledger.specs.declared.entry.Decision.{Decision}
use Rattle.sms_send.specs.LedgerJobs.{BooksDecisions, FailsDecisions}
use Rattle.sms_send.proofs.Resuming.{on_ok_weaker}
use Rattle.sms_send.proofs.jobs.decide_job.decide_job.Goals as goal

pub returns-in-Err-clause-refused : goal.returns-in-Err-clause-refused
returns-in-Err-clause-refused g c = inl c.in-Err.ensures.refused

pub returns-in-Ok-lines-clause-decided : goal.returns-in-Ok-lines-clause-decided
returns-in-Ok-lines-clause-decided g c =
    let books = subst (λ (n : List ℕ). BooksDecisions (g.R.LedgerFiles.holds_ledger c.args.rt.now) g.R.LedgerFile.HeldFile.octets g.R.LedgerFile.HeldFile.stored g.R.LedgerFile.HeldFile.opening g.R.LedgerFile.HeldFile.is_closed n c.in-Ok.decisions.items (string_bytes c.in-Ok-lines.lines)) c.as_str.ensures.value (subst (λ (ds : List Decision). BooksDecisions (g.R.LedgerFiles.holds_ledger c.args.rt.now) g.R.LedgerFile.HeldFile.octets g.R.LedgerFile.HeldFile.stored g.R.LedgerFile.HeldFile.opening g.R.LedgerFile.HeldFile.is_closed c.as_str.result.now ds (string_bytes c.in-Ok-lines.lines)) c.as_slice.ensures.value c.in-Ok-lines.ensures.booked) in
    on_ok_weaker c.print.result _ _
    (λ out. (
      c.in-Ok.decisions.items,
      c.in-Ok.ensures.decided,
      string_bytes c.in-Ok-lines.lines,
      books,
      subst (Appends (g.W.Write.contents c.args.output.now) (g.W.Write.contents c.print.new.output)) c.as_str-in-Ok-lines.ensures.value out,
    )) c.print.ensures.printed

pub returns-in-Ok-lines-clause-refused : goal.returns-in-Ok-lines-clause-refused
returns-in-Ok-lines-clause-refused g c =
    let books = subst (λ (n : List ℕ). BooksDecisions (g.R.LedgerFiles.holds_ledger c.args.rt.now) g.R.LedgerFile.HeldFile.octets g.R.LedgerFile.HeldFile.stored g.R.LedgerFile.HeldFile.opening g.R.LedgerFile.HeldFile.is_closed n c.in-Ok.decisions.items (string_bytes c.in-Ok-lines.lines)) c.as_str.ensures.value (subst (λ (ds : List Decision). BooksDecisions (g.R.LedgerFiles.holds_ledger c.args.rt.now) g.R.LedgerFile.HeldFile.octets g.R.LedgerFile.HeldFile.stored g.R.LedgerFile.HeldFile.opening g.R.LedgerFile.HeldFile.is_closed c.as_str.result.now ds (string_bytes c.in-Ok-lines.lines)) c.as_slice.ensures.value c.in-Ok-lines.ensures.booked) in
    IfErr-weaker c.print.result _ _
    (λ fault told. inr (
      c.in-Ok.decisions.items,
      c.in-Ok.ensures.decided,
      inr (told, string_bytes c.in-Ok-lines.lines, books, subst (WritesFront (g.W.Write.contents c.args.output.now) (g.W.Write.contents c.print.new.output)) c.as_str-in-Ok-lines.ensures.value c.print.ensures.front),
    )) c.print.ensures.failed

pub returns-clause-refused : goal.returns-clause-refused
returns-clause-refused g c =
    inr (
      c.in-Ok.decisions.items,
      c.in-Ok.ensures.decided,
      inl (subst (λ (n : List ℕ). FailsDecisions (g.R.LedgerFiles.holds_ledger c.args.rt.now) (g.R.LedgerFiles.lacks_ledger c.args.rt.now) g.R.LedgerFile.HeldFile.errs g.R.LedgerFile.HeldFile.octets g.R.LedgerFile.HeldFile.opening g.R.LedgerFile.HeldFile.is_closed n c.in-Ok.decisions.items c.in-Err-lines.fault) c.as_str.ensures.value (subst (λ (ds : List Decision). FailsDecisions (g.R.LedgerFiles.holds_ledger c.args.rt.now) (g.R.LedgerFiles.lacks_ledger c.args.rt.now) g.R.LedgerFile.HeldFile.errs g.R.LedgerFile.HeldFile.octets g.R.LedgerFile.HeldFile.opening g.R.LedgerFile.HeldFile.is_closed c.as_str.result.now ds c.in-Err-lines.fault) c.as_slice.ensures.value c.in-Err-lines.ensures.refused)),
    )
