use Rattle.std.proofs.Common.{List, ℕ, inl, inr, subst}
use Rattle.std.proofs.lemmas.Result.{IfErr-weaker, IfOk-weaker}
use Rattle.sms_send.specs.LedgerResuming.{EndsGoing, EndsWhole, FailsGoingWith, FailsWhole}
use Rattle.sms_send.specs.Resumed.{FailsOpen}
use Rattle.sms_send.proofs.Resuming.{if_err, on_ok, rows_told}
use Rattle.sms_send.proofs.jobs.ledger_resume.ledger_resume_job.Goals as goal

pub returns-in-Err-clause-refused : goal.returns-in-Err-clause-refused
returns-in-Err-clause-refused g c =
    inl (subst (λ (n : List ℕ). FailsOpen (g.R.JournalFiles.refuses c.args.rt.now) (g.R.JournalFiles.holds c.args.rt.now) n c.in-Err.fault) c.as_str.ensures.value c.in-Err.ensures.refused)

pub returns-in-Err-read_going-clause-refused : goal.returns-in-Err-read_going-clause-refused
returns-in-Err-read_going-clause-refused g c = inr (inl c.in-Err-read_going.ensures.refused)

pub returns-then-count_left-eq0-clause-resumed : goal.returns-then-count_left-eq0-clause-resumed
returns-then-count_left-eq0-clause-resumed g c =
    IfOk-weaker c.end_whole.result _ _
    (λ status ends. (c.in-Ok.held, subst (λ (n : List ℕ). g.R.JournalFiles.opens c.args.rt.now n c.in-Ok.held) c.as_str.ensures.value c.in-Ok.ensures.opened, c.in-Ok-read_going.read.0, c.in-Ok-read_going.read.1, c.in-Ok-read_going.ensures.read, inl (subst (λ (n : List ℕ). EndsWhole (g.R.LedgerFiles.holds_ledger c.args.rt.now) g.R.LedgerFile.HeldFile.octets g.R.LedgerFile.HeldFile.stored g.R.LedgerFile.HeldFile.opening g.R.LedgerFile.HeldFile.is_closed n c.args.order.strict c.in-Ok-read_going.read.0 (g.W.Write.contents c.args.output.now) (g.W.Write.contents c.end_whole.new.output) status) c.as_str-then-count_left-eq0.ensures.value ends))) c.end_whole.ensures.ended

pub returns-then-count_left-eq0-clause-started : goal.returns-then-count_left-eq0-clause-started
returns-then-count_left-eq0-clause-started g c = on_ok c.end_whole.result _ (inl c.requires.not_started)

pub returns-then-count_left-eq0-clause-refused : goal.returns-then-count_left-eq0-clause-refused
returns-then-count_left-eq0-clause-refused g c =
    IfErr-weaker c.end_whole.result _ _
    (λ fault fails. inr (inr (c.in-Ok.held, subst (λ (n : List ℕ). g.R.JournalFiles.opens c.args.rt.now n c.in-Ok.held) c.as_str.ensures.value c.in-Ok.ensures.opened, c.in-Ok-read_going.read.0, c.in-Ok-read_going.read.1, c.in-Ok-read_going.ensures.read, inl (subst (λ (n : List ℕ). FailsWhole (g.R.LedgerFiles.holds_ledger c.args.rt.now) (g.R.LedgerFiles.lacks_ledger c.args.rt.now) g.R.LedgerFile.HeldFile.errs g.R.LedgerFile.HeldFile.octets g.R.LedgerFile.HeldFile.stored g.R.LedgerFile.HeldFile.opening g.R.LedgerFile.HeldFile.is_closed n c.args.order.strict c.in-Ok-read_going.read.0 (g.W.Write.contents c.args.output.now) (g.W.Write.contents c.end_whole.new.output) fault) c.as_str-then-count_left-eq0.ensures.value fails)))) c.end_whole.ensures.refused

pub returns-then-count_left-eq0-clause-phase : goal.returns-then-count_left-eq0-clause-phase
returns-then-count_left-eq0-clause-phase g c = if_err c.end_whole.result _ (λ fault. inl c.requires.not_started)

pub go_on-requires-clause-rows : goal.go_on-requires-clause-rows
go_on-requires-clause-rows g c κs within = rows_told c.in-Ok-read_going.ensures.read.0 c.in-Ok-read_going.read.0.run (c.in-Ok-read_going.ensures.read.2.journaled, c.in-Ok-read_going.ensures.read.4)

pub go_on-requires-clause-opened : goal.go_on-requires-clause-opened
go_on-requires-clause-opened g c κs within = subst (λ (n : List ℕ). g.R.JournalFiles.opens c.args.rt.now n c.in-Ok.held) c.as_str.ensures.value c.in-Ok.ensures.opened

pub returns-clause-resumed : goal.returns-clause-resumed
returns-clause-resumed g c =
    IfOk-weaker c.go_on.result _ _
    (λ status ends. (c.in-Ok.held, subst (λ (n : List ℕ). g.R.JournalFiles.opens c.args.rt.now n c.in-Ok.held) c.as_str.ensures.value c.in-Ok.ensures.opened, c.in-Ok-read_going.read.0, c.in-Ok-read_going.read.1, c.in-Ok-read_going.ensures.read, inr (subst (λ (n : List ℕ). EndsGoing g.R.JournalFile.Write.contents (g.R.JournalFiles.opens c.args.rt.now) (g.R.Connects.tells c.args.rt.now) (g.R.LedgerFiles.holds_ledger c.args.rt.now) g.R.LedgerFile.HeldFile.octets g.R.LedgerFile.HeldFile.stored g.R.LedgerFile.HeldFile.opening g.R.LedgerFile.HeldFile.is_closed n c.args.order c.in-Ok-read_going.read.0 c.in-Ok-read_going.read.1 (g.W.Write.contents c.args.output.now) (g.W.Write.contents c.go_on.new.output) status) c.as_str-2.ensures.value ends))) c.go_on.ensures.ended

pub returns-clause-refused : goal.returns-clause-refused
returns-clause-refused g c =
    IfErr-weaker c.go_on.result _ _
    (λ fault fails. inr (inr (c.in-Ok.held, subst (λ (n : List ℕ). g.R.JournalFiles.opens c.args.rt.now n c.in-Ok.held) c.as_str.ensures.value c.in-Ok.ensures.opened, c.in-Ok-read_going.read.0, c.in-Ok-read_going.read.1, c.in-Ok-read_going.ensures.read, inr (subst (λ (n : List ℕ). FailsGoingWith g.R.JournalFile.Write.contents (g.R.JournalFiles.opens c.args.rt.now) (g.R.Connects.tells c.args.rt.now) (g.R.LedgerFiles.holds_ledger c.args.rt.now) (g.R.LedgerFiles.lacks_ledger c.args.rt.now) g.R.LedgerFile.HeldFile.errs g.R.LedgerFile.HeldFile.octets g.R.LedgerFile.HeldFile.stored g.R.LedgerFile.HeldFile.opening g.R.LedgerFile.HeldFile.is_closed n c.args.order c.in-Ok-read_going.read.0 c.in-Ok-read_going.read.1 (g.W.Write.contents c.args.output.now) (g.W.Write.contents c.go_on.new.output) fault) c.as_str-2.ensures.value fails)))) c.go_on.ensures.refused
