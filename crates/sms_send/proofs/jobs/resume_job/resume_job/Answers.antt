use Rattle.std.proofs.Common.{◌<◌, ℕ, List, inl, inr, refl, subst, rules}
use Rattle.std.proofs.lemmas.Result.{IfErr-weaker, IfOk-weaker}
use Rattle.sms_journal.specs.Left.{count_left}
use Rattle.sms_send.specs.Resumed.{FailsOpen}
use Rattle.sms_send.proofs.Resuming.{if_err, on_ok, on_ok_weaker, printed_status, rows_told}
use Rattle.sms_send.proofs.jobs.resume_job.resume_job.Goals as goal

pub returns-in-Err-clause-refused : goal.returns-in-Err-clause-refused
returns-in-Err-clause-refused g c =
    inl (inl (subst (λ (n : List ℕ). FailsOpen (g.R.JournalFiles.refuses c.args.rt.now) (g.R.JournalFiles.holds c.args.rt.now) n c.in-Err.fault) c.as_str.ensures.value c.in-Err.ensures.refused), refl)

pub returns-in-Err-clause-phase : goal.returns-in-Err-clause-phase
returns-in-Err-clause-phase g c =
    inl c.requires.not_started

pub returns-in-Err-clause-unwritten : goal.returns-in-Err-clause-unwritten
returns-in-Err-clause-unwritten g c =
    λ other kept. refl

pub returns-in-Err-read_journaled-clause-refused : goal.returns-in-Err-read_journaled-clause-refused
returns-in-Err-read_journaled-clause-refused g c =
    inl (inr c.in-Err-read_journaled.ensures.refused, refl)

pub returns-in-Err-read_journaled-clause-phase : goal.returns-in-Err-read_journaled-clause-phase
returns-in-Err-read_journaled-clause-phase g c =
    inl c.requires.not_started

pub returns-in-Err-read_journaled-clause-unwritten : goal.returns-in-Err-read_journaled-clause-unwritten
returns-in-Err-read_journaled-clause-unwritten g c =
    λ other kept. refl

pub returns-then-count_left-eq0-clause-resumed : goal.returns-then-count_left-eq0-clause-resumed
returns-then-count_left-eq0-clause-resumed g c =
    IfOk-weaker c.print_run.result _ _ (λ status prints. (c.in-Ok-read_journaled.run', c.in-Ok-read_journaled.ensures.run, inl prints)) c.print_run.ensures.printed

pub returns-then-count_left-eq0-clause-status : goal.returns-then-count_left-eq0-clause-status
returns-then-count_left-eq0-clause-status g c =
    IfOk-weaker c.print_run.result _ _ (λ status prints. printed_status _ _ _ _ status prints) c.print_run.ensures.printed

pub returns-then-count_left-eq0-clause-noted : goal.returns-then-count_left-eq0-clause-noted
returns-then-count_left-eq0-clause-noted g c =
    IfOk-weaker c.print_run.result _ _ (λ status prints. inl (c.in-Ok-read_journaled.run', c.in-Ok-read_journaled.ensures.run, prints)) c.print_run.ensures.printed

pub returns-then-count_left-eq0-clause-started : goal.returns-then-count_left-eq0-clause-started
returns-then-count_left-eq0-clause-started g c =
    on_ok c.print_run.result _ (inl c.requires.not_started)

pub returns-then-count_left-eq0-clause-refused : goal.returns-then-count_left-eq0-clause-refused
returns-then-count_left-eq0-clause-refused g c =
    IfErr-weaker c.print_run.result _ _ (λ fault fails. inr (c.in-Ok-read_journaled.run', c.in-Ok-read_journaled.ensures.run, inl fails)) c.print_run.ensures.refused

pub returns-then-count_left-eq0-clause-phase : goal.returns-then-count_left-eq0-clause-phase
returns-then-count_left-eq0-clause-phase g c =
    if_err c.print_run.result _ (λ fault. inl c.requires.not_started)

pub returns-then-count_left-eq0-clause-unwritten : goal.returns-then-count_left-eq0-clause-unwritten
returns-then-count_left-eq0-clause-unwritten g c =
    IfErr-weaker c.print_run.result _ _ (λ fault quiet other kept. quiet other) c.print_run.ensures.quiet

pub resume_run-resumed-requires-clause-rows : goal.resume_run-resumed-requires-clause-rows
resume_run-resumed-requires-clause-rows g c κs within =
    rows_told c.in-Ok-read_journaled.ensures.run.0 c.in-Ok-read_journaled.run' c.in-Ok-read_journaled.ensures.run.3

pub resume_run-resumed-requires-clause-opened : goal.resume_run-resumed-requires-clause-opened
resume_run-resumed-requires-clause-opened g c κs within =
    subst (λ (n : List ℕ). g.R.JournalFiles.opens c.args.rt.now n c.in-Ok.held) c.as_str.ensures.value c.in-Ok.ensures.opened

pub returns-clause-resumed : goal.returns-clause-resumed
returns-clause-resumed g c =
    let some : 0 < count_left c.in-Ok-read_journaled.run'.ends.items = search rules in
    IfOk-weaker c.resume_run-resumed.result _ _ (λ status sends. (c.in-Ok-read_journaled.run', c.in-Ok-read_journaled.ensures.run, inr (record { some = some; sends = sends }))) c.resume_run-resumed.ensures.ended.sent

pub returns-clause-status : goal.returns-clause-status
returns-clause-status g c =
    c.resume_run-resumed.ensures.ended.status

pub returns-clause-noted : goal.returns-clause-noted
returns-clause-noted g c =
    IfOk-weaker c.resume_run-resumed.result _ _ (λ status is. inr is) c.resume_run-resumed.ensures.noted

pub returns-clause-started : goal.returns-clause-started
returns-clause-started g c =
    on_ok_weaker c.resume_run-resumed.result _ _ (λ go. inr go) c.resume_run-resumed.ensures.ended.started

pub returns-clause-refused : goal.returns-clause-refused
returns-clause-refused g c =
    IfErr-weaker c.resume_run-resumed.result _ _ (λ fault fails. inr (c.in-Ok-read_journaled.run', c.in-Ok-read_journaled.ensures.run, inr fails)) c.resume_run-resumed.ensures.ended.refused

pub returns-clause-phase : goal.returns-clause-phase
returns-clause-phase g c =
    IfErr-weaker c.resume_run-resumed.result _ _ (λ fault comes. inr comes) c.resume_run-resumed.ensures.ended.phase

pub returns-clause-unwritten : goal.returns-clause-unwritten
returns-clause-unwritten g c =
    c.resume_run-resumed.ensures.ended.unwritten
