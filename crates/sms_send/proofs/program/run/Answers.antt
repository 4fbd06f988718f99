use Rattle.std.proofs.Common.{inl}
use Rattle.sms_send.specs.Jobs.{BeginsBeside, NotesJob, WritesBeside}
use Rattle.sms_send.specs.LedgerWork.{BooksJob, FailsBooksJob}
use Rattle.sms_send.specs.Noted.{FailsBegin, NotesEnd}
use Rattle.sms_send.specs.Resumed.{NotesRound}
use Rattle.sms_send.specs.Stopped.{StopsRun}
use Rattle.sms_send.proofs.Asking.{details_asked, fails_asked, front_asked, lacks_no_output, ok_asked, works_asked}
use Rattle.sms_send.proofs.program.run.Goals as goal

pub returns-clause-done : goal.returns-clause-done
returns-clause-done g c =
    works_asked c.do_job.result (g.R.ProgramWords.has c.args.rt.now) _ c.in-Ok.job g.R.Reader.Read.remaining (g.R.InputFiles.finds c.args.rt.now) (g.R.Connects.tells c.args.rt.now)
    (BooksJob (g.R.JournalFiles.makes c.args.rt.now) (g.R.JournalFiles.opens c.args.rt.now) g.R.JournalFile.Write.contents (g.R.InputFiles.finds c.args.rt.now) (g.R.Connects.tells c.args.rt.now) (g.R.LedgerFiles.has_kind c.args.rt.now) (g.R.LedgerFiles.holds_ledger c.args.rt.now) g.R.LedgerFile.HeldFile.octets g.R.LedgerFile.HeldFile.stored g.R.LedgerFile.HeldFile.opening g.R.LedgerFile.HeldFile.is_closed)
    (λ job. WritesBeside (g.R.InputFiles.finds c.args.rt.now) (g.R.FullNames.is_full c.args.rt.now) (g.R.Screen.details c.args.rt.now) job (g.W.Write.contents c.args.output.now) (g.W.Write.contents c.do_job.new.output) (g.E.Write.contents c.args.error.now) (g.E.Write.contents c.do_job.new.error))
    _ _ c.in-Ok.ensures.asked c.do_job.ensures.status c.do_job.ensures.done c.do_job.ensures.beside

pub returns-clause-refused : goal.returns-clause-refused
returns-clause-refused g c =
    fails_asked c.do_job.result (g.R.ProgramWords.has c.args.rt.now) _ c.in-Ok.job (FailsBegin (g.R.JournalFiles.makes c.args.rt.now) (g.R.JournalFiles.refuses c.args.rt.now) (g.R.JournalFiles.holds c.args.rt.now)) (g.R.JournalFiles.refuses c.args.rt.now) (g.R.JournalFiles.holds c.args.rt.now)
    (FailsBooksJob (g.R.JournalFiles.makes c.args.rt.now) (g.R.JournalFiles.opens c.args.rt.now) g.R.JournalFile.Write.contents (g.R.JournalFiles.refuses c.args.rt.now) (g.R.JournalFiles.holds c.args.rt.now) (g.R.InputFiles.finds c.args.rt.now) (g.R.Connects.tells c.args.rt.now) (g.R.LedgerFiles.holds_ledger c.args.rt.now) (g.R.LedgerFiles.lacks_ledger c.args.rt.now) g.R.LedgerFile.HeldFile.errs g.R.LedgerFile.HeldFile.octets g.R.LedgerFile.HeldFile.stored g.R.LedgerFile.HeldFile.opening g.R.LedgerFile.HeldFile.is_closed)
    g.R.Reader.Read.remaining (g.R.InputFiles.finds c.args.rt.now) (g.R.Connects.tells c.args.rt.now) _ _ c.in-Ok.ensures.asked c.do_job.ensures.refused

pub returns-clause-front : goal.returns-clause-front
returns-clause-front g c =
    front_asked c.do_job.result (g.R.ProgramWords.has c.args.rt.now) _ c.in-Ok.job
    (λ job. BeginsBeside (g.R.InputFiles.finds c.args.rt.now) (g.R.FullNames.is_full c.args.rt.now) (g.R.Screen.details c.args.rt.now) job (g.E.Write.contents c.args.error.now) (g.E.Write.contents c.do_job.new.error))
    c.in-Ok.ensures.asked c.do_job.ensures.front

pub returns-clause-verbose : goal.returns-clause-verbose
returns-clause-verbose g c = details_asked c.do_job.result (g.R.ProgramWords.has c.args.rt.now) _ c.in-Ok.job c.in-Ok.ensures.asked

pub returns-in-Err-clause-refused : goal.returns-in-Err-clause-refused
returns-in-Err-clause-refused g c = inl c.in-Err.ensures.refused

pub returns-in-Err-clause-front : goal.returns-in-Err-clause-front
returns-in-Err-clause-front g c = lacks_no_output (g.R.ProgramWords.has c.args.rt.now) c.in-Err.fault c.in-Err.ensures.refused

pub returns-clause-noted : goal.returns-clause-noted
returns-clause-noted g c =
    ok_asked c.do_job.result (g.R.ProgramWords.has c.args.rt.now) _ c.in-Ok.job
    (λ job. NotesJob (NotesEnd g.R.JournalFile.Write.contents (g.R.JournalFiles.makes c.args.rt.now)) (NotesRound g.R.JournalFile.Write.contents (g.R.JournalFiles.opens c.args.rt.now) (g.R.InputFiles.finds c.args.rt.now))
    (StopsRun (g.R.JournalFiles.holds c.args.rt.now) (g.R.JournalFiles.stops c.args.rt.now)) job (g.W.Write.contents c.args.output.now) (g.W.Write.contents c.do_job.new.output) c.do_job.result)
    c.in-Ok.ensures.asked c.do_job.ensures.noted
