use Rattle.std.proofs.Common.{rules, ◌≡◌, Err, ap}
use Rattle.std.proofs.lemmas.Result.{on_ok_weaker}
use Rattle.sms_journal.specs.declared.error.JournalError.{JournalError}
use Rattle.sms_journal.specs.declared.error.JournalError.TheVariants.{BadNote}
use Rattle.sms_journal.proofs.notes.run_check.check_rounds.Goals as goal

pub returns-clause-lawful : goal.returns-clause-lawful
returns-clause-lawful c = on_ok_weaker c.check_last.result (λ h. h c.args.size c.in_ok-last.ensures.current) c.check_last.ensures.lawful

pub returns-clause-faulty : goal.returns-clause-faulty
returns-clause-faulty c = λ k is. c.check_last.ensures.faulty k is c.args.size c.in_ok-last.ensures.current

pub returns-in_err-last-clause-faulty : goal.returns-in_err-last-clause-faulty
returns-in_err-last-clause-faulty c = λ k is.
    let same : c.in_err-last.field-0.0 ≡ BadNote k = search rules in
    c.in_err-last.ensures.faulty k (ap (λ (e : JournalError). Err e) same)
