use Rattle.std.proofs.Common.{rules, ◌≡◌, Err, ap, take}
use Rattle.std.proofs.lemmas.Result.{on_ok_weaker}
use Rattle.sms_journal.specs.declared.error.JournalError.{JournalError}
use Rattle.sms_journal.specs.declared.error.JournalError.TheVariants.{BadNote}
use Rattle.sms_journal.proofs.notes.rounds.check_current.Goals as goal

pub returns-in-Ok-clause-lawful : goal.returns-in-Ok-clause-lawful
returns-in-Ok-clause-lawful c = on_ok_weaker c.check_end.result (λ h. h (c.in-Ok.ensures.lawful (take c.args.going.now.from c.args.notes.now))) c.check_end.ensures.lawful

pub returns-in-Ok-clause-faulty : goal.returns-in-Ok-clause-faulty
returns-in-Ok-clause-faulty c = λ k is. c.check_end.ensures.faulty k is (c.in-Ok.ensures.lawful (take c.args.going.now.from c.args.notes.now))

pub returns-in-Err-clause-faulty : goal.returns-in-Err-clause-faulty
returns-in-Err-clause-faulty c = λ k is.
    let same : c.in-Err.error ≡ BadNote k = search rules in
    c.in-Err.ensures.faulty k (take c.args.going.now.from c.args.notes.now) (ap (λ (e : JournalError). Err e) same)
