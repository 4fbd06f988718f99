use Rattle.std.proofs.Common.{rules, ◌≡◌, Err, ap}
use Rattle.sms_journal.specs.declared.error.JournalError.{JournalError}
use Rattle.sms_journal.specs.declared.error.JournalError.TheVariants.{BadNote}
use Rattle.sms_journal.proofs.Rounds.{stop_whole}
use Rattle.sms_journal.proofs.notes.rounds.check_opening.Goals as goal

pub returns-in-Err-clause-faulty : goal.returns-in-Err-clause-faulty
returns-in-Err-clause-faulty c = λ k before is.
    let going = c.args.going.now in
    let same : c.in-Err.error ≡ BadNote k = search rules in
    stop_whole c.args.rules.now c.args.messages.now before going.number going.size going.given.indexes.items c.args.round.now c.end_of-end.result k (c.in-Err.ensures.faulty k before (ap (λ (e : JournalError). Err e) same))
