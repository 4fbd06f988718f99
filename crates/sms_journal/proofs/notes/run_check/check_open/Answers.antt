use Rattle.std.proofs.Common.{rules, ◌≡◌, ◌+◌, length, subst, take, arith}
use Rattle.std.specs.Prelude.{IsErrOf}
use Rattle.sms_journal.specs.declared.error.JournalError.TheVariants.{BadNote}
use Rattle.sms_journal.specs.Going.{going_of}
use Rattle.sms_journal.specs.Rounds.{IsFirstRunFault}
use Rattle.sms_journal.proofs.Passing.{faulty_before, stop_within}
use Rattle.sms_journal.proofs.notes.run_check.check_open.Goals as goal

pub overflow_add-result : goal.overflow_add-result
overflow_add-result c =
    let going = c.args.going.now in
    let notes = c.args.notes.now in
    let place = c.in-Err-BadNote.place in
    let is : IsErrOf c.check_opening.result (BadNote place) = search rules in
    let low = stop_within c.args.rules.now c.args.messages.now (take going.from notes) notes (going_of going) going.from (length notes) place (c.check_opening.ensures.faulty place (take going.from notes) is) c.requires.from in
    omega (arith, low)

pub returns-in-Ok-clause-open : goal.returns-in-Ok-clause-open
returns-in-Ok-clause-open c = c.in-Ok.ensures.lawful (take c.args.going.now.from c.args.notes.now)

pub returns-in-Err-BadNote-clause-faulty : goal.returns-in-Err-BadNote-clause-faulty
returns-in-Err-BadNote-clause-faulty c = λ k is size current.
    let going = c.args.going.now in
    let notes = c.args.notes.now in
    let place = c.in-Err-BadNote.place in
    let same : going.from + place ≡ k = cc in
    let found : IsErrOf c.check_opening.result (BadNote place) = search rules in
    subst (IsFirstRunFault c.args.rules.now size c.args.messages.now notes) same
    (faulty_before c.args.rules.now size c.args.messages.now notes going current (length notes) c.requires.from (omega arith) place (c.check_opening.ensures.faulty place (take going.from notes) found))
