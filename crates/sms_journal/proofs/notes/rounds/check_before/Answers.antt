use Rattle.std.proofs.Common.{rules, ◌≡◌, ◌+◌, subst, take, arith}
use Rattle.std.specs.Prelude.{IsErrOf}
use Rattle.sms_journal.specs.declared.error.JournalError.TheVariants.{BadNote}
use Rattle.sms_journal.specs.Going.{going_of}
use Rattle.sms_journal.specs.Rounds.{IsFirstRunFault}
use Rattle.sms_journal.proofs.Passing.{faulty_before, lawful_before, stop_within}
use Rattle.sms_journal.proofs.Rounds.{behind_between}
use Rattle.sms_journal.proofs.notes.rounds.check_before.Goals as goal

pub check_current-requires-clause-behind : goal.check_current-requires-clause-behind
check_current-requires-clause-behind c = behind_between c.args.notes.now c.args.going.now.from c.args.to c.requires.from c.requires.to

pub overflow_add-result : goal.overflow_add-result
overflow_add-result c =
    let going = c.args.going.now in
    let place = c.in-Err-BadNote.place in
    let is : IsErrOf c.check_current.result (BadNote place) = search rules in
    let low = stop_within c.args.rules.now c.args.messages.now (take going.from c.args.notes.now) c.args.notes.now (going_of going) going.from c.args.to place (c.check_current.ensures.faulty place is) c.requires.from in
    let fits = c.ranges.to in
    omega (arith, low, fits.fits)

pub returns-in-Ok-clause-lawful : goal.returns-in-Ok-clause-lawful
returns-in-Ok-clause-lawful c = λ size current.
    lawful_before c.args.rules.now size c.args.messages.now c.args.notes.now c.args.going.now current c.args.to c.requires.from c.requires.to c.in-Ok.ensures.lawful

pub returns-in-Err-BadNote-clause-faulty : goal.returns-in-Err-BadNote-clause-faulty
returns-in-Err-BadNote-clause-faulty c = λ k is size current.
    let going = c.args.going.now in
    let place = c.in-Err-BadNote.place in
    let same : going.from + place ≡ k = cc in
    let found : IsErrOf c.check_current.result (BadNote place) = search rules in
    subst (IsFirstRunFault c.args.rules.now size c.args.messages.now c.args.notes.now) same
    (faulty_before c.args.rules.now size c.args.messages.now c.args.notes.now going current c.args.to c.requires.from c.requires.to place (c.check_current.ensures.faulty place found))
