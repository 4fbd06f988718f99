use Rattle.std.proofs.Common.{rules, ◌≡◌, ◌+◌, List, length, subst, take, arith}
use Rattle.std.specs.Prelude.{IsErrOf}
use Rattle.sms_files.proofs.Lists.{take_whole}
use Rattle.sms_journal.specs.declared.error.JournalError.TheVariants.{BadNote}
use Rattle.sms_journal.specs.declared.notes.note.Note.{Note}
use Rattle.sms_journal.specs.Going.{going_of}
use Rattle.sms_journal.specs.Rounds.{IsFirstRunFault, IsRunJournal}
use Rattle.sms_journal.proofs.Passing.{faulty_before, lawful_before, stop_within}
use Rattle.sms_journal.proofs.Rounds.{behind_between}
use Rattle.sms_journal.proofs.notes.run_check.check_last.Goals as goal

pub check_end-requires-clause-behind : goal.check_end-requires-clause-behind
check_end-requires-clause-behind c = behind_between c.args.notes.now c.args.last.now.going.from (length c.args.notes.now) c.requires.last.within (omega arith)

pub overflow_add-result : goal.overflow_add-result
overflow_add-result c =
    let going = c.args.last.now.going in
    let notes = c.args.notes.now in
    let place = c.in-Err-BadNote.place in
    let is : IsErrOf c.check_end.result (BadNote place) = search rules in
    let low = stop_within c.args.rules.now c.args.messages.now (take going.from notes) notes (going_of going) going.from (length notes) place (c.check_end.ensures.faulty place is c.requires.last.goes) c.requires.last.within in
    omega (arith, low)

pub returns-in-Ok-clause-lawful : goal.returns-in-Ok-clause-lawful
returns-in-Ok-clause-lawful c = λ size current.
    let going = c.args.last.now.going in
    let notes = c.args.notes.now in
    subst (λ (l : List Note). IsRunJournal c.args.rules.now size c.args.messages.now l) (take_whole notes (length notes) (omega arith))
    (lawful_before c.args.rules.now size c.args.messages.now notes going current (length notes) c.requires.last.within (omega arith) (c.in-Ok.ensures.lawful c.requires.last.goes))

pub returns-in-Err-BadNote-clause-faulty : goal.returns-in-Err-BadNote-clause-faulty
returns-in-Err-BadNote-clause-faulty c = λ k is size current.
    let going = c.args.last.now.going in
    let notes = c.args.notes.now in
    let place = c.in-Err-BadNote.place in
    let same : going.from + place ≡ k = cc in
    let found : IsErrOf c.check_end.result (BadNote place) = search rules in
    subst (IsFirstRunFault c.args.rules.now size c.args.messages.now notes) same
    (faulty_before c.args.rules.now size c.args.messages.now notes going current (length notes) c.requires.last.within (omega arith) place (c.check_end.ensures.faulty place found c.requires.last.goes))
