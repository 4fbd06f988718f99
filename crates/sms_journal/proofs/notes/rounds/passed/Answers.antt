use Rattle.std.proofs.Common.{rules, ◌≡◌, ◌+◌, Some, None, Err, ap, ℕ, true, false, sym, subst, take, arith}
use Rattle.sms_journal.specs.declared.notes.run_size.RunSize.{RunSize}
use Rattle.sms_journal.specs.declared.error.JournalError.{JournalError}
use Rattle.sms_journal.specs.declared.error.JournalError.TheVariants.{BadNote}
use Rattle.sms_journal.specs.Going.{AreOfOneRound, IsCurrent, between}
use Rattle.sms_journal.specs.Rounds.{IsFirstRunFault, IsRunJournal, round_in}
use Rattle.sms_journal.proofs.Lists.{got_at}
use Rattle.sms_journal.proofs.Passing.{goes_next, not_next}
use Rattle.sms_journal.proofs.Rounds.{between_more, none_between}
use Rattle.sms_journal.proofs.notes.rounds.passed.Goals as goal

pub returns-in_default-clause-one : goal.returns-in_default-clause-one
returns-in_default-clause-one c =
    let n = c.index-notes-place.result in
    let there = got_at c.args.notes.now c.args.place n (omega arith) c.index-notes-place.is in
    let free : round_in n ≡ None = search rules in
    between_more c.args.notes.now c.args.going.from c.args.place n c.requires.from there free c.requires.one

pub returns-in-Err-clause-faulty : goal.returns-in-Err-clause-faulty
returns-in-Err-clause-faulty c = λ k is size current. let same : c.in-Err.error ≡ BadNote k = cc in c.in-Err.ensures.faulty k (ap (λ (e : JournalError). Err e) same) size current

pub returns-then-not-is_next-clause-faulty : goal.returns-then-not-is_next-clause-faulty
returns-then-not-is_next-clause-faulty c = λ k is size current.
    let a = c.args in
    let n = c.index-notes-place.result in
    let there = got_at a.notes.now a.place n (omega arith) c.index-notes-place.is in
    let begins : round_in n ≡ Some (c.in-Some.number, c.in-Some.binds, c.in-Some.workers) = search rules in
    let lawful : (z : RunSize) → IsCurrent a.rules.now z a.messages.now a.notes.now a.going → IsRunJournal a.rules.now z a.messages.now (take a.place a.notes.now) = search rules in
    let same : a.place ≡ k = cc in
    subst (IsFirstRunFault a.rules.now size a.messages.now a.notes.now) same
    (not_next a.rules.now size a.messages.now a.notes.now a.going current a.place c.requires.from c.requires.one n c.in-Some.number c.in-Some.binds c.in-Some.workers there begins (lawful size current)
    (λ next.
    let yes : c.is_next.result ≡ true = c.is_next.ensures.1 next in
    let no : c.is_next.result ≡ false = search rules in
    absurd (cc)))

pub returns-in-Ok-clause-current : goal.returns-in-Ok-clause-current
returns-in-Ok-clause-current c = λ size current.
    let a = c.args in
    let n = c.index-notes-place.result in
    let there = got_at a.notes.now a.place n (omega arith) c.index-notes-place.is in
    let begins : round_in n ≡ Some (c.in-Some.number, c.in-Some.binds, c.in-Some.workers) = search rules in
    let lawful : (z : RunSize) → IsCurrent a.rules.now z a.messages.now a.notes.now a.going → IsRunJournal a.rules.now z a.messages.now (take a.place a.notes.now) = search rules in
    let yes : c.is_next.result ≡ true = search rules in
    goes_next a.rules.now size a.messages.now a.notes.now a.going current a.place c.requires.from c.requires.one n c.in-Some.number c.in-Some.binds c.in-Some.workers c.in-Ok.next there begins (lawful size current) (c.is_next.ensures.0 yes)
    c.in-Ok.ensures.from c.in-Ok.ensures.next (c.in-Ok.ensures.given a.messages.now c.requires.given)

pub returns-in-Ok-clause-one : goal.returns-in-Ok-clause-one
returns-in-Ok-clause-one c = subst (λ (k : ℕ). AreOfOneRound (between k (c.args.place + 1) c.args.notes.now)) (sym c.in-Ok.ensures.from) (none_between c.args.notes.now (c.args.place + 1))
