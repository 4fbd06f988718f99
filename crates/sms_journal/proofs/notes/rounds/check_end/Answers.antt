use Rattle.std.proofs.Common.{rules, ◌≡◌, ◌+◌, ◌∙◌, List, Some, take, true, false, sym, subst, arith}
use Rattle.std.specs.Prelude.{slice_get}
use Rattle.sms_journal.specs.declared.notes.note.Note.{Note}
use Rattle.sms_journal.specs.declared.notes.note.Note.TheVariants.{End}
use Rattle.sms_journal.specs.Going.{IsFirstStop, going_of, noted_all}
use Rattle.sms_journal.specs.Lawful.{end_in}
use Rattle.sms_journal.specs.Rounds.{MayEndRun}
use Rattle.sms_journal.proofs.Ended.{known_before}
use Rattle.sms_journal.proofs.Lists.{got_at}
use Rattle.sms_journal.proofs.Passing.{end_is, front_of, some_at}
use Rattle.sms_journal.proofs.Rounds.{behind_end, ended, not_ended}
use Rattle.sms_journal.proofs.notes.rounds.check_end.Goals as goal

pub may_end_run-requires-clause-known : goal.may_end_run-requires-clause-known
may_end_run-requires-clause-known c =
    let a = c.args in
    let going = a.going.now in
    let round = a.round.now in
    let n = c.index-round-end.result in
    let status = c.in-Some.status in
    let says : end_in n ≡ Some status = sym c.status_in.ensures ∙ c.in-Some.is in
    let there : slice_get round a.end ≡ Some (End status) = subst (λ (m : Note). slice_get round a.end ≡ Some m) (end_is n status says) (got_at round a.end n (omega arith) c.index-round-end.is) in
    let known = c.ends_before-known in
    known_before a.rules.now a.messages.now a.notes.now round going.from a.end status a.ends known.result c.requires.behind c.requires.from there c.requires.ends known.ensures.same known.ensures.last

pub returns-then-not-branch-clause-faulty : goal.returns-then-not-branch-clause-faulty
returns-then-not-branch-clause-faulty c = λ k is front.
    let a = c.args in
    let going = a.going.now in
    let round = a.round.now in
    let n = c.index-round-end.result in
    let status = c.in-Some.status in
    let says : end_in n ≡ Some status = sym c.status_in.ensures ∙ c.in-Some.is in
    let there : slice_get round a.end ≡ Some (End status) = subst (λ (m : Note). slice_get round a.end ≡ Some m) (end_is n status says) (got_at round a.end n (omega arith) c.index-round-end.is) in
    let same : a.end ≡ k = cc in
    let before = front_of a.notes.now round going.from a.end c.requires.behind c.requires.from c.requires.end.within in
    subst (IsFirstStop a.rules.now a.messages.now (take going.from a.notes.now) (going_of going) round) same
    (not_ended a.rules.now a.messages.now (take going.from a.notes.now) going.number going.size going.given.indexes.items round a.end status c.requires.one there
    (λ may.
    let its = subst (λ (l : List Note). MayEndRun a.rules.now a.messages.now l (noted_all (going_of going) (take a.end round)) status) (sym before) may in
    let yes : c.in_ok-may_end_run.field-0 ≡ true = c.in_ok-may_end_run.ensures.1 its in
    let no : c.in_ok-may_end_run.field-0 ≡ false = search rules in
    absurd (cc))
    front)

pub returns-then-end-round-2-clause-faulty : goal.returns-then-end-round-2-clause-faulty
returns-then-end-round-2-clause-faulty c = λ k is front.
    let a = c.args in
    let going = a.going.now in
    let round = a.round.now in
    let n = c.index-round-end.result in
    let status = c.in-Some.status in
    let says : end_in n ≡ Some status = sym c.status_in.ensures ∙ c.in-Some.is in
    let there : slice_get round a.end ≡ Some (End status) = subst (λ (m : Note). slice_get round a.end ≡ Some m) (end_is n status says) (got_at round a.end n (omega arith) c.index-round-end.is) in
    let same : a.end + 1 ≡ k = cc in
    let before = front_of a.notes.now round going.from a.end c.requires.behind c.requires.from c.requires.end.within in
    let yes : c.in_ok-may_end_run.field-0 ≡ true = search rules in
    let may = subst (λ (l : List Note). MayEndRun a.rules.now a.messages.now l (noted_all (going_of going) (take a.end round)) status) before (c.in_ok-may_end_run.ensures.0 yes) in
    let next = some_at round (a.end + 1) (omega (arith, c.if-end-round-2.true)) in
    subst (IsFirstStop a.rules.now a.messages.now (take going.from a.notes.now) (going_of going) round) same
    (behind_end a.rules.now a.messages.now (take going.from a.notes.now) going.number going.size going.given.indexes.items round a.end status next.0 c.requires.one c.requires.end.before there next.1 may front)

pub returns-clause-lawful : goal.returns-clause-lawful
returns-clause-lawful c = λ front.
    let a = c.args in
    let going = a.going.now in
    let round = a.round.now in
    let n = c.index-round-end.result in
    let status = c.in-Some.status in
    let says : end_in n ≡ Some status = sym c.status_in.ensures ∙ c.in-Some.is in
    let there : slice_get round a.end ≡ Some (End status) = subst (λ (m : Note). slice_get round a.end ≡ Some m) (end_is n status says) (got_at round a.end n (omega arith) c.index-round-end.is) in
    let before = front_of a.notes.now round going.from a.end c.requires.behind c.requires.from c.requires.end.within in
    let yes : c.in_ok-may_end_run.field-0 ≡ true = search rules in
    let may = subst (λ (l : List Note). MayEndRun a.rules.now a.messages.now l (noted_all (going_of going) (take a.end round)) status) before (c.in_ok-may_end_run.ensures.0 yes) in
    ended a.rules.now a.messages.now (take going.from a.notes.now) going.number going.size going.given.indexes.items round a.end status c.requires.one there (omega (arith, c.if-end-round-2.false)) may front
