use Rattle.std.proofs.Common.{rules, ◌≡◌, true, false}
use Rattle.std.specs.Prelude.{IsNone}
use Rattle.sms_journal.proofs.notes.checking.may_begin.Goals as goal

pub returns-then-not-has_turn-clause-refused : goal.returns-then-not-has_turn-clause-refused
returns-then-not-has_turn-clause-refused c = λ none notes sees turn count h.
    let some : c.has_turn.result ≡ true = (c.has_turn.ensures c.args.rules.now c.args.messages.now notes sees).1 turn in
    let no : c.has_turn.result ≡ false = search rules in
    absurd (cc)

pub returns-in-Some-clause-turn : goal.returns-in-Some-clause-turn
returns-in-Some-clause-turn c = λ notes sees.
    let some : c.has_turn.result ≡ true = search rules in
    (c.has_turn.ensures c.args.rules.now c.args.messages.now notes sees).0 some

pub returns-in-None-clause-refused : goal.returns-in-None-clause-refused
returns-in-None-clause-refused c = λ none notes sees turn count h.
    let empty : IsNone c.in_ok-count.field-0 = search rules in
    c.in_ok-count.ensures.none empty count h
