use Rattle.std.proofs.Common.{rules, ◌≡◌, subst, sym}
use Rattle.std.specs.Prelude.{IsNone}
use Rattle.sms_journal.specs.declared.notes.note.Note.TheVariants.{Begun, Sent, Unsent, Heard, End, Round}
use Rattle.sms_journal.specs.Lawful.{Follows}
use Rattle.sms_journal.proofs.Admitting.{when_no, when_yes}
use Rattle.sms_journal.proofs.Lists.{some_of}
use Rattle.sms_journal.proofs.notes.checking.follows.Goals as goal

pub returns-in-Some-clause-follows : goal.returns-in-Some-clause-follows
returns-in-Some-clause-follows c =
    let note : c.args.note.now ≡ Begun c.in-Begun.index = cc in
    subst (Follows c.args.rules.now c.args.size c.args.messages.now c.args.given.now.indexes.items c.args.before.now) (sym note)
    (some_of _ c.in_ok-count-in-Begun.field-0 c.in-Some.count c.in-Some.is c.in_ok-count-in-Begun.ensures.turn c.args.before.now c.requires.sees, (c.in-Some.count, some_of _ c.in_ok-count-in-Begun.field-0 c.in-Some.count c.in-Some.is c.in_ok-count-in-Begun.ensures.count))

pub returns-in-None-clause-refused : goal.returns-in-None-clause-refused
returns-in-None-clause-refused c = λ none may.
    let note : c.args.note.now ≡ Begun c.in-Begun.index = cc in
    let empty : IsNone c.in_ok-count-in-Begun.field-0 = search rules in
    let h = subst (Follows c.args.rules.now c.args.size c.args.messages.now c.args.given.now.indexes.items c.args.before.now) note may in
    c.in_ok-count-in-Begun.ensures.refused empty c.args.before.now c.requires.sees h.0 h.1.0 h.1.1

pub returns-in-Sent-clause-follows : goal.returns-in-Sent-clause-follows
returns-in-Sent-clause-follows c =
    let note : c.args.note.now ≡ Sent c.in-Sent.request c.in-Sent.index c.in-Sent.part = cc in
    when_yes c.may_send-may.result c.when.result c.when.ensures
    (λ yes. subst (Follows c.args.rules.now c.args.size c.args.messages.now c.args.given.now.indexes.items c.args.before.now) (sym note) ((c.may_send-may.ensures c.args.messages.now c.args.before.now c.requires.sees).0 yes))

pub returns-in-Sent-clause-refused : goal.returns-in-Sent-clause-refused
returns-in-Sent-clause-refused c = λ none may.
    let note : c.args.note.now ≡ Sent c.in-Sent.request c.in-Sent.index c.in-Sent.part = cc in
    when_no c.may_send-may.result c.when.result c.when.ensures none
    ((c.may_send-may.ensures c.args.messages.now c.args.before.now c.requires.sees).1 (subst (Follows c.args.rules.now c.args.size c.args.messages.now c.args.given.now.indexes.items c.args.before.now) note may))

pub returns-in-Unsent-clause-follows : goal.returns-in-Unsent-clause-follows
returns-in-Unsent-clause-follows c =
    let note : c.args.note.now ≡ Unsent c.in-Unsent.request = cc in
    when_yes c.is_open.result c.when-in-Unsent.result c.when-in-Unsent.ensures
    (λ yes. subst (Follows c.args.rules.now c.args.size c.args.messages.now c.args.given.now.indexes.items c.args.before.now) (sym note) ((c.is_open.ensures c.args.rules.now c.args.messages.now c.args.before.now c.requires.sees).0 yes))

pub returns-in-Unsent-clause-refused : goal.returns-in-Unsent-clause-refused
returns-in-Unsent-clause-refused c = λ none may.
    let note : c.args.note.now ≡ Unsent c.in-Unsent.request = cc in
    when_no c.is_open.result c.when-in-Unsent.result c.when-in-Unsent.ensures none
    ((c.is_open.ensures c.args.rules.now c.args.messages.now c.args.before.now c.requires.sees).1 (subst (Follows c.args.rules.now c.args.size c.args.messages.now c.args.given.now.indexes.items c.args.before.now) note may))

pub returns-in-Heard-clause-follows : goal.returns-in-Heard-clause-follows
returns-in-Heard-clause-follows c =
    let note : c.args.note.now ≡ Heard c.in-Heard.by c.in-Heard.reply = cc in
    when_yes c.is_open-in-Heard.result c.when-in-Heard.result c.when-in-Heard.ensures
    (λ yes. subst (Follows c.args.rules.now c.args.size c.args.messages.now c.args.given.now.indexes.items c.args.before.now) (sym note) ((c.is_open-in-Heard.ensures c.args.rules.now c.args.messages.now c.args.before.now c.requires.sees).0 yes))

pub returns-in-Heard-clause-refused : goal.returns-in-Heard-clause-refused
returns-in-Heard-clause-refused c = λ none may.
    let note : c.args.note.now ≡ Heard c.in-Heard.by c.in-Heard.reply = cc in
    when_no c.is_open-in-Heard.result c.when-in-Heard.result c.when-in-Heard.ensures none
    ((c.is_open-in-Heard.ensures c.args.rules.now c.args.messages.now c.args.before.now c.requires.sees).1 (subst (Follows c.args.rules.now c.args.size c.args.messages.now c.args.given.now.indexes.items c.args.before.now) note may))

pub returns-in_ok-may-in-End-clause-follows : goal.returns-in_ok-may-in-End-clause-follows
returns-in_ok-may-in-End-clause-follows c =
    let note : c.args.note.now ≡ End c.in-End.status = cc in
    when_yes c.in_ok-may-in-End.may c.when-in-End.result c.when-in-End.ensures
    (λ yes. subst (Follows c.args.rules.now c.args.size c.args.messages.now c.args.given.now.indexes.items c.args.before.now) (sym note) ((c.in_ok-may-in-End.ensures c.args.size c.requires.sees).0 yes))

pub returns-in_ok-may-in-End-clause-refused : goal.returns-in_ok-may-in-End-clause-refused
returns-in_ok-may-in-End-clause-refused c = λ none may.
    let note : c.args.note.now ≡ End c.in-End.status = cc in
    when_no c.in_ok-may-in-End.may c.when-in-End.result c.when-in-End.ensures none
    ((c.in_ok-may-in-End.ensures c.args.size c.requires.sees).1 (subst (Follows c.args.rules.now c.args.size c.args.messages.now c.args.given.now.indexes.items c.args.before.now) note may))

pub returns-in-Round-clause-refused : goal.returns-in-Round-clause-refused
returns-in-Round-clause-refused c = λ none may.
    let note : c.args.note.now ≡ Round c.in-Round.field-0 c.in-Round.field-1 c.in-Round.field-2 = cc in
    subst (Follows c.args.rules.now c.args.size c.args.messages.now c.args.given.now.indexes.items c.args.before.now) note may
