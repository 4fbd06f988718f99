use Rattle.std.proofs.Common.{rules, ◌≡◌, ◌↔◌, List, true, false}
use Rattle.std.specs.Prelude.{Bool, IsTrue}
use Rattle.std.proofs.lemmas.Result.{IfOk-weaker}
use Rattle.sms_journal.specs.declared.notes.note.Note.{Note}
use Rattle.sms_journal.specs.Lawful.{HasRefusal, HasTurn}
use Rattle.sms_journal.specs.Seen.{Sees}
use Rattle.sms_journal.proofs.notes.checking.may_refuse.Goals as goal

pub returns-then-not-has_turn : goal.returns-then-not-has_turn
returns-then-not-has_turn c = λ notes sees. (
  (λ e. absurd (cc)),
  (λ h.
      let some : c.has_turn.result ≡ true = (c.has_turn.ensures c.args.rules.now c.args.messages.now notes sees).1 h.0 in
      let none : c.has_turn.result ≡ false = search rules in
      absurd (cc)),
)

pub returns : goal.returns
returns c =
    let some : c.has_turn.result ≡ true = search rules in
    let rs = c.args.rules.now in
    let size = c.args.size in
    let ms = c.args.messages.now in
    let has = HasRefusal rs size ms c.args.index c.args.refusal in
    IfOk-weaker c.has_refusal.result (λ (may : Bool). IsTrue may ↔ has)
    (λ (may : Bool). (notes : List Note) → Sees rs size ms notes c.args.seen.now → IsTrue may ↔ (HasTurn size c.args.given.now.indexes.items notes c.args.index × has))
    (λ may h notes sees. ((λ e. ((c.has_turn.ensures rs ms notes sees).0 some, h.0 e)), (λ g. h.1 g.1))) c.has_refusal.ensures
