-- The notes tell one end of each message.
use Rattle.std.proofs.Common.{◌≡◌, ℕ, suc, ◌+◌, List, [], ◌∷◌, length, Some, None, refl, sym, ap, ◌∙◌, subst, arith}
use Rattle.std.specs.Prelude.{Option, slice_get}
use Rattle.sms_message.specs.declared.message.Message.{Message}
use Rattle.sms_message.specs.declared.rules.Rules.{Rules}
use Rattle.sms_message.specs.declared.ends.Outcome.{Outcome}
use Rattle.sms_message.specs.declared.ends.Outcome.TheVariants as outs
use Rattle.sms_message.specs.declared.ends.MessageRefusal.{MessageRefusal}
use Rattle.sms_message.specs.Ends.{phase_of}
use Rattle.sms_journal.specs.declared.notes.note.Note.{Note}
use Rattle.sms_message.specs.declared.ends.SegmentEnd.{SegmentEnd}
use Rattle.sms_message.specs.declared.ends.Attempt.{Attempt}
use Rattle.sms_message.specs.declared.ends.MessageResult.{MessageResult}
use Rattle.sms_message.specs.declared.ends.MessageResult.TheVariants.{Sent, Refused}
use Rattle.sms_journal.specs.Recovered.{IsRecoveredSegment, IsRecoveredRefusal, IsRecoveredResult, start_of, answers_of}
use Rattle.sms_core.specs.Replies.{outcome_of}
use Rattle.sms_journal.specs.Laws.{EndsAreUnique}

phase_once : (a b : Outcome) → phase_of a ≡ phase_of b → a ≡ b
phase_once outs.Charged outs.Charged e = refl
phase_once outs.Charged outs.Refused e = absurd (cc)
phase_once outs.Charged outs.Unanswered e = absurd (cc)
phase_once outs.Charged outs.Unsent e = absurd (cc)
phase_once outs.Refused outs.Charged e = absurd (cc)
phase_once outs.Refused outs.Refused e = refl
phase_once outs.Refused outs.Unanswered e = absurd (cc)
phase_once outs.Refused outs.Unsent e = absurd (cc)
phase_once outs.Unanswered outs.Charged e = absurd (cc)
phase_once outs.Unanswered outs.Refused e = absurd (cc)
phase_once outs.Unanswered outs.Unanswered e = refl
phase_once outs.Unanswered outs.Unsent e = absurd (cc)
phase_once outs.Unsent outs.Charged e = absurd (cc)
phase_once outs.Unsent outs.Refused e = absurd (cc)
phase_once outs.Unsent outs.Unanswered e = absurd (cc)
phase_once outs.Unsent outs.Unsent e = refl

refusal_once : (rules : Rules) (m : Message) (o : Option (Option MessageRefusal)) (r s : MessageRefusal) → IsRecoveredRefusal rules m o r → IsRecoveredRefusal rules m o s → r ≡ s
refusal_once rules m None r s h g = h ∙ sym g
refusal_once rules m (Some None) r s h g = h.1 ∙ sym g.1
refusal_once rules m (Some (Some x)) r s h g = h ∙ sym g

part_once : (rules : Rules) (notes : List Note) (m : Message) (p : ℕ) (s t : SegmentEnd (Unit {0})) → IsRecoveredSegment rules notes m p s → IsRecoveredSegment rules notes m p t → s ≡ t
part_once rules notes m p s t h g =
    let cost : s.cost ≡ t.cost = h.cost ∙ sym g.cost in
    let attempts : s.attempts ≡ t.attempts = h.attempts ∙ sym g.attempts in
    let outcome : s.outcome ≡ t.outcome = phase_once s.outcome t.outcome (sym h.outcome ∙ ap (λ (l : List (Attempt (Unit {0}))). outcome_of (answers_of l)) attempts ∙ g.outcome) in
    λ i. record { cost = cost i; attempts = attempts i; outcome = outcome i }

list_once : {X : Type 0} (P : ℕ → X → Type 0) → ((p : ℕ) (x y : X) → P p x → P p y → x ≡ y) → (xs ys : List X) → length xs ≡ length ys
    → ((p : ℕ) (x : X) → slice_get xs p ≡ Some x → P p x) → ((p : ℕ) (x : X) → slice_get ys p ≡ Some x → P p x) → xs ≡ ys
list_once P once [] [] long h g = refl
list_once P once [] (y ∷ ys) long h g = absurd (omega arith)
list_once P once (x ∷ xs) [] long h g = absurd (omega arith)
list_once P once (x ∷ xs) (y ∷ ys) long h g =
    let first : x ≡ y = once 0 x y (h 0 x refl) (g 0 y refl) in
    let rest : xs ≡ ys = list_once (λ p. P (suc p)) (λ p. once (suc p)) xs ys (omega arith) (λ p. h (suc p)) (λ p. g (suc p)) in
    λ i. first i ∷ rest i

never : (rules : Rules) (notes : List Note) (m : Message) (parts : List (SegmentEnd (Unit {0}))) (r : MessageRefusal) → IsRecoveredResult rules notes m (Sent parts) → IsRecoveredResult rules notes m (Refused r) → ⊥
never rules notes m parts r h g = let long : IsRecoveredRefusal rules m (Some None) r = subst (λ (o : Option (Option MessageRefusal)). IsRecoveredRefusal rules m o r) h.begun g in h.short long.0

result_once : (rules : Rules) (notes : List Note) (m : Message) (r s : MessageResult (Unit {0})) → IsRecoveredResult rules notes m r → IsRecoveredResult rules notes m s → r ≡ s
result_once rules notes m (Sent xs) (Sent ys) h g = ap Sent (list_once (λ p. IsRecoveredSegment rules notes m (p + 1)) (λ p. part_once rules notes m (p + 1)) xs ys (h.count ∙ sym g.count) h.each g.each)
result_once rules notes m (Sent xs) (Refused s) h g = absurd (never rules notes m xs s h g)
result_once rules notes m (Refused r) (Sent ys) h g = absurd (never rules notes m ys r g h)
result_once rules notes m (Refused r) (Refused s) h g = ap Refused (refusal_once rules m (start_of notes m.index) r s h g)

pub ends_are_unique : EndsAreUnique
ends_are_unique rules notes m e f h g =
    let index : e.index ≡ f.index = h.index ∙ sym g.index in
    let result : e.result ≡ f.result = result_once rules notes m e.result f.result h.result g.result in
    λ i. record { index = index i; result = result i }
