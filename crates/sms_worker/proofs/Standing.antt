-- What stands before and after an event: what its checks see, a slot's mark and a request's phase.
use Rattle.std.proofs.Common.{◌≡◌, ℕ, zero, suc, ◌<◌, ◌≤◌, ◌==◌, ◌&&◌, ◌||◌, not, Bool, true, false, List, [], ◌∷◌, ◌++◌, length, set, get_or, Option, Some, None, inl, inr, refl, sym, ap, ◌∙◌, subst, arith, eq-eqb, ne_eqb}
use Rattle.std.specs.Prelude.{◌⊎◌, if◌then◌else◌}
use Rattle.std.proofs.lemmas.Bool.{eqb-true, true≢false}
use Rattle.sms_core.specs.declared.event.Cause.{Cause}
use Rattle.sms_core.specs.declared.mark.Mark.{Mark}
use Rattle.sms_core.specs.declared.mark.Mark.TheVariants.{Empty as MarkEmpty, Open as MarkOpen, Replied}
use Rattle.sms_core.specs.declared.request.Phase.{Phase}
use Rattle.sms_core.specs.declared.request.Phase.TheVariants as phases
use Rattle.sms_core.specs.declared.request.RequestState.{RequestState}
use Rattle.sms_core.specs.declared.row.Row.{Row}
use Rattle.sms_core.specs.Marks.{waits_for}
use Rattle.sms_core.specs.Renaming.{without, AreWorkers}
use Rattle.sms_core.specs.Replies.{outcome_of, is_charge}
use Rattle.sms_core.specs.RowMoves.{row_given_back, row_after}
use Rattle.sms_core.specs.State.{State, request_of, is_pair, times_held}
use Rattle.sms_core.specs.Steps.{first_cause, some_waits_for, is_ready_state, is_ready_phase}
use Rattle.sms_core.proofs.Passed.{AllPassed}
use Rattle.sms_core.proofs.Renaming.{weigh-renamed, weigh-without, weigh-le, kept}
use Rattle.sms_pdu.specs.declared.reply.Reply.{Reply}
use Rattle.sms_session.specs.declared.policy.Decision.TheVariants.{Charge, RetryAfter, Refuse}
use Rattle.sms_slot.specs.declared.slot.Slot.{Slot}
use Rattle.sms_slot.specs.declared.slot.Slot.TheVariants.{Empty}
use Rattle.sms_book.specs.Portions.{of_worker, of_row}
use Rattle.sms_book.specs.Sums.{MovesBy}
use Rattle.sms_message.specs.declared.ends.Outcome.{Outcome}
use Rattle.sms_message.specs.declared.ends.Outcome.TheVariants.{Charged, Refused, Unanswered, Unsent}
use Rattle.sms_worker.specs.Types.{Attempt, SegmentEnd}
use Rattle.sms_message.specs.Ends.{phase_of}
use Rattle.sms_worker.specs.Events.{Parts, HasMark, HasPhase, AreReserved, row_settled, amounts_settled}
use Rattle.sms_worker.specs.Steps.{outcome_after, with_outcome, given_outcome}
use Rattle.sms_message.specs.Results.{IsSettled, IsWaiting, answers, read_reply}
use Rattle.sms_worker.proofs.Tries.{answers_snoc, outcome_snoc, answered_phase, given_state}

-- checks

pub none_of : (cs : List (Bool × Cause)) → AllPassed cs → first_cause cs ≡ None
none_of [] a = refl
none_of ((true, c) ∷ cs) a = absurd (true≢false a.0)
none_of ((false, c) ∷ cs) a = none_of cs a.1

pub kept_one : (o a b s : Bool) → (a ≡ true → (o ≡ false) × (b ≡ true)) → (if a && s then 1 else 0) ≤ (if o then 0 else (if b && s then 1 else 0))
kept_one o false b s is = omega arith
kept_one true true b s is = absurd (true≢false ((is refl).0))
kept_one false true false s is = absurd (true≢false (sym (is refl).1))
kept_one false true true true is = omega arith
kept_one false true true false is = omega arith

-- the worker that a seat is has the seat's slot
pub held_named : (name : ℕ → ℕ) (is_out : ℕ → Bool) (h slot : ℕ) (ps : List (ℕ × ℕ)) (w : State) → AreWorkers name is_out ps w → is_out h ≡ false → 1 ≤ times_held h slot ps
    → (times_held (name h) slot w.holds == 0) ≡ false
held_named name is_out h slot ps w a stays held =
    ne_eqb (times_held (name h) slot w.holds) 0 (λ none.
    let same = a.same (is_pair (name h) slot) in
    let one = weigh-renamed name (is_pair (name h) slot) (without is_out ps) in
    let two = weigh-without is_out (λ p. is_pair (name h) slot (name p.0, p.1)) ps in
    let le = weigh-le (is_pair h slot) (kept is_out (λ p. is_pair (name h) slot (name p.0, p.1)))
    (λ p. kept_one (is_out p.0) (p.0 == h) (name p.0 == name h) (p.1 == slot) (λ e. let is = eqb-true p.0 h e in (ap is_out is ∙ stays, eq-eqb (name p.0) (name h) (ap name is)))) ps in
    absurd (omega arith))

-- marks

pub empty_has : (request : ℕ) (slot : Slot) (answer : Option Reply) (mark : Mark) → slot ≡ Empty → HasMark request slot answer mark → mark ≡ MarkEmpty
empty_has request slot answer mark e m = subst (λ (s : Slot). HasMark request s answer mark) e m

pub has_empty : (request : ℕ) (slot : Slot) (answer : Option Reply) (mark : Mark) → slot ≡ Empty → mark ≡ MarkEmpty → HasMark request slot answer mark
has_empty request slot answer mark e m = subst (λ (s : Slot). HasMark request s answer mark) (sym e) m

pub set_empty : (ms : List Mark) (i : ℕ) → get_or (set ms i MarkEmpty) i MarkEmpty ≡ MarkEmpty
set_empty [] i = refl
set_empty (m ∷ ms) zero = refl
set_empty (m ∷ ms) (suc i) = set_empty ms i

pub marked_inside : (ms : List Mark) (slot request number : ℕ) → get_or ms slot MarkEmpty ≡ MarkOpen request number → slot < length ms
marked_inside [] slot request number e = absurd (cc)
marked_inside (m ∷ ms) zero request number e = omega arith
marked_inside (m ∷ ms) (suc slot) request number e = let rest = marked_inside ms slot request number e in omega arith

pub or_true : (a b : Bool) → b ≡ true → (a || b) ≡ true
or_true true b e = refl
or_true false b e = e

pub some_waits : (ms : List Mark) (slot request number : ℕ) → get_or ms slot MarkEmpty ≡ MarkOpen request number → some_waits_for number ms ≡ true
some_waits [] slot request number e = absurd (cc)
some_waits (m ∷ ms) zero request number e =
    let waits : waits_for number m ≡ true = ap (waits_for number) e ∙ eq-eqb number number refl in
    ap (λ (b : Bool). b || some_waits_for number ms) waits
some_waits (m ∷ ms) (suc slot) request number e = or_true (waits_for number m) (some_waits_for number ms) (some_waits ms slot request number e)

-- what a mark tells
abbrev pub request_in : Mark → ℕ
request_in MarkEmpty = 0
request_in (MarkOpen r n) = r
request_in (Replied r n s k) = r

abbrev pub status_in : Mark → ℕ
status_in MarkEmpty = 0
status_in (MarkOpen r n) = 0
status_in (Replied r n s k) = s

abbrev pub nack_in : Mark → Bool
nack_in MarkEmpty = false
nack_in (MarkOpen r n) = false
nack_in (Replied r n s k) = k

pub some_same : {X : Type 0} (x y : X) → Some x ≡ Some y → x ≡ y
some_same x y e = cc

-- phases

pub given_is : (xs : List Attempt) → phase_of (given_outcome xs) ≡ phases.Unanswered → ⊥
given_is [] e = cc
given_is (x ∷ xs) e = cc

-- a segment that waits isn't settled as one that was sent and not answered
pub not_sent : (most : ℕ) (s : SegmentEnd) → IsWaiting most s → IsSettled most s → s.outcome ≡ Unanswered → ⊥
not_sent most s w h e =
    let given = given_state s (record { cost = s.cost; attempts = s.attempts; outcome = given_outcome s.attempts }) refl refl most w in
    given_is s.attempts (sym given.outcome ∙ h.outcome ∙ ap phase_of e)

pub is_ready : (most : ℕ) (s : SegmentEnd) (phase : Phase) → IsWaiting most s → HasPhase most s phase → phase ≡ phases.Ready
is_ready most s phases.Ready w h = refl
is_ready most s phases.Open w h = absurd (not_sent most s w h.0 h.1)
is_ready most s phases.Charged w h = let both : Charged ≡ Unanswered = sym h.1 ∙ w.outcome in absurd (cc)
is_ready most s phases.Refused w h = let both : Refused ≡ Unanswered = sym h.1 ∙ w.outcome in absurd (cc)
is_ready most s phases.Unanswered w h = absurd (not_sent most s w h.0 h.1)
is_ready most s phases.Unsent w h = let both : Unsent ≡ Unanswered = sym h.1 ∙ w.outcome in absurd (cc)

pub is_not_unready : (w : State) (request : ℕ) (s : RequestState) → request_of w request ≡ Some s → s.phase ≡ phases.Ready → not (is_ready_state (request_of w request)) ≡ false
is_not_unready w request s known ready = ap (λ (o : Option RequestState). not (is_ready_state o)) known ∙ ap (λ (p : Phase). not (is_ready_phase p)) ready

-- the phase after an answer
pub decided_phase : (b c : Bool) (ms most : ℕ) (front : List Attempt) (last : Attempt) (r : Reply) (s : SegmentEnd) → last.reply ≡ Some r → s.attempts ≡ front ++ last ∷ []
    → IsSettled most (with_outcome (outcome_after (if b then Charge else (if c then RetryAfter ms else Refuse))) s) ⊎ IsWaiting most (with_outcome (outcome_after (if b then Charge else (if c then RetryAfter ms else Refuse))) s)
    → HasPhase most (with_outcome (outcome_after (if b then Charge else (if c then RetryAfter ms else Refuse))) s) (if b then phases.Charged else (if c then phases.Ready else phases.Refused))
decided_phase true c ms most front last r s is e state = elim state [
  | inl h ↦ (h, refl)
  | inr h ↦ (let both : Charged ≡ Unanswered = h.outcome in absurd (cc))
]
decided_phase false true ms most front last r s is e state = elim state [
  | inl h ↦ (let all : answers s.attempts ≡ answers front ++ read_reply (Some r) ∷ [] = ap answers e ∙ answers_snoc front last ∙ ap (λ x. answers front ++ read_reply x ∷ []) is in
      absurd (answered_phase (is_charge r.status r.nack) (sym (ap outcome_of all ∙ outcome_snoc (answers front) (read_reply (Some r))) ∙ h.outcome)))
  | inr h ↦ h
]
decided_phase false false ms most front last r s is e state = elim state [
  | inl h ↦ (h, refl)
  | inr h ↦ (let both : Refused ≡ Unanswered = h.outcome in absurd (cc))
]

pub decided_row : (b c : Bool) (ms cost : ℕ) (row : Row)
    → row_after (if b then phases.Charged else (if c then phases.Ready else phases.Refused)) cost row ≡ row_settled (outcome_after (if b then Charge else (if c then RetryAfter ms else Refuse))) cost row
decided_row true c ms cost row = refl
decided_row false true ms cost row = refl
decided_row false false ms cost row = refl

pub given_row : (xs : List Attempt) (cost : ℕ) (row : Row) → row_given_back cost row ≡ row_settled (given_outcome xs) cost row
given_row [] cost row = refl
given_row (x ∷ xs) cost row = refl

pub given_phase : (most : ℕ) (xs : List Attempt) (s : SegmentEnd) → IsSettled most s → s.outcome ≡ given_outcome xs → HasPhase most s (if length xs == 0 then phases.Unsent else phases.Refused)
given_phase most [] s h e = (h, e)
given_phase most (x ∷ xs) s h e =
    subst (λ (b : Bool). HasPhase most s (if b then phases.Unsent else phases.Refused)) (sym (ne_eqb (length (x ∷ xs)) 0 (λ z. omega (arith, z)))) (h, e)

pub credits_move : (o : Outcome) (p : Parts) → AreReserved p
    → MovesBy (of_worker p.amounts) (of_worker (amounts_settled o p.segment.cost p.amounts)) (of_row p.row) (of_row (row_settled o p.segment.cost p.row))
credits_move Charged p a = let few = a.0 in let more = a.1 in record { topped = omega arith; reserved = omega arith; charged = omega arith; returned = omega arith }
credits_move Refused p a = let few = a.0 in let more = a.1 in record { topped = omega arith; reserved = omega arith; charged = omega arith; returned = omega arith }
credits_move Unanswered p a = record { topped = omega arith; reserved = omega arith; charged = omega arith; returned = omega arith }
credits_move Unsent p a = let few = a.0 in let more = a.1 in record { topped = omega arith; reserved = omega arith; charged = omega arith; returned = omega arith }
