-- A segment whose slot is answered when the turns run out is left without its answer by no event of the core.
use Rattle.std.proofs.Common.{◌≡◌, ℕ, Bool, true, false, List, Option, Some, None, refl, sym, ap, ◌∙◌, subst}
use Rattle.std.specs.Prelude.{◌&&◌, nat_lt, if◌then◌else◌}
use Rattle.std.proofs.lemmas.List.{get_or-set_other}
use Rattle.sms_core.specs.declared.event.Event.{Event}
use Rattle.sms_core.specs.declared.event.Event.TheVariants.{TopUp, Reserve, Claim, Post, Respond, Settle, Expire, Discard, Release}
use Rattle.sms_core.specs.declared.event.Step.TheVariants.{Done}
use Rattle.sms_core.specs.declared.mark.Mark.{Mark}
use Rattle.sms_core.specs.declared.mark.Mark.TheVariants.{Empty as MarkEmpty, Replied}
use Rattle.sms_core.specs.declared.request.Phase.{Phase}
use Rattle.sms_core.specs.declared.request.Phase.TheVariants as phases
use Rattle.sms_core.specs.declared.request.RequestState.{RequestState}
use Rattle.sms_core.specs.CoreLaws.{MovesMark}
use Rattle.sms_core.specs.Histories.{Moment, FromStart}
use Rattle.sms_core.specs.Marks.{opened, replied, expired}
use Rattle.sms_core.specs.Replies.{is_charge, is_retry}
use Rattle.sms_core.specs.State.{State, request_of, mark_of}
use Rattle.sms_core.specs.Steps.{Steps, answered}
use Rattle.sms_core.proofs.Moved.{post_opens, respond_replies, settle_empties, expire_empties}
use Rattle.sms_core.proofs.RequestSteps.{requests_move}
use Rattle.sms_core.proofs.Sound.{sound}
use Rattle.sms_pdu.specs.declared.reply.Reply.{Reply}
use Rattle.sms_slot.specs.declared.slot.Slot.{Slot}
use Rattle.sms_slot.specs.declared.slot.Slot.TheVariants.{Answered}
use Rattle.sms_message.specs.declared.ends.Outcome.TheVariants.{Charged, Refused, Unanswered}
use Rattle.sms_worker.specs.Types.{SegmentEnd}
use Rattle.sms_worker.specs.Events.{Parts, HasMark, HasPhase, LeavingIsNoEvent}
use Rattle.sms_message.specs.Results.{IsSettled}
use Rattle.sms_worker.proofs.Standing.{empty_has, request_in, some_same, not_sent}

replied_mark : (request : ℕ) (slot : Slot) (answer : Option Reply) (mark : Mark) (worker number : ℕ) → slot ≡ Answered worker number → HasMark request slot answer mark
    → (r : Reply) × (mark ≡ Replied request number r.status r.nack)
replied_mark request slot answer mark worker number e m =
    let h = subst (λ (s : Slot). HasMark request s answer mark) e m in
    (h.reply, h.marked)

-- a mark that moves in a way that no reply has is that of another slot
other_moves : (w new : State) (slot at request number status : ℕ) (nack : Bool) (change : Mark → Option Mark) → mark_of w at ≡ Replied request number status nack → change (Replied request number status nack) ≡ None → MovesMark w slot change new
    → mark_of new at ≡ mark_of w at
other_moves w new slot at request number status nack change is none moves =
    moves.1 at (λ same.
    let both : None ≡ Some (mark_of new slot) = sym none ∙ ap change (sym is) ∙ ap (λ k. change (mark_of w k)) same ∙ moves.0 in
    absurd (cc))

-- no done event but its Settle empties an answered slot
not_emptied : (ms : List Moment) (w new : State) (event : Event) (at request number status : ℕ) (nack : Bool) → FromStart ms w → mark_of w at ≡ Replied request number status nack → mark_of new at ≡ MarkEmpty
    → ((worker : ℕ) → Steps w (Settle worker at) Done new → ⊥) → Steps w event Done new → ⊥
not_emptied ms w new event at request number status nack h was now unsettled = go event
  where
    stays : mark_of new at ≡ mark_of w at → ⊥
    stays same = let both : MarkEmpty ≡ Replied request number status nack = sym now ∙ same ∙ was in absurd (cc)

    go : (event : Event) → Steps w event Done new → ⊥
    go (TopUp account amount) s = stays (ap (λ (v : State). mark_of v at) s.1)
    go (Reserve r account cost) s = stays (ap (λ (v : State). mark_of v at) s.1)
    go (Claim worker slot) s =
        let free = (sound ms w h).idle slot s.1.0.0 in
        stays (ap (λ (v : State). mark_of v at) s.1.1
        ∙ get_or-set_other w.marks slot at MarkEmpty MarkEmpty (λ same. let both : MarkEmpty ≡ Replied request number status nack = sym free ∙ ap (mark_of w) (sym same) ∙ was in absurd (cc)))
    go (Post worker slot r) s = stays (other_moves w new slot at request number status nack (opened r w.next) was refl (post_opens ms w new worker slot r h s))
    go (Respond n k b) s = let m = respond_replies w new n k b s in stays (other_moves w new m.0 at request number status nack (replied n k b) was refl m.1)
    go (Settle worker slot) s = stays ((settle_empties w new worker slot s).1 at (λ same. unsettled worker (subst (λ (k : ℕ). Steps w (Settle worker k) Done new) (sym same) s)))
    go (Expire worker slot) s = stays (other_moves w new slot at request number status nack expired was refl (expire_empties w new worker slot s))
    go (Discard r) s = stays (ap (λ (v : State). mark_of v at) s.1)
    go (Release worker slot) s = stays (ap (λ (v : State). mark_of v at) s.1.1)

-- a segment without an answer isn't in a phase that an answer brings
no_such_phase : (b c : Bool) (most : ℕ) (s : SegmentEnd) → IsSettled most s → s.outcome ≡ Unanswered → HasPhase most s (if b then phases.Charged else (if c then phases.Ready else phases.Refused)) → ⊥
no_such_phase true c most s is e h = let both : Charged ≡ Unanswered = sym h.1 ∙ e in absurd (cc)
no_such_phase false true most s is e h = not_sent most s h is e
no_such_phase false false most s is e h = let both : Refused ≡ Unanswered = sym h.1 ∙ e in absurd (cc)

pub leaving_is_no_event : LeavingIsNoEvent
leaving_is_no_event ms w x p q event h st left is =
    let ((name, answered_slot), emptied) = left.takes in
    let was = replied_mark x.request p.slot p.answer (mark_of w x.slot) name left.number answered_slot st.mark in
    let now : mark_of is.after x.slot ≡ MarkEmpty = empty_has x.request q.slot q.answer (mark_of is.after x.slot) emptied is.stand.mark in
    not_emptied ms w is.after event x.slot x.request left.number was.0.status was.0.nack h was.1 now
    (λ worker steps.
    let moved = requests_move ms w is.after (Settle worker x.slot) h steps in
    let r = moved.0 in
    let same : r.request ≡ x.request = ap request_in (sym r.mark ∙ was.1) in
    let there : Some is.stand.state ≡ Some (answered w.attempts r.status r.nack moved.1.state) = sym is.stand.known ∙ ap (request_of is.after) (sym same) ∙ moved.1.after in
    let phase : is.stand.state.phase ≡ (answered w.attempts r.status r.nack moved.1.state).phase = ap (λ (y : RequestState). y.phase) (some_same is.stand.state (answered w.attempts r.status r.nack moved.1.state) there) in
    let segment : q.segment ≡ p.segment = ap (λ (y : Parts). y.segment) left.rest in
    no_such_phase (is_charge r.status r.nack) (is_retry r.status r.nack && nat_lt moved.1.state.attempts w.attempts) x.most p.segment left.settled left.unanswered
    (subst (λ (f : Phase). HasPhase x.most p.segment f) phase (subst (λ (s : SegmentEnd). HasPhase x.most s is.stand.state.phase) segment is.stand.phase)))
    is.steps
