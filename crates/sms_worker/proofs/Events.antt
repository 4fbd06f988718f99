-- The changes of one attempt are the core's events.
use Rattle.std.proofs.Common.{◌≡◌, ℕ, ◌+◌, ◌≤◌, ◌==◌, ◌&&◌, not, nat_lt, List, [], ◌∷◌, ◌++◌, length, set, Some, None, refl, sym, ap, ◌∙◌, subst, arith}
use Rattle.std.specs.Prelude.{slice_get, if◌then◌else◌}
use Rattle.std.proofs.lemmas.Bool.{le-ltb}
use Rattle.std.proofs.lemmas.List.{get_or-set_same}
use Rattle.std.proofs.lemmas.Option.{slice_get-get_or}
use Rattle.sms_core.specs.declared.event.Event.TheVariants.{Claim, Post, Respond, Settle, Expire, Discard, Release}
use Rattle.sms_core.specs.declared.event.Step.TheVariants.{Done}
use Rattle.sms_core.specs.declared.mark.Mark.{Mark}
use Rattle.sms_core.specs.declared.mark.Mark.TheVariants.{Empty as MarkEmpty, Open as MarkOpen, Replied}
use Rattle.sms_core.specs.declared.request.Phase.TheVariants as phases
use Rattle.sms_core.specs.declared.request.RequestState.{RequestState}
use Rattle.sms_core.specs.Limits.{top_number}
use Rattle.sms_core.specs.Marks.{is_empty, is_open, opened}
use Rattle.sms_core.specs.Replies.{is_charge, is_retry}
use Rattle.sms_core.specs.RowMoves.{row_given_back, row_after}
use Rattle.sms_core.specs.State.{State, rows, request_of, mark_of, changed}
use Rattle.sms_core.specs.Steps.{Steps, Settles, Expires as ExpiresMark, checks, posted, answered, with_phase, phase_after, discarded}
use Rattle.sms_core.proofs.Drawn.{post_draws}
use Rattle.sms_core.proofs.Moved.{post_opens}
use Rattle.sms_core.proofs.Named.{find_changed}
use Rattle.sms_core.proofs.Done.{claim_done, release_done}
use Rattle.sms_core.proofs.Renaming.{claim_is_workers, release_is_workers}
use Rattle.sms_core.proofs.RequestSteps.{requests_move}
use Rattle.sms_core.proofs.RowSteps.{rows_move}
use Rattle.sms_core.specs.StepLaws.{DrawsNumber, SameRows, SameRequests, RowStep, RequestStep}
use Rattle.sms_pdu.specs.declared.reply.Reply.{Reply}
use Rattle.sms_session.specs.Decisions.{decided, delay}
use Rattle.sms_slot.specs.declared.slot.Slot.{Slot}
use Rattle.sms_slot.specs.declared.slot.Slot.TheVariants.{Answered}
use Rattle.sms_book.specs.Portions.{of_worker, of_row}
use Rattle.sms_book.specs.Sums.{MovesBy}
use Rattle.sms_message.specs.declared.ends.Outcome.{Outcome}
use Rattle.sms_worker.specs.Types.{Attempt, SegmentEnd}
use Rattle.sms_worker.specs.Events.{Parts, HasMark, HasPhase, row_settled, IsEvent, ClaimIsEvent, SendingIsEvent, AnswerIsEvent, DecisionIsEvent, ExpiryIsEvent, GivingUpIsEvent, ReleaseIsEvent}
use Rattle.sms_worker.specs.Steps.{outcome_after, with_outcome}
use Rattle.sms_worker.proofs.Tries.{length-snoc, sent_state}
use Rattle.sms_worker.proofs.Standing.{none_of, held_named, empty_has, has_empty, set_empty, marked_inside, some_waits, request_in, status_in, nack_in, some_same, is_ready, is_not_unready, decided_phase, decided_row, given_row, given_phase, credits_move}

-- the events

pub claim_is_event : ClaimIsEvent
claim_is_event ms w x p q h st c =
    let k = claim_is_workers x.name x.is_out p.pairs q.pairs x.seat x.slot w st.seats c.worker c.inside c.claims in
    let event = Claim (x.name x.seat) x.slot in
    let e = (claim_done w k.after (x.name x.seat) x.slot k.steps).after in
    let rows_same : SameRows w k.after = rows_move ms w k.after event h k.steps in
    let requests_same : SameRequests w k.after = requests_move ms w k.after event h k.steps in
    let mark : mark_of k.after x.slot ≡ MarkEmpty = ap (λ (s : State). mark_of s x.slot) e ∙ set_empty w.marks x.slot in
    subst (λ (y : Parts). IsEvent x w event y) (sym c.rest) record {
      after = k.after;
      steps = k.steps;
      stand = record {
        most = ap (λ (s : State). s.attempts) e ∙ st.most;
        seats = k.workers;
        next = st.next ∙ sym (ap (λ (s : State). s.next) e);
        mark = has_empty x.request p.slot p.answer (mark_of k.after x.slot) c.empty mark;
        row = rows_same x.account ∙ st.row;
        state = st.state;
        known = requests_same x.request ∙ st.known;
        account = st.account;
        cost = st.cost;
        attempts = st.attempts;
        phase = st.phase;
      };
    }

pub sending_is_event : SendingIsEvent
sending_is_event ms w x p q h st c =
    let worker = x.name x.seat in
    let event = Post worker x.slot x.request in
    let held = held_named x.name x.is_out x.seat x.slot p.pairs w st.seats c.held.0 c.held.1 in
    let empty = empty_has x.request p.slot p.answer (mark_of w x.slot) c.empty st.mark in
    let ready = is_ready x.most p.segment st.state.phase c.waits st.phase in
    let lawful = subst (λ (n : ℕ). n ≤ top_number) st.next c.lawful in
    let after : State = record w { marks = set w.marks x.slot (MarkOpen x.request w.next); requests = changed x.request posted w.requests; next = w.next + 1 } in
    let steps : Steps w event Done after = (
      none_of (checks w event) (held, (ap (λ (m : Mark). not (is_empty m)) empty, (is_not_unready w x.request st.state st.known ready, (le-ltb top_number w.next lawful, tt)))),
      refl,
    ) in
    let both : Some (MarkOpen x.request w.next) ≡ Some (mark_of after x.slot) = ap (opened x.request w.next) (sym empty) ∙ (post_opens ms w after worker x.slot x.request h steps).0 in
    let mark : mark_of after x.slot ≡ MarkOpen x.request p.next = sym (some_same (MarkOpen x.request w.next) (mark_of after x.slot) both) ∙ ap (λ (n : ℕ). MarkOpen x.request n) (sym st.next) in
    let attempt : Attempt = record { number = p.next; sent = c.sent; reply = None } in
    let segment : SegmentEnd = record p.segment { attempts = p.segment.attempts ++ attempt ∷ [] } in
    let rows_same : SameRows w after = rows_move ms w after event h steps in
    let long = length-snoc p.segment.attempts attempt in
    let was = st.attempts in
    subst (λ (y : Parts). (e : IsEvent x w event y) × DrawsNumber ms w worker x.slot x.request e.after) (sym c.rest) (
      record {
        after = after;
        steps = steps;
        stand = record {
          most = st.most;
          seats = record { same = st.seats.same; beyond = st.seats.beyond };
          next = c.draws.1 ∙ ap (λ (n : ℕ). n + 1) st.next;
          mark = mark;
          row = rows_same x.account ∙ st.row;
          state = posted st.state;
          known = find_changed x.request posted w.requests st.state st.known;
          account = st.account;
          cost = st.cost;
          attempts = omega arith;
          phase = (sent_state x.most p.segment segment attempt c.waits refl refl refl, c.waits.outcome);
        };
      },
      post_draws ms w after worker x.slot x.request h steps,
    )

pub answer_is_event : AnswerIsEvent
answer_is_event ms w x p q reply h st c =
    let event = Respond reply.number reply.status reply.nack in
    let mark : mark_of w x.slot ≡ MarkOpen x.request reply.number = subst (λ (s : Slot). HasMark x.request s p.answer (mark_of w x.slot)) c.answers.0 st.mark in
    let inside = marked_inside w.marks x.slot x.request reply.number mark in
    let there : slice_get w.marks x.slot ≡ Some (MarkOpen x.request reply.number) = slice_get-get_or w.marks x.slot MarkEmpty inside ∙ ap Some mark in
    let new : Mark = Replied x.request reply.number reply.status reply.nack in
    let after : State = record w { marks = set w.marks x.slot new } in
    let steps : Steps w event Done after = (
      none_of (checks w event) (ap not (some_waits w.marks x.slot x.request reply.number mark), tt),
      record { slot = x.slot; request = x.request; waits = there; after = refl },
    ) in
    let rows_same : SameRows w after = rows_move ms w after event h steps in
    let requests_same : SameRequests w after = requests_move ms w after event h steps in
    subst (λ (y : Parts). IsEvent x w event y) (sym c.rest) record {
      after = after;
      steps = steps;
      stand = record {
        most = st.most;
        seats = record { same = st.seats.same; beyond = st.seats.beyond };
        next = st.next;
        mark = subst (λ (s : Slot). HasMark x.request s (Some reply) (mark_of after x.slot)) (sym c.answers.1) record { reply = reply; came = refl; is_numbered = refl; marked = get_or-set_same w.marks x.slot new MarkEmpty inside };
        row = rows_same x.account ∙ st.row;
        state = st.state;
        known = requests_same x.request ∙ st.known;
        account = st.account;
        cost = st.cost;
        attempts = st.attempts;
        phase = st.phase;
      };
    }

pub decision_is_event : DecisionIsEvent
decision_is_event ms w x p q h st c =
    let worker = x.name x.seat in
    let event = Settle worker x.slot in
    let reply = c.reply in
    let count = length p.segment.attempts in
    let held = held_named x.name x.is_out x.seat x.slot p.pairs w st.seats c.held.0 c.held.1 in
    let ((name, was), emptied) = c.takes in
    let has : HasMark x.request (Answered name reply.number) p.answer (mark_of w x.slot) = subst (λ (s : Slot). HasMark x.request s p.answer (mark_of w x.slot)) was st.mark in
    let came : has.reply ≡ reply = some_same has.reply reply (sym has.came ∙ c.came) in
    let mark : mark_of w x.slot ≡ Replied x.request reply.number reply.status reply.nack = has.marked ∙ ap (λ (y : Reply). Replied x.request reply.number y.status y.nack) came in
    let after : State = record w { marks = set w.marks x.slot MarkEmpty; requests = changed x.request (answered w.attempts reply.status reply.nack) w.requests } in
    let steps : Steps w event Done after = (
      none_of (checks w event) (held, (ap is_empty mark, (ap is_open mark, tt))),
      subst (λ (m : Mark). Settles w x.slot m after) (sym mark) refl,
    ) in
    let moves : RowStep w event after = rows_move ms w after event h steps in
    let i = moves.0 in
    let both : Replied i.request i.number i.status i.nack ≡ Replied x.request reply.number reply.status reply.nack = sym i.mark ∙ mark in
    let request : i.request ≡ x.request = ap request_in both in
    let status : i.status ≡ reply.status = ap status_in both in
    let nack : i.nack ≡ reply.nack = ap nack_in both in
    let state : i.state ≡ st.state = some_same i.state st.state (sym i.known ∙ ap (request_of w) request ∙ st.known) in
    let account : i.state.account ≡ x.account = ap (λ (s : RequestState). s.account) state ∙ st.account in
    let made : i.state.attempts ≡ count = ap (λ (s : RequestState). s.attempts) state ∙ st.attempts in
    let cost : i.state.cost ≡ p.segment.cost = ap (λ (s : RequestState). s.cost) state ∙ st.cost in
    let row : moves.1.row ≡ p.row = some_same moves.1.row p.row (sym moves.1.before ∙ ap (rows w) account ∙ st.row) in
    let now : rows after x.account ≡ Some (row_after (phase_after x.most reply.status reply.nack count) p.segment.cost p.row) =
    ap (rows after) (sym account) ∙ moves.1.after ∙ (λ j. Some (row_after (phase_after (st.most j) (status j) (nack j) (made j)) (cost j) (row j))) in
    let charges = is_charge reply.status reply.nack in
    let again = is_retry reply.status reply.nack && nat_lt count x.most in
    let hears = c.answers.hears in
    let silent = hears.last in
    let last : Attempt = record silent { reply = Some reply } in
    let told : c.answered.attempts ≡ hears.front ++ last ∷ [] = ap (λ (s : SegmentEnd). s.attempts) hears.after in
    let phase = decided_phase charges again (delay c.base count) x.most hears.front last reply c.answered refl told c.answers.state in
    let long = length-snoc hears.front last in
    let long' = length-snoc hears.front hears.last in
    let e = ap (λ (l : List Attempt). length l) told in
    let e' = ap (λ (l : List Attempt). length l) hears.before in
    let was = st.attempts in
    let outcome = outcome_after (decided reply count x.most c.base) in
    subst (λ (y : Parts). IsEvent x w event y × MovesBy (of_worker p.amounts) (of_worker y.amounts) (of_row p.row) (of_row y.row)) (sym c.rest) (
      record {
        after = after;
        steps = steps;
        stand = record {
          most = st.most;
          seats = record { same = st.seats.same; beyond = st.seats.beyond };
          next = st.next;
          mark = has_empty x.request q.slot None (mark_of after x.slot) c.takes.1 (set_empty w.marks x.slot);
          row = now ∙ ap Some (decided_row charges again (delay c.base count) p.segment.cost p.row);
          state = answered w.attempts reply.status reply.nack st.state;
          known = find_changed x.request (answered w.attempts reply.status reply.nack) w.requests st.state st.known;
          account = st.account;
          cost = st.cost ∙ sym (ap (λ (s : SegmentEnd). s.cost) hears.after);
          attempts = omega arith;
          phase = subst (HasPhase x.most (with_outcome outcome c.answered)) (λ j. phase_after (sym st.most j) reply.status reply.nack (sym st.attempts j)) phase;
        };
      },
      credits_move outcome p c.reserved,
    )

pub expiry_is_event : ExpiryIsEvent
expiry_is_event ms w x p q h st c =
    let worker = x.name x.seat in
    let event = Expire worker x.slot in
    let held = held_named x.name x.is_out x.seat x.slot p.pairs w st.seats c.held.0 c.held.1 in
    let ((name, was), emptied) = c.expires in
    let mark : mark_of w x.slot ≡ MarkOpen x.request c.number = subst (λ (s : Slot). HasMark x.request s p.answer (mark_of w x.slot)) was st.mark in
    let after : State = record w { marks = set w.marks x.slot MarkEmpty; requests = changed x.request (with_phase phases.Unanswered) w.requests } in
    let steps : Steps w event Done after = (
      none_of (checks w event) (held, (ap (λ (m : Mark). not (is_open m)) mark, tt)),
      subst (λ (m : Mark). ExpiresMark w x.slot m after) (sym mark) refl,
    ) in
    let rows_same : SameRows w after = rows_move ms w after event h steps in
    let both : RequestStep w event after = requests_move ms w after event h steps in
    let i = both.0 in
    let request : i.request ≡ x.request = ap request_in (sym i.mark ∙ mark) in
    let state : i.state ≡ st.state = some_same i.state st.state (sym i.known ∙ ap (request_of w) request ∙ st.known) in
    let was : st.state.phase ≡ phases.Open = sym (ap (λ (s : RequestState). s.phase) state) ∙ i.waits in
    subst (λ (y : Parts). IsEvent x w event y) (sym c.rest) record {
      after = after;
      steps = steps;
      stand = record {
        most = st.most;
        seats = record { same = st.seats.same; beyond = st.seats.beyond };
        next = st.next;
        mark = has_empty x.request q.slot p.answer (mark_of after x.slot) c.expires.1 (set_empty w.marks x.slot);
        row = rows_same x.account ∙ st.row;
        state = with_phase phases.Unanswered st.state;
        known = find_changed x.request (with_phase phases.Unanswered) w.requests st.state st.known;
        account = st.account;
        cost = st.cost;
        attempts = st.attempts;
        phase = subst (HasPhase x.most p.segment) was st.phase;
      };
    }

pub giving_up_is_event : GivingUpIsEvent
giving_up_is_event ms w x p q h st c =
    let event = Discard x.request in
    let ready = is_ready x.most p.segment st.state.phase c.waits st.phase in
    let after : State = record w { requests = changed x.request discarded w.requests } in
    let steps : Steps w event Done after = (none_of (checks w event) (is_not_unready w x.request st.state st.known ready, tt), refl) in
    let moves : RowStep w event after = rows_move ms w after event h steps in
    let i = moves.0 in
    let state : i.state ≡ st.state = some_same i.state st.state (sym i.known ∙ st.known) in
    let account : i.state.account ≡ x.account = ap (λ (s : RequestState). s.account) state ∙ st.account in
    let cost : i.state.cost ≡ p.segment.cost = ap (λ (s : RequestState). s.cost) state ∙ st.cost in
    let row : moves.1.row ≡ p.row = some_same moves.1.row p.row (sym moves.1.before ∙ ap (rows w) account ∙ st.row) in
    let outcome = c.given.outcome in
    let now : rows after x.account ≡ Some (row_settled q.segment.outcome p.segment.cost p.row) =
    ap (rows after) (sym account) ∙ moves.1.after ∙ (λ j. Some (row_given_back (cost j) (row j))) ∙ ap Some (given_row p.segment.attempts p.segment.cost p.row)
    ∙ ap (λ (o : Outcome). Some (row_settled o p.segment.cost p.row)) (sym outcome) in
    subst (λ (y : Parts). IsEvent x w event y × MovesBy (of_worker p.amounts) (of_worker y.amounts) (of_row p.row) (of_row y.row)) (sym c.rest) (
      record {
        after = after;
        steps = steps;
        stand = record {
          most = st.most;
          seats = record { same = st.seats.same; beyond = st.seats.beyond };
          next = st.next;
          mark = st.mark;
          row = now;
          state = discarded st.state;
          known = find_changed x.request discarded w.requests st.state st.known;
          account = st.account;
          cost = st.cost ∙ sym c.given.cost;
          attempts = st.attempts ∙ ap (λ (l : List Attempt). length l) (sym c.given.attempts);
          phase = subst (λ (n : ℕ). HasPhase x.most q.segment (if n == 0 then phases.Unsent else phases.Refused)) (sym st.attempts)
              (given_phase x.most p.segment.attempts q.segment (c.given.state x.most c.waits) outcome);
        };
      },
      credits_move q.segment.outcome p c.reserved,
    )

pub release_is_event : ReleaseIsEvent
release_is_event ms w x p q h st c =
    let event = Release (x.name x.seat) x.slot in
    let empty = empty_has x.request p.slot p.answer (mark_of w x.slot) c.empty st.mark in
    let k = release_is_workers x.name x.is_out p.pairs q.pairs x.seat x.slot w st.seats c.worker empty c.releases in
    let e = (release_done w k.after (x.name x.seat) x.slot k.steps).after in
    let rows_same : SameRows w k.after = rows_move ms w k.after event h k.steps in
    let requests_same : SameRequests w k.after = requests_move ms w k.after event h k.steps in
    subst (λ (y : Parts). IsEvent x w event y) (sym c.rest) record {
      after = k.after;
      steps = k.steps;
      stand = record {
        most = ap (λ (s : State). s.attempts) e ∙ st.most;
        seats = k.workers;
        next = st.next ∙ sym (ap (λ (s : State). s.next) e);
        mark = subst (HasMark x.request p.slot p.answer) (sym (ap (λ (s : State). mark_of s x.slot) e)) st.mark;
        row = rows_same x.account ∙ st.row;
        state = st.state;
        known = requests_same x.request ∙ st.known;
        account = st.account;
        cost = st.cost;
        attempts = st.attempts;
        phase = st.phase;
      };
    }
