-- The events of one part, each done.
use Rattle.std.proofs.Common.{◌≡◌, ℕ, suc, ◌+◌, ◌<◌, ◌≤◌, ◌&&◌, ◌==◌, nat_lt, Bool, true, false, List, [], ◌∷◌, ◌++◌, length, Option, Some, None, if◌then◌else◌, refl, sym, ap, ◌∙◌, subst, arith, eq-eqb, ne_eqb, true≢false, ⊎_elim}
use Rattle.std.proofs.lemmas.Bool.{lt-ltb, eqb-true, cases_Bool}
use mathlib.Core.Logic.{dite}
use native.Mathlib.Decide.{ℕ_discrete}
use Rattle.sms_core.specs.declared.event.Event.{Event}
use Rattle.sms_core.specs.declared.event.Event.TheVariants.{Post, Respond, Settle, Expire, Discard}
use Rattle.std.proofs.lemmas.List.{append-nil}
use Rattle.sms_core.specs.declared.mark.Mark.{Mark}
use Rattle.sms_core.specs.declared.mark.Mark.TheVariants.{Empty, Open}
use Rattle.sms_core.specs.declared.request.Phase.{Phase}
use Rattle.sms_core.specs.declared.request.Phase.TheVariants.{Ready, Charged, Refused, Unanswered, Unsent, Open as Waiting}
use Rattle.sms_core.specs.declared.request.Request.{Request}
use Rattle.sms_core.specs.declared.request.RequestState.{RequestState}
use Rattle.sms_core.specs.Limits.{largest_cost, top_number}
use Rattle.sms_core.specs.Replies.{Reply, AreAllowed, AreRetried, is_charge, is_retry, outcome_of, outcome_of_last}
use Rattle.sms_core.specs.State.{State, changed, find_request, row_at}
use Rattle.sms_core.specs.Steps.{answered, discarded, phase_after, posted, reserved_request, with_phase}
use Rattle.sms_journal.specs.Schedules.{NamedPart, answer_events, attempt_events, give_up_events, is_given_up, last_lets_again, lets_again, part_events, request_for}
use Rattle.sms_journal.proofs.Chains.{AllDone, done_append}
use Rattle.sms_journal.proofs.SlotMoves.{standing, post_done, respond_done, settle_done, expire_done, discard_done, reserve_done}

abbrev pub named : ℕ → RequestState → Request
named id s = record { id = id; state = s }

-- the last request, whose name is new
pub find_last : (id : ℕ) (rs : List Request) (s : RequestState) → find_request id rs ≡ None → find_request id (rs ++ named id s ∷ []) ≡ Some s
find_last id [] s new = rw (eq-eqb id id refl) refl
find_last id (r ∷ rs) s new = dite (ℕ_discrete r.id id)
    (λ is. let found : Some r.state ≡ None = rw (eq-eqb r.id id is) at new in absurd (cc))
    (λ ne. let later = rw (ne_eqb r.id id ne) at new in rw (ne_eqb r.id id ne) (find_last id rs s later))

pub change_last : (id : ℕ) (rs : List Request) (s : RequestState) (f : RequestState → RequestState) → find_request id rs ≡ None → changed id f (rs ++ named id s ∷ []) ≡ rs ++ named id (f s) ∷ []
change_last id [] s f new = rw (eq-eqb id id refl) refl
change_last id (r ∷ rs) s f new = dite (ℕ_discrete r.id id)
    (λ is. let found : Some r.state ≡ None = rw (eq-eqb r.id id is) at new in absurd (cc))
    (λ ne. let later = rw (ne_eqb r.id id ne) at new in rw (ne_eqb r.id id ne) (ap (λ (l : List Request). r ∷ l) (change_last id rs s f later)))

-- an answer that charges does not let the request be sent again
pub charge_is_no_retry : (status : ℕ) (nack : Bool) → is_charge status nack ≡ true → is_retry status nack ≡ false
charge_is_no_retry status true charged = refl
charge_is_no_retry status false charged = let zero : status ≡ 0 = eqb-true status 0 charged in rw zero refl

pub retry_is_no_charge : (status : ℕ) (nack : Bool) → is_retry status nack ≡ true → is_charge status nack ≡ false
retry_is_no_charge status nack again = ⊎_elim
    (λ (charged : is_charge status nack ≡ true). absurd (true≢false (sym again ∙ charge_is_no_retry status nack charged)))
    (λ (not_so : is_charge status nack ≡ false). not_so)
    (cases_Bool (is_charge status nack))

-- ---- one part, under a name that is new

module _ (most : ℕ) (topped : List ℕ) (rs : List Request) (id : ℕ) (new : find_request id rs ≡ None) (account cost : ℕ) where
  -- it was sent so often and may be sent
  abbrev at_rest : ℕ → Phase → RequestState
  at_rest made phase = record { account = account; cost = cost; attempts = made; phase = phase }

  abbrev with : ℕ → Phase → List Request
  with made phase = rs ++ named id (at_rest made phase) ∷ []

  -- the world while it stands so
  abbrev on : ℕ → ℕ → Phase → Mark → State
  on made next phase mark = standing most topped (with made phase) next mark

  posts : (next made : ℕ) → next ≤ top_number → AllDone (standing most topped (with made Ready) next Empty) (Post 0 0 id ∷ []) (standing most topped (with (made + 1) Waiting) (next + 1) (Open id next))
  posts next made few =
      let step = post_done most topped (with made Ready) next id (at_rest made Ready) (find_last id rs (at_rest made Ready) new) refl few in
      (_, step, ap (λ (l : List Request). standing most topped l (next + 1) (Open id next)) (sym (change_last id rs (at_rest made Ready) posted new)))

  answers : (next number made status : ℕ) (nack : Bool) → AllDone (standing most topped (with made Waiting) next (Open id number)) (Respond number status nack ∷ Settle 0 0 ∷ []) (standing most topped (with made (phase_after most status nack made)) next Empty)
  answers next number made status nack = (
    _,
    respond_done most topped (with made Waiting) next id number status nack,
    (
      _,
      settle_done most topped (with made Waiting) next id number status nack,
      ap (λ (l : List Request). standing most topped l next Empty) (sym (change_last id rs (at_rest made Waiting) (answered most status nack) new)),
    ),
  )

  expires : (next number made : ℕ) → AllDone (standing most topped (with made Waiting) next (Open id number)) (Expire 0 0 ∷ []) (standing most topped (with made Unanswered) next Empty)
  expires next number made =
      (_, expire_done most topped (with made Waiting) next id number, ap (λ (l : List Request). standing most topped l next Empty) (sym (change_last id rs (at_rest made Waiting) (with_phase Unanswered) new)))

  -- given up where it may be sent; the phase that it comes to
  abbrev phase_left : ℕ → Phase
  phase_left made = if made == 0 then Unsent else Refused

  gives_up : (next made : ℕ) → AllDone (standing most topped (with made Ready) next Empty) (Discard id ∷ []) (standing most topped (with made (phase_left made)) next Empty)
  gives_up next made = (
    _,
    discard_done most topped (with made Ready) next id (at_rest made Ready) (find_last id rs (at_rest made Ready) new) refl,
    ap (λ (l : List Request). standing most topped l next Empty) (sym (change_last id rs (at_rest made Ready) discarded new)),
  )

  -- what an answer makes of it, by whether it charges and whether it may be sent again; and if it may, it is given up
  abbrev phase_by : Bool → Bool → Phase
  phase_by charge again = if charge then Charged else if again then Ready else Refused

  abbrev outcome_by : Bool → Phase
  outcome_by charge = if charge then Charged else Refused

  ends_with : (next made : ℕ) (charge again : Bool) → 1 ≤ made → (charge ≡ true → again ≡ false)
      → AllDone (standing most topped (with made (phase_by charge again)) next Empty) (give_up_events id again) (standing most topped (with made (outcome_by charge)) next Empty)
  ends_with next made true true some apart = absurd (true≢false (apart refl))
  ends_with next made true false some apart = refl
  ends_with next made false true some apart =
      let refused : phase_left made ≡ Refused = rw (ne_eqb made 0 (λ z. omega arith)) refl in
      subst (λ (p : Phase). AllDone (standing most topped (with made Ready) next Empty) (Discard id ∷ []) (standing most topped (with made p) next Empty)) refused (gives_up next made)
  ends_with next made false false some apart = refl

  -- the last attempt
  last_events : ℕ → Option Reply → ℕ → List Event
  last_events next attempt made = answer_events next attempt ++ give_up_events id (lets_again attempt && nat_lt made most)

  last_answer : (next number made : ℕ) (attempt : Option Reply) → 1 ≤ made → AllDone (on made next Waiting (Open id number)) (last_events number attempt made) (on made next (outcome_of_last attempt) Empty)
  unfolding last_events
  last_answer next number made None some = expires next number made
  last_answer next number made (Some reply) some =
      done_append (on made next Waiting (Open id number)) (on made next (phase_after most reply.status reply.nack made) Empty) (on made next (outcome_of_last (Some reply)) Empty)
      (Respond number reply.status reply.nack ∷ Settle 0 0 ∷ []) (give_up_events id (is_retry reply.status reply.nack && nat_lt made most))
      (answers next number made reply.status reply.nack)
      (ends_with next made (is_charge reply.status reply.nack) (is_retry reply.status reply.nack && nat_lt made most) some
      (λ charged. rw (charge_is_no_retry reply.status reply.nack charged) refl))

  last_try : (next made : ℕ) (attempt : Option Reply) → next ≤ top_number
      → AllDone (on made next Ready Empty) (Post 0 0 id ∷ last_events next attempt (made + 1)) (on (made + 1) (next + 1) (outcome_of_last attempt) Empty)
  last_try next made attempt few =
      done_append (on made next Ready Empty) (on (made + 1) (next + 1) Waiting (Open id next)) (on (made + 1) (next + 1) (outcome_of_last attempt) Empty)
      (Post 0 0 id ∷ []) (last_events next attempt (made + 1)) (posts next made few) (last_answer (next + 1) next (made + 1) attempt (omega arith))

  -- each event of the last attempt, as the schedule has them
  last_of : (next made total after : ℕ) (attempt : Option Reply) → total ≡ made + 1 → after ≡ next + 1 → next ≤ top_number
      → AllDone (on made next Ready Empty) (attempt_events id next (attempt ∷ []) ++ give_up_events id (lets_again attempt && nat_lt total most)) (on total after (outcome_of_last attempt) Empty)
  unfolding last_events
  last_of next made total after attempt total_is after_is few =
      rw (total_is, after_is) (rw (append-nil {A = Event} (answer_events next attempt)) (last_try next made attempt few))

  -- all attempts
  tries : (next made : ℕ) (attempt : Option Reply) (later : List (Option Reply)) (total after : ℕ) → total ≡ made + length (attempt ∷ later) → after ≡ next + length (attempt ∷ later)
      → AreRetried (attempt ∷ later) → total ≤ most → after ≤ suc top_number
      → AllDone (on made next Ready Empty) (attempt_events id next (attempt ∷ later) ++ give_up_events id (last_lets_again (attempt ∷ later) && nat_lt total most))
      (on total after (outcome_of (attempt ∷ later)) Empty)
  tries next made attempt [] total after total_is after_is retried most_is few =
      last_of next made total after attempt total_is after_is (omega arith)
  tries next made None (second ∷ later) total after total_is after_is retried most_is few = let none = retried.0.came in absurd (cc)
  tries next made (Some reply) (second ∷ later) total after total_is after_is retried most_is few =
      let came = retried.0.came in
      let same : reply ≡ retried.0.reply = cc in
      let again : is_retry reply.status reply.nack ≡ true = subst (λ (r : Reply). is_retry r.status r.nack ≡ true) (sym same) retried.0.retries in
      let charge : is_charge reply.status reply.nack ≡ false = retry_is_no_charge reply.status reply.nack again in
      let left : nat_lt (made + 1) most ≡ true = lt-ltb (made + 1) most (omega arith) in
      let ready : phase_after most reply.status reply.nack (made + 1) ≡ Ready = rw (charge, again, left) refl in
      let answer : AllDone (on (made + 1) (next + 1) Waiting (Open id next)) (Respond next reply.status reply.nack ∷ Settle 0 0 ∷ []) (on (made + 1) (next + 1) Ready Empty)
      = subst (λ (p : Phase). AllDone (on (made + 1) (next + 1) Waiting (Open id next)) (Respond next reply.status reply.nack ∷ Settle 0 0 ∷ []) (on (made + 1) (next + 1) p Empty)) ready
      (answers (next + 1) next (made + 1) reply.status reply.nack) in
      let rest : List Event = attempt_events id (next + 1) (second ∷ later) ++ give_up_events id (last_lets_again (second ∷ later) && nat_lt total most) in
      done_append (on made next Ready Empty) (on (made + 1) (next + 1) Waiting (Open id next)) (on total after (outcome_of (second ∷ later)) Empty)
      (Post 0 0 id ∷ []) (Respond next reply.status reply.nack ∷ Settle 0 0 ∷ rest) (posts next made (omega arith))
      (done_append (on (made + 1) (next + 1) Waiting (Open id next)) (on (made + 1) (next + 1) Ready Empty) (on total after (outcome_of (second ∷ later)) Empty)
      (Respond next reply.status reply.nack ∷ Settle 0 0 ∷ []) rest answer
      (tries (next + 1) (made + 1) second later total after (omega arith) (omega arith) retried.1 most_is few))

-- a part that the account has credits for
pub part_done : (most : ℕ) (topped : List ℕ) (rs : List Request) (n : NamedPart) (next after : ℕ) → after ≡ next + length n.part.attempts → find_request n.name rs ≡ None → n.part.account < length topped
    → 1 ≤ n.part.cost → n.part.cost ≤ largest_cost → n.part.cost ≤ (row_at (standing most topped rs next Empty) n.part.account).free → 1 ≤ most → AreAllowed most n.part.attempts → after ≤ suc top_number
    → AllDone (standing most topped rs next Empty) (part_events most next n) (standing most topped (rs ++ request_for n ∷ []) after Empty)
part_done most topped rs n next after after_is new known some few enough once allowed numbers =
    (_, reserve_done most topped rs next n.name n.part.account n.part.cost known new some few enough, attempts_done n.part.attempts after after_is allowed numbers)
  where
    attempts_done : (attempts : List (Option Reply)) (last : ℕ) → last ≡ next + length attempts → AreAllowed most attempts → last ≤ suc top_number
        → AllDone (standing most topped (rs ++ reserved_request n.name n.part.account n.part.cost ∷ []) next Empty) (attempt_events n.name next attempts ++ give_up_events n.name (is_given_up most attempts))
        (standing most topped (rs ++ request_for (record { name = n.name; part = record { account = n.part.account; cost = n.part.cost; attempts = attempts } }) ∷ []) last Empty)
    attempts_done [] last last_is allowed numbers =
        let same : last ≡ next = omega arith in
        rw (same, lt-ltb 0 most (omega arith)) (gives_up most topped rs n.name new n.part.account n.part.cost next 0)
    attempts_done (attempt ∷ later) last last_is allowed numbers =
        tries most topped rs n.name new n.part.account n.part.cost next 0 attempt later (length (attempt ∷ later)) last (omega arith) last_is allowed.1 allowed.0 numbers
