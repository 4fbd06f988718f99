-- The events of one worker at one slot, each done.
use Rattle.std.proofs.Common.{◌≡◌, ℕ, ◌+◌, ◌<◌, ◌≤◌, ◌==◌, ◌||◌, nat_lt, Bool, true, false, not, set, get_or, List, [], ◌∷◌, ◌++◌, length, Option, Some, None, refl, ap, ◌∙◌, arith, eq-eqb, ne_eqb}
use Rattle.std.specs.Prelude.{replicate, is_some}
use Rattle.std.proofs.lemmas.Bool.{le-ltb, lt-leb}
use Rattle.sms_core.specs.declared.event.Event.{Event}
use Rattle.sms_core.specs.declared.event.Event.TheVariants.{TopUp, Reserve, Claim, Post, Respond, Settle, Expire, Discard, Release}
use Rattle.sms_core.specs.declared.event.Cause.{Cause}
use Rattle.sms_core.specs.declared.event.Step.TheVariants.{Done}
use Rattle.sms_core.specs.declared.mark.Mark.{Mark}
use Rattle.sms_core.specs.declared.mark.Mark.TheVariants.{Empty, Open, Replied}
use Rattle.sms_core.specs.declared.request.Phase.TheVariants.{Unanswered}
use Rattle.sms_core.specs.declared.request.Request.{Request}
use Rattle.sms_core.specs.declared.request.RequestState.{RequestState}
use Rattle.sms_core.specs.Limits.{largest_cost, most_topped, top_number}
use Rattle.sms_core.specs.State.{State, changed, find_request, row_at}
use Rattle.sms_core.specs.Steps.{Steps, checks, first_cause, cause_of, is_ready_state, reserved_request, posted, answered, with_phase, discarded}
use Rattle.sms_core.proofs.Passed.{AllPassed}

-- a world in which worker 0 has the one slot, with this mark
abbrev pub standing : ℕ → List ℕ → List Request → ℕ → Mark → State
standing most topped rs next mark =
    record {
      limit = 1;
      attempts = most;
      topped = topped;
      requests = rs;
      holds = (0, 0) ∷ [];
      marks = mark ∷ replicate 63 Empty;
      next = next;
    }

none_applies : (cs : List (Bool × Cause)) → AllPassed cs → first_cause cs ≡ None
none_applies [] p = refl
none_applies (c ∷ cs) p = rw p.0 (none_applies cs p.1)

passes : (w : State) (e : Event) → AllPassed (checks w e) → cause_of w e ≡ None
passes w e p = none_applies (checks w e) p

ready_known : (rs : List Request) (id : ℕ) (s : RequestState) → find_request id rs ≡ Some s → is_ready_state (Some s) ≡ true → not (is_ready_state (find_request id rs)) ≡ false
ready_known rs id s known ready = ap (λ (o : Option RequestState). not (is_ready_state o)) known ∙ ap not ready

pub post_done : (most : ℕ) (topped : List ℕ) (rs : List Request) (next id : ℕ) (s : RequestState) → find_request id rs ≡ Some s → is_ready_state (Some s) ≡ true → next ≤ top_number →
    Steps (standing most topped rs next Empty) (Post 0 0 id) Done (standing most topped (changed id posted rs) (next + 1) (Open id next))
post_done most topped rs next id s known ready few =
    (passes (standing most topped rs next Empty) (Post 0 0 id) (refl, (refl, (ready_known rs id s known ready, (le-ltb top_number next few, tt)))), refl)

pub respond_done : (most : ℕ) (topped : List ℕ) (rs : List Request) (next id number status : ℕ) (nack : Bool) →
    Steps (standing most topped rs next (Open id number)) (Respond number status nack) Done (standing most topped rs next (Replied id number status nack))
respond_done most topped rs next id number status nack =
    (passes (standing most topped rs next (Open id number)) (Respond number status nack) (rw (eq-eqb number number refl) refl, tt), record { slot = 0; request = id; waits = refl; after = refl })

pub settle_done : (most : ℕ) (topped : List ℕ) (rs : List Request) (next id number status : ℕ) (nack : Bool) →
    Steps (standing most topped rs next (Replied id number status nack)) (Settle 0 0) Done (standing most topped (changed id (answered most status nack) rs) next Empty)
settle_done most topped rs next id number status nack =
    (passes (standing most topped rs next (Replied id number status nack)) (Settle 0 0) (refl, (refl, (refl, tt))), refl)

pub expire_done : (most : ℕ) (topped : List ℕ) (rs : List Request) (next id number : ℕ) →
    Steps (standing most topped rs next (Open id number)) (Expire 0 0) Done (standing most topped (changed id (with_phase Unanswered) rs) next Empty)
expire_done most topped rs next id number =
    (passes (standing most topped rs next (Open id number)) (Expire 0 0) (refl, (refl, tt)), refl)

pub discard_done : (most : ℕ) (topped : List ℕ) (rs : List Request) (next id : ℕ) (s : RequestState) → find_request id rs ≡ Some s → is_ready_state (Some s) ≡ true →
    Steps (standing most topped rs next Empty) (Discard id) Done (standing most topped (changed id discarded rs) next Empty)
discard_done most topped rs next id s known ready =
    (passes (standing most topped rs next Empty) (Discard id) (ready_known rs id s known ready, tt), refl)

pub reserve_done : (most : ℕ) (topped : List ℕ) (rs : List Request) (next id account cost : ℕ) → account < length topped → find_request id rs ≡ None → 1 ≤ cost → cost ≤ largest_cost
    → cost ≤ (row_at (standing most topped rs next Empty) account).free
    → Steps (standing most topped rs next Empty) (Reserve id account cost) Done (standing most topped (rs ++ reserved_request id account cost ∷ []) next Empty)
reserve_done most topped rs next id account cost known new some few enough =
    let w : State = standing most topped rs next Empty in
    let unknown : is_some (find_request id rs) ≡ false = ap is_some new in
    let good : ((cost == 0) || nat_lt largest_cost cost) ≡ false = rw (ne_eqb cost 0 (λ z. omega arith), le-ltb largest_cost cost few) refl in
    (passes w (Reserve id account cost) (lt-leb (length topped) account known, (unknown, (good, (le-ltb (row_at w account).free cost enough, tt)))), refl)

-- the same world while nobody has the slot
abbrev pub idle : ℕ → List ℕ → List Request → ℕ → State
idle most topped rs next =
    record {
      limit = 1;
      attempts = most;
      topped = topped;
      requests = rs;
      holds = [];
      marks = Empty ∷ replicate 63 Empty;
      next = next;
    }

pub claim_done : (most : ℕ) (topped : List ℕ) (rs : List Request) (next : ℕ) → Steps (idle most topped rs next) (Claim 0 0) Done (standing most topped rs next Empty)
claim_done most topped rs next = (passes (idle most topped rs next) (Claim 0 0) (refl, tt), ((refl, λ f. omega arith), refl))

pub release_done : (most : ℕ) (topped : List ℕ) (rs : List Request) (next : ℕ) → Steps (standing most topped rs next Empty) (Release 0 0) Done (idle most topped rs next)
release_done most topped rs next = (passes (standing most topped rs next Empty) (Release 0 0) (refl, (refl, tt)), (λ f. omega arith, refl))

pub top_up_done : (most : ℕ) (topped : List ℕ) (account amount : ℕ) → account < length topped → get_or topped account 0 + amount ≤ most_topped
    → Steps (idle most topped [] 1) (TopUp account amount) Done (idle most (set topped account (get_or topped account 0 + amount)) [] 1)
top_up_done most topped account amount known few =
    (passes (idle most topped [] 1) (TopUp account amount) (lt-leb (length topped) account known, (le-ltb most_topped (get_or topped account 0 + amount) few, tt)), refl)
