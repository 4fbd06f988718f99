-- What a step that is done tells, by its event: what its checks found, and what it leaves.
use Rattle.std.proofs.Common.{◌≡◌, ℕ, ◌+◌, ◌<◌, ◌≤◌, ◌∷◌, ◌++◌, [], set, false, not, Option, Some, None, refl, length}
use Rattle.std.proofs.lemmas.Bool.{true≢false, leb-false, ltb-false}
use Rattle.sms_core.specs.declared.event.Event.TheVariants.{TopUp, Reserve, Claim, Post, Discard, Release}
use Rattle.sms_core.specs.declared.event.Step.TheVariants.{Done}
use Rattle.sms_core.specs.declared.mark.Mark.TheVariants.{Empty, Open}
use Rattle.sms_core.specs.declared.request.RequestState.{RequestState}
use Rattle.sms_core.specs.Holds.{Claims, Releases}
use Rattle.sms_core.specs.Limits.{top_number}
use Rattle.sms_core.specs.State.{State, topped_of, row_at, request_of, changed, times_held, mark_of}
use Rattle.sms_core.specs.Steps.{checks, Steps, is_not_ready, is_ready_state, reserved_request, posted, discarded}
use Rattle.sms_core.specs.StepLaws.{IsReady}
use Rattle.sms_core.proofs.Passed.{AllPassed, all_passed, both_false, some_held, empty_mark, ready_phase, no_request}

pub record TopUpDone (old : State) (account amount : ℕ) (new : State) : Type 0 where
  pub account_there : account < length old.topped
  pub after : new ≡ record old { topped = set old.topped account (topped_of old account + amount) }

pub record ReserveDone (old : State) (request account cost : ℕ) (new : State) : Type 0 where
  pub account_there : account < length old.topped
  pub unknown : request_of old request ≡ None
  pub enough : cost ≤ (row_at old account).free
  pub after : new ≡ record old { requests = old.requests ++ reserved_request request account cost ∷ [] }

pub record ClaimDone (old : State) (worker slot : ℕ) (new : State) : Type 0 where
  pub inside : slot < old.limit
  pub claims : Claims old.holds worker slot new.holds
  pub after : new ≡ record old { holds = new.holds; marks = set old.marks slot Empty }

pub record PostDone (old : State) (worker slot request : ℕ) (new : State) : Type 0 where
  pub held : 1 ≤ times_held worker slot old.holds
  pub empty : mark_of old slot ≡ Empty
  pub ready : IsReady old request
  pub lawful : old.next ≤ top_number
  pub after : new ≡ record old { marks = set old.marks slot (Open request old.next); requests = changed request posted old.requests; next = old.next + 1 }

pub record DiscardDone (old : State) (request : ℕ) (new : State) : Type 0 where
  pub ready : IsReady old request
  pub after : new ≡ record old { requests = changed request discarded old.requests }

pub record ReleaseDone (old : State) (worker slot : ℕ) (new : State) : Type 0 where
  pub held : 1 ≤ times_held worker slot old.holds
  pub empty : mark_of old slot ≡ Empty
  pub releases : Releases old.holds worker slot new.holds
  pub after : new ≡ record old { holds = new.holds }

ready_by : (old : State) (request : ℕ) (o : Option RequestState) → request_of old request ≡ o → not (is_ready_state o) ≡ false → IsReady old request
ready_by old request None is e = absurd (true≢false e)
ready_by old request (Some r) is e = record { state = r; known = is; ready = ready_phase r.phase e }

is_ready : (old : State) (request : ℕ) → is_not_ready old request ≡ false → IsReady old request
is_ready old request e = ready_by old request (request_of old request) refl e

pub top_up_done : (old new : State) (account amount : ℕ) → Steps old (TopUp account amount) Done new → TopUpDone old account amount new
top_up_done old new account amount s =
    let checked = all_passed (checks old (TopUp account amount)) s.0 in
    record { account_there = leb-false (length old.topped) account checked.0; after = s.1 }

pub reserve_done : (old new : State) (request account cost : ℕ) → Steps old (Reserve request account cost) Done new → ReserveDone old request account cost new
reserve_done old new request account cost s = told (all_passed (checks old (Reserve request account cost)) s.0)
  where
    told : AllPassed (checks old (Reserve request account cost)) → ReserveDone old request account cost new
    told (account_there, (unknown, (good, (enough, end)))) = record {
      account_there = leb-false (length old.topped) account account_there;
      unknown = no_request (request_of old request) unknown;
      enough = ltb-false _ cost enough;
      after = s.1;
    }

pub claim_done : (old new : State) (worker slot : ℕ) → Steps old (Claim worker slot) Done new → ClaimDone old worker slot new
claim_done old new worker slot (none, (claims, after)) =
    let checked = all_passed (checks old (Claim worker slot)) none in
    record { inside = leb-false old.limit slot (both_false _ _ checked.0).0; claims = claims; after = after }

pub post_done : (old new : State) (worker slot request : ℕ) → Steps old (Post worker slot request) Done new → PostDone old worker slot request new
post_done old new worker slot request s = told (all_passed (checks old (Post worker slot request)) s.0)
  where
    told : AllPassed (checks old (Post worker slot request)) → PostDone old worker slot request new
    told (held, (empty, (ready, (lawful, end)))) = record {
      held = some_held (times_held worker slot old.holds) held;
      empty = empty_mark (mark_of old slot) empty;
      ready = is_ready old request ready;
      lawful = ltb-false top_number old.next lawful;
      after = s.1;
    }

pub discard_done : (old new : State) (request : ℕ) → Steps old (Discard request) Done new → DiscardDone old request new
discard_done old new request s =
    let checked = all_passed (checks old (Discard request)) s.0 in
    record { ready = is_ready old request checked.0; after = s.1 }

pub release_done : (old new : State) (worker slot : ℕ) → Steps old (Release worker slot) Done new → ReleaseDone old worker slot new
release_done old new worker slot (none, (releases, after)) = told (all_passed (checks old (Release worker slot)) none)
  where
    told : AllPassed (checks old (Release worker slot)) → ReleaseDone old worker slot new
    told (held, (empty, end)) = record {
      held = some_held (times_held worker slot old.holds) held;
      empty = empty_mark (mark_of old slot) empty;
      releases = releases;
      after = after;
    }
