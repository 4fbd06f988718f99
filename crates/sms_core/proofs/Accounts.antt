-- Each request's account is there.
use Rattle.std.proofs.Common.{◌≡◌, ℕ, ◌<◌, List, length, Some, refl, sym, ap, ◌∙◌, subst, arith, length-set}
use mathlib.Core.Logic.{dite}
use native.Mathlib.Decide.{ℕ_discrete}
use Rattle.sms_core.specs.declared.event.Event.{Event}
use Rattle.sms_core.specs.declared.event.Event.TheVariants.{TopUp, Reserve, Claim, Post, Respond, Settle, Expire, Discard, Release}
use Rattle.sms_core.specs.declared.event.Step.{Step}
use Rattle.sms_core.specs.declared.event.Step.TheVariants.{Done, Ignored}
use Rattle.sms_core.specs.declared.request.RequestState.{RequestState}
use Rattle.sms_core.specs.Histories.{Moment, FromStart}
use Rattle.sms_core.specs.State.{State, request_of, mark_of, new_world}
use Rattle.sms_core.specs.Steps.{Steps}
use Rattle.sms_core.specs.StepLaws.{MovesRequest, AddsRequest, SameRequests}
use Rattle.sms_core.proofs.RequestSteps.{request_step, settled, expired}
use Rattle.sms_core.proofs.Runs.{kept_by_runs}
use Rattle.sms_core.proofs.Sound.{IsSound, sound_start, sound_step}
use Rattle.sms_core.proofs.Done.{reserve_done, claim_done, release_done}

abbrev pub IsAccounted : State → Type 0
IsAccounted w = (id : ℕ) (s : RequestState) → request_of w id ≡ Some s → s.account < length w.topped

same_accounts : (old new : State) → length new.topped ≡ length old.topped → SameRequests old new → IsAccounted old → IsAccounted new
same_accounts old new long same a id s known = let below = a id s (sym (same id) ∙ known) in omega arith

moved_accounts : (old new : State) (request : ℕ) (f : RequestState → RequestState) → length new.topped ≡ length old.topped → ((s : RequestState) → (f s).account ≡ s.account)
    → MovesRequest old request f new → IsAccounted old → IsAccounted new
moved_accounts old new request f long own m a id s known = dite (ℕ_discrete id request)
    (λ is.
    let both : Some s ≡ Some (f m.state) = sym known ∙ ap (request_of new) is ∙ m.after in
    let at : s ≡ f m.state = cc in
    let account : s.account ≡ m.state.account = ap (λ (r : RequestState). r.account) at ∙ own m.state in
    let below = a request m.state m.before in
    omega arith)
    (λ ne. let below = a id s (sym (m.others id ne) ∙ known) in omega arith)

added_accounts : (old new : State) (request : ℕ) (state : RequestState) → length new.topped ≡ length old.topped → state.account < length old.topped → AddsRequest old request state new → IsAccounted old → IsAccounted new
added_accounts old new request state long inside m a id s known = dite (ℕ_discrete id request)
    (λ is.
    let both : Some s ≡ Some state = sym known ∙ ap (request_of new) is ∙ m.after in
    let at : s ≡ state = cc in
    let account : s.account ≡ state.account = ap (λ (r : RequestState). r.account) at in
    omega arith)
    (λ ne. let below = a id s (sym (m.others id ne) ∙ known) in omega arith)

accounted_step : (event : Event) (answer : Step) (old new : State) → Steps old event answer new → IsSound old → IsAccounted old → IsAccounted new
accounted_step event (Ignored cause) old new s i a = subst IsAccounted (sym s.1) a
accounted_step (TopUp account amount) Done old new s i a =
    same_accounts old new (ap (λ (w : State). length w.topped) s.1 ∙ length-set old.topped account _) (request_step (TopUp account amount) old new i s) a
accounted_step (Reserve request account cost) Done old new s i a =
    added_accounts old new request _ (ap (λ (w : State). length w.topped) s.1) (reserve_done old new request account cost s).account_there (request_step (Reserve request account cost) old new i s) a
accounted_step (Claim worker slot) Done old new s i a = same_accounts old new (ap (λ (w : State). length w.topped) (claim_done old new worker slot s).after) (request_step (Claim worker slot) old new i s) a
accounted_step (Post worker slot request) Done old new s i a = moved_accounts old new request _ (ap (λ (w : State). length w.topped) s.1) (λ r. refl) (request_step (Post worker slot request) old new i s).1 a
accounted_step (Respond number status nack) Done old new s i a = same_accounts old new (ap (λ (w : State). length w.topped) s.1.after) (request_step (Respond number status nack) old new i s) a
accounted_step (Settle worker slot) Done old new s i a =
    let t = settled (mark_of old slot) old new slot refl s.1 i in
    let m = request_step (Settle worker slot) old new i s in
    moved_accounts old new m.0.request _ (ap length t.topped) (λ r. refl) m.1 a
accounted_step (Expire worker slot) Done old new s i a =
    let t = expired (mark_of old slot) old new slot refl s.1 i in
    let m = request_step (Expire worker slot) old new i s in
    moved_accounts old new m.0.request _ (ap length t.topped) (λ r. refl) m.1 a
accounted_step (Discard request) Done old new s i a = moved_accounts old new request _ (ap (λ (w : State). length w.topped) s.1) (λ r. refl) (request_step (Discard request) old new i s).1 a
accounted_step (Release worker slot) Done old new s i a = same_accounts old new (ap (λ (w : State). length w.topped) (release_done old new worker slot s).after) (request_step (Release worker slot) old new i s) a

abbrev Both : State → Type 0
Both w = IsSound w × IsAccounted w

pub accounted : (ms : List Moment) (w : State) → FromStart ms w → IsAccounted w
accounted ms w h =
    let start : Both (new_world h.accounts h.limit h.attempts) = (sound_start h.accounts h.limit h.attempts h.limits, λ id s known. absurd (cc)) in
    (kept_by_runs Both (λ event answer old new s b. (sound_step event answer old new s b.0, accounted_step event answer old new s b.0 b.1)) ms (new_world h.accounts h.limit h.attempts) w h.history start).1
