-- What a step does to the requests.
use Rattle.std.proofs.Common.{◌≡◌, ℕ, List, [], ◌∷◌, ◌++◌, Some, None, refl, sym, ap, ◌∙◌}
use Rattle.sms_core.specs.declared.event.Event.{Event}
use Rattle.sms_core.specs.declared.event.Event.TheVariants.{TopUp, Reserve, Claim, Post, Respond, Settle, Expire, Discard, Release}
use Rattle.sms_core.specs.declared.event.Step.TheVariants.{Done}
use Rattle.sms_core.specs.declared.mark.Mark.{Mark}
use Rattle.sms_core.specs.declared.mark.Mark.TheVariants.{Empty, Open, Replied}
use Rattle.sms_core.specs.declared.request.Phase.TheVariants.{Unanswered}
use Rattle.sms_core.specs.declared.request.Request.{Request}
use Rattle.sms_core.specs.declared.request.RequestState.{RequestState}
use Rattle.sms_core.specs.State.{State, find_request, request_of, changed, mark_of}
use Rattle.sms_core.specs.Steps.{Steps, Settles, Expires, reserved_request, posted, with_phase, answered, discarded}
use Rattle.sms_core.specs.StepLaws.{IsSent, IsReplied, MovesRequest, AddsRequest, SameRequests, RequestStep, RequestsMove}
use Rattle.sms_core.proofs.Named.{find_changed, find_unchanged, find_after, find_beside, find_head}
use Rattle.sms_core.proofs.Sound.{IsSound, mark_waits, sound}
use Rattle.sms_core.proofs.Spoken.{speaks, this_name}
use Rattle.sms_core.proofs.Done.{reserve_done, claim_done, post_done, discard_done, release_done}

same_requests : (old new with : State) → new ≡ with → with.requests ≡ old.requests → SameRequests old new
same_requests old new with e q request = ap (λ (l : List Request). find_request request l) (ap (λ (w : State). w.requests) e ∙ q)

moves_request : (old new with : State) (request : ℕ) (f : RequestState → RequestState) (s : RequestState) → new ≡ with → with.requests ≡ changed request f old.requests
    → request_of old request ≡ Some s → MovesRequest old request f new
moves_request old new with request f s e q known =
    let now : new.requests ≡ changed request f old.requests = ap (λ (w : State). w.requests) e ∙ q in
    record {
      state = s;
      before = known;
      after = ap (find_request request) now ∙ find_changed request f old.requests s known;
      others = λ other ne. ap (find_request other) now ∙ find_unchanged request other f old.requests ne;
    }

adds_request : (old new with : State) (x : Request) → new ≡ with → with.requests ≡ old.requests ++ x ∷ [] → request_of old x.id ≡ None → AddsRequest old x.id x.state new
adds_request old new with x e q none =
    let now : new.requests ≡ old.requests ++ x ∷ [] = ap (λ (w : State). w.requests) e ∙ q in
    record {
      before = none;
      after = ap (find_request x.id) now ∙ find_after x.id old.requests (x ∷ []) none ∙ find_head x.id x [] refl;
      others = λ other ne. ap (find_request other) now ∙ find_beside other old.requests x (λ h. ne (sym h));
    }

-- what the slot had before, and what its request became
pub record Moved (old : State) (A : Type 0) (request : A → ℕ) (f : A → RequestState → RequestState) (new : State) : Type 0 where
  pub before : A
  pub topped : new.topped ≡ old.topped
  pub requests : new.requests ≡ changed (request before) (f before) old.requests

abbrev pub SettleDone : State → ℕ → State → Type 0
SettleDone old slot new = Moved old (IsReplied old slot) (λ r. r.request) (λ r. answered old.attempts r.status r.nack) new

abbrev pub ExpireDone : State → ℕ → State → Type 0
ExpireDone old slot new = Moved old (IsSent old slot) (λ r. r.request) (λ r. with_phase Unanswered) new

-- a Settle that is done finds an answer, and leaves its request answered
pub settled : (m : Mark) (old new : State) (slot : ℕ) → mark_of old slot ≡ m → Settles old slot m new → IsSound old
    → SettleDone old slot new
settled Empty old new slot e s i = absurd s
settled (Open id number) old new slot e s i = absurd s
settled (Replied id number status nack) old new slot e s i =
    let t = mark_waits old slot id i (ap (speaks id) e ∙ this_name id id refl) in
    record {
      before = record { request = id; number = number; status = status; nack = nack; state = t.state; mark = e; known = t.known; waits = t.waits };
      topped = ap (λ (w : State). w.topped) s;
      requests = ap (λ (w : State). w.requests) s;
    }

-- an Expire that is done finds a slot that waits, and leaves its request unanswered
pub expired : (m : Mark) (old new : State) (slot : ℕ) → mark_of old slot ≡ m → Expires old slot m new → IsSound old
    → ExpireDone old slot new
expired Empty old new slot e s i = absurd s
expired (Open id number) old new slot e s i =
    let t = mark_waits old slot id i (ap (speaks id) e ∙ this_name id id refl) in
    record {
      before = record { request = id; number = number; state = t.state; mark = e; known = t.known; waits = t.waits };
      topped = ap (λ (w : State). w.topped) s;
      requests = ap (λ (w : State). w.requests) s;
    }
expired (Replied id number status nack) old new slot e s i = absurd s

pub request_step : (event : Event) (old new : State) → IsSound old → Steps old event Done new → RequestStep old event new
request_step (TopUp account amount) old new i s = same_requests old new _ s.1 refl
request_step (Reserve request account cost) old new i s =
    adds_request old new _ (reserved_request request account cost) s.1 refl (reserve_done old new request account cost s).unknown
request_step (Claim worker slot) old new i s = same_requests old new _ (claim_done old new worker slot s).after refl
request_step (Post worker slot request) old new i s =
    let r = (post_done old new worker slot request s).ready in
    (r, moves_request old new _ request posted r.state s.1 refl r.known)
request_step (Respond number status nack) old new i s = same_requests old new _ s.1.after refl
request_step (Settle worker slot) old new i s =
    let t = settled (mark_of old slot) old new slot refl s.1 i in
    let r = t.before in
    (r, moves_request old new new r.request (answered old.attempts r.status r.nack) r.state refl t.requests r.known)
request_step (Expire worker slot) old new i s =
    let t = expired (mark_of old slot) old new slot refl s.1 i in
    let r = t.before in
    (r, moves_request old new new r.request (with_phase Unanswered) r.state refl t.requests r.known)
request_step (Discard request) old new i s =
    let r = (discard_done old new request s).ready in
    (r, moves_request old new _ request discarded r.state s.1 refl r.known)
request_step (Release worker slot) old new i s = same_requests old new _ (release_done old new worker slot s).after refl

pub requests_move : RequestsMove
requests_move ms old new event h s = request_step event old new (sound ms old h) s
