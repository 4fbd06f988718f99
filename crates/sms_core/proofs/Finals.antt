-- No step changes a request that is final.
use Rattle.std.proofs.Common.{◌≡◌, ◌≢◌, ℕ, List, [], ◌∷◌, Some, refl, sym, ap, ◌∙◌, subst}
use Rattle.sms_core.specs.declared.event.Event.{Event}
use Rattle.sms_core.specs.declared.event.Event.TheVariants.{TopUp, Reserve, Claim, Post, Respond, Settle, Expire, Discard, Release}
use Rattle.sms_core.specs.declared.event.Step.{Step}
use Rattle.sms_core.specs.declared.event.Step.TheVariants.{Done, Ignored}
use Rattle.sms_core.specs.declared.mark.Mark.{Mark}
use Rattle.sms_core.specs.declared.mark.Mark.TheVariants.{Empty, Open, Replied}
use Rattle.sms_core.specs.declared.request.Phase.{Phase}
use Rattle.sms_core.specs.declared.request.Phase.TheVariants.{Ready, Unanswered, Open as Waiting}
use Rattle.sms_core.specs.declared.request.Request.{Request}
use Rattle.sms_core.specs.declared.request.RequestState.{RequestState}
use Rattle.sms_core.specs.CoreLaws.{IsFinal, FinalStays}
use Rattle.sms_core.specs.State.{State, find_request, request_of, changed, mark_of}
use Rattle.sms_core.specs.Steps.{Steps, Settles, Expires, reserved_request, posted, with_phase, answered, discarded}
use Rattle.sms_core.specs.Histories.{Moment, IsHistory}
use Rattle.sms_core.proofs.Named.{find_unchanged, find_before}
use Rattle.sms_core.proofs.Runs.{first_step, later_steps}
use Rattle.sms_core.proofs.Sound.{IsSound, mark_waits, sound, sound_step}
use Rattle.sms_core.proofs.Spoken.{speaks, this_name}
use Rattle.sms_core.proofs.Done.{claim_done, post_done, discard_done, release_done}

-- the request is as it was
abbrev Keeps : State → State → ℕ → RequestState → Type 0
Keeps old new request r = request_of old request ≡ Some r → IsFinal r.phase → request_of new request ≡ Some r

same_requests : (old new with : State) (request : ℕ) (r : RequestState) → new ≡ with → with.requests ≡ old.requests → Keeps old new request r
same_requests old new with request r e q known final = ap (λ (l : List Request). find_request request l) (ap (λ (w : State). w.requests) e ∙ q) ∙ known

-- only a request that isn't final is changed
beside_change : (rs : List Request) (id request : ℕ) (f : RequestState → RequestState) (s r : RequestState) → find_request id rs ≡ Some s → (IsFinal s.phase → ⊥)
    → find_request request rs ≡ Some r → IsFinal r.phase → find_request request (changed id f rs) ≡ Some r
beside_change rs id request f s r at moves known final =
    find_unchanged id request f rs other ∙ known
  where
    other : request ≢ id
    other e =
        let both : Some r ≡ Some s = sym known ∙ ap (λ (k : ℕ). find_request k rs) e ∙ at in
        let same : r ≡ s = cc in
        moves (subst (λ (x : RequestState). IsFinal x.phase) same final)

not_ready : (p : Phase) → p ≡ Ready → IsFinal p → ⊥
not_ready p e final = subst IsFinal e final

not_waiting : (p : Phase) → p ≡ Waiting → IsFinal p → ⊥
not_waiting p e final = subst IsFinal e final

waiting_changes : (old new with : State) (slot id request : ℕ) (f : RequestState → RequestState) (r : RequestState) → IsSound old → new ≡ with → with.requests ≡ changed id f old.requests
    → speaks id (mark_of old slot) ≡ 1 → Keeps old new request r
waiting_changes old new with slot id request f r i e q one known final =
    let s = mark_waits old slot id i one in
    ap (λ (l : List Request). find_request request l) (ap (λ (w : State). w.requests) e ∙ q)
    ∙ beside_change old.requests id request f s.state r s.known (not_waiting s.state.phase s.waits) known final

settle_keeps : (m : Mark) (old new : State) (slot request : ℕ) (r : RequestState) → mark_of old slot ≡ m → Settles old slot m new → IsSound old → Keeps old new request r
settle_keeps Empty old new slot request r e s i = absurd s
settle_keeps (Open id n) old new slot request r e s i = absurd s
settle_keeps (Replied id n status nack) old new slot request r e s i =
    waiting_changes old new _ slot id request (answered old.attempts status nack) r i s refl (ap (speaks id) e ∙ this_name id id refl)

expire_keeps : (m : Mark) (old new : State) (slot request : ℕ) (r : RequestState) → mark_of old slot ≡ m → Expires old slot m new → IsSound old → Keeps old new request r
expire_keeps Empty old new slot request r e s i = absurd s
expire_keeps (Open id n) old new slot request r e s i = waiting_changes old new _ slot id request (with_phase Unanswered) r i s refl (ap (speaks id) e ∙ this_name id id refl)
expire_keeps (Replied id n status nack) old new slot request r e s i = absurd s

final_step : (request : ℕ) (r : RequestState) (event : Event) (answer : Step) (old new : State) → Steps old event answer new → IsSound old → Keeps old new request r
final_step request r event (Ignored cause) old new s i = same_requests old new old request r s.1 refl
final_step request r (TopUp account amount) Done old new s i = same_requests old new _ request r s.1 refl
final_step request r (Reserve id account cost) Done old new s i = λ known final.
    ap (λ (w : State). request_of w request) s.1 ∙ find_before request old.requests (reserved_request id account cost ∷ []) r known
final_step request r (Claim worker slot) Done old new s i = same_requests old new _ request r (claim_done old new worker slot s).after refl
final_step request r (Post worker slot id) Done old new s i = λ known final.
    let t = (post_done old new worker slot id s).ready in
    ap (λ (w : State). request_of w request) s.1 ∙ beside_change old.requests id request posted t.state r t.known (not_ready t.state.phase t.ready) known final
final_step request r (Respond number status nack) Done old new s i = same_requests old new _ request r s.1.after refl
final_step request r (Settle worker slot) Done old new s i = settle_keeps (mark_of old slot) old new slot request r refl s.1 i
final_step request r (Expire worker slot) Done old new s i = expire_keeps (mark_of old slot) old new slot request r refl s.1 i
final_step request r (Discard id) Done old new s i = λ known final.
    let t = (discard_done old new id s).ready in
    ap (λ (w : State). request_of w request) s.1 ∙ beside_change old.requests id request discarded t.state r t.known (not_ready t.state.phase t.ready) known final
final_step request r (Release worker slot) Done old new s i = same_requests old new _ request r (release_done old new worker slot s).after refl

final_run : (request : ℕ) (r : RequestState) (ms : List Moment) (old new : State) → IsHistory old ms new → IsSound old → Keeps old new request r
final_run request r [] old new h i = same_requests old new old request r h refl
final_run request r (m ∷ ms) old new h i = λ known final.
    let s = first_step m ms old new h in
    final_run request r ms m.after new (later_steps m ms old new h) (sound_step m.event m.answer old m.after s i) (final_step request r m.event m.answer old m.after s i known final) final

pub final_stays : FinalStays
final_stays ms later old new request r h run known final = final_run request r later old new run (sound ms old h) known final
