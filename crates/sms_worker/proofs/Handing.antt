-- The requests of a worker stay the frames of its attempts.
use Rattle.std.proofs.Common.{◌≡◌, ℕ, zero, suc, ◌+◌, List, [], ◌∷◌, ◌++◌, length, Some, refl, ap, ◌∙◌, arith}
use Rattle.std.specs.Prelude.{slice_get}
use Rattle.sms_bind.specs.Frames.{weigh}
use Rattle.sms_bind.proofs.Weights.{weigh-append}
use Rattle.sms_message.specs.declared.message.Message.{Message}
use Rattle.sms_message.specs.Ends.{segments_in, segment_at, put, total, total_in}
use Rattle.sms_worker.specs.Types.{Attempt, SegmentEnd, MessageEnd}
use Rattle.sms_worker.specs.Begins.{fresh, ready}
use Rattle.sms_worker.specs.Handed.{frames_of, sent_weight, Handed, HandsOn}
use Rattle.sms_worker.proofs.EndLemmas.{total_put, total_none, total_append}

frames-append : (xs : List Attempt) (a : Attempt) → frames_of (xs ++ a ∷ []) ≡ frames_of xs ++ a.sent ∷ []
frames-append [] a = refl
frames-append (x ∷ xs) a = ap (λ (l : List (List ℕ)). x.sent ∷ l) (frames-append xs a)

-- an attempt was added whose frame was handed on
pub hands_one : (attempts mid attempts' : List Attempt) (a : Attempt) (old new : List (List ℕ)) → mid ≡ attempts → attempts' ≡ mid ++ a ∷ [] → new ≡ old ++ a.sent ∷ [] → HandsOn attempts attempts' old new
hands_one attempts mid attempts' a old new same more handed h =
    let x = ap (weigh h) handed ∙ weigh-append h old (a.sent ∷ []) in
    let y = ap (λ (l : List Attempt). weigh h (frames_of l)) more ∙ ap (weigh h) (frames-append mid a) ∙ weigh-append h (frames_of mid) (a.sent ∷ []) in
    let z = ap (λ (l : List Attempt). weigh h (frames_of l)) same in
    omega arith

-- nothing was
pub hands_none : (attempts attempts' : List Attempt) (old new : List (List ℕ)) → attempts' ≡ attempts → new ≡ old → HandsOn attempts attempts' old new
hands_none attempts attempts' old new same kept h = let x = ap (weigh h) kept in let y = ap (λ (l : List Attempt). weigh h (frames_of l)) same in omega arith

-- a call begins
pub handed_none : (old new : List (List ℕ)) (ms : List Message) (es : List MessageEnd) → new ≡ old → es ≡ [] → Handed old new ms es
handed_none old new ms es same none h =
    let x = ap (weigh h) same in
    let y = ap (λ (l : List MessageEnd). total (λ m s. sent_weight h s) ms l) none ∙ total_none (λ m s. sent_weight h s) ms in
    omega arith

-- a segment end changed, and its frames were handed on
pub handed_on : (old now new : List (List ℕ)) (ms : List Message) (es : List MessageEnd) (k p : ℕ) (m : Message) (s s' : SegmentEnd) → Handed old now ms es → slice_get ms k ≡ Some m → segment_at es k p ≡ Some s → HandsOn s.attempts s'.attempts now new
    → Handed old new ms (put es k p s')
handed_on old now new ms es k p m s s' handed there at hands h =
    let t = total_put (λ m s. sent_weight h s) ms es k p m s s' there at in
    let x = handed h in
    let y = hands h in
    omega arith

-- a segment end changed, and its frames stayed
pub handed_put : (old now : List (List ℕ)) (ms : List Message) (es : List MessageEnd) (k p : ℕ) (m : Message) (s s' : SegmentEnd) → Handed old now ms es → slice_get ms k ≡ Some m → segment_at es k p ≡ Some s → frames_of s'.attempts ≡ frames_of s.attempts
    → Handed old now ms (put es k p s')
handed_put old now ms es k p m s s' handed there at same =
    handed_on old now now ms es k p m s s' handed there at (λ h. let x = ap (weigh h) same in omega arith)

-- an answer leaves the frames as they are
pub frames_heard : (front : List Attempt) (last last' : Attempt) → last'.sent ≡ last.sent → frames_of (front ++ last' ∷ []) ≡ frames_of (front ++ last ∷ [])
frames_heard [] last last' e = ap (λ (f : List ℕ). f ∷ []) e
frames_heard (x ∷ front) last last' e = ap (λ (l : List (List ℕ)). x.sent ∷ l) (frames_heard front last last' e)

total_ready : (h : List ℕ → ℕ) (cost n : ℕ) → total_in (sent_weight h) (ready cost n) ≡ 0
total_ready h cost zero = refl
total_ready h cost (suc n) = let t = total_ready h cost n in let z : sent_weight h (fresh cost) ≡ 0 = refl in omega arith

-- a message was begun, of which nothing is sent
pub handed_begun : (old now : List (List ℕ)) (ms : List Message) (es : List MessageEnd) (m : Message) (e : MessageEnd) (cost n : ℕ) → Handed old now ms es → slice_get ms (length es) ≡ Some m → segments_in e.result ≡ ready cost n → Handed old now ms (es ++ e ∷ [])
handed_begun old now ms es m e cost n handed there segments h =
    let t = total_append (λ m s. sent_weight h s) ms es e m there in
    let z = ap (total_in (sent_weight h)) segments ∙ total_ready h cost n in
    let x = handed h in
    omega arith
