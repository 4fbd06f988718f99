-- The weights of the frames in ends are the sums over their segments.
use Rattle.std.proofs.Common.{◌≡◌, ℕ, ◌+◌, ◌≤◌, List, [], ◌∷◌, ◌++◌, length, refl, ap, ◌∙◌, arith}
use Rattle.sms_bind.specs.Frames.{weigh, AreSame}
use Rattle.sms_bind.proofs.Weights.{weigh-append}
use Rattle.sms_message.specs.declared.message.Message.{Message}
use Rattle.sms_message.specs.Ends.{segments_in, total, total_in}
use Rattle.sms_worker.specs.Types.{SegmentEnd, MessageEnd}
use Rattle.sms_worker.specs.Frames.{frames_of_segments, frames_in}
use Rattle.sms_worker.specs.Handed.{frames_of, sent_weight, Handed}

weigh_segments : (h : List ℕ → ℕ) (ss : List SegmentEnd) → weigh h (frames_of_segments ss) ≡ total_in (sent_weight h) ss
weigh_segments h [] = refl
weigh_segments h (s ∷ ss) = weigh-append h (frames_of s.attempts) (frames_of_segments ss) ∙ ap (λ n. sent_weight h s + n) (weigh_segments h ss)

weigh_frames : (h : List ℕ → ℕ) (ms : List Message) (es : List MessageEnd) → length es ≤ length ms → weigh h (frames_in es) ≡ total (λ m s. sent_weight h s) ms es
weigh_frames h [] [] low = refl
weigh_frames h [] (e ∷ es) low = absurd (omega arith)
weigh_frames h (m ∷ ms) [] low = refl
weigh_frames h (m ∷ ms) (e ∷ es) low =
    let a = weigh-append h (frames_of_segments (segments_in e.result)) (frames_in es) in
    let b = weigh_segments h (segments_in e.result) in
    let c = weigh_frames h ms es (omega arith) in
    omega arith

-- the requests are those that there were before and the frames in the ends, each as often
pub are_handed : (old new : List (List ℕ)) (ms : List Message) (es : List MessageEnd) → length es ≤ length ms → Handed old new ms es → AreSame new (old ++ frames_in es)
are_handed old new ms es low handed h =
    let a = weigh-append h old (frames_in es) in
    let b = weigh_frames h ms es low in
    let c = handed h in
    omega arith
