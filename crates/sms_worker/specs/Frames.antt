-- The frames of the attempts in the ends of messages, in order.
use Rattle.std.specs.Prelude.{ℕ, List, [], ◌∷◌, ◌++◌}
use Rattle.sms_message.specs.Ends.{segments_in}
use Rattle.sms_worker.specs.Handed.{frames_of}
use Rattle.sms_worker.specs.Types.{SegmentEnd, MessageEnd}

abbrev pub frames_of_segments : List SegmentEnd → List (List ℕ)
frames_of_segments [] = []
frames_of_segments (s ∷ ss) = frames_of s.attempts ++ frames_of_segments ss

abbrev pub frames_in : List MessageEnd → List (List ℕ)
frames_in [] = []
frames_in (e ∷ es) = frames_of_segments (segments_in e.result) ++ frames_in es
