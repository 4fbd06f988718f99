-- States of messages (SMPP 3.4 5.2.28), by the words of a receipt's text (Appendix B).
use Rattle.std.specs.Prelude.{ℕ, ◌==◌, ◌||◌, Bool, List, [], codes, if◌then◌else◌}
use Rattle.std.specs.Str.{bytes_eq}

-- the word of a message_state. Appendix B has none for ENROUTE, which is no final state
abbrev pub state_word : ℕ → List ℕ
state_word n =
    if n == 1 then codes "ENROUTE"
    else (if n == 2 then codes "DELIVRD"
    else (if n == 3 then codes "EXPIRED"
    else (if n == 4 then codes "DELETED"
    else (if n == 5 then codes "UNDELIV"
    else (if n == 6 then codes "ACCEPTD"
    else (if n == 7 then codes "UNKNOWN"
    else (if n == 8 then codes "REJECTD" else [])))))))

-- nothing else can become of the message
abbrev pub is_final : List ℕ → Bool
is_final state =
    bytes_eq state (codes "DELIVRD") || (bytes_eq state (codes "EXPIRED") || (bytes_eq state (codes "DELETED") || (bytes_eq state (codes "UNDELIV") || bytes_eq state (codes "REJECTD"))))
