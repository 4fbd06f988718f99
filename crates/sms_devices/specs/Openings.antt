-- How much has come of a connection's first frame.
use Rattle.std.specs.Prelude.{ℕ, ◌+◌, ◌*◌, ◌-◌, ◌^◌, ◌&&◌, Bool, min, nat_le, nat_lt, List, [], ◌∷◌, if◌then◌else◌}
use Rattle.sms_devices.specs.declared.transport.opening.Opening.{Opening}

-- a count stops at its greatest value
abbrev pub capped : ℕ → ℕ
capped n = min n (2 ^ 64 - 1)

-- an octet more: the first four are the command_length, the highest first (SMPP 3.4 3.2)
abbrev pub seen_one : Opening → ℕ → Opening
seen_one o octet = record {
  deadline = o.deadline;
  seen = capped (o.seen + 1);
  length = if nat_lt o.seen 4 then capped (capped (o.length * 256) + octet) else o.length;
}

-- these octets more
abbrev pub seen_all : List ℕ → Opening → Opening
seen_all [] o = o
seen_all (octet ∷ octets) o = seen_all octets (seen_one o octet)

-- the length has come, and as many octets
abbrev pub is_whole_frame : Opening → Bool
is_whole_frame o = nat_le 4 o.seen && nat_le o.length o.seen
