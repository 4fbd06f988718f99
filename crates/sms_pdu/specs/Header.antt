-- The header of a PDU (SMPP 3.4 3.2).
use Rattle.std.specs.Prelude.{ℕ, List, length, take, drop, Option, Some, None, nat_lt, if◌then◌else◌}
use Rattle.std.specs.Int.{w32, from_be_bytes}
use Rattle.sms_pdu.specs.declared.header.Header.{Header}

-- the number that four octets give from a place on, high octet first
abbrev pub number_at : ℕ → List ℕ → ℕ
number_at at octets = from_be_bytes w32 (take 4 (drop at octets))

-- the four numbers in their order
abbrev pub header_at_front : List ℕ → Header
header_at_front octets = record { length = number_at 0 octets; command = number_at 4 octets; status = number_at 8 octets; number = number_at 12 octets }

-- the header, where there are octets enough for one
abbrev pub header_in : List ℕ → Option Header
header_in octets = if nat_lt (length octets) 16 then None else Some (header_at_front octets)
