-- The config: its keys in their order, what each may hold, and its value where it is missing.
use Rattle.std.specs.Prelude.{ℕ, ℤ, pos, negsuc, nat_le, nat_lt, ◌&&◌, ◌||◌, Bool, true, false, List, [], ◌∷◌, length, Option, Some, None, option_and_then, is_some, if◌then◌else◌, codes}
use Rattle.std.specs.Str.{bytes_eq}
use Rattle.toml.specs.Data.{Data, Members, no_members, member, get_member, as_integer, as_str, as_array, as_bool}
use Rattle.sms_centre.specs.Keys.{strings_in}
use Rattle.sms_centre.specs.Texts.{treatment_of}
pub use Rattle.sms_message.specs.Room.{has_no_zero}
use Rattle.sms_pdu.specs.declared.command.Mode.{Mode}
use Rattle.sms_pdu.specs.declared.command.Mode.TheVariants.{Transmitter, Transceiver}

abbrev pub Key : Type 0
Key = List ℕ

-- a whole number from the least to the most
abbrev pub in_range : ℕ → ℕ → ℤ → Option ℕ
in_range least most (pos n) = if nat_le least n && nat_le n most then Some n else None
in_range least most (negsuc n) = None

-- the number at a key, and its default where the key is missing
abbrev pub number_in : ℕ → ℕ → ℕ → Option Data → Option ℕ
number_in default least most None = Some default
number_in default least most (Some d) = option_and_then (in_range least most) (as_integer d)

-- a flag, false where the key is missing
abbrev pub flag_in : Option Data → Option Bool
flag_in None = Some false
flag_in (Some d) = as_bool d

-- a text, and its default where the key is missing
abbrev pub text_in : List ℕ → Option Data → Option (List ℕ)
text_in default None = Some default
text_in default (Some d) = as_str d

-- a C-Octet String of a maximum, which counts its 0 (SMPP 3.4 3.1)
abbrev pub c_octet_string : ℕ → List ℕ → Option (List ℕ)
c_octet_string most text = if nat_lt (length text) most && has_no_zero text then Some text else None

abbrev pub octets_in : ℕ → List ℕ → Option Data → Option (List ℕ)
octets_in most default value = option_and_then (c_octet_string most) (text_in default value)

-- the mode of a bind, by its name
abbrev pub mode_named : List ℕ → Option Mode
mode_named name =
    if bytes_eq name (codes "transmitter") then Some Transmitter
    else (if bytes_eq name (codes "transceiver") then Some Transceiver else None)

abbrev pub mode_in : Option Data → Option Mode
mode_in value = option_and_then mode_named (text_in (codes "transmitter") value)

-- each of the texts is one of a script
abbrev pub are_answers : List (List ℕ) → Bool
are_answers [] = true
are_answers (text ∷ texts) = is_some (treatment_of text) && are_answers texts

-- at least one text, and each one of a script
abbrev pub some_answers : List (List ℕ) → Option (List (List ℕ))
some_answers [] = None
some_answers (text ∷ texts) = if are_answers (text ∷ texts) then Some (text ∷ texts) else None

abbrev pub answers_in : Option Data → Option (List (List ℕ))
answers_in None = Some (codes "status 0" ∷ [])
answers_in (Some d) = option_and_then some_answers (option_and_then strings_in (as_array d))

-- the values of the keys, each with its default: to whom the sender binds, and as whom
abbrev pub host_of : Members → Option (List ℕ)
host_of t = text_in (codes "127.0.0.1") (get_member (codes "host") t)

abbrev pub port_of : Members → Option ℕ
port_of t = number_in 2775 1 65535 (get_member (codes "port") t)

abbrev pub system_id_of : Members → Option (List ℕ)
system_id_of t = octets_in 16 (codes "esme") (get_member (codes "system_id") t)

abbrev pub password_of : Members → Option (List ℕ)
password_of t = octets_in 9 (codes "") (get_member (codes "password") t)

abbrev pub system_type_of : Members → Option (List ℕ)
system_type_of t = octets_in 13 (codes "") (get_member (codes "system_type") t)

abbrev pub mode_of : Members → Option Mode
mode_of t = mode_in (get_member (codes "mode") t)

-- how it sends
abbrev pub binds_of : Members → Option ℕ
binds_of t = number_in 1 1 4 (get_member (codes "binds") t)

abbrev pub workers_of : Members → Option ℕ
workers_of t = number_in 1 1 8 (get_member (codes "workers") t)

abbrev pub window_of : Members → Option ℕ
window_of t = number_in 8 1 64 (get_member (codes "window") t)

abbrev pub depth_of : Members → Option ℕ
depth_of t = number_in 4 1 64 (get_member (codes "depth") t)

abbrev pub attempts_of : Members → Option ℕ
attempts_of t = number_in 3 1 10 (get_member (codes "attempts") t)

abbrev pub base_ms_of : Members → Option ℕ
base_ms_of t = number_in 100 0 60_000 (get_member (codes "base_ms") t)

abbrev pub answer_ms_of : Members → Option ℕ
answer_ms_of t = number_in 5000 1 600_000 (get_member (codes "answer_ms") t)

abbrev pub receipts_of : Members → Option Bool
receipts_of t = flag_in (get_member (codes "receipts") t)

abbrev pub long_reference_of : Members → Option Bool
long_reference_of t = flag_in (get_member (codes "long_reference") t)

abbrev pub follow_of : Members → Option Bool
follow_of t = flag_in (get_member (codes "follow") t)

-- what it reads
abbrev pub accounts_of : Members → Option (List ℕ)
accounts_of t = text_in (codes "accounts.csv") (get_member (codes "accounts") t)

abbrev pub messages_of : Members → Option (List ℕ)
messages_of t = text_in (codes "messages.csv") (get_member (codes "messages") t)

abbrev pub tariff_of : Members → Option (List ℕ)
tariff_of t = text_in (codes "") (get_member (codes "tariff") t)

-- what the test centre answers
abbrev pub bind_status_of : Members → Option ℕ
bind_status_of t = number_in 0 0 0xFFFF_FFFF (get_member (codes "bind_status") t)

abbrev pub answers_of : Members → Option (List (List ℕ))
answers_of t = answers_in (get_member (codes "answers") t)

-- the key, where it has no good value
abbrev pub fault_at : {A : Type 0} → Key → Option A → Option Key
fault_at key None = Some key
fault_at key (Some value) = None

-- the first of two faults
abbrev pub first_of : Option Key → Option Key → Option Key
first_of None later = later
first_of (Some key) later = Some key

-- the first key of each group that has no good value
abbrev pub connection_fault : Members → Option Key
connection_fault t =
    first_of (fault_at (codes "host") (host_of t))
    (first_of (fault_at (codes "port") (port_of t))
    (first_of (fault_at (codes "system_id") (system_id_of t))
    (first_of (fault_at (codes "password") (password_of t))
    (first_of (fault_at (codes "system_type") (system_type_of t))
    (fault_at (codes "mode") (mode_of t))))))

abbrev pub limits_fault : Members → Option Key
limits_fault t =
    first_of (fault_at (codes "binds") (binds_of t))
    (first_of (fault_at (codes "workers") (workers_of t))
    (first_of (fault_at (codes "window") (window_of t))
    (fault_at (codes "depth") (depth_of t))))

abbrev pub retry_fault : Members → Option Key
retry_fault t =
    first_of (fault_at (codes "attempts") (attempts_of t))
    (first_of (fault_at (codes "base_ms") (base_ms_of t))
    (fault_at (codes "answer_ms") (answer_ms_of t)))

abbrev pub flags_fault : Members → Option Key
flags_fault t =
    first_of (fault_at (codes "receipts") (receipts_of t))
    (first_of (fault_at (codes "long_reference") (long_reference_of t))
    (fault_at (codes "follow") (follow_of t)))

abbrev pub files_fault : Members → Option Key
files_fault t =
    first_of (fault_at (codes "accounts") (accounts_of t))
    (first_of (fault_at (codes "messages") (messages_of t))
    (fault_at (codes "tariff") (tariff_of t)))

abbrev pub script_fault : Members → Option Key
script_fault t =
    first_of (fault_at (codes "bind_status") (bind_status_of t))
    (fault_at (codes "answers") (answers_of t))

-- the keys that there are, in their order
abbrev pub known_keys : List Key
known_keys =
    codes "host" ∷ codes "port" ∷ codes "system_id" ∷ codes "password" ∷ codes "system_type" ∷ codes "mode"
    ∷ codes "binds" ∷ codes "workers" ∷ codes "window" ∷ codes "depth" ∷ codes "attempts" ∷ codes "base_ms" ∷ codes "answer_ms"
    ∷ codes "receipts" ∷ codes "long_reference" ∷ codes "follow"
    ∷ codes "accounts" ∷ codes "messages" ∷ codes "tariff" ∷ codes "bind_status" ∷ codes "answers" ∷ []

abbrev pub is_among : Key → List Key → Bool
is_among key [] = false
is_among key (k ∷ ks) = bytes_eq key k || is_among key ks

-- the least unknown key; a table's keys ascend
abbrev pub unknown_key : Members → Option Key
unknown_key no_members = None
unknown_key (member key value ms) = if is_among key known_keys then unknown_key ms else Some key

-- the first key whose value is of another type or out of range, and else the least unknown one
abbrev pub faulty_key : Members → Option Key
faulty_key t =
    first_of (connection_fault t) (first_of (limits_fault t) (first_of (retry_fault t) (first_of (flags_fault t)
    (first_of (files_fault t) (first_of (script_fault t) (unknown_key t))))))
