-- Optional parameters of a receipt (SMPP 3.4 5.3.2).
use Rattle.std.specs.Prelude.{ℕ, ◌==◌, ◌*◌, ◌+◌, List, [], ◌∷◌, Option, Some, None, if◌then◌else◌}
use Rattle.sms_pdu.specs.declared.parameter.Parameter.{Parameter}
use Rattle.sms_inbox.specs.State.{state_word}

-- the value of the first parameter with this tag, or no octets
abbrev pub value_of : ℕ → List Parameter → List ℕ
value_of tag [] = []
value_of tag (p ∷ ps) = if p.tag == tag then p.value else value_of tag ps

-- a C-Octet String without the 0 that ends it (3.1)
abbrev pub before_zero : List ℕ → List ℕ
before_zero [] = []
before_zero (c ∷ cs) = if c == 0 then [] else c ∷ before_zero cs

-- receipted_message_id (5.3.2.12)
abbrev pub id_in : List Parameter → List ℕ
id_in params = before_zero (value_of 0x001E params)

-- message_state (5.3.2.35) is one octet
abbrev pub state_of : List ℕ → List ℕ
state_of [] = []
state_of (n ∷ []) = state_word n
state_of (n ∷ m ∷ more) = []

abbrev pub state_in : List Parameter → List ℕ
state_in params = state_of (value_of 0x0427 params)

-- network_error_code (5.3.2.31) is the network's type and an error code of two octets
abbrev pub code_of : List ℕ → Option ℕ
code_of [] = None
code_of (n ∷ []) = None
code_of (n ∷ a ∷ []) = None
code_of (n ∷ a ∷ b ∷ []) = Some (a * 256 + b)
code_of (n ∷ a ∷ b ∷ c ∷ more) = None

abbrev pub code_in : List Parameter → Option ℕ
code_in params = code_of (value_of 0x0423 params)

-- message_payload (5.3.2.32)
abbrev pub payload_in : List Parameter → List ℕ
payload_in params = value_of 0x0424 params
