-- The addresses of a message, and how each is sent: its type of number, its numbering plan and its octets (SMPP 3.4 5.2.5 to 5.2.9).
use Rattle.std.specs.Prelude.{◌≡◌, ℕ, ◌≤◌, ◌⊎◌, List, [], length, All}
use Rattle.std.specs.Char.{IsAsciiDigit}
use Rattle.sms_book.specs.Tariffs.{digits_of}
use Rattle.sms_message.specs.declared.address.AddressRef.{AddressRef}

-- as it is sent
pub record Address : Type 0 where
  pub ton : ℕ
  pub npi : ℕ
  pub octets : List ℕ

-- 1 to 20 digits, and maybe a + before them
abbrev pub IsNumber : List ℕ → Type 0
IsNumber text = (1 ≤ length (digits_of text)) × (length (digits_of text) ≤ 20) × All IsAsciiDigit (digits_of text)

-- a space, or a character that is seen
abbrev pub IsPrintable : ℕ → Type 0
IsPrintable c = (0x20 ≤ c) × (c ≤ 0x7E)

-- 1 to 11 of these
abbrev pub IsName : List ℕ → Type 0
IsName text = (1 ≤ length text) × (length text ≤ 11) × All IsPrintable text

-- an international number (1) of the telephone network (1), sent without its +
abbrev pub as_number : List ℕ → Address
as_number text = record { ton = 1; npi = 1; octets = digits_of text }

-- unknown (0, 0): the message centre fills in its own
abbrev pub no_address : Address
no_address = record { ton = 0; npi = 0; octets = [] }

-- alphanumeric (5)
abbrev pub as_name : List ℕ → Address
as_name text = record { ton = 5; npi = 0; octets = text }

-- a destination has to be a number
abbrev pub IsDestination : List ℕ → Address → Type 0
IsDestination text address = IsNumber text × (address ≡ as_number text)

-- a source may be left out, and is a name where it is no number
abbrev pub IsSource : List ℕ → Address → Type 0
IsSource text address =
    (IsNumber text × (address ≡ as_number text))
    ⊎ ((text ≡ []) × (address ≡ no_address))
    ⊎ (IsName text × (¬ IsNumber text) × (address ≡ as_name text))

-- an address that is borrowed
abbrev pub owned : AddressRef → Address
owned a = record { ton = a.ton; npi = a.npi; octets = a.octets.now }
