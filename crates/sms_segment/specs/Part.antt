-- A part as octets (3GPP TS 23.040 9.2.3.24.1, SMPP 3.4 5.2.12 and 5.2.19).
use Rattle.std.specs.Prelude.{ℕ, ◌≡◌, ◌≤◌, ◌/◌, ◌%◌, List, [], ◌∷◌, ◌++◌, Option, Some, None, All}
use Rattle.std.specs.List.{flat_map}
use Rattle.sms_alphabet.specs.declared.coded.Coding.{Coding}
use Rattle.sms_alphabet.specs.declared.coded.Coding.TheVariants.{Gsm, Ucs2}
use Rattle.sms_segment.specs.declared.part.Part.{Part}
use Rattle.sms_segment.specs.declared.place.Place.{Place}
use Rattle.sms_segment.specs.declared.place.Reference.{Reference}
use Rattle.sms_segment.specs.declared.place.Reference.TheVariants.{Short, Long}

-- The user data header: its length, and the one element of concatenation, whose data are the reference,
-- the count and the number.
abbrev pub header : Reference → ℕ → ℕ → List ℕ
header (Short reference) count number = 0x05 ∷ (0x00 ∷ (0x03 ∷ (reference ∷ (count ∷ (number ∷ [])))))
header (Long reference) count number = 0x06 ∷ (0x08 ∷ (0x04 ∷ ((reference / 256) ∷ ((reference % 256) ∷ (count ∷ (number ∷ []))))))

-- a part without a place has no header
abbrev pub header_of : Option Place → List ℕ
header_of None = []
header_of (Some place) = header place.reference place.count place.number

-- a septet unpacked in one octet; a UTF-16 unit with its high octet first
abbrev pub octets_of : Coding → ℕ → List ℕ
octets_of Gsm unit = unit ∷ []
octets_of Ucs2 unit = (unit / 256) ∷ ((unit % 256) ∷ [])

abbrev pub short_message : Part → List ℕ
short_message part = header_of part.place ++ flat_map (octets_of part.coding) part.units

-- the units are codes of 7 bits, where they are codes of the default alphabet
abbrev pub HasSeptets : Part → Type 0
HasSeptets part = part.coding ≡ Gsm → All (λ unit. unit ≤ 127) part.units

-- the header indicator of the GSM network features
abbrev pub esm_class : Option Place → ℕ
esm_class None = 0x00
esm_class (Some place) = 0x40

abbrev pub data_coding : Coding → ℕ
data_coding Gsm = 0x00
data_coding Ucs2 = 0x08
