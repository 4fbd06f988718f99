-- The parts of one message (3GPP TS 23.040 9.2.3.24.1).
use Rattle.std.specs.Prelude.{ℕ, ◌≡◌, ◌+◌, ◌<◌, ◌⊎◌, List, [], ◌∷◌, length, Some, None, All, slice_index_or}
use Rattle.std.specs.List.{flat_map}
use Rattle.sms_alphabet.specs.declared.coded.Coding.{Coding}
use Rattle.sms_alphabet.specs.declared.coded.Coded.{Coded}
use Rattle.sms_segment.specs.declared.part.Part.{Part}
use Rattle.sms_segment.specs.declared.place.Reference.{Reference}

-- the part of this number, of a message with this reference, coding and count
pub record StandsAt (reference : Reference) (coding : Coding) (count number : ℕ) (part : Part) : Type 0 where
  pub coding_is : part.coding ≡ coding
  pub place_is : part.place ≡ Some (record { reference = reference; count = count; number = number })

-- one part or more, with the numbers from 1 to their count
pub record IsSeries (reference : Reference) (coding : Coding) (parts : List Part) : Type 0 where
  pub some : 0 < length parts
  pub numbered : (k : ℕ) (other : Part) → k < length parts → StandsAt reference coding (length parts) (k + 1) (slice_index_or parts k other)

-- one part without a place
pub record IsSingle (part : Part) (parts : List Part) : Type 0 where
  pub alone : parts ≡ part ∷ []
  pub no_place : part.place ≡ None

-- All parts of one message, in order: a single part without a place, or a series.
abbrev pub IsWhole : List Part → Type 0
IsWhole parts = ((part : Part) × IsSingle part parts) ⊎ ((reference : Reference) × (coding : Coding) × IsSeries reference coding parts)

-- The text has the parts' coding, and their units one part after another.
pub record IsJoined (parts : List Part) (text : Coded) : Type 0 where
  pub coding : All (λ part. part.coding ≡ text.coding) parts
  pub units : text.units ≡ flat_map (λ part. part.units) parts
