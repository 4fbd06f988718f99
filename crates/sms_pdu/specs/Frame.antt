-- Frames and the one division of a stream into them (SMPP 3.4 3.2).
use Rattle.std.specs.Prelude.{◌≡◌, ℕ, ◌<◌, ◌≤◌, ◌⊎◌, List, ◌++◌, length, nat_lt, if◌then◌else◌}
use Rattle.std.specs.List.{concat, AllByRecursion}
use Rattle.sms_pdu.specs.declared.front.Front.{Front}
use Rattle.sms_pdu.specs.declared.front.Front.TheVariants.{Short, Bad, Cut, Whole}
use Rattle.sms_pdu.specs.Header.{number_at}

-- the length that the first four octets give
abbrev pub announced : List ℕ → ℕ
announced octets = number_at 0 octets

-- the lengths that a frame may have
pub record IsGoodLength (n : ℕ) : Type 0 where
  pub least : 16 ≤ n
  pub most : n ≤ 70000

-- a frame has a good length, which its first four octets give
pub record IsFrame (frame : List ℕ) : Type 0 where
  pub good : IsGoodLength (length frame)
  pub announces : announced frame ≡ length frame

-- fewer octets than give a length
abbrev pub IsShort : List ℕ → Type 0
IsShort rest = length rest < 4

-- a good length, and fewer octets than it says
pub record IsCut (rest : List ℕ) : Type 0 where
  pub begun : 4 ≤ length rest
  pub good : IsGoodLength (announced rest)
  pub cut : length rest < announced rest

-- a length that no frame has
pub record IsBad (rest : List ℕ) : Type 0 where
  pub begun : 4 ≤ length rest
  pub bad : (announced rest < 16) ⊎ (70000 < announced rest)

abbrev pub IsRest : List ℕ → Type 0
IsRest rest = IsShort rest ⊎ IsCut rest ⊎ IsBad rest

-- the stream is these frames and then this rest
pub record Division (stream : List ℕ) (frames : List (List ℕ)) (rest : List ℕ) : Type 0 where
  pub whole : stream ≡ concat frames ++ rest
  pub each : AllByRecursion IsFrame frames
  pub ended : IsRest rest

-- the stream is some frames and then some rest
pub record HasDivision (stream : List ℕ) : Type 0 where
  pub frames : List (List ℕ)
  pub rest : List ℕ
  pub divided : Division stream frames rest

-- what stands where this length was announced, and so many octets are there
abbrev pub front_by : ℕ → ℕ → Front
front_by says there =
    if nat_lt says 16 then Bad
    else (if nat_lt 70000 says then Bad
    else (if nat_lt there says then Cut says else Whole says))

-- what stands at the front of the stream
abbrev pub front_at : List ℕ → Front
front_at stream = if nat_lt (length stream) 4 then Short else front_by (announced stream) (length stream)
