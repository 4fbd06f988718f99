-- The texts of a script.
use Rattle.std.specs.Prelude.{◌≡◌, ◌<◌, ℕ, ◌+◌, suc, ◌==◌, nat_lt, List, [], ◌∷◌, length, take, drop, map, slice_index_or, Option, Some, None, option_map, option_and_then, if◌then◌else◌, codes}
use Rattle.std.specs.Str.{bytes_eq}
use Rattle.sms_core.specs.Decimal.{decimal_in}
use Rattle.sms_centre.specs.declared.treatment.Treatment.{Treatment}
use Rattle.sms_centre.specs.declared.treatment.Treatment.TheVariants.{Status, Nack, Silent, Unbind, Twice, Stray, Late, Deliver, Cut, Huge}

-- every number is decimal and below 2^32
abbrev pub number : List ℕ → Option ℕ
number text = decimal_in 0xFFFF_FFFF text

-- the place of the first space, or the length
abbrev pub space_at : List ℕ → ℕ
space_at [] = 0
space_at (c ∷ cs) = if c == 32 then 0 else suc (space_at cs)

-- what a word makes of the text after the space that follows it, if one does
abbrev pub Form : Type 0
Form = Option (List ℕ) → Option Treatment

-- the word stands alone
abbrev pub alone : Treatment → Form
alone t None = Some t
alone t (Some rest) = None

-- a number follows
abbrev pub number_behind : Option (List ℕ) → Option ℕ
number_behind None = None
number_behind (Some rest) = number rest

abbrev pub one : (ℕ → Treatment) → Form
one t behind = option_map t (number_behind behind)

-- at least 1
abbrev pub later : ℕ → Option ℕ
later n = if n == 0 then None else Some n

-- two numbers with a space between, the first at least 1
abbrev pub late : List ℕ → Option Treatment
late rest = option_and_then (λ j. option_map (Late j) (number (drop (space_at rest + 1) rest))) (option_and_then later (number (take (space_at rest) rest)))

abbrev pub late_behind : Form
late_behind None = None
late_behind (Some rest) = late rest

-- the texts by their words
abbrev pub texts : List (List ℕ × Form)
texts =
    (codes "status", one Status)
    ∷ (codes "nack", one Nack)
    ∷ (codes "twice", one Twice)
    ∷ (codes "stray", one Stray)
    ∷ (codes "late", late_behind)
    ∷ (codes "silent", alone Silent)
    ∷ (codes "unbind", alone Unbind)
    ∷ (codes "deliver", alone Deliver)
    ∷ (codes "cut", alone Cut)
    ∷ (codes "huge", alone Huge)
    ∷ []

abbrev pub made_by : List (List ℕ × Form) → List ℕ → Option (List ℕ) → Option Treatment
made_by [] word behind = None
made_by (t ∷ ts) word behind = if bytes_eq word t.0 then t.1 behind else made_by ts word behind

abbrev pub behind_at : ℕ → List ℕ → Option (List ℕ)
behind_at at text = if nat_lt at (length text) then Some (drop (at + 1) text) else None

-- the treatment that a text spells: a word alone, or a word, a space and what follows it
abbrev pub treatment_of : List ℕ → Option Treatment
treatment_of text = made_by texts (take (space_at text) text) (behind_at (space_at text) text)

-- the texts spell these treatments, one each
abbrev pub SayAll : List (List ℕ) → List Treatment → Type 0
SayAll spelled ts = map treatment_of spelled ≡ map Some ts

-- the text at this place spells none, and all before it do
pub record IsFirstBad (spelled : List (List ℕ)) (place : ℕ) : Type 0 where
  pub there : place < length spelled
  pub bad : treatment_of (slice_index_or spelled place []) ≡ None
  pub before : (ts : List Treatment) × SayAll (take place spelled) ts
