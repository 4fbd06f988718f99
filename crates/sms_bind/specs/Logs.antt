-- The log of a run as contracts see it: its keeper, the requests of a thread, and a wire with its log.
use Rattle.std.specs.Prelude.{Some, None, ◌≡◌, ℕ, ◌-◌, ◌<◌, ◌≤◌, List, [], ◌∷◌, ◌++◌, length, take, Option, Bool, true, false}
use Rattle.std.specs.List.{concat}
use Rattle.std.specs.Io.KnownBytes.{Appends}
use Rattle.atomic_table.specs.Seated.{TableId}
use Rattle.sms_pdu.specs.Grammar.{Spells}
use Rattle.sms_session.specs.Settings.{Setting, bind_pdu}
use Rattle.sms_bind.specs.declared.log.rule.View.{View}
use Rattle.sms_bind.specs.declared.wire.Wire.{Wire}
use Rattle.sms_bind.specs.LogRule.{all_parts, seat, wire_seat, first_seat}
use Rattle.sms_bind.specs.Wires.{writer, is_broken}

-- the keeper of a log: how many wires and threads of the log are away from it, the frames that the wires which came back were
-- given, and the requests of the threads that came back
pub record Keeping : Type 0 where
  pub away : ℕ
  pub given : List (List ℕ)
  pub requests : List (List ℕ)

-- the log of a run that is over: the frames that the run's wires were given, and the requests of its threads
pub record Settled : Type 0 where
  pub given : List (List ℕ)
  pub requests : List (List ℕ)

-- a wire with its log: what its writer had when the log began, if it is known, the wire now, and the frames that it was given
-- since, in order
pub record Logged (W : Type 0) : Type 0 where
  pub first : Option (List ℕ)
  pub wire : Wire W
  pub log : List (List ℕ)

-- The frames were written whole and in order; where the wire is broken, the last of them in part
abbrev pub Wrote : Bool → Option (List ℕ) → Option (List ℕ) → List (List ℕ) → Type 0
Wrote false before after log = Appends before after (concat log)
Wrote true before after log = (whole : List (List ℕ)) × (last : List ℕ) × (n : ℕ) × (log ≡ whole ++ last ∷ []) × (n < length last) × Appends before after (concat whole ++ take n last)

-- a bind by these settings was written whole, with this number (SMPP 3.4 4.1)
pub record BindWritten (settings : Setting) (number : ℕ) (before after : Option (List ℕ)) : Type 0 where
  pub octets : List ℕ
  pub spelled : Spells (bind_pdu settings number) octets
  pub appended : Appends before after octets

-- The log begins right behind a bind by these settings; where they aren't said, behind anything
abbrev pub BeginsBehind : Option Setting → Option (List ℕ) → Type 0
BeginsBehind None first = Unit {0}
BeginsBehind (Some settings) first = (number : ℕ) × (before : Option (List ℕ)) × BindWritten settings number before first

-- ---- how they stand on the log's table

abbrev pub parts_of : List View → ℕ
parts_of [] = 0
parts_of (v ∷ vs) = v.parts

abbrev pub first_of : List View → Option (List ℕ)
first_of [] = None
first_of (v ∷ vs) = v.first

abbrev pub given_of : List View → List (List ℕ)
given_of [] = []
given_of (v ∷ vs) = v.given

abbrev pub claims_of : List View → List (List ℕ)
claims_of [] = []
claims_of (v ∷ vs) = v.claims

-- the keeper and the wire as contracts see them
abbrev pub keeping : List View → Keeping
keeping views = record { away = all_parts - parts_of views; given = given_of views; requests = claims_of views }

abbrev pub settled : List View → Settled
settled views = record { given = given_of views; requests = claims_of views }

abbrev pub logged : {W : Type 0} → Wire W → List View → Logged W
logged wire views = record { first = first_of views; wire = wire; log = given_of views }

-- a log that has no name yet: its one seat has all parts
pub record BlankStands (table badge : TableId) (views : List View) : Type 0 where
  pub badge_is : badge ≡ table
  pub word : 0 < table.words
  pub view : views ≡ first_seat ∷ []

pub record KeeperStands (name badge : TableId) (views : List View) : Type 0 where
  pub badge_is : badge ≡ name
  pub view : views ≡ seat (parts_of views) (given_of views) (claims_of views) ∷ []
  pub some : 0 < parts_of views
  pub most : parts_of views ≤ all_parts

pub record RequestsStand (name badge : TableId) (views : List View) : Type 0 where
  pub badge_is : badge ≡ name
  pub view : views ≡ seat 1 [] (claims_of views) ∷ []

pub record LoggedStands {W : Type 0} (contents : W → Option (List ℕ)) (settings : Option Setting) (name badge : TableId) (views : List View) (wire : Wire W) : Type 0 where
  pub badge_is : badge ≡ name
  pub view : views ≡ wire_seat (first_of views) (given_of views) ∷ []
  pub behind : BeginsBehind settings (first_of views)
  pub wrote : Wrote (is_broken wire) (first_of views) (contents (writer wire)) (given_of views)
