-- The rule of a run's log: the requests that its wires were given are those that its passes claim.
use Rattle.std.specs.Prelude.{Option, None, ◌≡◌, ℕ, ◌+◌, ◌-◌, ◌^◌, List, [], ◌∷◌, ◌++◌}
use mathlib.Core.Option.{some}
use lib.ListN.{get_elem?}
use Rattle.atomic_table.specs.Seated.{TableId}
use Rattle.atomic_table.specs.Table.{State, Me}
use Rattle.sms_bind.specs.declared.log.rule.View.{View}
use Rattle.sms_bind.specs.Frames.{requests, weigh, AreSame}

-- the name of no log
abbrev pub no_log : TableId
no_log = record { words = 0; slots = 0; views_name = 0; atom = 0; block = 0; offset = 0; slot_names = [] }

-- the parts of the right to know the whole; who has all of them knows that nobody else has a frame
abbrev pub all_parts : ℕ
all_parts = 2 ^ 32

-- a seat of no wire with these parts, which was given these frames and claims those
abbrev pub seat : ℕ → List (List ℕ) → List (List ℕ) → View
seat parts given claims = record { parts = parts; first = None; given = given; claims = claims }

-- the seat of a wire whose writer had these octets when the log of the wire began, and which was given these frames
abbrev pub wire_seat : Option (List ℕ) → List (List ℕ) → View
wire_seat first given = record { parts = 1; first = first; given = given; claims = [] }

-- f of each view, added up
abbrev pub total : (View → ℕ) → List View → ℕ
total f [] = 0
total f (v ∷ vs) = f v + total f vs

-- the weights of the requests that a seat was given, and of those that it claims
abbrev pub given_weight : (List ℕ → ℕ) → View → ℕ
given_weight h v = weigh h (requests v.given)

abbrev pub claimed_weight : (List ℕ → ℕ) → View → ℕ
claimed_weight h v = weigh h v.claims

-- a seat that has no part has no frame
abbrev pub IsIdle : View → Type 0
IsIdle v = v.parts ≡ 0 → (v.given ≡ []) × (v.claims ≡ [])

-- What holds between any two steps
pub record IsKept {S : Type 0} (s : State S View) : Type 0 where
  pub whole : total (λ v. v.parts) s.views ≡ all_parts
  -- the requests that wires were given are those that passes claim, each as often
  pub claimed : (h : List ℕ → ℕ) → total (given_weight h) s.views ≡ total (claimed_weight h) s.views
  pub idle : (id : ℕ) (v : View) → get_elem? s.views id ≡ some v → IsIdle v

-- the first seat has all parts
abbrev pub first_seat : View
first_seat = seat all_parts [] []

-- two seats in one; the other is left with nothing
abbrev pub joined : View → View → View
joined v w = record { parts = v.parts + w.parts; first = v.first; given = v.given ++ w.given; claims = v.claims ++ w.claims }

abbrev pub spent : View
spent = seat 0 [] []

-- a new seat gets one part
abbrev pub dealer : View → View
dealer v = record { parts = v.parts - 1; first = v.first; given = v.given; claims = v.claims }

abbrev pub dealt : View → View
dealt v = seat 1 [] []

-- a wire that took a pass in is given a frame, which the pass claims when it goes out again
abbrev pub wire_after : List ℕ → View → View
wire_after frame v = record { parts = v.parts - 1; first = v.first; given = v.given ++ frame ∷ []; claims = [] }

abbrev pub pass_after : List ℕ → View → View
pass_after frame v = seat 1 [] (v.claims ++ frame ∷ [])

-- a wire is given a frame that nobody claims
abbrev pub noted : List ℕ → View → View
noted frame v = record { parts = v.parts; first = v.first; given = v.given ++ frame ∷ []; claims = v.claims }

-- a look at the log: who has all parts claims just the requests that all wires were given
abbrev pub IsSettled : View → Type 0
IsSettled v = v.parts ≡ all_parts → AreSame (requests v.given) v.claims

abbrev pub Settles : Me (Unit {0}) View → Me (Unit {0}) View → Type 0
Settles v w = (w ≡ v) × IsSettled v.0
