-- What the command line asks of a sending's lines: an inbox, enquiries, and to stay for receipts.
use Rattle.std.specs.Prelude.{◌≡◌, ◌≢◌, ◌⊎◌, List, [], ◌∷◌, Option, Some, None, codes, option_map, string_bytes}
use Rattle.clap.specs.Words.{Row, Rule, first_of}
use Rattle.sms_send.specs.DeliveredWords.{AreIds, AreNoIds}
use Rattle.sms_send.specs.Numbers.{number_of}
use Rattle.sms_send.specs.Rules.{value_rule}
use Rattle.sms_send.specs.declared.args.send_args.LineArgs.{LineArgs}
use Rattle.sms_send.specs.declared.args.send_args.StayArgs.{StayArgs}

-- their options
abbrev pub line_rules : List Rule
line_rules = value_rule (codes "inbox") ∷ value_rule (codes "enquire") ∷ value_rule (codes "stay") ∷ value_rule (codes "ids") ∷ []

-- to stay for receipts, which only an inbox has: seconds are 1 to 86,400. How ids are spelled is said of nothing else
abbrev pub AsksToStay : List Row → Option StayArgs → Type 0
AsksToStay rows None = (first_of (codes "stay") rows ≡ None) × (first_of (codes "ids") rows ≡ None)
AsksToStay rows (Some stay) = (number_of 86400 (first_of (codes "stay") rows) ≡ Some (Some stay.seconds)) × AreIds rows stay.ids × (first_of (codes "inbox") rows ≢ None)

-- what is asked of them: seconds until a line is asked are 1 to 3,600
pub record AsksForLines (rows : List Row) (lines : LineArgs) : Type 0 where
  pub inbox : first_of (codes "inbox") rows ≡ option_map string_bytes lines.inbox
  pub enquire : number_of 3600 (first_of (codes "enquire") rows) ≡ Some lines.enquire
  pub stay : AsksToStay rows lines.stay

-- there is no inbox to stay for, or ids are spelled where it doesn't stay
abbrev pub IsStayAlone : List Row → Type 0
IsStayAlone rows = (first_of (codes "stay") rows ≢ None) × (first_of (codes "inbox") rows ≡ None)

abbrev pub AreIdsAlone : List Row → Type 0
AreIdsAlone rows = (first_of (codes "stay") rows ≡ None) × (first_of (codes "ids") rows ≢ None)

-- the seconds are none in range, the ids are spelled in no known way, or one of them is said without the other
abbrev pub IsWrongStay : List Row → Type 0
IsWrongStay rows = (number_of 86400 (first_of (codes "stay") rows) ≡ None) ⊎ (AreNoIds rows ⊎ (IsStayAlone rows ⊎ AreIdsAlone rows))

abbrev pub IsWrongLine : List Row → Type 0
IsWrongLine rows = (number_of 3600 (first_of (codes "enquire") rows) ≡ None) ⊎ IsWrongStay rows
