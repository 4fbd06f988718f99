-- What the command line asks of `delivered`.
use Rattle.std.specs.Prelude.{◌≡◌, ◌⊎◌, List, [], ◌∷◌, Option, Some, None, codes, string_bytes, if◌then◌else◌}
use Rattle.std.specs.Str.{bytes_eq}
use Rattle.clap.specs.Words.{Row, Rule, Text, first_of}
use Rattle.sms_inbox.specs.declared.ids.Ids.{Ids}
use Rattle.sms_inbox.specs.declared.ids.Ids.TheVariants.{Same, HexDec, DecHex}
use Rattle.sms_send.specs.Rules.{file_rule, value_rule}
use Rattle.sms_send.specs.declared.args.delivered_args.DeliveredArgs.{DeliveredArgs}

-- its options, beside those of every subcommand
abbrev pub delivered_rules : List Rule
delivered_rules = file_rule (codes "config") ∷ file_rule (codes "journal") ∷ file_rule (codes "inbox") ∷ value_rule (codes "ids") ∷ []

-- how ids are spelled: the same where nothing is said; nothing where the text isn't a word for it
abbrev pub ids_in : Option Text → Option Ids
ids_in None = Some Same
ids_in (Some text) = if bytes_eq text (codes "hex-dec") then Some HexDec else (if bytes_eq text (codes "dec-hex") then Some DecHex else None)

abbrev pub AreIds : List Row → Ids → Type 0
AreIds rows ids = ids_in (first_of (codes "ids") rows) ≡ Some ids

abbrev pub AreNoIds : List Row → Type 0
AreNoIds rows = ids_in (first_of (codes "ids") rows) ≡ None

pub record AsksForDelivered (rows : List Row) (order : DeliveredArgs) : Type 0 where
  pub config : first_of (codes "config") rows ≡ Some (string_bytes order.config)
  pub journal : first_of (codes "journal") rows ≡ Some (string_bytes order.journal)
  pub inbox : first_of (codes "inbox") rows ≡ Some (string_bytes order.inbox)
  pub ids : AreIds rows order.ids

-- a name is missing, or the text of `--ids` isn't a word for it
abbrev pub LacksDelivered : List Row → Type 0
LacksDelivered rows = (first_of (codes "config") rows ≡ None) ⊎ (first_of (codes "journal") rows ≡ None) ⊎ (first_of (codes "inbox") rows ≡ None) ⊎ AreNoIds rows
