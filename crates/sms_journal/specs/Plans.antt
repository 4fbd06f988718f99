-- What a run's files say of each message: the account that pays, whether its addresses are good, in how many parts it is sent, and what each costs.
use Rattle.std.specs.Prelude.{◌≡◌, ◌↔◌, IsTrue, ℕ, ◌==◌, ◌&&◌, nat_le, nat_lt, not, Bool, true, List, length, Option, Some, None, is_some, string_bytes, if◌then◌else◌}
use Rattle.std.specs.List.{AllZip}
use Rattle.sms_book.specs.Tariffs.{Price, cost_of}
use Rattle.sms_message.specs.declared.message.Message.{Message}
use Rattle.sms_message.specs.declared.ends.MessageRefusal.{MessageRefusal}
use Rattle.sms_message.specs.declared.ends.MessageRefusal.TheVariants.{NoAccount, NoCredit, TooLong, BadAddress, BindClosed, OutOfMemory}
use Rattle.sms_message.specs.Submits.{HasAddresses, parts_for}
use Rattle.sms_files.specs.declared.input.Input.{Input as TheInput}
use Rattle.sms_journal.specs.declared.rest.plan.Plan.{Plan}

-- a header counts up to 255 parts; a message that has more isn't sent
abbrev pub countable : ℕ → ℕ
countable parts = if nat_le parts 255 then parts else 0

-- the account, where the book has it
abbrev pub account_of : ℕ → Option ℕ → Option ℕ
account_of accounts None = None
account_of accounts (Some account) = if nat_lt account accounts then Some account else None

pub record IsPlan (long : Bool) (prices : List Price) (accounts : ℕ) (m : Message) (plan : Plan) : Type 0 where
  pub account : plan.account ≡ account_of accounts m.account
  pub addresses : IsTrue plan.addresses ↔ HasAddresses m
  pub parts : plan.parts ≡ countable (length (parts_for long m))
  pub cost : plan.cost ≡ cost_of prices (string_bytes m.dest)

-- those of each message of a run
abbrev pub ArePlans : TheInput → List Plan → Type 0
ArePlans input plans = AllZip (IsPlan input.config.flags.long_reference input.tariff (length input.openings.items)) input.messages.items plans

-- no check stands against the message
abbrev pub is_admitted : Plan → Bool
is_admitted plan = is_some plan.account && (plan.addresses && nat_le 1 plan.parts)

-- why it may be refused as a whole; the checks come in this order: its account, its addresses, its length, its cost
abbrev pub may_refuse : Plan → MessageRefusal → Bool
may_refuse plan NoAccount = not (is_some plan.account)
may_refuse plan BadAddress = is_some plan.account && not plan.addresses
may_refuse plan TooLong = is_some plan.account && (plan.addresses && plan.parts == 0)
may_refuse plan NoCredit = is_admitted plan
may_refuse plan BindClosed = true
may_refuse plan OutOfMemory = is_some plan.account && plan.addresses
