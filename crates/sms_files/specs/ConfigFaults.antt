-- What the config says, and what a fault says of it.
use Rattle.std.specs.Prelude.{◌≡◌, ℕ, List, Option, Some, None, if◌then◌else◌, map, string_bytes}
use Rattle.std.specs.Str.{is_utf8}
use Rattle.toml.specs.Data.{Members}
use Rattle.toml.specs.Parse.{parse_document}
use Rattle.sms_files.specs.Config.{Key, faulty_key, host_of, port_of, system_id_of, password_of, system_type_of, mode_of, binds_of, workers_of, window_of, depth_of, attempts_of, base_ms_of, answer_ms_of, receipts_of, long_reference_of, follow_of, accounts_of, messages_of, tariff_of, bind_status_of, answers_of}
use Rattle.sms_files.specs.ConfigValues.{IsValueAt}
use Rattle.sms_files.specs.declared.config.Config.{Config}
use Rattle.sms_files.specs.declared.config.Connection.{Connection}
use Rattle.sms_files.specs.declared.config.limits.Limits.{Limits}
use Rattle.sms_files.specs.declared.config.Retry.{Retry}
use Rattle.sms_files.specs.declared.config.Flags.{Flags}
use Rattle.sms_files.specs.declared.config.FileNames.{FileNames}
use Rattle.sms_files.specs.declared.config.Answers.{Answers}
use Rattle.sms_files.specs.declared.fault.InputFault.{InputFault}
use Rattle.sms_files.specs.declared.fault.InputFault.TheVariants.{BadKey, NotToml, OutOfMemory}

-- what a fault says of the keys of a table, of which this is the first faulty one: it names that one and what stands there
abbrev pub TellsKey : Members → Option Key → InputFault → Type 0
TellsKey t faulty (BadKey key value) = (faulty ≡ Some (string_bytes key)) × IsValueAt (string_bytes key) t value
TellsKey t faulty (OutOfMemory _) = Unit {0}
TellsKey t faulty _ = ⊥

-- the values are those of the keys
pub record SaysConnection (t : Members) (c : Connection) : Type 0 where
  pub host : host_of t ≡ Some (string_bytes c.host)
  pub port : port_of t ≡ Some c.port
  pub system_id : system_id_of t ≡ Some c.settings.system_id
  pub password : password_of t ≡ Some c.settings.password
  pub system_type : system_type_of t ≡ Some c.settings.system_type
  pub mode : mode_of t ≡ Some c.settings.mode

pub record SaysLimits (t : Members) (l : Limits) : Type 0 where
  pub binds : binds_of t ≡ Some l.binds
  pub workers : workers_of t ≡ Some l.workers
  pub window : window_of t ≡ Some l.window
  pub depth : depth_of t ≡ Some l.depth

pub record SaysRetry (t : Members) (r : Retry) : Type 0 where
  pub attempts : attempts_of t ≡ Some r.policy.attempts
  pub base_ms : base_ms_of t ≡ Some r.policy.base_ms
  pub answer_ms : answer_ms_of t ≡ Some r.answer_ms

pub record SaysFlags (t : Members) (f : Flags) : Type 0 where
  pub receipts : receipts_of t ≡ Some f.receipts
  pub long_reference : long_reference_of t ≡ Some f.long_reference
  pub follow : follow_of t ≡ Some f.follow

pub record SaysFiles (t : Members) (f : FileNames) : Type 0 where
  pub accounts : accounts_of t ≡ Some (string_bytes f.accounts)
  pub messages : messages_of t ≡ Some (string_bytes f.messages)
  pub tariff : tariff_of t ≡ Some (string_bytes f.tariff)

pub record SaysAnswers (t : Members) (a : Answers) : Type 0 where
  pub bind_status : bind_status_of t ≡ Some a.bind_status
  pub answers : answers_of t ≡ Some (map string_bytes a.texts.items)

pub record SaysConfig (t : Members) (c : Config) : Type 0 where
  pub connection : SaysConnection t c.connection
  pub limits : SaysLimits t c.limits
  pub retry : SaysRetry t c.retry
  pub flags : SaysFlags t c.flags
  pub files : SaysFiles t c.files
  pub answers : SaysAnswers t c.answers

-- the table that octets spell, where they are text and that is TOML
abbrev pub toml_of : List ℕ → Option Members
toml_of octets = if is_utf8 octets then parse_document octets else None

-- what holds of that table
abbrev pub OfTable : List ℕ → (Members → Type 0) → Type 0
OfTable octets P = (t : Members) × (toml_of octets ≡ Some t) × P t

-- what a fault says of octets that are no table
abbrev pub TellsToml : List ℕ → InputFault → Type 0
TellsToml octets (NotToml why) = toml_of octets ≡ None
TellsToml octets (OutOfMemory _) = Unit {0}
TellsToml octets _ = ⊥

-- the octets are a config without a fault, which says this
abbrev pub IsConfig : List ℕ → Config → Type 0
IsConfig octets c = OfTable octets (λ t. (faulty_key t ≡ None) × SaysConfig t c)

-- what a fault says of the octets of a config: they aren't TOML, or which key is the first faulty one, and what stands there
abbrev pub TellsConfig : List ℕ → InputFault → Type 0
TellsConfig octets (NotToml why) = toml_of octets ≡ None
TellsConfig octets (BadKey key value) = OfTable octets (λ t. (faulty_key t ≡ Some (string_bytes key)) × IsValueAt (string_bytes key) t value)
TellsConfig octets (OutOfMemory _) = Unit {0}
TellsConfig octets _ = ⊥
