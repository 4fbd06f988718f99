-- Of which files a run is: the SHA-256 digests of their octets (FIPS 180-4).
use Rattle.std.specs.Prelude.{◌≡◌, ◌≢◌, ◌⊎◌, ℕ, ◌<◌, ◌≤◌, ⊤, List, [], ◌∷◌, length, Option, Some, None, option_map}
use Rattle.sha2.specs.Sha256.{sha256}
use Rattle.sms_journal.specs.declared.text.digests.RunFile.{RunFile}
use Rattle.sms_journal.specs.declared.text.digests.RunFile.TheVariants.{Config, Attempts, LongReference, Accounts, Messages, Tariff}
use Rattle.sms_journal.specs.declared.text.digests.FileTies.{FileTies}
use Rattle.sms_journal.specs.declared.text.header.ConfigTie.{ConfigTie}
use Rattle.sms_journal.specs.declared.text.header.ConfigTie.TheVariants.{Keys, Octets}
use Rattle.sms_journal.specs.declared.text.header.Digests.{Digests}
use Rattle.sms_journal.specs.declared.text.header.ReportKeys.{ReportKeys}
use Rattle.sms_files.specs.declared.config.Config.{Config as TheConfig}

-- those of a journal that is tied to its config's octets; there may be no tariff
abbrev pub digests_of : List ℕ → List ℕ → List ℕ → Option (List ℕ) → Digests
digests_of config accounts messages tariff = record { config = Octets (sha256 config); accounts = sha256 accounts; messages = sha256 messages; tariff = option_map sha256 tariff }

-- those of one that is tied to what a report is computed by
abbrev pub keyed : ReportKeys → Digests → Digests
keyed keys d = record { config = Keys keys; accounts = d.accounts; messages = d.messages; tariff = d.tariff }

-- the keys of a config
abbrev pub keys_of : TheConfig → ReportKeys
keys_of config = record { attempts = config.retry.policy.attempts; long_reference = config.flags.long_reference; binds = config.limits.binds; workers = config.limits.workers }

-- ---- what a journal of these files says of them, in the way of its own first line: binds and workers are those of its run's first round, which a later round need not have
abbrev pub tied_as : ConfigTie → FileTies → Digests
tied_as (Octets digest) files = files.digests
tied_as (Keys keys) files = keyed (record { attempts = files.keys.attempts; long_reference = files.keys.long_reference; binds = keys.binds; workers = keys.workers }) files.digests

-- the binds and workers of the first round, where the first line says them
abbrev pub first_in_tie : ConfigTie → Option (ℕ × ℕ)
first_in_tie (Octets digest) = None
first_in_tie (Keys keys) = Some (keys.binds, keys.workers)

-- ---- digests of any files

abbrev pub AreOctets : List ℕ → Type 0
AreOctets [] = ⊤
AreOctets (c ∷ cs) = (c < 256) × AreOctets cs

-- a digest has 32 octets
abbrev pub IsDigest : List ℕ → Type 0
IsDigest digest = (length digest ≡ 32) × AreOctets digest

abbrev pub IsTariffDigest : Option (List ℕ) → Type 0
IsTariffDigest None = ⊤
IsTariffDigest (Some digest) = IsDigest digest

-- keys that a config can have
pub record AreKeys (keys : ReportKeys) : Type 0 where
  pub some_attempts : 1 ≤ keys.attempts
  pub few_attempts : keys.attempts ≤ 10
  pub some_binds : 1 ≤ keys.binds
  pub few_binds : keys.binds ≤ 4
  pub some_workers : 1 ≤ keys.workers
  pub few_workers : keys.workers ≤ 8

abbrev pub IsTie : ConfigTie → Type 0
IsTie (Octets digest) = IsDigest digest
IsTie (Keys keys) = AreKeys keys

abbrev pub AreDigests : Digests → Type 0
AreDigests d = IsTie d.config × IsDigest d.accounts × IsDigest d.messages × IsTariffDigest d.tariff

-- of two ties to configs: of two of the second version binds and workers are the same
abbrev pub TieDiffers : ConfigTie → ConfigTie → RunFile → Type 0
TieDiffers (Octets d) (Octets e) what = (what ≡ Config) × (d ≢ e)
TieDiffers (Octets d) (Keys keys) what = what ≡ Config
TieDiffers (Keys keys) (Octets e) what = what ≡ Config
TieDiffers (Keys k) (Keys l) what = ((what ≡ Attempts) × (k.attempts ≢ l.attempts)) ⊎ ((what ≡ LongReference) × (k.attempts ≡ l.attempts) × (k.long_reference ≢ l.long_reference))

-- the first thing, in the order of a header, that differs
abbrev pub DiffersFirst : Digests → Digests → RunFile → Type 0
DiffersFirst d e Config = TieDiffers d.config e.config Config
DiffersFirst d e Attempts = TieDiffers d.config e.config Attempts
DiffersFirst d e LongReference = TieDiffers d.config e.config LongReference
DiffersFirst d e Accounts = (d.config ≡ e.config) × (d.accounts ≢ e.accounts)
DiffersFirst d e Messages = (d.config ≡ e.config) × (d.accounts ≡ e.accounts) × (d.messages ≢ e.messages)
DiffersFirst d e Tariff = (d.config ≡ e.config) × (d.accounts ≡ e.accounts) × (d.messages ≡ e.messages) × (d.tariff ≢ e.tariff)
