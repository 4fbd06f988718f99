-- The lines of the files that a quote reads, by what may be the full name of the file of a name.
use Rattle.std.specs.Prelude.{◌≡◌, ◌≢◌, ℕ, List, [], Option, None, Some, string_bytes}
use Rattle.sms_send.specs.FilesRead.{file_lines}
use Rattle.sms_files.specs.declared.config.FileNames.{FileNames}

-- the full name of the file of a name, which is there just where that isn't empty
abbrev pub IsFullIfNamed : (List ℕ → List ℕ → Type 0) → List ℕ → Option (List ℕ) → Type 0
IsFullIfNamed is_full name None = name ≡ []
IsFullIfNamed is_full name (Some full) = (name ≢ []) × is_full name full

-- the lines of the config of a name and of the files that it names, in the order config, accounts, messages, tariff
pub record AreFileLines (is_full : List ℕ → List ℕ → Type 0) (name : List ℕ) (names : FileNames) (lines : List ℕ) : Type 0 where
  pub config : List ℕ
  pub accounts : List ℕ
  pub messages : List ℕ
  pub tariff : Option (List ℕ)
  pub of_config : is_full name config
  pub of_accounts : is_full (string_bytes names.accounts) accounts
  pub of_messages : is_full (string_bytes names.messages) messages
  pub of_tariff : IsFullIfNamed is_full (string_bytes names.tariff) tariff
  pub told : lines ≡ file_lines config accounts messages tariff

-- so where the name of the config is kept; else nothing
abbrev pub AreLinesIfKept : (List ℕ → List ℕ → Type 0) → Option (List ℕ) → FileNames → List ℕ → Type 0
AreLinesIfKept is_full None names lines = lines ≡ []
AreLinesIfKept is_full (Some name) names lines = AreFileLines is_full name names lines
