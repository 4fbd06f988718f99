-- The lines of the files that were read.
use Rattle.std.specs.Prelude.{ℕ, List, [], Option, None, Some, ◌++◌, codes, option_map}
use Rattle.sms_send.specs.Shown.{shown}
use Rattle.sms_send.specs.declared.faults.details.files_read.FilesRead.{FilesRead}

-- a line: what a file is, and its name
abbrev pub file_line : List ℕ → List ℕ → List ℕ
file_line what name = codes "read " ++ what ++ codes " " ++ shown name ++ codes "\n"

-- that of the tariff, where there is one
abbrev pub tariff_line : Option (List ℕ) → List ℕ
tariff_line None = []
tariff_line (Some name) = file_line (codes "tariff") name

-- those of the config, the accounts, the messages and the tariff of these names
abbrev pub file_lines : List ℕ → List ℕ → List ℕ → Option (List ℕ) → List ℕ
file_lines config accounts messages tariff =
    file_line (codes "config") config ++ file_line (codes "accounts") accounts ++ file_line (codes "messages") messages ++ tariff_line tariff

abbrev pub files_text : FilesRead → List ℕ
files_text files = file_lines files.config.now files.accounts.now files.messages.now (option_map (λ name. name.now) files.tariff)
