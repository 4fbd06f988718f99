-- A run whose credits are a ledger's: what stands before its journal, the accounts that it opens, and what it takes of the ledger for them.
use Rattle.std.specs.Prelude.{◌≡◌, ◌⊎◌, ℕ, ◌<◌, ◌==◌, ◌&&◌, ◌||◌, not, Bool, true, false, List, [], ◌∷◌, ◌++◌, length, drop, filter, flat_map, map, take, Option, Some, None, option_and_then, if◌then◌else◌, codes, decimal, string_bytes}
use Rattle.std.specs.List.{AllZip}
use Rattle.std.specs.Str.{bytes_eq}
use Rattle.sha2.specs.Sha256.{sha256}
use Rattle.sms_book.specs.declared.opening.Opening.{Opening}
use Rattle.sms_files.specs.Accounts.{name_in}
use Rattle.sms_files.specs.Fields.{Record}
use Rattle.sms_files.specs.Report.{field_text}
use Rattle.sms_ledger.specs.Books.{State, stand_of}
use Rattle.sms_ledger.specs.Lines.{IsU64}
use Rattle.sms_ledger.specs.Names.{IsRun, name_said, octets_text}
use Rattle.sms_ledger.specs.declared.entry.Entry.{Entry}
use Rattle.sms_ledger.specs.declared.entry.Entry.TheVariants.{Taken}
use Rattle.sms_ledger.specs.declared.entry.Row.{Row}
use Rattle.sms_ledger.specs.declared.entry.Stand.{Stand}
use Rattle.sms_ledger.specs.declared.entry.Stand.TheVariants.{Back, Out}
use Rattle.sms_journal.specs.Lines.{feed_at}
use Rattle.sms_journal.specs.Text.{hex_text, number_field}

-- ---- what stands before the journal

-- the first line of the file: the run's name, and how many octets its accounts take
abbrev pub run_line : List ℕ → ℕ → List ℕ
run_line run size = codes "run,1," ++ run ++ number_field size ++ codes "\n"

-- and behind it its accounts, as an accounts file has them
abbrev pub run_head : List ℕ → List ℕ → List ℕ
run_head run accounts = run_line run (length accounts) ++ accounts

-- the octets are the journal of a run with this name and these accounts
pub record IsRunText (run accounts journal text : List ℕ) : Type 0 where
  pub named : IsRun run
  pub small : IsU64 (length accounts)
  pub is : text ≡ run_head run accounts ++ journal

-- they are that of no run with a name
abbrev pub IsNoRunText : List ℕ → Type 0
IsNoRunText text = (run accounts journal : List ℕ) → ¬ IsRunText run accounts journal text

-- one text begins with the other
abbrev pub BeginsSo : List ℕ → List ℕ → Type 0
BeginsSo front text = (rest : List ℕ) × (text ≡ front ++ rest)

-- they are less than a first line, and begin so
abbrev pub IsCutLine : List ℕ → Type 0
IsCutLine text = (feed_at text ≡ None) × (BeginsSo text (codes "run,1,") ⊎ BeginsSo (codes "run,1,") text)

-- or a first line, and less than the accounts that it says
pub record IsCutAccounts (text : List ℕ) : Type 0 where
  pub run : List ℕ
  pub size : ℕ
  pub accounts : List ℕ
  pub named : IsRun run
  pub small : IsU64 size
  pub is : text ≡ run_line run size ++ accounts
  pub short : length accounts < size

-- in either case they were truncated: the run ended before it took anything
abbrev pub IsCutHead : List ℕ → Type 0
IsCutHead text = IsCutLine text ⊎ IsCutAccounts text

-- ---- its accounts

-- the octets of names that are spelled otherwise
abbrev pub spelled_otherwise : List ℕ → List ℕ → Bool
spelled_otherwise name other = not (bytes_eq (octets_text name) (octets_text other))

-- names, each once, in the order in which they come first
abbrev pub distinct : List (List ℕ) → List (List ℕ)
distinct [] = []
distinct (name ∷ names) = name ∷ filter (spelled_otherwise name) (distinct names)

-- the row that a name has in a ledger, if it has one there
abbrev pub row_named : State → List ℕ → Option Row
row_named s name = option_and_then s.accounts (name_said (octets_text name))

-- the record of an account with what is free of it
abbrev pub free_line : List ℕ → Option Row → List ℕ
free_line name None = []
free_line name (Some row) = field_text name ++ codes "," ++ decimal row.free ++ codes "\n"

abbrev pub account_line : State → List ℕ → List ℕ
account_line s name = free_line name (row_named s name)

-- the accounts file of a run over these records of a messages file: all accounts that its messages name and that the ledger has, with all that is free of
-- them
abbrev pub accounts_in : State → List Record → List ℕ
accounts_in s messages = codes "account,credits\n" ++ flat_map (account_line s) (distinct (map name_in (drop 1 messages)))

-- ---- what it takes for them

-- the name of an account in a ledger, if it can have one there
abbrev pub ledger_name : Opening → Option (List ℕ)
ledger_name opening = name_said (octets_text (string_bytes opening.name))

-- each account has this name there, in its place
abbrev pub HaveNames : List Opening → List (List ℕ) → Type 0
HaveNames openings names = AllZip (λ opening name. ledger_name opening ≡ Some name) openings names

-- an account opens with what the run takes of it, and of one without credits it takes nothing
abbrev pub taking_for : List ℕ → List ℕ → ℕ → List Entry
taking_for run name credits = if credits == 0 then [] else Taken (record { of = record { run = run; account = name }; credits = credits }) ∷ []

abbrev pub takings_for : List ℕ → List (List ℕ) → List Opening → List Entry
takings_for run [] openings = []
takings_for run (name ∷ names) [] = []
takings_for run (name ∷ names) (o ∷ openings) = taking_for run name o.credits ++ takings_for run names openings

-- the run has exactly so much out
abbrev pub is_out_with : ℕ → Option Stand → Bool
is_out_with credits None = false
is_out_with credits (Some (Out taken)) = taken == credits
is_out_with credits (Some (Back doubt)) = false

-- all that its accounts opened with is out with it: its statement isn't booked, and may be
abbrev pub are_out : List ℕ → State → List (List ℕ) → List Opening → Bool
are_out run s [] openings = true
are_out run s (name ∷ names) [] = true
are_out run s (name ∷ names) (o ∷ openings) = (o.credits == 0 || is_out_with o.credits (stand_of run name s)) && are_out run s names openings

-- ---- its name

-- 128 bits of a digest over the ledger as the run finds it, its journal's name and the time, in milliseconds since 1970 UTC
abbrev pub run_name : ℕ → List ℕ → List ℕ → List ℕ
run_name time journal ledger = hex_text (take 16 (sha256 (sha256 ledger ++ journal ++ number_field time)))
