-- An accounts file: a header, and a record for each account with its name and its credits.
use Rattle.std.specs.Prelude.{◌≡◌, ℕ, ◌+◌, ◌==◌, nat_le, Bool, List, [], ◌∷◌, ◌++◌, length, Option, Some, None, if◌then◌else◌, codes, string_bytes}
use Rattle.std.specs.List.{AllZip}
use Rattle.std.specs.Str.{bytes_eq}
use Rattle.sms_core.specs.Limits.{most_accounts, most_topped}
use Rattle.sms_book.specs.declared.opening.Opening.{Opening}
use Rattle.sms_files.specs.Fields.{Field, Record, number_at, text_in}
use Rattle.sms_files.specs.FieldFlaws.{first_flaw, number_flaw, text_flaw}
use Rattle.sms_files.specs.Records.{Trouble, trouble_by}
use Rattle.sms_files.specs.Rows.{header_of, is_pair}
use Rattle.sms_files.specs.declared.flaw.Flaw.{Flaw}
use Rattle.sms_files.specs.declared.flaw.Flaw.TheVariants.{Fields, Missing, OneTooMany, Taken}

abbrev pub is_accounts_header : Record → Bool
is_accounts_header = is_pair (codes "account") (codes "credits")

-- a first record that isn't it
abbrev pub accounts_header_flaw : Record → Option Flaw
accounts_header_flaw = header_of is_accounts_header

-- an account has a name, and credits that it may begin with
abbrev pub account_flaw : Record → Option Flaw
account_flaw r = if length r == 2 then first_flaw (text_flaw r 0) (number_flaw most_topped r 1) else Some (Fields (length r))

abbrev pub SaysAccount : Record → Opening → Type 0
SaysAccount r o = (text_in r 0 ≡ Some (string_bytes o.name)) × (number_at most_topped r 1 ≡ Some o.credits)

-- the record is one of an account with this name and these credits
abbrev pub IsAccount : Record → Field → ℕ → Type 0
IsAccount r name credits = (account_flaw r ≡ None) × (text_in r 0 ≡ Some name) × (number_at most_topped r 1 ≡ Some credits)

-- the name of a record
abbrev pub name_in : Record → Field
name_in [] = []
name_in (name ∷ fields) = name

-- the first of these names, whose records are numbered from this number on, that is the name
abbrev pub taken_flaw : ℕ → Field → List Field → Option Flaw
taken_flaw number name [] = None
taken_flaw number name (n ∷ ns) = if bytes_eq n name then Some (Taken number) else taken_flaw (number + 1) name ns

-- an account that has none of these names, the first of which stands in record 2
abbrev pub new_account_flaw : List Field → Record → Option Flaw
new_account_flaw names r = first_flaw (account_flaw r) (taken_flaw 2 (name_in r) names)

-- the first record that is no new account or is one too many, where these names and `before` records stand before it
abbrev pub rest_fault : List Field → ℕ → List Record → Option Trouble
rest_fault names before [] = None
rest_fault names before (r ∷ rs) =
    if nat_le before most_accounts
    then trouble_by before (new_account_flaw names r) (rest_fault (names ++ name_in r ∷ []) (before + 1) rs)
    else Some (before + 1, OneTooMany)

-- the same of the records after the header, of which there is one at least
abbrev pub some_fault : List Record → Option Trouble
some_fault [] = Some (2, Missing)
some_fault (r ∷ rs) = rest_fault [] 1 (r ∷ rs)

-- the first record of a file that is faulty or missing, by its number from 1, and its flaw
abbrev pub accounts_fault : List Record → Option Trouble
accounts_fault [] = Some (1, Missing)
accounts_fault (header ∷ rs) = trouble_by 0 (accounts_header_flaw header) (some_fault rs)

-- the records are an accounts file of these accounts
abbrev pub AreAccounts : List Record → List Opening → Type 0
AreAccounts [] openings = ⊥
AreAccounts (header ∷ rs) openings = (accounts_fault (header ∷ rs) ≡ None) × AllZip SaysAccount rs openings
