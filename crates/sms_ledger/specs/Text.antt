-- The text of a ledger: a header, and a line for each entry. Lines are records of CSV, of which no field wants quotes.
use Rattle.std.specs.Prelude.{ℕ, List, [], ◌++◌, Option, codes, decimal, unwrap_or}
use Rattle.sms_ledger.specs.declared.name.RunAccount.{RunAccount}
use Rattle.sms_ledger.specs.declared.entry.Fate.{Fate}
use Rattle.sms_ledger.specs.declared.entry.Fate.TheVariants.{Delivered, Lost}
use Rattle.sms_ledger.specs.declared.entry.Entry.{Entry}
use Rattle.sms_ledger.specs.declared.entry.Entry.TheVariants.{Paid, Taken, Returned, Decided}

abbrev pub number_field : ℕ → List ℕ
number_field n = codes "," ++ decimal n

abbrev pub name_field : List ℕ → List ℕ
name_field name = codes "," ++ name

-- the field of a payment without a reference is empty
abbrev pub reference_field : Option (List ℕ) → List ℕ
reference_field reference = name_field (unwrap_or reference [])

abbrev pub pair_field : RunAccount → List ℕ
pair_field of = name_field of.run ++ name_field of.account

abbrev pub fate_word : Fate → List ℕ
fate_word Delivered = codes "delivered"
fate_word Lost = codes "lost"

-- the line of an entry that was made at this time, in milliseconds since 1970 UTC
abbrev pub entry_text : ℕ → Entry → List ℕ
entry_text time (Paid p) = codes "paid" ++ number_field time ++ name_field p.account ++ number_field p.credits ++ reference_field p.reference ++ codes "\n"
entry_text time (Taken t) = codes "taken" ++ number_field time ++ pair_field t.of ++ number_field t.credits ++ codes "\n"
entry_text time (Returned b) = codes "back" ++ number_field time ++ pair_field b.of ++ number_field b.free ++ number_field b.doubt ++ number_field b.spent ++ codes "\n"
entry_text time (Decided d) =
    codes "decided" ++ number_field time ++ name_field d.of.run ++ number_field d.message ++ number_field d.part ++ name_field d.of.account ++ number_field d.cost ++ name_field (fate_word d.fate) ++ codes "\n"

-- the first line
abbrev pub header_text : List ℕ
header_text = codes "ledger,1\n"
