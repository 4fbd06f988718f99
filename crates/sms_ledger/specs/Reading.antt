-- An entry read from its line: what the fields of a line that was written say. A line that says something else too is read as if it had been
-- written, and is refused since its entry is written otherwise.
use Rattle.std.specs.Prelude.{ℕ, suc, ◌+◌, ◌==◌, ◌||◌, Bool, List, [], ◌∷◌, take, drop, length, Option, Some, None, option_map, option_and_then, if◌then◌else◌, codes}
use Rattle.std.specs.Str.{bytes_eq}
use Rattle.sms_core.specs.Decimal.{decimal_in}
use Rattle.sms_ledger.specs.declared.name.RunAccount.{RunAccount}
use Rattle.sms_ledger.specs.declared.entry.Fate.{Fate}
use Rattle.sms_ledger.specs.declared.entry.Fate.TheVariants.{Delivered, Lost}
use Rattle.sms_ledger.specs.declared.reading.PartFields.{PartFields}
use Rattle.sms_ledger.specs.declared.entry.Entry.{Entry}
use Rattle.sms_ledger.specs.declared.entry.Entry.TheVariants.{Paid, Taken, Returned, Decided}
use Rattle.sms_ledger.specs.Names.{name_said, run_said}

-- ---- fields

-- a comma or a line feed
abbrev pub is_end : ℕ → Bool
is_end c = (c == 44) || (c == 10)

-- the place of the first, or the length
abbrev pub end_at : List ℕ → ℕ
end_at [] = 0
end_at (c ∷ cs) = if is_end c then 0 else suc (end_at cs)

-- what stands before it, and after it
unfoldable pub field_in : List ℕ → List ℕ
field_in text = take (end_at text) text

unfoldable pub behind_field : List ℕ → List ℕ
behind_field text = drop (end_at text + 1) text

unfoldable pub u64_in : List ℕ → Option ℕ
u64_in field = decimal_in 0xFFFF_FFFF_FFFF_FFFF field

unfoldable pub u8_in : List ℕ → Option ℕ
u8_in field = decimal_in 0xFF field

abbrev pub pair_in : List ℕ → List ℕ → Option RunAccount
pair_in run account = option_and_then (λ r. option_map (λ a. record { run = r; account = a }) (name_said account)) (run_said run)

-- an empty field is no reference
abbrev pub reference_in : List ℕ → Option (Option (List ℕ))
reference_in field = if length field == 0 then Some None else option_map (λ r. Some r) (name_said field)

abbrev pub fate_in : List ℕ → Option Fate
fate_in field = if bytes_eq field (codes "delivered") then Some Delivered else (if bytes_eq field (codes "lost") then Some Lost else None)

-- ---- entries, after their word and time

abbrev pub paid_of : List ℕ → List ℕ → List ℕ → Option Entry
paid_of account n reference =
    option_and_then (λ a. option_and_then (λ c. option_map (λ r. Paid (record { account = a; credits = c; reference = r })) (reference_in reference)) (u64_in n)) (name_said account)

abbrev pub paid_in : List ℕ → Option Entry
paid_in text = paid_of (field_in text) (field_in (behind_field text)) (field_in (behind_field (behind_field text)))

abbrev pub taken_of : List ℕ → List ℕ → List ℕ → Option Entry
taken_of run account n = option_and_then (λ o. option_map (λ c. Taken (record { of = o; credits = c })) (u64_in n)) (pair_in run account)

abbrev pub taken_in : List ℕ → Option Entry
taken_in text = taken_of (field_in text) (field_in (behind_field text)) (field_in (behind_field (behind_field text)))

abbrev pub returned_of : List ℕ → List ℕ → List ℕ → List ℕ → List ℕ → Option Entry
returned_of run account m n k =
    option_and_then (λ o. option_and_then (λ f. option_and_then (λ d. option_map (λ c. Returned (record { of = o; free = f; doubt = d; spent = c })) (u64_in k)) (u64_in n)) (u64_in m)) (pair_in run account)

abbrev pub returned_in : List ℕ → Option Entry
returned_in text =
    returned_of (field_in text) (field_in (behind_field text)) (field_in (behind_field (behind_field text))) (field_in (behind_field (behind_field (behind_field text))))
    (field_in (behind_field (behind_field (behind_field (behind_field text)))))

abbrev pub part_in : List ℕ → List ℕ → List ℕ → List ℕ → Option PartFields
part_in message part cost fate =
    option_and_then (λ m. option_and_then (λ p. option_and_then (λ c. option_map (λ f. record { message = m; part = p; cost = c; fate = f }) (fate_in fate)) (u64_in cost)) (u8_in part)) (u64_in message)

abbrev pub decided_of : List ℕ → List ℕ → List ℕ → List ℕ → List ℕ → List ℕ → Option Entry
decided_of run message part account cost fate =
    option_and_then (λ o. option_map (λ (p : PartFields). Decided (record { of = o; message = p.message; part = p.part; cost = p.cost; fate = p.fate })) (part_in message part cost fate)) (pair_in run account)

abbrev pub decided_in : List ℕ → Option Entry
decided_in text =
    decided_of (field_in text) (field_in (behind_field text)) (field_in (behind_field (behind_field text))) (field_in (behind_field (behind_field (behind_field text))))
    (field_in (behind_field (behind_field (behind_field (behind_field text))))) (field_in (behind_field (behind_field (behind_field (behind_field (behind_field text))))))

abbrev pub kind_in : List ℕ → List ℕ → Option Entry
kind_in word text =
    if bytes_eq word (codes "paid") then paid_in text
    else (if bytes_eq word (codes "taken") then taken_in text
    else (if bytes_eq word (codes "back") then returned_in text
    else (if bytes_eq word (codes "decided") then decided_in text else None)))

-- ---- lines

unfoldable pub time_in : List ℕ → Option ℕ
time_in line = u64_in (field_in (behind_field line))

unfoldable pub entry_in : List ℕ → Option Entry
entry_in line = kind_in (field_in line) (behind_field (behind_field line))
