-- What is read of a line that was written.
use Rattle.std.proofs.Common.{◌≡◌, ℕ, suc, ◌+◌, ◌<◌, ◌≤◌, Bool, true, false, List, [], ◌∷◌, ◌++◌, length, take, drop, Some, None, refl, ap, ◌∙◌, arith, rules, append_assoc, true≢false, sym}
use Rattle.std.specs.Prelude.{◌==◌, nat_le, Option, option_map, unwrap_or, if◌then◌else◌, codes, decimal, not, ◌&&◌}
use Rattle.std.proofs.Math.Seq.{take-append_seam, drop-append-add}
use Rattle.std.proofs.lemmas.Bool.{and_parts}
use Rattle.std.proofs.lemmas.Bool.Decides.{nat_tests}
use Rattle.std.proofs.lemmas.Fmt.{decimal_is_IsNumeral, decimal_nonempty, length-decimal-le, digits_decimal}
use Rattle.std.proofs.lemmas.Str.Parse.{tells_all_ascii_digits, numerals_by_value}
use Rattle.std.specs.Char.{is_ascii_digit}
use Rattle.std.specs.Str.{all_ascii_digits}
use Rattle.std.specs.Str.Parse.{digits_value}
use Rattle.sms_core.specs.Decimal.{decimal_in}
use Rattle.sms_ledger.specs.declared.name.RunAccount.{RunAccount}
use Rattle.sms_ledger.specs.declared.entry.Fate.{Fate}
use Rattle.sms_ledger.specs.declared.entry.Fate.TheVariants.{Delivered, Lost}
use Rattle.sms_ledger.specs.declared.entry.Payment.{Payment}
use Rattle.sms_ledger.specs.declared.entry.Taking.{Taking}
use Rattle.sms_ledger.specs.declared.entry.Statement.{Statement}
use Rattle.sms_ledger.specs.declared.entry.Decision.{Decision}
use Rattle.sms_ledger.specs.declared.entry.Entry.{Entry}
use Rattle.sms_ledger.specs.declared.entry.Entry.TheVariants.{Paid, Taken, Returned, Decided}
use Rattle.sms_ledger.specs.declared.escape.Escape.TheVariants.{Plain}
use Rattle.sms_ledger.specs.Names.{IsName, IsRun, is_escaped, name_said, run_said}
use Rattle.sms_ledger.specs.Text.{entry_text, fate_word, name_field, number_field, reference_field}
use Rattle.sms_ledger.specs.Lines.{IsEntry, IsPair, IsReference, IsU64}
use Rattle.sms_ledger.specs.Reading.{behind_field, decided_in, end_at, entry_in, fate_in, field_in, is_end, kind_in, paid_in, pair_in, reference_in, returned_in, taken_in, time_in, u64_in, u8_in}
use Rattle.sms_ledger.proofs.NameFields.{HasNoEnd, no_end_name, no_end_run}

-- ---- fields

end_behind : (f : List ℕ) (c : ℕ) (rest : List ℕ) → HasNoEnd f → is_end c ≡ true → end_at (f ++ c ∷ rest) ≡ length f
end_behind [] c rest h e = ap (λ (b : Bool). if b then 0 else suc (end_at rest)) e
end_behind (x ∷ f) c rest h e = ap (λ (b : Bool). if b then 0 else suc (end_at (f ++ c ∷ rest))) h.0 ∙ ap suc (end_behind f c rest h.1 e)

pub field_is : (f : List ℕ) (c : ℕ) (rest : List ℕ) → HasNoEnd f → is_end c ≡ true → field_in (f ++ c ∷ rest) ≡ f
unfolding field_in
field_is f c rest h e = ap (λ (n : ℕ). take n (f ++ c ∷ rest)) (end_behind f c rest h e) ∙ take-append_seam f (c ∷ rest)

pub behind_is : (f : List ℕ) (c : ℕ) (rest : List ℕ) → HasNoEnd f → is_end c ≡ true → behind_field (f ++ c ∷ rest) ≡ rest
unfolding behind_field
behind_is f c rest h e = ap (λ (n : ℕ). drop (n + 1) (f ++ c ∷ rest)) (end_behind f c rest h e) ∙ drop-append-add f (c ∷ rest) 1

-- ---- numbers

no_end_digit : (c : ℕ) → is_ascii_digit c ≡ true → is_end c ≡ false
no_end_digit c h = grind (arith, nat_tests)

no_end_digits : (ds : List ℕ) → all_ascii_digits ds ≡ true → HasNoEnd ds
no_end_digits [] h = tt
no_end_digits (d ∷ ds) h = let p = and_parts (is_ascii_digit d) (all_ascii_digits ds) h in (no_end_digit d p.0, no_end_digits ds p.1)

digits : (n : ℕ) → IsU64 n → all_ascii_digits (decimal n) ≡ true
digits n low = digits_decimal (numerals_by_value (λ ds. all_ascii_digits ds ≡ true) tells_all_ascii_digits) n low

pub no_end_number : (n : ℕ) → IsU64 n → HasNoEnd (decimal n)
no_end_number n low = no_end_digits (decimal n) (digits n low)

decimal_found : (most n : ℕ) → n ≤ most → IsU64 n → decimal_in most (decimal n) ≡ Some n
decimal_found most n low small =
    let value : digits_value 10 (decimal n) ≡ n = (decimal_is_IsNumeral n small).1 in
    let some : 0 < length (decimal n) = decimal_nonempty n small in
    let few : length (decimal n) ≤ 20 = length-decimal-le 20 n (omega arith) (omega arith) small in
    let are : all_ascii_digits (decimal n) ≡ true = digits n small in
    let fits : digits_value 10 (decimal n) ≤ most = omega arith in
    grind (arith, nat_tests)

pub u64_found : (n : ℕ) → IsU64 n → u64_in (decimal n) ≡ Some n
unfolding u64_in
u64_found n low = decimal_found 0xFFFF_FFFF_FFFF_FFFF n (omega arith) low

pub u8_low : (n : ℕ) → n < 256 → IsU64 n
u8_low n low = omega (arith, low)

u8_found : (n : ℕ) → n < 256 → u8_in (decimal n) ≡ Some n
unfolding u8_in
u8_found n low = decimal_found 0xFF n (omega (arith, low)) (u8_low n low)

-- ---- names

name_found : (name : List ℕ) → IsName name → name_said name ≡ Some name
name_found name h = ap (λ (b : Bool). if b then Some name else None) h

run_found : (run : List ℕ) → IsRun run → run_said run ≡ Some run
run_found run h = ap (λ (b : Bool). if b then Some run else None) h

pair_found : (of : RunAccount) → IsPair of → pair_in of.run of.account ≡ Some of
pair_found of h =
    let r : run_said of.run ≡ Some of.run = run_found of.run h.0 in
    let a : name_said of.account ≡ Some of.account = name_found of.account h.1 in
    rw (r, a) refl

pub no_end_reference : (reference : Option (List ℕ)) → IsReference reference → HasNoEnd (unwrap_or reference [])
no_end_reference None h = tt
no_end_reference (Some name) h = no_end_name name h

reference_found : (reference : Option (List ℕ)) → IsReference reference → reference_in (unwrap_or reference []) ≡ Some reference
reference_found None h = refl
reference_found (Some name) h =
    let some : (length name == 0) ≡ false = not_empty (length name == 0) (and_parts (not (length name == 0)) (nat_le (length name) 192 && is_escaped Plain name) h).0 in
    ap (λ (b : Bool). if b then Some None else option_map (λ (r : List ℕ). Some r) (name_said name)) some ∙ ap (option_map (λ (r : List ℕ). Some r)) (name_found name h)
  where
    not_empty : (b : Bool) → not b ≡ true → b ≡ false
    not_empty true e = absurd (true≢false (sym e))
    not_empty false e = refl

pub no_end_fate : (fate : Fate) → HasNoEnd (fate_word fate)
no_end_fate Delivered = search rules
no_end_fate Lost = search rules

fate_found : (fate : Fate) → fate_in (fate_word fate) ≡ Some fate
fate_found Delivered = refl
fate_found Lost = refl

-- ---- entries

pub comma : is_end 44 ≡ true
comma = refl

feed : is_end 10 ≡ true
feed = refl

head_is : (word : List ℕ) (time : ℕ) (X : List ℕ) → HasNoEnd word → IsU64 time → entry_in (word ++ 44 ∷ (decimal time ++ 44 ∷ X)) ≡ kind_in word X
unfolding entry_in
head_is word time X h low =
    let b : behind_field (word ++ 44 ∷ (decimal time ++ 44 ∷ X)) ≡ decimal time ++ 44 ∷ X = behind_is word 44 (decimal time ++ 44 ∷ X) h comma in
    ap (λ (f : List ℕ). kind_in f (behind_field (behind_field (word ++ 44 ∷ (decimal time ++ 44 ∷ X))))) (field_is word 44 (decimal time ++ 44 ∷ X) h comma)
    ∙ ap (λ (l : List ℕ). kind_in word (behind_field l)) b ∙ ap (kind_in word) (behind_is (decimal time) 44 X (no_end_number time low) comma)

time_is : (word : List ℕ) (time : ℕ) (X : List ℕ) → HasNoEnd word → IsU64 time → time_in (word ++ 44 ∷ (decimal time ++ 44 ∷ X)) ≡ Some time
unfolding time_in
time_is word time X h low =
    ap (λ (l : List ℕ). u64_in (field_in l)) (behind_is word 44 (decimal time ++ 44 ∷ X) h comma) ∙ ap u64_in (field_is (decimal time) 44 X (no_end_number time low) comma) ∙ u64_found time low

paid_is : (p : Payment) → IsEntry (Paid p) → paid_in (p.account ++ 44 ∷ (decimal p.credits ++ 44 ∷ (unwrap_or p.reference [] ++ 10 ∷ []))) ≡ Some (Paid p)
paid_is p h =
    let a = p.account in
    let n = decimal p.credits in
    let r = unwrap_or p.reference [] in
    let X2 = r ++ 10 ∷ [] in
    let X1 = n ++ 44 ∷ X2 in
    let f0 : field_in (a ++ 44 ∷ X1) ≡ a = field_is a 44 X1 (no_end_name a h.0) comma in
    let b0 : behind_field (a ++ 44 ∷ X1) ≡ X1 = behind_is a 44 X1 (no_end_name a h.0) comma in
    let f1 : field_in X1 ≡ n = field_is n 44 X2 (no_end_number p.credits h.1) comma in
    let b1 : behind_field X1 ≡ X2 = behind_is n 44 X2 (no_end_number p.credits h.1) comma in
    let f2 : field_in X2 ≡ r = field_is r 10 [] (no_end_reference p.reference h.2) feed in
    let u0 : name_said a ≡ Some a = name_found a h.0 in
    let u1 : u64_in n ≡ Some p.credits = u64_found p.credits h.1 in
    let u2 : reference_in r ≡ Some p.reference = reference_found p.reference h.2 in
    rw (b0, b1, f0, f1, f2, u0, u1, u2) refl

taken_is : (t : Taking) → IsEntry (Taken t) → taken_in (t.of.run ++ 44 ∷ (t.of.account ++ 44 ∷ (decimal t.credits ++ 10 ∷ []))) ≡ Some (Taken t)
taken_is t h =
    let r = t.of.run in
    let a = t.of.account in
    let n = decimal t.credits in
    let X2 = n ++ 10 ∷ [] in
    let X1 = a ++ 44 ∷ X2 in
    let f0 : field_in (r ++ 44 ∷ X1) ≡ r = field_is r 44 X1 (no_end_run r h.0.0) comma in
    let b0 : behind_field (r ++ 44 ∷ X1) ≡ X1 = behind_is r 44 X1 (no_end_run r h.0.0) comma in
    let f1 : field_in X1 ≡ a = field_is a 44 X2 (no_end_name a h.0.1) comma in
    let b1 : behind_field X1 ≡ X2 = behind_is a 44 X2 (no_end_name a h.0.1) comma in
    let f2 : field_in X2 ≡ n = field_is n 10 [] (no_end_number t.credits h.1) feed in
    let u0 : pair_in r a ≡ Some t.of = pair_found t.of h.0 in
    let u1 : u64_in n ≡ Some t.credits = u64_found t.credits h.1 in
    rw (b0, b1, f0, f1, f2, u0, u1) refl

returned_is : (t : Statement) → IsEntry (Returned t)
    → returned_in (t.of.run ++ 44 ∷ (t.of.account ++ 44 ∷ (decimal t.free ++ 44 ∷ (decimal t.doubt ++ 44 ∷ (decimal t.spent ++ 10 ∷ []))))) ≡ Some (Returned t)
returned_is t h =
    let r = t.of.run in
    let a = t.of.account in
    let m = decimal t.free in
    let n = decimal t.doubt in
    let k = decimal t.spent in
    let X4 = k ++ 10 ∷ [] in
    let X3 = n ++ 44 ∷ X4 in
    let X2 = m ++ 44 ∷ X3 in
    let X1 = a ++ 44 ∷ X2 in
    let f0 : field_in (r ++ 44 ∷ X1) ≡ r = field_is r 44 X1 (no_end_run r h.0.0) comma in
    let b0 : behind_field (r ++ 44 ∷ X1) ≡ X1 = behind_is r 44 X1 (no_end_run r h.0.0) comma in
    let f1 : field_in X1 ≡ a = field_is a 44 X2 (no_end_name a h.0.1) comma in
    let b1 : behind_field X1 ≡ X2 = behind_is a 44 X2 (no_end_name a h.0.1) comma in
    let f2 : field_in X2 ≡ m = field_is m 44 X3 (no_end_number t.free h.1) comma in
    let b2 : behind_field X2 ≡ X3 = behind_is m 44 X3 (no_end_number t.free h.1) comma in
    let f3 : field_in X3 ≡ n = field_is n 44 X4 (no_end_number t.doubt h.2) comma in
    let b3 : behind_field X3 ≡ X4 = behind_is n 44 X4 (no_end_number t.doubt h.2) comma in
    let f4 : field_in X4 ≡ k = field_is k 10 [] (no_end_number t.spent h.3) feed in
    let u0 : pair_in r a ≡ Some t.of = pair_found t.of h.0 in
    let u1 : u64_in m ≡ Some t.free = u64_found t.free h.1 in
    let u2 : u64_in n ≡ Some t.doubt = u64_found t.doubt h.2 in
    let u3 : u64_in k ≡ Some t.spent = u64_found t.spent h.3 in
    rw (b0, b1, b2, b3, f0, f1, f2, f3, f4, u0, u1, u2, u3) refl

decided_is : (t : Decision) → IsEntry (Decided t)
    → decided_in (t.of.run ++ 44 ∷ (decimal t.message ++ 44 ∷ (decimal t.part ++ 44 ∷ (t.of.account ++ 44 ∷ (decimal t.cost ++ 44 ∷ (fate_word t.fate ++ 10 ∷ [])))))) ≡ Some (Decided t)
decided_is t h =
    let r = t.of.run in
    let m = decimal t.message in
    let p = decimal t.part in
    let a = t.of.account in
    let n = decimal t.cost in
    let w = fate_word t.fate in
    let X5 = w ++ 10 ∷ [] in
    let X4 = n ++ 44 ∷ X5 in
    let X3 = a ++ 44 ∷ X4 in
    let X2 = p ++ 44 ∷ X3 in
    let X1 = m ++ 44 ∷ X2 in
    let f0 : field_in (r ++ 44 ∷ X1) ≡ r = field_is r 44 X1 (no_end_run r h.0.0) comma in
    let b0 : behind_field (r ++ 44 ∷ X1) ≡ X1 = behind_is r 44 X1 (no_end_run r h.0.0) comma in
    let f1 : field_in X1 ≡ m = field_is m 44 X2 (no_end_number t.message h.1) comma in
    let b1 : behind_field X1 ≡ X2 = behind_is m 44 X2 (no_end_number t.message h.1) comma in
    let f2 : field_in X2 ≡ p = field_is p 44 X3 (no_end_number t.part (u8_low t.part h.2)) comma in
    let b2 : behind_field X2 ≡ X3 = behind_is p 44 X3 (no_end_number t.part (u8_low t.part h.2)) comma in
    let f3 : field_in X3 ≡ a = field_is a 44 X4 (no_end_name a h.0.1) comma in
    let b3 : behind_field X3 ≡ X4 = behind_is a 44 X4 (no_end_name a h.0.1) comma in
    let f4 : field_in X4 ≡ n = field_is n 44 X5 (no_end_number t.cost h.3) comma in
    let b4 : behind_field X4 ≡ X5 = behind_is n 44 X5 (no_end_number t.cost h.3) comma in
    let f5 : field_in X5 ≡ w = field_is w 10 [] (no_end_fate t.fate) feed in
    let u0 : pair_in r a ≡ Some t.of = pair_found t.of h.0 in
    let u1 : u64_in m ≡ Some t.message = u64_found t.message h.1 in
    let u2 : u8_in p ≡ Some t.part = u8_found t.part h.2 in
    let u3 : u64_in n ≡ Some t.cost = u64_found t.cost h.3 in
    let u4 : fate_in w ≡ Some t.fate = fate_found t.fate in
    rw (b0, b1, b2, b3, b4, f0, f1, f2, f3, f4, f5, u0, u1, u2, u3, u4) refl

-- lines, field by field
regroup_paid : (a b c d e f : List ℕ) → ((((a ++ b) ++ c) ++ d) ++ e) ++ f ≡ a ++ (b ++ (c ++ (d ++ (e ++ f))))
regroup_paid a b c d e f = simp append_assoc

regroup_taken : (a b c d e f : List ℕ) → (((a ++ b) ++ (c ++ d)) ++ e) ++ f ≡ a ++ (b ++ (c ++ (d ++ (e ++ f))))
regroup_taken a b c d e f = simp append_assoc

regroup_returned : (a b c d e f g h : List ℕ) → (((((a ++ b) ++ (c ++ d)) ++ e) ++ f) ++ g) ++ h ≡ a ++ (b ++ (c ++ (d ++ (e ++ (f ++ (g ++ h))))))
regroup_returned a b c d e f g h = simp append_assoc

regroup_decided : (a b c d e f g h i : List ℕ) → (((((((a ++ b) ++ c) ++ d) ++ e) ++ f) ++ g) ++ h) ++ i ≡ a ++ (b ++ (c ++ (d ++ (e ++ (f ++ (g ++ (h ++ i)))))))
regroup_decided a b c d e f g h i = simp append_assoc

-- what stands after the time
unfoldable pub rest_of : Entry → List ℕ
rest_of (Paid p) = p.account ++ 44 ∷ (decimal p.credits ++ 44 ∷ (unwrap_or p.reference [] ++ 10 ∷ []))
rest_of (Taken t) = t.of.run ++ 44 ∷ (t.of.account ++ 44 ∷ (decimal t.credits ++ 10 ∷ []))
rest_of (Returned t) = t.of.run ++ 44 ∷ (t.of.account ++ 44 ∷ (decimal t.free ++ 44 ∷ (decimal t.doubt ++ 44 ∷ (decimal t.spent ++ 10 ∷ []))))
rest_of (Decided t) = t.of.run ++ 44 ∷ (decimal t.message ++ 44 ∷ (decimal t.part ++ 44 ∷ (t.of.account ++ 44 ∷ (decimal t.cost ++ 44 ∷ (fate_word t.fate ++ 10 ∷ [])))))

unfoldable pub word_of : Entry → List ℕ
word_of (Paid p) = codes "paid"
word_of (Taken t) = codes "taken"
word_of (Returned t) = codes "back"
word_of (Decided t) = codes "decided"

pub line_is : (time : ℕ) (e : Entry) → entry_text time e ≡ word_of e ++ 44 ∷ (decimal time ++ 44 ∷ rest_of e)
unfolding rest_of word_of
line_is time (Paid p) = regroup_paid (codes "paid") (number_field time) (name_field p.account) (number_field p.credits) (reference_field p.reference) (codes "\n")
line_is time (Taken t) = regroup_taken (codes "taken") (number_field time) (name_field t.of.run) (name_field t.of.account) (number_field t.credits) (codes "\n")
line_is time (Returned t) = regroup_returned (codes "back") (number_field time) (name_field t.of.run) (name_field t.of.account) (number_field t.free) (number_field t.doubt) (number_field t.spent) (codes "\n")
line_is time (Decided t) =
    regroup_decided (codes "decided") (number_field time) (name_field t.of.run) (number_field t.message) (number_field t.part) (name_field t.of.account) (number_field t.cost) (name_field (fate_word t.fate)) (codes "\n")

pub no_end_word : (e : Entry) → HasNoEnd (word_of e)
unfolding word_of
no_end_word (Paid p) = search rules
no_end_word (Taken t) = search rules
no_end_word (Returned t) = search rules
no_end_word (Decided t) = search rules

rest_is : (e : Entry) → IsEntry e → kind_in (word_of e) (rest_of e) ≡ Some e
unfolding rest_of word_of
rest_is (Paid p) h = paid_is p h
rest_is (Taken t) h = taken_is t h
rest_is (Returned t) h = returned_is t h
rest_is (Decided t) h = decided_is t h

-- a line that is written of an entry is read as the entry
pub entry_found : (time : ℕ) (e : Entry) → IsU64 time → IsEntry e → entry_in (entry_text time e) ≡ Some e
entry_found time e low h = ap entry_in (line_is time e) ∙ head_is (word_of e) time (rest_of e) (no_end_word e) low ∙ rest_is e h

pub time_found : (time : ℕ) (e : Entry) → IsU64 time → time_in (entry_text time e) ≡ Some time
time_found time e low = ap time_in (line_is time e) ∙ time_is (word_of e) time (rest_of e) (no_end_word e) low
