-- What is read of a line that was written.
use Rattle.std.proofs.Common.{◌≡◌, ℕ, suc, ◌+◌, ◌*◌, ◌/◌, ◌%◌, ◌<◌, ◌≤◌, Bool, true, false, List, [], ◌∷◌, ◌++◌, length, take, drop, Some, None, inl, inr, refl, sym, ap, ◌∙◌, subst, arith, rules, append_assoc, length-append}
use Rattle.std.specs.Prelude.{◌==◌, nat_lt, if◌then◌else◌, codes, decimal, ⊤, position, option_map}
use Rattle.std.proofs.Math.Seq.{take-append_seam, drop-append-add}
use Rattle.std.proofs.lemmas.Bool.{and_parts, ne_eqb, cases_Bool, ltb-true, ltb-false, lt-ltb}
use Rattle.std.proofs.lemmas.Bool.Decides.{nat_tests}
use Rattle.std.proofs.lemmas.Fmt.{decimal_is_IsNumeral, decimal_nonempty, length-decimal-le, decimal_digit, digits_decimal}
use Rattle.std.proofs.lemmas.Str.Parse.{tells_all_ascii_digits, numerals_by_value}
use Rattle.std.proofs.lemmas.List.Concat.{flat_map-cons}
use Rattle.std.specs.List.{position_or_len}
use Rattle.std.specs.Char.{is_ascii_digit}
use Rattle.std.specs.Str.{all_ascii_digits}
use Rattle.std.specs.Str.Parse.{digits_value}
use Rattle.sms_core.specs.Decimal.{decimal_in}
use Rattle.sms_pdu.specs.declared.reply.Reply.{Reply}
use Rattle.sms_pdu.specs.Reply.{before, before_zero}
use Rattle.sms_message.specs.declared.ends.MessageRefusal.{MessageRefusal}
use Rattle.sms_message.specs.declared.ends.MessageRefusal.TheVariants.{NoAccount, NoCredit, TooLong, BadAddress, BindClosed, OutOfMemory}
use Rattle.sms_files.proofs.Lists.{take_whole}
use Rattle.sms_journal.specs.declared.notes.note.RequestId.{RequestId}
use Rattle.sms_journal.specs.declared.notes.note.Note.{Note}
use Rattle.sms_journal.specs.declared.notes.note.Note.TheVariants.{Begun, Sent, Unsent, Heard, Refused, End, Round}
use Rattle.sms_journal.specs.declared.text.note_fields.Escape.TheVariants.{Plain, First}
use Rattle.sms_journal.specs.Text.{flag, hex_digit, hex_octet, id_octet, id_text, is_plain, note_text, number_field}
use Rattle.sms_message.specs.Names.{refusal_name, refusal_named}
use Rattle.sms_journal.specs.Lines.{AreIdOctets, IsId, IsNote, IsU32, IsU64}
use Rattle.sms_journal.specs.Reading.{begun_in, behind_field, digit_in, end_at, end_in, field_in, flag_in, heard_in, heard_of, id_in, is_end, kind_in, note_in, octets_in, refused_in, refused_of, round_in, sent_in, time_in, u32_in, u64_in, u8_in, unsent_in}

-- ---- fields

-- no field ends in this text
abbrev pub HasNoEnd : List ℕ → Type 0
HasNoEnd [] = ⊤
HasNoEnd (c ∷ cs) = (is_end c ≡ false) × HasNoEnd cs

end_behind : (f : List ℕ) (c : ℕ) (rest : List ℕ) → HasNoEnd f → is_end c ≡ true → end_at (f ++ c ∷ rest) ≡ length f
end_behind [] c rest h e = ap (λ (b : Bool). if b then 0 else suc (end_at rest)) e
end_behind (x ∷ f) c rest h e = ap (λ (b : Bool). if b then 0 else suc (end_at (f ++ c ∷ rest))) h.0 ∙ ap suc (end_behind f c rest h.1 e)

pub field_is : (f : List ℕ) (c : ℕ) (rest : List ℕ) → HasNoEnd f → is_end c ≡ true → field_in (f ++ c ∷ rest) ≡ f
unfolding field_in
field_is f c rest h e = ap (λ (n : ℕ). take n (f ++ c ∷ rest)) (end_behind f c rest h e) ∙ take-append_seam f (c ∷ rest)

pub behind_is : (f : List ℕ) (c : ℕ) (rest : List ℕ) → HasNoEnd f → is_end c ≡ true → behind_field (f ++ c ∷ rest) ≡ rest
unfolding behind_field
behind_is f c rest h e = ap (λ (n : ℕ). drop (n + 1) (f ++ c ∷ rest)) (end_behind f c rest h e) ∙ drop-append-add f (c ∷ rest) 1

pub no_end_append : (a b : List ℕ) → HasNoEnd a → HasNoEnd b → HasNoEnd (a ++ b)
no_end_append [] b ha hb = hb
no_end_append (x ∷ a) b ha hb = (ha.0, no_end_append a b ha.1 hb)

-- ---- numbers

no_end_digit : (c : ℕ) → is_ascii_digit c ≡ true → is_end c ≡ false
no_end_digit c h = grind (arith, nat_tests)

no_end_digits : (ds : List ℕ) → all_ascii_digits ds ≡ true → HasNoEnd ds
no_end_digits [] h = tt
no_end_digits (d ∷ ds) h = let p = and_parts (is_ascii_digit d) (all_ascii_digits ds) h in (no_end_digit d p.0, no_end_digits ds p.1)

digits : (n : ℕ) → IsU64 n → all_ascii_digits (decimal n) ≡ true
digits n low = digits_decimal (numerals_by_value (λ ds. all_ascii_digits ds ≡ true) tells_all_ascii_digits) n low

pub no_end_number : (n : ℕ) → IsU64 n → HasNoEnd (decimal n)
no_end_number n low = no_end_digits (decimal n) (digits n low)

pub number_field_is : (n c : ℕ) (rest : List ℕ) → IsU64 n → is_end c ≡ true → field_in (decimal n ++ c ∷ rest) ≡ decimal n
number_field_is n c rest low e = field_is (decimal n) c rest (no_end_number n low) e

pub behind_number_is : (n c : ℕ) (rest : List ℕ) → IsU64 n → is_end c ≡ true → behind_field (decimal n ++ c ∷ rest) ≡ rest
behind_number_is n c rest low e = behind_is (decimal n) c rest (no_end_number n low) e

decimal_found : (most n : ℕ) → n ≤ most → IsU64 n → decimal_in most (decimal n) ≡ Some n
decimal_found most n low small =
    let value : digits_value 10 (decimal n) ≡ n = (decimal_is_IsNumeral n small).1 in
    let some : 0 < length (decimal n) = decimal_nonempty n small in
    let few : length (decimal n) ≤ 20 = length-decimal-le 20 n (omega arith) (omega arith) small in
    let are : all_ascii_digits (decimal n) ≡ true = digits n small in
    let fits : digits_value 10 (decimal n) ≤ most = omega arith in
    grind (arith, nat_tests)

pub u64_found : (n : ℕ) → IsU64 n → u64_in (decimal n) ≡ Some n
unfolding u64_in
u64_found n low = decimal_found 0xFFFF_FFFF_FFFF_FFFF n (omega arith) low

pub u32_found : (n : ℕ) → IsU32 n → u32_in (decimal n) ≡ Some n
unfolding u32_in
u32_found n low = decimal_found 0xFFFF_FFFF n (omega arith) (omega arith)

pub u8_found : (n : ℕ) → n < 256 → u8_in (decimal n) ≡ Some n
unfolding u8_in
u8_found n low = decimal_found 0xFF n (omega arith) (omega arith)

pub flag_found : (b : Bool) → flag_in (decimal (flag b)) ≡ b
flag_found true = rw (decimal_digit 1 (omega arith)) refl
flag_found false = rw (decimal_digit 0 (omega arith)) refl

pub flag_low : (b : Bool) → IsU64 (flag b)
flag_low true = omega arith
flag_low false = omega arith

pub refusal_found : (refusal : MessageRefusal) → refusal_named (refusal_name refusal) ≡ Some refusal
refusal_found NoAccount = refl
refusal_found NoCredit = refl
refusal_found TooLong = refl
refusal_found BadAddress = refl
refusal_found BindClosed = refl
refusal_found OutOfMemory = refl

pub no_end_refusal : (refusal : MessageRefusal) → HasNoEnd (refusal_name refusal)
no_end_refusal NoAccount = search rules
no_end_refusal NoCredit = search rules
no_end_refusal TooLong = search rules
no_end_refusal BadAddress = search rules
no_end_refusal BindClosed = search rules
no_end_refusal OutOfMemory = search rules

-- ---- message_ids

pub digit_back : (n : ℕ) → n < 16 → digit_in (hex_digit n) ≡ n
digit_back n low = elim (cases_Bool (nat_lt n 10)) [
  | inl e ↦ let small : n < 10 = ltb-true n 10 e in grind (arith, nat_tests)
  | inr e ↦ let great : 10 ≤ n = ltb-false n 10 e in grind (arith, nat_tests)
]

pub no_end_hex : (n : ℕ) → n < 16 → is_end (hex_digit n) ≡ false
no_end_hex n low = grind (arith, nat_tests)

no_end_octet : (c : ℕ) → c < 256 → HasNoEnd (id_octet c)
no_end_octet c low = elim (cases_Bool (is_plain c)) [
  | inl e ↦ subst (λ (b : Bool). HasNoEnd (if b then c ∷ [] else 0x25 ∷ hex_octet c)) (sym e) (plain e, tt)
  | inr e ↦ subst (λ (b : Bool). HasNoEnd (if b then c ∷ [] else 0x25 ∷ hex_octet c)) (sym e) (refl, (no_end_hex (c / 16) (omega arith), (no_end_hex (c % 16) (omega arith), tt)))
]
  where
    plain : is_plain c ≡ true → is_end c ≡ false
    plain e = grind (arith, nat_tests)

pub no_end_id : (id : List ℕ) → AreIdOctets id → HasNoEnd (id_text id)
no_end_id [] h = tt
no_end_id (c ∷ cs) h = subst HasNoEnd (sym (flat_map-cons id_octet c cs)) (no_end_append (id_octet c) (id_text cs) (no_end_octet c h.1) (no_end_id cs h.2))

octet_back : (c : ℕ) (rest : List ℕ) → c < 256 → octets_in Plain (id_octet c ++ rest) ≡ c ∷ octets_in Plain rest
octet_back c rest low = elim (cases_Bool (is_plain c)) [
  | inl e ↦ ap (λ (b : Bool). octets_in Plain ((if b then c ∷ [] else 0x25 ∷ hex_octet c) ++ rest)) e ∙ ap (λ (b : Bool). if b then octets_in First rest else c ∷ octets_in Plain rest) (other e)
  | inr e ↦ ap (λ (b : Bool). octets_in Plain ((if b then c ∷ [] else 0x25 ∷ hex_octet c) ++ rest)) e ∙ ap (λ (n : ℕ). n ∷ octets_in Plain rest) whole
]
  where
    other : is_plain c ≡ true → (c == 0x25) ≡ false
    other e = grind (arith, nat_tests)

    whole : digit_in (hex_digit (c / 16)) % 16 * 16 + digit_in (hex_digit (c % 16)) ≡ c
    whole =
        let a = digit_back (c / 16) (omega arith) in
        let b = digit_back (c % 16) (omega arith) in
        omega (arith, a, b)

octets_back : (id : List ℕ) → AreIdOctets id → octets_in Plain (id_text id) ≡ id
octets_back [] h = refl
octets_back (c ∷ cs) h = ap (octets_in Plain) (flat_map-cons id_octet c cs) ∙ octet_back c (id_text cs) h.1 ∙ ap (λ (l : List ℕ). c ∷ l) (octets_back cs h.2)

-- what stands before the 0 behind a message_id
position_behind : (id : List ℕ) → AreIdOctets id → before (id ++ 0 ∷ []) (position (λ octet. octet == 0) (id ++ 0 ∷ [])) ≡ id
position_behind id h =
    let at : position_or_len (λ (octet : ℕ). octet == 0) (id ++ 0 ∷ []) ≡ length id = zero_behind id h in
    let some : position (λ (octet : ℕ). octet == 0) (id ++ 0 ∷ []) ≡ Some (length id) =
    ap (λ (n : ℕ). if nat_lt n (length (id ++ 0 ∷ [])) then Some n else None) at ∙ ap (λ (b : Bool). if b then Some (length id) else None) (lt-ltb (length id) (length (id ++ 0 ∷ [])) (omega (arith, length-append id (0 ∷ [])))) in
    ap (before (id ++ 0 ∷ [])) some ∙ take-append_seam id (0 ∷ [])
  where
    zero_behind : (cs : List ℕ) → AreIdOctets cs → position_or_len (λ (octet : ℕ). octet == 0) (cs ++ 0 ∷ []) ≡ length cs
    zero_behind [] h = refl
    zero_behind (c ∷ cs) h = search (rules, ne_eqb, zero_behind cs h.2)

pub id_found : (id : List ℕ) → IsId id → id_in (id_text id) ≡ id
unfolding id_in
id_found id h =
    let back = octets_back id h.1 in
    let whole : take 65 (id ++ 0 ∷ []) ≡ id ++ 0 ∷ [] = take_whole (id ++ 0 ∷ []) 65 (omega (arith, length-append id (0 ∷ []), h.0)) in
    ap (λ (l : List ℕ). before_zero (take 65 (l ++ 0 ∷ []))) back ∙ ap before_zero whole ∙ position_behind id h.1

-- ---- notes

pub comma : is_end 44 ≡ true
comma = refl

pub feed : is_end 10 ≡ true
feed = refl

head_is : (word : List ℕ) (time : ℕ) (X : List ℕ) → HasNoEnd word → IsU64 time → note_in (word ++ 44 ∷ (decimal time ++ 44 ∷ X)) ≡ kind_in word X
unfolding note_in
head_is word time X h low =
    let b : behind_field (word ++ 44 ∷ (decimal time ++ 44 ∷ X)) ≡ decimal time ++ 44 ∷ X = behind_is word 44 (decimal time ++ 44 ∷ X) h comma in
    ap (λ (f : List ℕ). kind_in f (behind_field (behind_field (word ++ 44 ∷ (decimal time ++ 44 ∷ X))))) (field_is word 44 (decimal time ++ 44 ∷ X) h comma)
    ∙ ap (λ (l : List ℕ). kind_in word (behind_field l)) b ∙ ap (kind_in word) (behind_number_is time 44 X low comma)

time_is : (word : List ℕ) (time : ℕ) (X : List ℕ) → HasNoEnd word → IsU64 time → time_in (word ++ 44 ∷ (decimal time ++ 44 ∷ X)) ≡ Some time
unfolding time_in
time_is word time X h low =
    ap (λ (l : List ℕ). u64_in (field_in l)) (behind_is word 44 (decimal time ++ 44 ∷ X) h comma) ∙ ap u64_in (number_field_is time 44 X low comma) ∙ u64_found time low

begun_is : (m : ℕ) → IsU64 m → begun_in (decimal m ++ 10 ∷ []) ≡ Some (Begun m)
begun_is m low = ap (λ (f : List ℕ). option_map (λ n. Begun n) (u64_in f)) (number_field_is m 10 [] low feed) ∙ ap (option_map (λ n. Begun n)) (u64_found m low)

end_is : (status : ℕ) → status < 256 → end_in (decimal status ++ 10 ∷ []) ≡ Some (End status)
end_is s low = ap (λ (f : List ℕ). option_map (λ n. End n) (u8_in f)) (number_field_is s 10 [] (omega arith) feed) ∙ ap (option_map (λ n. End n)) (u8_found s low)

round_is : (number binds workers : ℕ) → IsU32 number → IsU32 binds → IsU32 workers → round_in (decimal number ++ 44 ∷ (decimal binds ++ 44 ∷ (decimal workers ++ 10 ∷ []))) ≡ Some (Round number binds workers)
round_is number binds workers hn hb hw =
    let X2 = decimal workers ++ 10 ∷ [] in
    let X1 = decimal binds ++ 44 ∷ X2 in
    let f0 : field_in (decimal number ++ 44 ∷ X1) ≡ decimal number = number_field_is number 44 X1 (omega arith) comma in
    let b0 : behind_field (decimal number ++ 44 ∷ X1) ≡ X1 = behind_number_is number 44 X1 (omega arith) comma in
    let f1 : field_in X1 ≡ decimal binds = number_field_is binds 44 X2 (omega arith) comma in
    let b1 : behind_field X1 ≡ X2 = behind_number_is binds 44 X2 (omega arith) comma in
    let f2 : field_in X2 ≡ decimal workers = number_field_is workers 10 [] (omega arith) feed in
    let u0 : u32_in (decimal number) ≡ Some number = u32_found number hn in
    let u1 : u32_in (decimal binds) ≡ Some binds = u32_found binds hb in
    let u2 : u32_in (decimal workers) ≡ Some workers = u32_found workers hw in
    rw (b0, b1, f0, f1, f2, u0, u1, u2) refl

unsent_is : (request : RequestId) → IsU32 request.worker → IsU32 request.number → unsent_in (decimal request.worker ++ 44 ∷ (decimal request.number ++ 10 ∷ [])) ≡ Some (Unsent request)
unsent_is request hw hn =
    let w = request.worker in
    let n = request.number in
    let X1 = decimal n ++ 10 ∷ [] in
    let f0 : field_in (decimal w ++ 44 ∷ X1) ≡ decimal w = number_field_is w 44 X1 (omega arith) comma in
    let b0 : behind_field (decimal w ++ 44 ∷ X1) ≡ X1 = behind_number_is w 44 X1 (omega arith) comma in
    let f1 : field_in X1 ≡ decimal n = number_field_is n 10 [] (omega arith) feed in
    let u0 : u32_in (decimal w) ≡ Some w = u32_found w hw in
    let u1 : u32_in (decimal n) ≡ Some n = u32_found n hn in
    rw (b0, f0, f1, u0, u1) refl

sent_is : (request : RequestId) (m p : ℕ) → IsU32 request.worker → IsU32 request.number → IsU64 m → p < 256
    → sent_in (decimal request.worker ++ 44 ∷ (decimal request.number ++ 44 ∷ (decimal m ++ 44 ∷ (decimal p ++ 10 ∷ [])))) ≡ Some (Sent request m p)
sent_is request m p hw hn hm hp =
    let w = request.worker in
    let n = request.number in
    let X3 = decimal p ++ 10 ∷ [] in
    let X2 = decimal m ++ 44 ∷ X3 in
    let X1 = decimal n ++ 44 ∷ X2 in
    let f0 : field_in (decimal w ++ 44 ∷ X1) ≡ decimal w = number_field_is w 44 X1 (omega arith) comma in
    let b0 : behind_field (decimal w ++ 44 ∷ X1) ≡ X1 = behind_number_is w 44 X1 (omega arith) comma in
    let f1 : field_in X1 ≡ decimal n = number_field_is n 44 X2 (omega arith) comma in
    let b1 : behind_field X1 ≡ X2 = behind_number_is n 44 X2 (omega arith) comma in
    let f2 : field_in X2 ≡ decimal m = number_field_is m 44 X3 hm comma in
    let b2 : behind_field X2 ≡ X3 = behind_number_is m 44 X3 hm comma in
    let f3 : field_in X3 ≡ decimal p = number_field_is p 10 [] (omega arith) feed in
    let u0 : u32_in (decimal w) ≡ Some w = u32_found w hw in
    let u1 : u32_in (decimal n) ≡ Some n = u32_found n hn in
    let u2 : u64_in (decimal m) ≡ Some m = u64_found m hm in
    let u3 : u8_in (decimal p) ≡ Some p = u8_found p hp in
    rw (b0, b1, b2, f0, f1, f2, f3, u0, u1, u2, u3) refl

heard_is : (by : ℕ) (reply : Reply) → IsU32 by → IsU32 reply.number → IsU32 reply.status → IsId reply.id
    → heard_in (decimal by ++ 44 ∷ (decimal reply.number ++ 44 ∷ (decimal reply.status ++ 44 ∷ (decimal (flag reply.nack) ++ 44 ∷ (id_text reply.id ++ 10 ∷ []))))) ≡ Some (Heard by reply)
heard_is by reply hw hn hs hi =
    let n = reply.number in
    let s = reply.status in
    let k = flag reply.nack in
    let X4 = id_text reply.id ++ 10 ∷ [] in
    let X3 = decimal k ++ 44 ∷ X4 in
    let X2 = decimal s ++ 44 ∷ X3 in
    let X1 = decimal n ++ 44 ∷ X2 in
    let f0 : field_in (decimal by ++ 44 ∷ X1) ≡ decimal by = number_field_is by 44 X1 (omega arith) comma in
    let b0 : behind_field (decimal by ++ 44 ∷ X1) ≡ X1 = behind_number_is by 44 X1 (omega arith) comma in
    let f1 : field_in X1 ≡ decimal n = number_field_is n 44 X2 (omega arith) comma in
    let b1 : behind_field X1 ≡ X2 = behind_number_is n 44 X2 (omega arith) comma in
    let f2 : field_in X2 ≡ decimal s = number_field_is s 44 X3 (omega arith) comma in
    let b2 : behind_field X2 ≡ X3 = behind_number_is s 44 X3 (omega arith) comma in
    let f3 : field_in X3 ≡ decimal k = number_field_is k 44 X4 (flag_low reply.nack) comma in
    let b3 : behind_field X3 ≡ X4 = behind_number_is k 44 X4 (flag_low reply.nack) comma in
    let f4 : field_in X4 ≡ id_text reply.id = field_is (id_text reply.id) 10 [] (no_end_id reply.id hi.1) feed in
    let u0 : u32_in (decimal by) ≡ Some by = u32_found by hw in
    let u1 : u32_in (decimal n) ≡ Some n = u32_found n hn in
    let u2 : u32_in (decimal s) ≡ Some s = u32_found s hs in
    let u3 : flag_in (decimal k) ≡ reply.nack = flag_found reply.nack in
    let u4 : id_in (id_text reply.id) ≡ reply.id = id_found reply.id hi in
    rw (b0, b1, b2, b3, f0, f1, f2, f3, f4) (heard_of_is by reply (decimal by) (decimal n) (decimal s) (decimal k) (id_text reply.id) u0 u1 u2 u3 u4)
  where
    heard_of_is : (by : ℕ) (reply : Reply) (a b c d e : List ℕ) → u32_in a ≡ Some by → u32_in b ≡ Some reply.number → u32_in c ≡ Some reply.status → flag_in d ≡ reply.nack → id_in e ≡ reply.id → heard_of a b c d e ≡ Some (Heard by reply)
    heard_of_is by reply a b c d e ha hb hc hd he = rw (ha, hb, hc) (ap (λ (x : Bool). Some (Heard by (record { number = reply.number; status = reply.status; nack = x; id = id_in e }))) hd ∙ ap (λ (x : List ℕ). Some (Heard by (record { number = reply.number; status = reply.status; nack = reply.nack; id = x }))) he)

refused_is : (m : ℕ) (refusal : MessageRefusal) → IsU64 m → refused_in (decimal m ++ 44 ∷ (refusal_name refusal ++ 10 ∷ [])) ≡ Some (Refused m refusal)
refused_is m refusal low =
    let X1 = refusal_name refusal ++ 10 ∷ [] in
    let f0 : field_in (decimal m ++ 44 ∷ X1) ≡ decimal m = number_field_is m 44 X1 low comma in
    let b0 : behind_field (decimal m ++ 44 ∷ X1) ≡ X1 = behind_number_is m 44 X1 low comma in
    let f1 : field_in X1 ≡ refusal_name refusal = field_is (refusal_name refusal) 10 [] (no_end_refusal refusal) feed in
    let u0 : u64_in (decimal m) ≡ Some m = u64_found m low in
    let u1 : refusal_named (refusal_name refusal) ≡ Some refusal = refusal_found refusal in
    rw (b0, f0, f1) (refused_of_is (decimal m) (refusal_name refusal) u0 u1)
  where
    refused_of_is : (a b : List ℕ) → u64_in a ≡ Some m → refusal_named b ≡ Some refusal → refused_of a b ≡ Some (Refused m refusal)
    refused_of_is a b ha hb = rw ha (ap (option_map (λ r. Refused m r)) hb)

-- lines, field by field
regroup5 : (a b c d e : List ℕ) → (((a ++ b) ++ c) ++ d) ++ e ≡ a ++ (b ++ (c ++ (d ++ e)))
regroup5 a b c d e = simp append_assoc

regroup6 : (a b c d e f : List ℕ) → ((((a ++ b) ++ c) ++ d) ++ e) ++ f ≡ a ++ (b ++ (c ++ (d ++ (e ++ f))))
regroup6 a b c d e f = simp append_assoc

regroup7 : (a b c d e f g : List ℕ) → (((((a ++ b) ++ c) ++ d) ++ e) ++ f) ++ g ≡ a ++ (b ++ (c ++ (d ++ (e ++ (f ++ g)))))
regroup7 a b c d e f g = simp append_assoc

regroup9 : (a b c d e f g h i : List ℕ) → (((((((a ++ b) ++ c) ++ d) ++ e) ++ f) ++ g) ++ h) ++ i ≡ a ++ (b ++ (c ++ (d ++ (e ++ (f ++ (g ++ (h ++ i)))))))
regroup9 a b c d e f g h i = simp append_assoc

pub begun_line : (time m : ℕ) → note_text time (Begun m) ≡ codes "begun" ++ 44 ∷ (decimal time ++ 44 ∷ (decimal m ++ 10 ∷ []))
begun_line time m = simp append_assoc

pub sent_line : (time : ℕ) (request : RequestId) (m p : ℕ) → note_text time (Sent request m p) ≡ codes "sent" ++ 44 ∷ (decimal time ++ 44 ∷ (decimal request.worker ++ 44 ∷ (decimal request.number ++ 44 ∷ (decimal m ++ 44 ∷ (decimal p ++ 10 ∷ [])))))
sent_line time request m p = regroup7 (codes "sent") (number_field time) (number_field request.worker) (number_field request.number) (number_field m) (number_field p) (codes "\n")

pub unsent_line : (time : ℕ) (request : RequestId) → note_text time (Unsent request) ≡ codes "unsent" ++ 44 ∷ (decimal time ++ 44 ∷ (decimal request.worker ++ 44 ∷ (decimal request.number ++ 10 ∷ [])))
unsent_line time request = regroup5 (codes "unsent") (number_field time) (number_field request.worker) (number_field request.number) (codes "\n")

pub heard_line : (time by : ℕ) (reply : Reply)
    → note_text time (Heard by reply)
    ≡ codes "heard" ++ 44 ∷ (decimal time ++ 44 ∷ (decimal by ++ 44 ∷ (decimal reply.number ++ 44 ∷ (decimal reply.status ++ 44 ∷ (decimal (flag reply.nack) ++ 44 ∷ (id_text reply.id ++ 10 ∷ []))))))
heard_line time by reply =
    regroup9 (codes "heard") (number_field time) (number_field by) (number_field reply.number) (number_field reply.status) (number_field (flag reply.nack)) (codes ",") (id_text reply.id) (codes "\n")

pub refused_line : (time m : ℕ) (refusal : MessageRefusal) → note_text time (Refused m refusal) ≡ codes "refused" ++ 44 ∷ (decimal time ++ 44 ∷ (decimal m ++ 44 ∷ (refusal_name refusal ++ 10 ∷ [])))
refused_line time m refusal = simp append_assoc

pub end_line : (time status : ℕ) → note_text time (End status) ≡ codes "end" ++ 44 ∷ (decimal time ++ 44 ∷ (decimal status ++ 10 ∷ []))
end_line time status = simp append_assoc

pub round_line : (time number binds workers : ℕ)
    → note_text time (Round number binds workers) ≡ codes "round" ++ 44 ∷ (decimal time ++ 44 ∷ (decimal number ++ 44 ∷ (decimal binds ++ 44 ∷ (decimal workers ++ 10 ∷ []))))
round_line time number binds workers = regroup6 (codes "round") (number_field time) (number_field number) (number_field binds) (number_field workers) (codes "\n")

-- a line that is written of a note is read as the note
pub note_found : (time : ℕ) (note : Note) → IsU64 time → IsNote note → note_in (note_text time note) ≡ Some note
note_found time (Begun m) low h = ap note_in (begun_line time m) ∙ head_is (codes "begun") time (decimal m ++ 10 ∷ []) (search rules) low ∙ begun_is m h
note_found time (Sent request m p) low h =
    ap note_in (sent_line time request m p) ∙ head_is (codes "sent") time (decimal request.worker ++ 44 ∷ (decimal request.number ++ 44 ∷ (decimal m ++ 44 ∷ (decimal p ++ 10 ∷ [])))) (search rules) low
    ∙ sent_is request m p h.0 h.1 h.2 h.3
note_found time (Unsent request) low h =
    ap note_in (unsent_line time request) ∙ head_is (codes "unsent") time (decimal request.worker ++ 44 ∷ (decimal request.number ++ 10 ∷ [])) (search rules) low ∙ unsent_is request h.0 h.1
note_found time (Heard by reply) low h =
    ap note_in (heard_line time by reply)
    ∙ head_is (codes "heard") time (decimal by ++ 44 ∷ (decimal reply.number ++ 44 ∷ (decimal reply.status ++ 44 ∷ (decimal (flag reply.nack) ++ 44 ∷ (id_text reply.id ++ 10 ∷ []))))) (search rules) low
    ∙ heard_is by reply h.0 h.1 h.2 h.3
note_found time (Refused m refusal) low h =
    ap note_in (refused_line time m refusal) ∙ head_is (codes "refused") time (decimal m ++ 44 ∷ (refusal_name refusal ++ 10 ∷ [])) (search rules) low ∙ refused_is m refusal h
note_found time (End status) low h = ap note_in (end_line time status) ∙ head_is (codes "end") time (decimal status ++ 10 ∷ []) (search rules) low ∙ end_is status h
note_found time (Round number binds workers) low h =
    ap note_in (round_line time number binds workers) ∙ head_is (codes "round") time (decimal number ++ 44 ∷ (decimal binds ++ 44 ∷ (decimal workers ++ 10 ∷ []))) (search rules) low
    ∙ round_is number binds workers h.0 h.1 h.2

pub time_found : (time : ℕ) (note : Note) → IsU64 time → time_in (note_text time note) ≡ Some time
time_found time (Begun m) low = ap time_in (begun_line time m) ∙ time_is (codes "begun") time (decimal m ++ 10 ∷ []) (search rules) low
time_found time (Sent request m p) low =
    ap time_in (sent_line time request m p) ∙ time_is (codes "sent") time (decimal request.worker ++ 44 ∷ (decimal request.number ++ 44 ∷ (decimal m ++ 44 ∷ (decimal p ++ 10 ∷ [])))) (search rules) low
time_found time (Unsent request) low = ap time_in (unsent_line time request) ∙ time_is (codes "unsent") time (decimal request.worker ++ 44 ∷ (decimal request.number ++ 10 ∷ [])) (search rules) low
time_found time (Heard by reply) low =
    ap time_in (heard_line time by reply)
    ∙ time_is (codes "heard") time (decimal by ++ 44 ∷ (decimal reply.number ++ 44 ∷ (decimal reply.status ++ 44 ∷ (decimal (flag reply.nack) ++ 44 ∷ (id_text reply.id ++ 10 ∷ []))))) (search rules) low
time_found time (Refused m refusal) low = ap time_in (refused_line time m refusal) ∙ time_is (codes "refused") time (decimal m ++ 44 ∷ (refusal_name refusal ++ 10 ∷ [])) (search rules) low
time_found time (End status) low = ap time_in (end_line time status) ∙ time_is (codes "end") time (decimal status ++ 10 ∷ []) (search rules) low
time_found time (Round number binds workers) low =
    ap time_in (round_line time number binds workers) ∙ time_is (codes "round") time (decimal number ++ 44 ∷ (decimal binds ++ 44 ∷ (decimal workers ++ 10 ∷ []))) (search rules) low
