-- The texts of a config are no longer than a bind has room for.
use Rattle.std.proofs.Common.{◌≡◌, ℕ, ◌<◌, List, [], ◌∷◌, length, Bool, true, false, Some, None, Result, Ok, Err, eqb, ltb, refl, arith}
use Rattle.std.specs.Prelude.{◌&&◌, not, if◌then◌else◌}
use Rattle.std.proofs.lemmas.Bool.{ltb-true, eqb-false}
use Rattle.sms_pdu.specs.declared.command.Mode.{Mode}
use Rattle.sms_pdu.specs.declared.error.PduError.{PduError}
use Rattle.sms_pdu.specs.Layout.{HasNoZero, bind_fields}
use Rattle.sms_pdu.specs.Size.{bind_size, size_of}
use Rattle.sms_pdu.proofs.SizeLaws.{values_size_is}
use Rattle.sms_session.specs.Settings.{bind_pdu, setting}
use Rattle.sms_files.specs.Config.{c_octet_string, has_no_zero}

split : (a b : Bool) → (not a && b) ≡ true → (a ≡ false) × (b ≡ true)
split false true e = (refl, refl)
split false false e = absurd cc
split true b e = absurd cc

clean : (text : List ℕ) → has_no_zero text ≡ true → HasNoZero text
clean [] e = tt
clean (c ∷ cs) e = let s = split (eqb c 0) (has_no_zero cs) e in (eqb-false c 0 s.0, clean cs s.1)

kept : (short clear : Bool) (text : List ℕ) → (if short && clear then Some text else None) ≡ Some text → (short ≡ true) × (clear ≡ true)
kept true true text e = (refl, refl)
kept true false text e = absurd cc
kept false clear text e = absurd cc

fits : (most : ℕ) (text : List ℕ) → c_octet_string most text ≡ Some text → HasNoZero text × (length text < most)
fits most text e =
    let k = kept (ltb (length text) most) (has_no_zero text) text e in
    (clean text k.1, ltb-true _ _ k.0)

not_both : (r : Result ℕ PduError) (n : ℕ) (fault : PduError) → r ≡ Ok n → r ≡ Err fault → ⊥
not_both r n fault a b = cc

-- so a bind with them has a size, and no fault
pub has_size : (mode : Mode) (a b c : List ℕ) (fault : PduError) → c_octet_string 16 a ≡ Some a → c_octet_string 9 b ≡ Some b → c_octet_string 13 c ≡ Some c
    → size_of (bind_pdu (setting mode a b c) 0) ≡ Err fault → ⊥
unfolding bind_size
has_size mode a b c fault ea eb ec e =
    not_both (size_of (bind_pdu (setting mode a b c) 0)) _ fault
    (values_size_is bind_fields (a, (b, (c, (0x34, (0, (0, ([], tt))))))) 16 (fits 16 a ea, (fits 9 b eb, (fits 13 c ec, (tt, (tt, (tt, ((tt, omega arith), tt))))))))
    e
