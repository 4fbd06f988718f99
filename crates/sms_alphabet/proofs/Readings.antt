-- Codes as they are read.
use Rattle.std.proofs.Common.{◌≡◌, ◌≢◌, ℕ, ◌<◌, List, [], ◌∷◌, ◌++◌, length, Option, None, Some, refl, sym, ap, ◌∙◌, append_assoc, append-nil, arith, length-append, encode_utf8_all, encode_utf8, chars}
use Rattle.std.proofs.lemmas.Bool.{and_from, and_parts, false≢true}
use Rattle.std.proofs.lemmas.Str.{encodes-append, chars-encodes}
use Rattle.std.specs.Str.{all_scalars}
use Rattle.std.specs.Char.{IsScalar}
use Rattle.sms_alphabet.specs.declared.coded.Coding.TheVariants.{Gsm}
use Rattle.sms_alphabet.specs.Alphabet.{codes_of, escape}
use Rattle.sms_alphabet.specs.Spelling.{append_some, gsm_spelling, IsText}
use Rattle.sms_alphabet.specs.Reading.{BeginsWith, SpellsNoText}
use Rattle.sms_alphabet.proofs.Table.{codes_look, single_code, coded_is_scalar}
use Rattle.sms_alphabet.proofs.Codes.{parts_of, continues, codes_not_empty, pair_starts_escaped}

-- an empty list begins with a character's
pub begins_not_empty : (units : List ℕ) → length units ≡ 0 → (c : ℕ) (rest : List ℕ) → BeginsWith units c rest → ⊥
begins_not_empty [] none c rest begins = codes_not_empty c begins.codes rest begins.has (sym begins.starts)
begins_not_empty (u ∷ units) none c rest begins = omega (arith, none)

basic_at : (code : ℕ) (units : List ℕ) (c : ℕ) (codes rest : List ℕ) → code ≢ escape → ((c : ℕ) → codes_of c ≢ Some (code ∷ []))
    → codes_of c ≡ Some codes → code ∷ units ≡ codes ++ rest → ⊥
basic_at code units c [] rest other none is begins = false≢true (codes_look c [] is)
basic_at code units c (k ∷ []) rest other none is begins =
    let heads : k ≡ code = cc in
    none c (is ∙ ap (λ n. Some (n ∷ [])) heads)
basic_at code units c (e ∷ k ∷ []) rest other none is begins =
    let heads : code ≡ e = cc in
    other (heads ∙ pair_starts_escaped e k (codes_look c (e ∷ k ∷ []) is))
basic_at code units c (e ∷ k ∷ l ∷ ks) rest other none is begins = false≢true (codes_look c (e ∷ k ∷ l ∷ ks) is)

escaped_at : (code : ℕ) (units : List ℕ) (c : ℕ) (codes rest : List ℕ) → ((c : ℕ) → codes_of c ≢ Some (escape ∷ code ∷ []))
    → codes_of c ≡ Some codes → escape ∷ code ∷ units ≡ codes ++ rest → ⊥
escaped_at code units c [] rest none is begins = false≢true (codes_look c [] is)
escaped_at code units c (k ∷ []) rest none is begins =
    let heads : k ≡ escape = cc in
    (single_code c k is).1 heads
escaped_at code units c (e ∷ k ∷ []) rest none is begins =
    let first : e ≡ escape = cc in
    let second : k ≡ code = cc in
    none c (is ∙ ap (λ n. Some (n ∷ k ∷ [])) first ∙ ap (λ n. Some (escape ∷ n ∷ [])) second)
escaped_at code units c (e ∷ k ∷ l ∷ ks) rest none is begins = false≢true (codes_look c (e ∷ k ∷ l ∷ ks) is)

escape_at : (c : ℕ) (codes rest : List ℕ) → codes_of c ≡ Some codes → escape ∷ [] ≡ codes ++ rest → ⊥
escape_at c [] rest is begins = false≢true (codes_look c [] is)
escape_at c (k ∷ []) rest is begins =
    let heads : k ≡ escape = cc in
    (single_code c k is).1 heads
escape_at c (e ∷ k ∷ ks) rest is begins = cc

shorter_at : (units : List ℕ) (c : ℕ) (codes rest : List ℕ) → codes_of c ≡ Some codes → units ≡ codes ++ rest → length rest < length units
shorter_at units c [] rest is begins = absurd (false≢true (codes_look c [] is))
shorter_at units c (k ∷ ks) rest is begins = omega (arith, ap length begins, length-append ks rest)

-- a code other than the escape begins with its own character alone
pub begins_basic : (code : ℕ) (units : List ℕ) → code ≢ escape → ((c : ℕ) → codes_of c ≢ Some (code ∷ []))
    → (c : ℕ) (rest : List ℕ) → BeginsWith (code ∷ units) c rest → ⊥
begins_basic code units other none c rest begins = basic_at code units c begins.codes rest other none begins.has begins.starts

-- the escape begins with a character of the extension table alone
pub begins_escaped : (code : ℕ) (units : List ℕ) → ((c : ℕ) → codes_of c ≢ Some (escape ∷ code ∷ []))
    → (c : ℕ) (rest : List ℕ) → BeginsWith (escape ∷ code ∷ units) c rest → ⊥
begins_escaped code units none c rest begins = escaped_at code units c begins.codes rest none begins.has begins.starts

pub begins_escape : (c : ℕ) (rest : List ℕ) → BeginsWith (escape ∷ []) c rest → ⊥
begins_escape c rest begins = escape_at c begins.codes rest begins.has begins.starts

-- what has been read: the text, and its codes
pub record IsReadTo (units bytes rest : List ℕ) : Type 0 where
  pub text : List ℕ
  pub codes : List ℕ
  pub is_text : IsText text
  pub bytes_are : bytes ≡ encode_utf8_all text
  pub spelled : gsm_spelling text ≡ Some codes
  pub units_are : units ≡ codes ++ rest

pub read_none : (units bytes : List ℕ) → bytes ≡ [] → IsReadTo units bytes units
read_none units bytes empty = record { text = []; codes = []; is_text = refl; bytes_are = empty; spelled = refl; units_are = refl }

append_spelling : (xs ys : List ℕ) (o : Option (List ℕ)) (codes : List ℕ) → append_some o (Some ys) ≡ Some codes → append_some (append_some (Some xs) o) (Some ys) ≡ Some (xs ++ codes)
append_spelling xs ys None codes is = cc
append_spelling xs ys (Some zs) codes is =
    let joined : zs ++ ys ≡ codes = cc in
    ap (λ l. Some l) (append_assoc xs zs ys ∙ ap (λ l. xs ++ l) joined)

-- a text and one character more
spelling_more : (text : List ℕ) (c : ℕ) (codes more : List ℕ) → gsm_spelling text ≡ Some codes → codes_of c ≡ Some more
    → gsm_spelling (text ++ c ∷ []) ≡ Some (codes ++ more)
spelling_more [] c codes more is found =
    let none : [] ≡ codes = cc in
    ap (λ o. append_some o (Some [])) found ∙ ap (λ l. Some l) (append-nil more ∙ ap (λ l. l ++ more) none)
spelling_more (d ∷ ds) c codes more is found =
    let parts = parts_of (codes_of d) (gsm_spelling ds) codes is in
    ap (λ o. append_some o (gsm_spelling (ds ++ c ∷ []))) parts.first_is
    ∙ ap (λ o. append_some (Some parts.first) o) (spelling_more ds c parts.later more parts.later_is found)
    ∙ ap (λ l. Some l) (sym (append_assoc parts.first parts.later more) ∙ ap (λ l. l ++ more) parts.all_is)

text_more : (text : List ℕ) (c : ℕ) → IsText text → IsScalar c → IsText (text ++ c ∷ [])
text_more [] c is scalar_is = and_from _ _ scalar_is refl
text_more (d ∷ ds) c is scalar_is =
    let parts = and_parts _ (all_scalars ds) is in
    and_from _ _ parts.0 (text_more ds c parts.1 scalar_is)

pub read_on : (units bytes left rest : List ℕ) (c : ℕ) → IsReadTo units bytes left → BeginsWith left c rest
    → IsReadTo units (bytes ++ encode_utf8 c) rest
read_on units bytes left rest c held begins =
    record {
      text = held.text ++ c ∷ [];
      codes = held.codes ++ begins.codes;
      is_text = text_more held.text c held.is_text (coded_is_scalar c begins.codes begins.has);
      bytes_are = ap (λ l. l ++ encode_utf8 c) held.bytes_are ∙ ap (λ l. encode_utf8_all held.text ++ l) (sym (append-nil (encode_utf8 c)))
          ∙ sym (encodes-append held.text (c ∷ []));
      spelled = spelling_more held.text c held.codes begins.codes held.spelled begins.has;
      units_are = held.units_are ∙ ap (λ l. held.codes ++ l) begins.starts ∙ sym (append_assoc held.codes begins.codes rest);
    }

-- each character takes a code at least
pub begins_shorter : (units : List ℕ) (c : ℕ) (rest : List ℕ) → BeginsWith units c rest → length rest < length units
begins_shorter units c rest begins = shorter_at units c begins.codes rest begins.has begins.starts

pub empty_rest : (rest : List ℕ) → length rest ≡ 0 → rest ≡ []
empty_rest [] none = refl
empty_rest (u ∷ units) none = absurd (omega (arith, none))

-- all has been read
pub read_all : (units bytes rest : List ℕ) → IsReadTo units bytes rest → length rest ≡ 0 → gsm_spelling (chars bytes) ≡ Some units
read_all units bytes rest held none =
    ap (λ l. gsm_spelling (chars l)) held.bytes_are ∙ ap gsm_spelling (chars-encodes held.text held.is_text) ∙ held.spelled
    ∙ ap (λ l. Some l) (sym (held.units_are ∙ ap (λ l. held.codes ++ l) (empty_rest rest none) ∙ append-nil held.codes))

more_begins : (more rest : List ℕ) → gsm_spelling more ≡ Some rest → length rest ≢ 0 → ((c : ℕ) (after : List ℕ) → BeginsWith rest c after → ⊥) → ⊥
more_begins [] rest is some none =
    let empty : [] ≡ rest = cc in
    some (ap length (sym empty))
more_begins (c ∷ cs) rest is some none =
    let parts = parts_of (codes_of c) (gsm_spelling cs) rest is in
    none c parts.later record { codes = parts.first; has = parts.first_is; starts = sym parts.all_is }

-- what is left begins with no character
pub read_never : (units bytes rest : List ℕ) → IsReadTo units bytes rest → length rest ≢ 0
    → ((c : ℕ) (after : List ℕ) → BeginsWith rest c after → ⊥) → SpellsNoText Gsm units
read_never units bytes rest held some none = λ text is_text is.
    let found = continues held.text text held.codes rest held.spelled (is ∙ ap (λ l. Some l) held.units_are) in
    more_begins found.more rest found.spelled some none
