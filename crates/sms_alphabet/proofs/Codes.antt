-- The codes of the default alphabet are told apart in a row: no character's codes begin another's.
use Rattle.std.proofs.Common.{◌≡◌, ℕ, true, eqb, ltb, List, [], ◌∷◌, ◌++◌, Option, None, Some, refl, sym, ap, ◌∙◌, append_assoc, append-nil}
use Rattle.std.proofs.lemmas.Bool.{eqb-true, and_parts, false≢true}
use Rattle.sms_alphabet.specs.Alphabet.{codes_of, escape}
use Rattle.sms_alphabet.specs.Spelling.{append_some, gsm_spelling}
use Rattle.sms_alphabet.proofs.Table.{codes_look, is_code_or_pair, single_code, one_character}

-- of two codes the first is the escape
pub pair_starts_escaped : (e k : ℕ) → is_code_or_pair (e ∷ k ∷ []) ≡ true → e ≡ escape
pair_starts_escaped e k look = eqb-true e escape (and_parts (eqb e escape) (ltb k 128) look).0

-- the codes of two characters that begin one list are the same
same_codes : (c d : ℕ) (xs ys r t : List ℕ) → codes_of c ≡ Some xs → codes_of d ≡ Some ys → xs ++ r ≡ ys ++ t
    → is_code_or_pair xs ≡ true → is_code_or_pair ys ≡ true → (xs ≡ ys) × (r ≡ t)
same_codes c d [] ys r t is_c is_d same look_c look_d = absurd (false≢true look_c)
same_codes c d (x ∷ []) [] r t is_c is_d same look_c look_d = absurd (false≢true look_d)
same_codes c d (x ∷ []) (y ∷ []) r t is_c is_d same look_c look_d = (cc, cc)
same_codes c d (x ∷ []) (y ∷ z ∷ []) r t is_c is_d same look_c look_d =
    let heads : x ≡ y = cc in
    absurd ((single_code c x is_c).1 (heads ∙ pair_starts_escaped y z look_d))
same_codes c d (x ∷ []) (y ∷ z ∷ w ∷ ws) r t is_c is_d same look_c look_d = absurd (false≢true look_d)
same_codes c d (x ∷ v ∷ []) [] r t is_c is_d same look_c look_d = absurd (false≢true look_d)
same_codes c d (x ∷ v ∷ []) (y ∷ []) r t is_c is_d same look_c look_d =
    let heads : x ≡ y = cc in
    absurd ((single_code d y is_d).1 (sym heads ∙ pair_starts_escaped x v look_c))
same_codes c d (x ∷ v ∷ []) (y ∷ z ∷ []) r t is_c is_d same look_c look_d = (cc, cc)
same_codes c d (x ∷ v ∷ []) (y ∷ z ∷ w ∷ ws) r t is_c is_d same look_c look_d = absurd (false≢true look_d)
same_codes c d (x ∷ v ∷ u ∷ us) ys r t is_c is_d same look_c look_d = absurd (false≢true look_c)

pub same_first : (c d : ℕ) (xs ys r t : List ℕ) → codes_of c ≡ Some xs → codes_of d ≡ Some ys → xs ++ r ≡ ys ++ t → (c ≡ d) × (r ≡ t)
same_first c d xs ys r t is_c is_d same =
    let both = same_codes c d xs ys r t is_c is_d same (codes_look c xs is_c) (codes_look d ys is_d) in
    (one_character c d xs is_c (is_d ∙ ap (λ l. Some l) (sym both.0)), both.1)

-- a character has a code at least
pub codes_not_empty : (c : ℕ) (xs r : List ℕ) → codes_of c ≡ Some xs → xs ++ r ≡ [] → ⊥
codes_not_empty c [] r is none = false≢true (codes_look c [] is)
codes_not_empty c (x ∷ xs) r is none = cc

-- the parts of what is appended
pub record Parts (o p : Option (List ℕ)) (all : List ℕ) : Type 0 where
  pub first : List ℕ
  pub later : List ℕ
  pub first_is : o ≡ Some first
  pub later_is : p ≡ Some later
  pub all_is : first ++ later ≡ all

pub parts_of : (o p : Option (List ℕ)) (all : List ℕ) → append_some o p ≡ Some all → Parts o p all
parts_of (Some xs) (Some ys) all is = record { first = xs; later = ys; first_is = refl; later_is = refl; all_is = cc }
parts_of (Some xs) None all is = cc
parts_of None p all is = cc

-- a text whose spelling goes on after that of another goes on after the other
pub record Continues (text longer codes : List ℕ) : Type 0 where
  pub more : List ℕ
  pub longer_is : longer ≡ text ++ more
  pub spelled : gsm_spelling more ≡ Some codes

continues_at : (c d : ℕ) (cs ds xs ys first later rest codes : List ℕ) → codes_of c ≡ Some xs → codes_of d ≡ Some ys
    → xs ++ first ≡ codes → ys ++ later ≡ codes ++ rest
    → (later ≡ first ++ rest → Continues cs ds rest) → Continues (c ∷ cs) (d ∷ ds) rest
continues_at c d cs ds xs ys first later rest codes is_c is_d short long go =
    let same = same_first c d xs ys (first ++ rest) later is_c is_d
    (sym (append_assoc xs first rest) ∙ ap (λ l. l ++ rest) short ∙ sym long) in
    let found = go (sym same.1) in
    let heads : c ≡ d = same.0 in
    let tails = found.longer_is in
    record { more = found.more; longer_is = ap (λ n. n ∷ ds) (sym heads) ∙ ap (λ l. c ∷ l) tails; spelled = found.spelled }

pub continues : (text longer codes rest : List ℕ) → gsm_spelling text ≡ Some codes → gsm_spelling longer ≡ Some (codes ++ rest)
    → Continues text longer rest
continues [] longer codes rest short long =
    let none : [] ≡ codes = cc in
    record { more = longer; longer_is = refl; spelled = long ∙ ap (λ l. Some (l ++ rest)) (sym none) }
continues (c ∷ cs) [] codes rest short long =
    let parts = parts_of (codes_of c) (gsm_spelling cs) codes short in
    let none : codes ++ rest ≡ [] = cc in
    absurd (codes_not_empty c parts.first (parts.later ++ rest) parts.first_is
    (sym (append_assoc parts.first parts.later rest) ∙ ap (λ l. l ++ rest) parts.all_is ∙ none))
continues (c ∷ cs) (d ∷ ds) codes rest short long =
    let parts = parts_of (codes_of c) (gsm_spelling cs) codes short in
    let others = parts_of (codes_of d) (gsm_spelling ds) (codes ++ rest) long in
    continues_at c d cs ds parts.first others.first parts.later others.later rest codes parts.first_is others.first_is parts.all_is others.all_is
    (λ same. continues cs ds parts.later rest parts.later_is (others.later_is ∙ ap (λ l. Some l) same))

-- only the empty text has no codes
pub no_codes : (text : List ℕ) → gsm_spelling text ≡ Some [] → text ≡ []
no_codes [] is = refl
no_codes (c ∷ cs) is =
    let parts = parts_of (codes_of c) (gsm_spelling cs) [] is in
    absurd (codes_not_empty c parts.first parts.later parts.first_is parts.all_is)

-- one text has given codes
pub same_gsm_text : (text other codes : List ℕ) → gsm_spelling text ≡ Some codes → gsm_spelling other ≡ Some codes → text ≡ other
same_gsm_text text other codes is is_too =
    let found = continues text other codes [] is (is_too ∙ ap (λ l. Some l) (sym (append-nil codes))) in
    sym (found.longer_is ∙ ap (λ l. text ++ l) (no_codes found.more found.spelled) ∙ append-nil text)
