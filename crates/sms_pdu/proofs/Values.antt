-- A field that is read is the field that was spelled, and what was spelled is read again.
use Rattle.std.proofs.Common.{◌≡◌, ◌≢◌, ℕ, zero, suc, ◌+◌, ◌<◌, ◌≤◌, ◌⊎◌, Bool, true, false, cond, ltb, leb, eqb, List, [], ◌∷◌, ◌++◌, length, take, drop, Option, Some, None, Ok, Err, refl, sym, ap, subst, ◌∙◌, append_assoc, add-one, arith, inl, inr}
use Rattle.std.specs.Prelude.{position, ◌||◌}
use Rattle.std.specs.List.{position_from}
use Rattle.std.proofs.lemmas.Bool.{ltb-false, le-ltb, eqb-true, eqb-false}
use Rattle.std.proofs.lemmas.List.{take_at, drop_at, take-append-drop, length-append, length-take}
use Rattle.std.proofs.lemmas.Iterator.Adapters.{position_from-zero}
use Rattle.sms_pdu.specs.declared.field.Field.{Field}
use Rattle.sms_pdu.specs.declared.field.Field.TheVariants as fields
use Rattle.sms_pdu.specs.declared.error.PduError.{PduError}
use Rattle.sms_pdu.specs.declared.error.PduError.TheVariants as errors
use Rattle.sms_pdu.specs.Layout.{Kind, Number, Text, Time, Message, Row, Value, Values, spelling, spellings, HasNoZero, Fits, AllFit}
use Rattle.sms_pdu.specs.Reading.{◌>>=◌, number_octet_at, text_before, text_at, time_at, message_at, value_at, values_at}
use Rattle.sms_pdu.proofs.Parameters.{bind_ok, guard_ok, guard_then, ok_is}

abbrev pub zero_test : ℕ → Bool
zero_test octet = eqb octet 0

-- ---- the place of the first 0

pub record ZeroAt (octets : List ℕ) (k : ℕ) : Type 0 where
  pub parts : octets ≡ take k octets ++ 0 ∷ drop (k + 1) octets
  pub clean : HasNoZero (take k octets)

pub bool_cases : (b : Bool) → (b ≡ true) ⊎ (b ≡ false)
bool_cases true = inl refl
bool_cases false = inr refl

some_is : (m n : ℕ) → Some m ≡ Some n → m ≡ n
some_is m n e = cc

found_here : (x : ℕ) (xs : List ℕ) → x ≡ 0 → ZeroAt (x ∷ xs) 0
found_here x xs e = record { parts = ap (λ (y : ℕ). y ∷ xs) e; clean = tt }

found_later : (x : ℕ) (xs : List ℕ) (k : ℕ) → x ≢ 0 → ZeroAt xs k → ZeroAt (x ∷ xs) (suc k)
found_later x xs k ne z = record { parts = rw add-one (ap (λ (ys : List ℕ). x ∷ ys) (rw add-one at z.parts)); clean = (ne, z.clean) }

-- the place of the first 0 among the first m
record ZeroFound (m i n : ℕ) (xs : List ℕ) : Type 0 where
  place : ℕ
  is : n ≡ i + place
  low : place < m
  at : ZeroAt xs place

zero_found : (m i n : ℕ) (xs : List ℕ) → position_from zero_test i (take m xs) ≡ Some n → ZeroFound m i n xs
zero_found zero i n xs e = absurd cc
zero_found (suc m) i n [] e = absurd cc
zero_found (suc m) i n (x ∷ xs) e =
    elim (bool_cases (eqb x 0)) [
      | inl is ↦
          let here : Some i ≡ Some n = rw is at e in
          record { place = 0; is = omega (arith, some_is i n here); low = omega arith; at = found_here x xs (eqb-true x 0 is) }
      | inr isnt ↦
          let later : position_from zero_test (i + 1) (take m xs) ≡ Some n = rw isnt at e in
          let k = zero_found m (i + 1) n xs later in
          record { place = suc k.place; is = omega (arith, k.is); low = omega (arith, k.low); at = found_later x xs k.place (eqb-false x 0 isnt) k.at }
    ]

pub ne_test : (x : ℕ) → x ≢ 0 → eqb x 0 ≡ false
ne_test x ne = elim (bool_cases (eqb x 0)) [ inl is ↦ absurd (ne (eqb-true x 0 is)) | inr isnt ↦ isnt ]

zero_again : (text rest : List ℕ) (m i : ℕ) → HasNoZero text → length text < m → position_from zero_test i (take m (text ++ 0 ∷ rest)) ≡ Some (i + length text)
zero_again text rest zero i clean lt = absurd (omega arith)
zero_again [] rest (suc m) i clean lt = ap (λ (n : ℕ). Some n) (omega arith)
zero_again (x ∷ xs) rest (suc m) i clean lt =
    rw (ne_test x clean.0) (zero_again xs rest m (i + 1) clean.1 (omega (arith, lt)) ∙ ap (λ (n : ℕ). Some n) (omega arith))

-- ---- one field

abbrev pub Takes : List ℕ → List ℕ → List ℕ → Type 0
Takes octets text rest = octets ≡ text ++ rest

-- a text ends before this place
record EndsBefore (o : Option ℕ) (octets : List ℕ) (x : List ℕ × List ℕ) : Type 0 where
  place : ℕ
  found : o ≡ Some place
  is : (take place octets, drop (place + 1) octets) ≡ x

text_before_ok : (o : Option ℕ) (f : Field) (m : ℕ) (octets : List ℕ) (x : List ℕ × List ℕ) → text_before o f m octets ≡ Ok x → EndsBefore o octets x
text_before_ok (Some k) f m octets x e = record { place = k; found = refl; is = ok_is (take k octets, drop (k + 1) octets) x e }
text_before_ok None f m octets x e = elim (bool_cases (leb m (length octets))) [ inl is ↦ absurd (let no = rw is at e in cc) | inr isnt ↦ absurd (let no = rw isnt at e in cc) ]

pub text_takes : (f : Field) (m : ℕ) (octets : List ℕ) (x : List ℕ × List ℕ) → text_at f m octets ≡ Ok x → Takes octets (x.0 ++ 0 ∷ []) x.1 × (HasNoZero x.0 × (length x.0 < m))
unfolding text_at
text_takes f m octets x e =
    let b = text_before_ok (position zero_test (take m octets)) f m octets x e in
    let z = zero_found m 0 b.place octets (sym (position_from-zero zero_test (take m octets)) ∙ b.found) in
    let k : z.place ≡ b.place = omega (arith, z.is) in
    let at : ZeroAt octets b.place = subst (λ (j : ℕ). ZeroAt octets j) k z.at in
    let short : length (take b.place octets) < m = omega (arith, z.low, k, length-take b.place octets) in
    let whole : octets ≡ (take b.place octets ++ 0 ∷ []) ++ drop (b.place + 1) octets = at.parts ∙ sym (append_assoc (take b.place octets) (0 ∷ []) (drop (b.place + 1) octets)) in
    subst (λ (y : List ℕ × List ℕ). Takes octets (y.0 ++ 0 ∷ []) y.1 × (HasNoZero y.0 × (length y.0 < m))) b.is (whole, (at.clean, short))

pub text_again : (f : Field) (m : ℕ) (text rest : List ℕ) → HasNoZero text → length text < m → text_at f m ((text ++ 0 ∷ []) ++ rest) ≡ Ok (text, rest)
unfolding text_at
text_again f m text rest clean lt =
    let regrouped : (text ++ 0 ∷ []) ++ rest ≡ text ++ 0 ∷ rest = append_assoc text (0 ∷ []) rest in
    let place : position zero_test (take m (text ++ 0 ∷ rest)) ≡ Some (length text) = position_from-zero zero_test (take m (text ++ 0 ∷ rest)) ∙ zero_again text rest m 0 clean lt ∙ ap (λ (n : ℕ). Some n) (omega arith) in
    let front : take (length text) (text ++ 0 ∷ rest) ≡ text = take_at text (0 ∷ rest) (length text) refl in
    let back : drop (length text + 1) ((text ++ 0 ∷ []) ++ rest) ≡ rest = drop_at (text ++ 0 ∷ []) rest (length text + 1) (length-append text (0 ∷ [])) in
    let back2 : drop (length text + 1) (text ++ 0 ∷ rest) ≡ rest = ap (drop (length text + 1)) (sym regrouped) ∙ back in
    rw (regrouped, place, front, back2) refl

-- a test that chose its value
pub guard_ended : {A : Type 0} (b : Bool) (d : PduError) (x y : A) → cond b (Ok x) (Err d) ≡ Ok y → (b ≡ true) × (x ≡ y)
guard_ended true d x y e = (refl, cc)
guard_ended false d x y e = absurd cc

pub or_true : (a b : Bool) → (a || b) ≡ true → (a ≡ true) ⊎ (b ≡ true)
or_true true b e = inl refl
or_true false b e = inr e

number_takes : (f : Field) (octets : List ℕ) (x : ℕ × List ℕ) → number_octet_at f octets ≡ Ok x → Takes octets (x.0 ∷ []) x.1
unfolding number_octet_at
number_takes f [] x e = absurd cc
number_takes f (n ∷ rest) x e =
    let g = guard_ok (eqb (length (n ∷ rest)) 0) (errors.Malformed f) (n, rest) x e in
    subst (λ (y : ℕ × List ℕ). Takes (n ∷ rest) (y.0 ∷ []) y.1) g.1 refl

pub filled_test : (n : ℕ) → eqb (suc n) 0 ≡ false
filled_test n = ne_test (suc n) (λ e. absurd (omega (arith, e)))

number_again : (f : Field) (n : ℕ) (rest : List ℕ) → number_octet_at f (n ∷ rest) ≡ Ok (n, rest)
unfolding number_octet_at
number_again f n rest = rw (filled_test (length rest)) refl

time_takes : (f : Field) (octets : List ℕ) (x : List ℕ × List ℕ) → time_at f octets ≡ Ok x → Takes octets (x.0 ++ 0 ∷ []) x.1 × (HasNoZero x.0 × ((length x.0 ≡ 0) ⊎ (length x.0 ≡ 16)))
unfolding time_at
time_takes f octets x e =
    let b = bind_ok (text_at f 17 octets) (λ text. cond (eqb (length text.0) 0 || eqb (length text.0) 16) (Ok text) (Err (errors.Malformed f))) x e in
    let t = text_takes f 17 octets b.value b.is in
    let fits = t.1 in
    let g = guard_ended (eqb (length b.value.0) 0 || eqb (length b.value.0) 16) (errors.Malformed f) b.value x b.rest in
    let which : (length b.value.0 ≡ 0) ⊎ (length b.value.0 ≡ 16) = elim (or_true _ _ g.0) [ inl none ↦ inl (eqb-true _ _ none) | inr full ↦ inr (eqb-true _ _ full) ] in
    subst (λ (y : List ℕ × List ℕ). Takes octets (y.0 ++ 0 ∷ []) y.1 × (HasNoZero y.0 × ((length y.0 ≡ 0) ⊎ (length y.0 ≡ 16)))) g.1 (t.0, (fits.0, which))

time_length : (n : ℕ) → (n ≡ 0) ⊎ (n ≡ 16) → ((eqb n 0 || eqb n 16) ≡ true) × (n < 17)
time_length n (inl e) = (ap (λ (k : ℕ). eqb k 0 || eqb k 16) e, omega (arith, e))
time_length n (inr e) = (ap (λ (k : ℕ). eqb k 0 || eqb k 16) e, omega (arith, e))

time_again : (f : Field) (text rest : List ℕ) → HasNoZero text → (length text ≡ 0) ⊎ (length text ≡ 16) → time_at f ((text ++ 0 ∷ []) ++ rest) ≡ Ok (text, rest)
unfolding time_at
time_again f text rest clean which =
    let l = time_length (length text) which in
    rw (text_again f 17 text rest clean l.1, l.0) refl

message_takes : (octets : List ℕ) (x : List ℕ × List ℕ) → message_at octets ≡ Ok x → Takes octets (length x.0 ∷ x.0) x.1 × (length x.0 ≤ 254)
unfolding message_at
message_takes octets x e =
    let b = bind_ok (number_octet_at fields.SmLength octets) (λ len. cond (ltb 254 len.0) (Err (errors.TooLong fields.ShortMessage)) (cond (ltb (length len.1) len.0) (Err (errors.Malformed fields.ShortMessage)) (Ok (take len.0 len.1, drop len.0 len.1)))) x e in
    let n = b.value.0 in
    let rest = b.value.1 in
    let t = number_takes fields.SmLength octets b.value b.is in
    let g = guard_then (ltb 254 n) (errors.TooLong fields.ShortMessage) (cond (ltb (length rest) n) (Err (errors.Malformed fields.ShortMessage)) (Ok (take n rest, drop n rest))) x b.rest in
    let h = guard_ok (ltb (length rest) n) (errors.Malformed fields.ShortMessage) (take n rest, drop n rest) x g.1 in
    let most : n ≤ 254 = ltb-false _ _ g.0 in
    let there : n ≤ length rest = ltb-false _ _ h.0 in
    let len : length (take n rest) ≡ n = omega (arith, length-take n rest) in
    let parts : octets ≡ (length (take n rest) ∷ take n rest) ++ drop n rest = t ∙ ap (λ (r : List ℕ). n ∷ r) (sym (take-append-drop n rest)) ∙ ap (λ (k : ℕ). (k ∷ take n rest) ++ drop n rest) (sym len) in
    subst (λ (y : List ℕ × List ℕ). Takes octets (length y.0 ∷ y.0) y.1 × (length y.0 ≤ 254)) h.1 (parts, omega (arith, len, most))

message_again : (text rest : List ℕ) → length text ≤ 254 → message_at ((length text ∷ text) ++ rest) ≡ Ok (text, rest)
unfolding message_at
message_again text rest le =
    let most : ltb 254 (length text) ≡ false = le-ltb _ _ le in
    let there : ltb (length (text ++ rest)) (length text) ≡ false = le-ltb _ _ (omega (arith, length-append text rest)) in
    rw (number_again fields.SmLength (length text) (text ++ rest), most, there, take_at text rest (length text) refl, drop_at text rest (length text) refl) refl

-- ---- the fields of a body

value_takes : (f : Field) (kind : Kind) (octets : List ℕ) (x : Value kind × List ℕ) → value_at f kind octets ≡ Ok x → Takes octets (spelling kind x.0) x.1 × Fits kind x.0
value_takes f Number octets x e = (number_takes f octets x e, tt)
value_takes f (Text maximum) octets x e = text_takes f maximum octets x e
value_takes f Time octets x e = time_takes f octets x e
value_takes f Message octets x e = message_takes octets x e

value_again : (f : Field) (kind : Kind) (v : Value kind) (rest : List ℕ) → Fits kind v → value_at f kind (spelling kind v ++ rest) ≡ Ok (v, rest)
value_again f Number v rest fits = number_again f v rest
value_again f (Text maximum) v rest fits = text_again f maximum v rest fits.0 fits.1
value_again f Time v rest fits = time_again f v rest fits.0 fits.1
value_again f Message v rest fits = message_again v rest fits

pub values_take : (rows : List Row) (octets : List ℕ) (x : Values rows × List ℕ) → values_at rows octets ≡ Ok x → Takes octets (spellings rows x.0) x.1 × AllFit rows x.0
values_take [] octets x e = (ap (λ (y : Unit {0} × List ℕ). y.1) (ok_is (tt, octets) x e), tt)
values_take (row ∷ rows) octets x e =
    let a = bind_ok (value_at row.field row.kind octets) (λ first. values_at rows first.1 >>= λ others. Ok ((first.0, others.0), others.1)) x e in
    let b = bind_ok (values_at rows a.value.1) (λ others. Ok ((a.value.0, others.0), others.1)) x a.rest in
    let t = value_takes row.field row.kind octets a.value a.is in
    let u = values_take rows a.value.1 b.value b.is in
    let first = spelling row.kind a.value.0 in
    let others = spellings rows b.value.0 in
    let parts : octets ≡ (first ++ others) ++ b.value.1 = t.0 ∙ ap (λ (r : List ℕ). first ++ r) u.0 ∙ sym (append_assoc first others b.value.1) in
    let made : Values (row ∷ rows) × List ℕ = ((a.value.0, b.value.0), b.value.1) in
    subst (λ (y : Values (row ∷ rows) × List ℕ). Takes octets (spellings (row ∷ rows) y.0) y.1 × AllFit (row ∷ rows) y.0) (ok_is made x b.rest) (parts, (t.1, u.1))

pub values_again : (rows : List Row) (v : Values rows) (rest : List ℕ) → AllFit rows v → values_at rows (spellings rows v ++ rest) ≡ Ok (v, rest)
values_again [] v rest fits = refl
values_again (row ∷ rows) v rest fits =
    let regrouped : (spelling row.kind v.0 ++ spellings rows v.1) ++ rest ≡ spelling row.kind v.0 ++ (spellings rows v.1 ++ rest) = append_assoc (spelling row.kind v.0) (spellings rows v.1) rest in
    ap (values_at (row ∷ rows)) regrouped ∙ rw (value_again row.field row.kind v.0 (spellings rows v.1 ++ rest) fits.0, values_again rows v.1 rest fits.1) refl
