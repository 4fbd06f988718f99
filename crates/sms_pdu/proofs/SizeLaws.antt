-- A PDU has a size exactly where it has a spelling, and the size is the spelling's length.
use Rattle.std.proofs.Common.{◌≡◌, ◌≢◌, ℕ, ◌+◌, ◌^◌, ◌<◌, ◌≤◌, ◌⊎◌, true, false, cond, ltb, leb, eqb, List, [], ◌∷◌, ◌++◌, length, Option, Some, None, Result, Ok, Err, refl, sym, ap, ◌∙◌, arith, inl, inr}
use Rattle.std.specs.Prelude.{◌||◌}
use Rattle.std.specs.List.{list_any}
use Rattle.std.proofs.lemmas.Bool.{ltb-true, lt-ltb, eqb-true, eqb-false, leb-true, le-leb}
use Rattle.std.proofs.lemmas.List.{length-append}
use Rattle.sms_pdu.specs.declared.field.Field.{Field}
use Rattle.sms_pdu.specs.declared.field.Field.TheVariants as fields
use Rattle.sms_pdu.specs.declared.error.PduError.{PduError}
use Rattle.sms_pdu.specs.declared.error.PduError.TheVariants as errors
use Rattle.sms_pdu.specs.declared.parameter.Parameter.{Parameter}
use Rattle.sms_pdu.specs.declared.body.Sm.{Sm}
use Rattle.sms_pdu.specs.declared.body.Body.{Body}
use Rattle.sms_pdu.specs.declared.body.Body.TheVariants as body
use Rattle.sms_pdu.specs.Layout.{Kind, Number, Text, Time, Message, Row, Value, Values, spelling, spellings, HasNoZero, Fits, AllFit, bind_fields, sm_fields, parameters_spelling, ParametersFit}
use Rattle.sms_pdu.specs.Grammar.{sm_values, sm_spelling, SmFits, bind_resp_spelling, sm_resp_spelling, body_spelling, BindRespFits, SmRespFits, BodyFits}
use Rattle.sms_pdu.specs.Reading.{◌>>=◌}
use Rattle.sms_pdu.specs.Size.{text_size, time_size, message_size, value_size, values_size, parameters_fit, parameters_checked, whole_size, tail_size, sm_size, absent_size, bind_resp_size, message_id_size, bind_size, body_size}
use Rattle.sms_pdu.specs.Writing.{SmWritable, RespWritable, Writable, RespFit, TagsFit}
use Rattle.sms_pdu.proofs.Parameters.{bind_ok, guard_ok, guard_then, ok_is}
use Rattle.sms_pdu.proofs.Values.{zero_test, bool_cases, ne_test, guard_ended, or_true}
use Rattle.sms_pdu.proofs.Wholes.{chosen_then}

abbrev sized_ok : ℕ → Result ℕ PduError
sized_ok n = Ok n

-- ---- texts

no_zero : (text : List ℕ) → list_any zero_test text ≡ false → HasNoZero text
no_zero [] e = tt
no_zero (x ∷ xs) e =
    elim (bool_cases (eqb x 0)) [
      | inl is ↦ absurd (let no = rw is at e in cc)
      | inr isnt ↦ (eqb-false x 0 isnt, no_zero xs (rw isnt at e))
    ]

none_found : (text : List ℕ) → HasNoZero text → list_any zero_test text ≡ false
none_found [] clean = refl
none_found (x ∷ xs) clean = rw (ne_test x clean.0) (none_found xs clean.1)

-- the size of a text, and what it says of its length
record TextSized (text : List ℕ) (n : ℕ) (P : Type 0) : Type 0 where
  len : n ≡ length text + 1
  clean : HasNoZero text
  short : P

text_sized : (f : Field) (m : ℕ) (text : List ℕ) (n : ℕ) → text_size f m text ≡ Ok n → TextSized text n (length text < m)
unfolding text_size
text_sized f m text n e =
    let g = chosen_then (ltb (length text) m) (cond (list_any zero_test text) (Err (errors.Malformed f)) (sized_ok (length text + 1))) (errors.TooLong f) n e in
    let w = guard_ok (list_any zero_test text) (errors.Malformed f) (length text + 1) n g.1 in
    record { len = sym w.1; clean = no_zero text w.0; short = ltb-true _ _ g.0 }

text_size_is : (f : Field) (m : ℕ) (text : List ℕ) → HasNoZero text → length text < m → text_size f m text ≡ Ok (length text + 1)
unfolding text_size
text_size_is f m text clean lt = rw (lt-ltb _ _ lt, none_found text clean) refl

time_sized : (f : Field) (text : List ℕ) (n : ℕ) → time_size f text ≡ Ok n → TextSized text n ((length text ≡ 0) ⊎ (length text ≡ 16))
unfolding time_size
time_sized f text n e =
    let b = bind_ok (text_size f 17 text) (λ size. cond (eqb size 1 || eqb size 17) (Ok size) (Err (errors.Malformed f))) n e in
    let t = text_sized f 17 text b.value b.is in
    let g = guard_ended (eqb b.value 1 || eqb b.value 17) (errors.Malformed f) b.value n b.rest in
    let which : (length text ≡ 0) ⊎ (length text ≡ 16) = elim (or_true (eqb b.value 1) (eqb b.value 17) g.0) [ inl none ↦ inl (omega (arith, eqb-true b.value 1 none, t.len)) | inr full ↦ inr (omega (arith, eqb-true b.value 17 full, t.len)) ] in
    record { len = omega (arith, g.1, t.len); clean = t.clean; short = which }

time_test : (n : ℕ) → (n ≡ 0) ⊎ (n ≡ 16) → ((eqb (n + 1) 1 || eqb (n + 1) 17) ≡ true) × (n < 17)
time_test n (inl e) = (ap (λ (k : ℕ). eqb (k + 1) 1 || eqb (k + 1) 17) e, omega (arith, e))
time_test n (inr e) = (ap (λ (k : ℕ). eqb (k + 1) 1 || eqb (k + 1) 17) e, omega (arith, e))

time_size_is : (f : Field) (text : List ℕ) → HasNoZero text → (length text ≡ 0) ⊎ (length text ≡ 16) → time_size f text ≡ Ok (length text + 1)
unfolding time_size
time_size_is f text clean which =
    let t = time_test (length text) which in
    rw (text_size_is f 17 text clean t.1, t.0) refl

message_sized : (text : List ℕ) (n : ℕ) → message_size text ≡ Ok n → (n ≡ length text + 1) × (length text ≤ 254)
unfolding message_size
message_sized text n e =
    let g = guard_ended (leb (length text) 254) (errors.TooLong fields.ShortMessage) (length text + 1) n e in
    (sym g.1, leb-true _ _ g.0)

message_size_is : (text : List ℕ) → length text ≤ 254 → message_size text ≡ Ok (length text + 1)
unfolding message_size
message_size_is text le = rw (le-leb _ _ le) refl

-- ---- the fields of a body

value_sized : (f : Field) (kind : Kind) (v : Value kind) (n : ℕ) → value_size f kind v ≡ Ok n → (n ≡ length (spelling kind v)) × Fits kind v
value_sized f Number v n e = (sym (ok_is 1 n e), tt)
value_sized f (Text maximum) v n e = let t = text_sized f maximum v n e in (omega (arith, t.len, length-append v (0 ∷ [])), (t.clean, t.short))
value_sized f Time v n e = let t = time_sized f v n e in (omega (arith, t.len, length-append v (0 ∷ [])), (t.clean, t.short))
value_sized f Message v n e = let t = message_sized v n e in (omega (arith, t.0), t.1)

value_size_is : (f : Field) (kind : Kind) (v : Value kind) → Fits kind v → value_size f kind v ≡ Ok (length (spelling kind v))
value_size_is f Number v fits = refl
value_size_is f (Text maximum) v fits = text_size_is f maximum v fits.0 fits.1 ∙ ap (λ (k : ℕ). sized_ok k) (omega (arith, length-append v (0 ∷ [])))
value_size_is f Time v fits = time_size_is f v fits.0 fits.1 ∙ ap (λ (k : ℕ). sized_ok k) (omega (arith, length-append v (0 ∷ [])))
value_size_is f Message v fits = message_size_is v fits ∙ ap (λ (k : ℕ). sized_ok k) (omega arith)

pub values_sized : (rows : List Row) (v : Values rows) (before n : ℕ) → values_size rows v before ≡ Ok n → (n ≡ before + length (spellings rows v)) × AllFit rows v
values_sized [] v before n e = (omega (arith, ok_is before n e), tt)
values_sized (row ∷ rows) v before n e =
    let a = bind_ok (value_size row.field row.kind v.0) (λ size. values_size rows v.1 (before + size)) n e in
    let t = value_sized row.field row.kind v.0 a.value a.is in
    let u = values_sized rows v.1 (before + a.value) n a.rest in
    (omega (arith, t.0, u.0, length-append (spelling row.kind v.0) (spellings rows v.1)), (t.1, u.1))

pub values_size_is : (rows : List Row) (v : Values rows) (before : ℕ) → AllFit rows v → values_size rows v before ≡ Ok (before + length (spellings rows v))
values_size_is [] v before fits = ap (λ (k : ℕ). sized_ok k) (omega arith)
values_size_is (row ∷ rows) v before fits =
    rw (value_size_is row.field row.kind v.0 fits.0) (values_size_is rows v.1 (before + length (spelling row.kind v.0)) fits.1 ∙ ap (λ (k : ℕ). sized_ok k) (omega (arith, length-append (spelling row.kind v.0) (spellings rows v.1))))

-- ---- the parameters and the whole

checked_ok : (params : List Parameter) (u : Unit {0}) → parameters_checked params ≡ Ok u → parameters_fit params ≡ true
unfolding parameters_checked
checked_ok params u e = let g = guard_ended (parameters_fit params) (errors.TooLong fields.Params) tt u e in g.0

all_fit_test : (params : List Parameter) → ParametersFit params → parameters_fit params ≡ true
all_fit_test [] fits = refl
all_fit_test (p ∷ ps) fits = rw (lt-ltb (length p.value) (2 ^ 16) fits.0.value) (all_fit_test ps fits.1)

checked_is : (params : List Parameter) → ParametersFit params → parameters_checked params ≡ Ok tt
unfolding parameters_checked
checked_is params fits = rw (all_fit_test params fits) refl

whole_sized : (before : ℕ) (params : List Parameter) (n : ℕ) → whole_size before params ≡ Ok n → (n ≡ before + length (parameters_spelling params)) × (n ≤ 70000)
unfolding whole_size
whole_sized before params n e =
    let k = before + length (parameters_spelling params) in
    let g = guard_ended (leb k 70000) (errors.TooLong fields.Whole) k n e in
    (sym g.1, omega (arith, g.1, leb-true k 70000 g.0))

whole_size_is : (before : ℕ) (params : List Parameter) → before + length (parameters_spelling params) ≤ 70000 → whole_size before params ≡ Ok (before + length (parameters_spelling params))
unfolding whole_size
whole_size_is before params le = rw (le-leb (before + length (parameters_spelling params)) 70000 le) refl

-- the size of a whole, and what it says of its parts
record WholeSized (n octets : ℕ) (P : Type 0) : Type 0 where
  len : n ≡ octets
  most : n ≤ 70000
  parts : P

tail_sized : (before : ℕ) (params : List Parameter) (n : ℕ) → tail_size before params ≡ Ok n → WholeSized n (before + length (parameters_spelling params)) (parameters_fit params ≡ true)
unfolding tail_size
tail_sized before params n e =
    let b = bind_ok (parameters_checked params) (λ fit. whole_size before params) n e in
    let w = whole_sized before params n b.rest in
    record { len = w.0; most = w.1; parts = checked_ok params b.value b.is }

tail_size_is : (before : ℕ) (params : List Parameter) → ParametersFit params → before + length (parameters_spelling params) ≤ 70000 → tail_size before params ≡ Ok (before + length (parameters_spelling params))
unfolding tail_size
tail_size_is before params fits le = rw (checked_is params fits) (whole_size_is before params le)

-- ---- bodies

-- a size, and what it says of the body
pub record Sized (status : ℕ) (b : Body) (n : ℕ) : Type 0 where
  pub len : n ≡ 16 + length (body_spelling b)
  pub most : n ≤ 70000
  pub writable : Writable b
  pub fits : TagsFit b → BodyFits status b

message_short : (v : Values sm_fields) → AllFit sm_fields v → length v.1.1.1.1.1.1.1.1.1.1.1.1.1.1.1.1.0 ≤ 254
message_short v fits = fits.1.1.1.1.1.1.1.1.1.1.1.1.1.1.1.1.0

abbrev SmSized : Sm → ℕ → Type 0
SmSized sm n = WholeSized n (16 + length (sm_spelling sm)) (SmWritable sm × (ParametersFit sm.params → SmFits sm))

sm_sized : (sm : Sm) (n : ℕ) → sm_size sm ≡ Ok n → SmSized sm n
unfolding sm_size
sm_sized sm n e =
    let b = bind_ok (values_size sm_fields (sm_values sm) 16) (λ size. tail_size size sm.params) n e in
    let v = values_sized sm_fields (sm_values sm) 16 b.value b.is in
    let t = tail_sized b.value sm.params n b.rest in
    record {
      len = omega (arith, v.0, t.len, length-append (spellings sm_fields (sm_values sm)) (parameters_spelling sm.params));
      most = t.most;
      parts = ((message_short (sm_values sm) v.1, t.parts), λ fit. record { fields = v.1; params = fit });
    }

sm_size_is : (sm : Sm) → SmFits sm → 16 + length (sm_spelling sm) ≤ 70000 → sm_size sm ≡ Ok (16 + length (sm_spelling sm))
unfolding sm_size
sm_size_is sm fits le =
    let len = length-append (spellings sm_fields (sm_values sm)) (parameters_spelling sm.params) in
    rw (values_size_is sm_fields (sm_values sm) 16 fits.fields) (tail_size_is (16 + length (spellings sm_fields (sm_values sm))) sm.params fits.params (omega (arith, le, len)) ∙ ap (λ (k : ℕ). sized_ok k) (omega (arith, len)))

bind_small : (v : Values bind_fields) → AllFit bind_fields v → length (spellings bind_fields v) ≤ 100
bind_small v fits =
    omega (arith, length-append {A = ℕ}, fits.0.1, fits.1.0.1, fits.1.1.0.1, fits.1.1.1.1.1.1.0.1)

bind_sized : (v : Values bind_fields) (n : ℕ) → bind_size v ≡ Ok n → WholeSized n (16 + length (spellings bind_fields v)) (AllFit bind_fields v)
unfolding bind_size
bind_sized v n e =
    let t = values_sized bind_fields v 16 n e in
    record { len = t.0; most = omega (arith, t.0, bind_small v t.1); parts = t.1 }

bind_size_is : (v : Values bind_fields) → AllFit bind_fields v → bind_size v ≡ Ok (16 + length (spellings bind_fields v))
unfolding bind_size
bind_size_is v fits = values_size_is bind_fields v 16 fits

absent_sized : (params : List Parameter) (n : ℕ) → absent_size params ≡ Ok n → (n ≡ 16) × (params ≡ [])
absent_sized [] n e = (sym (ok_is 16 n e), refl)
absent_sized (p ∷ ps) n e = absurd cc

abbrev RespSized : ℕ → Option (List ℕ) → List Parameter → ℕ → Type 0
RespSized status id params n = WholeSized n (16 + length (bind_resp_spelling id params)) (RespWritable id params × (RespFit id params → BindRespFits status id params))

status_test : (status : ℕ) → eqb status 0 ≡ false → status ≢ 0
status_test status e = eqb-false status 0 e

bind_resp_sized : (status : ℕ) (id : Option (List ℕ)) (params : List Parameter) (n : ℕ) → bind_resp_size status id params ≡ Ok n → RespSized status id params n
unfolding bind_resp_size
bind_resp_sized status None params n e =
    let g = guard_then (eqb status 0) (errors.Malformed fields.SystemId) (parameters_checked params >>= λ fit. absent_size params) n e in
    let b = bind_ok (parameters_checked params) (λ fit. absent_size params) n g.1 in
    let a = absent_sized params n b.rest in
    record { len = omega (arith, a.0); most = omega (arith, a.0); parts = (tt, λ fit. (status_test status g.0, a.1)) }
bind_resp_sized status (Some id) params n e =
    let b = bind_ok (text_size fields.SystemId 16 id) (λ size. tail_size (16 + size) params) n e in
    let s = text_sized fields.SystemId 16 id b.value b.is in
    let t = tail_sized (16 + b.value) params n b.rest in
    record { len = omega (arith, s.len, t.len, length-append {A = ℕ}); most = t.most; parts = (t.parts, λ fit. (((s.clean, s.short), tt), fit)) }

bind_resp_size_is : (status : ℕ) (id : Option (List ℕ)) (params : List Parameter) → BindRespFits status id params → 16 + length (bind_resp_spelling id params) ≤ 70000 → bind_resp_size status id params ≡ Ok (16 + length (bind_resp_spelling id params))
unfolding bind_resp_size
bind_resp_size_is status None params fits le = rw (ne_test status fits.0, fits.1, checked_is [] tt) refl
bind_resp_size_is status (Some id) params fits le =
    let len : length ((id ++ 0 ∷ []) ++ []) ≡ length id + 1 = omega (arith, length-append {A = ℕ}) in
    let all : length (((id ++ 0 ∷ []) ++ []) ++ parameters_spelling params) ≡ length ((id ++ 0 ∷ []) ++ []) + length (parameters_spelling params) = length-append ((id ++ 0 ∷ []) ++ []) (parameters_spelling params) in
    rw (text_size_is fields.SystemId 16 id fits.0.0.0 fits.0.0.1) (tail_size_is (16 + (length id + 1)) params fits.1 (omega (arith, le, len, all)) ∙ ap (λ (k : ℕ). sized_ok k) (omega (arith, len, all)))

message_id_sized : (status : ℕ) (id : Option (List ℕ)) (n : ℕ) → message_id_size status id ≡ Ok n → WholeSized n (16 + length (sm_resp_spelling id)) (SmRespFits status id)
unfolding message_id_size
message_id_sized status None n e =
    let g = guard_ok (eqb status 0) (errors.Malformed fields.MessageId) 16 n e in
    record { len = omega (arith, g.1); most = omega (arith, g.1); parts = status_test status g.0 }
message_id_sized status (Some id) n e =
    let b = bind_ok (text_size fields.MessageId 65 id) (λ size. Ok (16 + size)) n e in
    let s = text_sized fields.MessageId 65 id b.value b.is in
    let k = ok_is (16 + b.value) n b.rest in
    record { len = omega (arith, s.len, k, length-append {A = ℕ}); most = omega (arith, s.len, s.short, k); parts = ((s.clean, s.short), tt) }

message_id_size_is : (status : ℕ) (id : Option (List ℕ)) → SmRespFits status id → message_id_size status id ≡ Ok (16 + length (sm_resp_spelling id))
unfolding message_id_size
message_id_size_is status None fits = rw (ne_test status fits) refl
message_id_size_is status (Some id) fits =
    let ((clean, short), rest) = fits in
    rw (text_size_is fields.MessageId 65 id clean short) (ap (λ (k : ℕ). sized_ok k) (omega (arith, length-append {A = ℕ})))

bare_sized : (status : ℕ) (b : Body) (n : ℕ) → body_spelling b ≡ [] → Writable b → BodyFits status b → sized_ok 16 ≡ Ok n → Sized status b n
bare_sized status b n none writable fits e =
    let k = ok_is 16 n e in
    let len = ap (λ (x : List ℕ). length x) none in
    record { len = omega (arith, k, len); most = omega (arith, k); writable = writable; fits = λ t. fits }

pub body_sized : (status : ℕ) (b : Body) (n : ℕ) → body_size status b ≡ Ok n → Sized status b n
body_sized status (body.Bind mode system_id password system_type version ton npi range) n e =
    let t = bind_sized (system_id, (password, (system_type, (version, (ton, (npi, (range, tt))))))) n e in
    record { len = t.len; most = t.most; writable = tt; fits = λ u. t.parts }
body_sized status (body.BindResp mode id params) n e =
    let t = bind_resp_sized status id params n e in
    record { len = t.len; most = t.most; writable = t.parts.0; fits = t.parts.1 }
body_sized status (body.Submit sm) n e =
    let t = sm_sized sm n e in
    record { len = t.len; most = t.most; writable = t.parts.0; fits = t.parts.1 }
body_sized status (body.Deliver sm) n e =
    let t = sm_sized sm n e in
    record { len = t.len; most = t.most; writable = t.parts.0; fits = t.parts.1 }
body_sized status (body.SubmitResp id) n e =
    let t = message_id_sized status id n e in
    record { len = t.len; most = t.most; writable = tt; fits = λ u. t.parts }
body_sized status (body.DeliverResp id) n e =
    let t = message_id_sized status id n e in
    record { len = t.len; most = t.most; writable = tt; fits = λ u. t.parts }
body_sized status body.Unbind n e = bare_sized status body.Unbind n refl tt tt e
body_sized status body.UnbindResp n e = bare_sized status body.UnbindResp n refl tt tt e
body_sized status body.EnquireLink n e = bare_sized status body.EnquireLink n refl tt tt e
body_sized status body.EnquireLinkResp n e = bare_sized status body.EnquireLinkResp n refl tt tt e
body_sized status body.GenericNack n e = bare_sized status body.GenericNack n refl tt tt e

pub body_size_is : (status : ℕ) (b : Body) → BodyFits status b → 16 + length (body_spelling b) ≤ 70000 → body_size status b ≡ Ok (16 + length (body_spelling b))
body_size_is status (body.Bind mode system_id password system_type version ton npi range) fits le = bind_size_is (system_id, (password, (system_type, (version, (ton, (npi, (range, tt))))))) fits
body_size_is status (body.BindResp mode id params) fits le = bind_resp_size_is status id params fits le
body_size_is status (body.Submit sm) fits le = sm_size_is sm fits le
body_size_is status (body.Deliver sm) fits le = sm_size_is sm fits le
body_size_is status (body.SubmitResp id) fits le = message_id_size_is status id fits
body_size_is status (body.DeliverResp id) fits le = message_id_size_is status id fits
body_size_is status body.Unbind fits le = refl
body_size_is status body.UnbindResp fits le = refl
body_size_is status body.EnquireLink fits le = refl
body_size_is status body.EnquireLinkResp fits le = refl
body_size_is status body.GenericNack fits le = refl
