-- A body that is read is the body that was spelled, and what was spelled is read again.
use Rattle.std.proofs.Common.{◌≡◌, ◌≢◌, ℕ, zero, suc, ◌<◌, Bool, true, false, ltb, eqb, List, [], ◌∷◌, ◌++◌, length, drop, Option, Some, None, Result, Ok, refl, sym, ap, subst, ◌∙◌, arith, inl, inr, ◌⊎◌}
use Rattle.std.specs.Prelude.{◌&&◌}
use Rattle.std.proofs.lemmas.Bool.{ltb-true, lt-ltb, eqb-true}
use Rattle.std.proofs.lemmas.List.{append-nil, nil_from_length, drop_at}
use Rattle.sms_pdu.specs.declared.field.Field.TheVariants as fields
use Rattle.sms_pdu.specs.declared.error.PduError.{PduError}
use Rattle.sms_pdu.specs.declared.error.PduError.TheVariants as errors
use Rattle.sms_pdu.specs.declared.command.Mode.{Mode}
use Rattle.sms_pdu.specs.declared.command.Mode.TheVariants.{Transmitter, Transceiver}
use Rattle.sms_pdu.specs.declared.command.Command.{Command}
use Rattle.sms_pdu.specs.declared.command.Command.TheVariants as command
use Rattle.sms_pdu.specs.declared.body.Sm.{Sm}
use Rattle.sms_pdu.specs.declared.body.Body.{Body}
use Rattle.sms_pdu.specs.declared.body.Body.TheVariants as body
use Rattle.sms_pdu.specs.declared.parameter.Parameter.{Parameter}
use Rattle.sms_pdu.specs.Layout.{Values, spellings, AllFit, bind_fields, bind_resp_fields, sm_fields, sm_resp_fields, parameters_spelling}
use Rattle.sms_pdu.specs.Grammar.{sm_values, sm_spelling, SmFits, bind_command, bind_resp_command, command_in, bind_resp_spelling, sm_resp_spelling, body_spelling, BindRespFits, SmRespFits, BodyFits}
use Rattle.sms_pdu.specs.Reading.{◌>>=◌, values_at, parameters_at, ended, bare_at, bind_of, sm_of, bind_at, sm_at, is_absent, bind_resp_at, message_id_at, body_at}
use Rattle.sms_pdu.proofs.Parameters.{bind_ok, ok_is}
use Rattle.sms_pdu.proofs.Values.{guard_ended, values_take, values_again, filled_test}
use Rattle.sms_pdu.proofs.ParameterTexts.{IsOctets, IsOctets-drop, parameters_take, parameters_again}

-- what was read, and of which command and status
pub record Read (c : Command) (status : ℕ) (octets : List ℕ) (b : Body) : Type 0 where
  pub spelled : octets ≡ body_spelling b
  pub fits : BodyFits status b
  pub command : command_in b ≡ c

ended_ok : (octets : List ℕ) (u : Unit {0}) → ended octets ≡ Ok u → octets ≡ []
ended_ok octets u e =
    let g = guard_ended (eqb (length octets) 0) (errors.Malformed fields.Rest) tt u e in
    nil_from_length octets (eqb-true _ _ g.0)

bare_take : (c : Command) (status : ℕ) (octets : List ℕ) (plain b : Body) → body_spelling plain ≡ [] → BodyFits status plain → command_in plain ≡ c → bare_at plain octets ≡ Ok b → Read c status octets b
bare_take c status octets plain b none fits is e =
    let a = bind_ok (ended octets) (λ done. Ok plain) b e in
    subst (λ (y : Body). Read c status octets y) (ok_is plain b a.rest) (record { spelled = ended_ok octets a.value a.is ∙ sym none; fits = fits; command = is })

bind_take : (mode : Mode) (status : ℕ) (octets : List ℕ) (b : Body) → bind_at mode octets ≡ Ok b → Read (bind_command mode) status octets b
unfolding bind_at
bind_take mode status octets b e =
    let v = bind_ok (values_at bind_fields octets) (λ values. ended values.1 >>= λ done. Ok (bind_of mode values.0)) b e in
    let d = bind_ok (ended v.value.1) (λ done. Ok (bind_of mode v.value.0)) b v.rest in
    let t = values_take bind_fields octets v.value v.is in
    let spelled : octets ≡ spellings bind_fields v.value.0 = t.0 ∙ ap (λ (r : List ℕ). spellings bind_fields v.value.0 ++ r) (ended_ok v.value.1 d.value d.is) ∙ append-nil (spellings bind_fields v.value.0) in
    subst (λ (y : Body). Read (bind_command mode) status octets y) (ok_is (bind_of mode v.value.0) b d.rest) (record { spelled = spelled; fits = t.1; command = refl })

-- what follows a front of octets is octets
after_octets : (octets front rest : List ℕ) → octets ≡ front ++ rest → IsOctets octets → IsOctets rest
after_octets octets front rest e h = subst IsOctets (ap (drop (length front)) e ∙ drop_at front rest (length front) refl) (IsOctets-drop (length front) octets h)

sm_take : (octets : List ℕ) (sm : Sm) → IsOctets octets → sm_at octets ≡ Ok sm → (octets ≡ sm_spelling sm) × SmFits sm
unfolding sm_at
sm_take octets sm fits e =
    let v = bind_ok (values_at sm_fields octets) (λ values. parameters_at values.1 >>= λ params. Ok (sm_of values.0 params)) sm e in
    let p = bind_ok (parameters_at v.value.1) (λ params. Ok (sm_of v.value.0 params)) sm v.rest in
    let t = values_take sm_fields octets v.value v.is in
    let u = parameters_take (length v.value.1) v.value.1 p.value (after_octets octets (spellings sm_fields v.value.0) v.value.1 t.0 fits) p.is in
    let spelled : octets ≡ spellings sm_fields v.value.0 ++ parameters_spelling p.value = t.0 ∙ ap (λ (r : List ℕ). spellings sm_fields v.value.0 ++ r) u.0 in
    subst (λ (y : Sm). (octets ≡ sm_spelling y) × SmFits y) (ok_is (sm_of v.value.0 p.value) sm p.rest) (spelled, record { fields = t.1; params = u.1 })

-- a test that was either so or not
pub absent_cases : (b : Bool) → (b ≡ true) ⊎ (b ≡ false)
absent_cases true = inl refl
absent_cases false = inr refl

pub both_true : (a b : Bool) → (a && b) ≡ true → (a ≡ true) × (b ≡ true)
both_true true b e = (refl, e)
both_true false b e = absurd cc

absent_means : (status : ℕ) (octets : List ℕ) → is_absent status octets ≡ true → (octets ≡ []) × (status ≢ 0)
absent_means status octets e =
    let both = both_true (eqb (length octets) 0) (ltb 0 status) e in
    let some : 0 < status = ltb-true _ _ both.1 in
    (nil_from_length octets (eqb-true _ _ both.0), λ z. absurd (omega (arith, z, some)))

bind_resp_take : (mode : Mode) (status : ℕ) (octets : List ℕ) (b : Body) → IsOctets octets → bind_resp_at mode status octets ≡ Ok b → Read (bind_resp_command mode) status octets b
unfolding bind_resp_at
bind_resp_take mode status octets b fits e =
    elim (absent_cases (is_absent status octets)) [
      | inl is ↦
          let m = absent_means status octets is in
          let same : Result Body PduError = Ok (body.BindResp mode None []) in
          let given : same ≡ Ok b = rw is at e in
          subst (λ (y : Body). Read (bind_resp_command mode) status octets y) (ok_is (body.BindResp mode None []) b given) (record { spelled = m.0; fits = (m.1, refl); command = refl })
      | inr isnt ↦
          let there : (values_at bind_resp_fields octets >>= λ values. parameters_at values.1 >>= λ params. Ok (body.BindResp mode (Some values.0.0) params)) ≡ Ok b = rw isnt at e in
          let v = bind_ok (values_at bind_resp_fields octets) (λ values. parameters_at values.1 >>= λ params. Ok (body.BindResp mode (Some values.0.0) params)) b there in
          let p = bind_ok (parameters_at v.value.1) (λ params. Ok (body.BindResp mode (Some v.value.0.0) params)) b v.rest in
          let t = values_take bind_resp_fields octets v.value v.is in
          let u = parameters_take (length v.value.1) v.value.1 p.value (after_octets octets (spellings bind_resp_fields v.value.0) v.value.1 t.0 fits) p.is in
          let spelled : octets ≡ spellings bind_resp_fields v.value.0 ++ parameters_spelling p.value = t.0 ∙ ap (λ (r : List ℕ). spellings bind_resp_fields v.value.0 ++ r) u.0 in
          subst (λ (y : Body). Read (bind_resp_command mode) status octets y) (ok_is (body.BindResp mode (Some v.value.0.0) p.value) b p.rest) (record { spelled = spelled; fits = (t.1, u.1); command = refl })
    ]

message_id_take : (status : ℕ) (octets : List ℕ) (id : Option (List ℕ)) → message_id_at status octets ≡ Ok id → (octets ≡ sm_resp_spelling id) × SmRespFits status id
unfolding message_id_at
message_id_take status octets id e =
    elim (absent_cases (is_absent status octets)) [
      | inl is ↦
          let m = absent_means status octets is in
          let none : Option (List ℕ) = None in
          let same : Result (Option (List ℕ)) PduError = Ok none in
          let given : same ≡ Ok id = rw is at e in
          subst (λ (y : Option (List ℕ)). (octets ≡ sm_resp_spelling y) × SmRespFits status y) (ok_is none id given) (m.0, m.1)
      | inr isnt ↦
          let there : (values_at sm_resp_fields octets >>= λ values. ended values.1 >>= λ done. Ok (Some values.0.0)) ≡ Ok id = rw isnt at e in
          let v = bind_ok (values_at sm_resp_fields octets) (λ values. ended values.1 >>= λ done. Ok (Some values.0.0)) id there in
          let d = bind_ok (ended v.value.1) (λ done. Ok (Some v.value.0.0)) id v.rest in
          let t = values_take sm_resp_fields octets v.value v.is in
          let spelled : octets ≡ spellings sm_resp_fields v.value.0 = t.0 ∙ ap (λ (r : List ℕ). spellings sm_resp_fields v.value.0 ++ r) (ended_ok v.value.1 d.value d.is) ∙ append-nil (spellings sm_resp_fields v.value.0) in
          subst (λ (y : Option (List ℕ)). (octets ≡ sm_resp_spelling y) × SmRespFits status y) (ok_is (Some v.value.0.0) id d.rest) (spelled, t.1)
    ]

sm_body_take : (c : Command) (status : ℕ) (octets : List ℕ) (f : Sm → Body) (b : Body) → IsOctets octets → ((sm : Sm) → (octets ≡ sm_spelling sm) × SmFits sm → Read c status octets (f sm)) → (sm_at octets >>= λ sm. Ok (f sm)) ≡ Ok b → Read c status octets b
sm_body_take c status octets f b fits made e =
    let s = bind_ok (sm_at octets) (λ sm. Ok (f sm)) b e in
    subst (λ (y : Body). Read c status octets y) (ok_is (f s.value) b s.rest) (made s.value (sm_take octets s.value fits s.is))

id_body_take : (c : Command) (status : ℕ) (octets : List ℕ) (f : Option (List ℕ) → Body) (b : Body) → ((id : Option (List ℕ)) → (octets ≡ sm_resp_spelling id) × SmRespFits status id → Read c status octets (f id)) → (message_id_at status octets >>= λ id. Ok (f id)) ≡ Ok b → Read c status octets b
id_body_take c status octets f b made e =
    let s = bind_ok (message_id_at status octets) (λ id. Ok (f id)) b e in
    subst (λ (y : Body). Read c status octets y) (ok_is (f s.value) b s.rest) (made s.value (message_id_take status octets s.value s.is))

pub body_take : (c : Command) (status : ℕ) (octets : List ℕ) (b : Body) → IsOctets octets → body_at c status octets ≡ Ok b → Read c status octets b
body_take command.BindTransmitter status octets b fits e = bind_take Transmitter status octets b e
body_take command.BindTransceiver status octets b fits e = bind_take Transceiver status octets b e
body_take command.BindTransmitterResp status octets b fits e = bind_resp_take Transmitter status octets b fits e
body_take command.BindTransceiverResp status octets b fits e = bind_resp_take Transceiver status octets b fits e
body_take command.SubmitSm status octets b fits e = sm_body_take command.SubmitSm status octets (λ sm. body.Submit sm) b fits (λ sm h. record { spelled = h.0; fits = h.1; command = refl }) e
body_take command.DeliverSm status octets b fits e = sm_body_take command.DeliverSm status octets (λ sm. body.Deliver sm) b fits (λ sm h. record { spelled = h.0; fits = h.1; command = refl }) e
body_take command.SubmitSmResp status octets b fits e = id_body_take command.SubmitSmResp status octets (λ id. body.SubmitResp id) b (λ id h. record { spelled = h.0; fits = h.1; command = refl }) e
body_take command.DeliverSmResp status octets b fits e = id_body_take command.DeliverSmResp status octets (λ id. body.DeliverResp id) b (λ id h. record { spelled = h.0; fits = h.1; command = refl }) e
body_take command.Unbind status octets b fits e = bare_take command.Unbind status octets body.Unbind b refl tt refl e
body_take command.UnbindResp status octets b fits e = bare_take command.UnbindResp status octets body.UnbindResp b refl tt refl e
body_take command.EnquireLink status octets b fits e = bare_take command.EnquireLink status octets body.EnquireLink b refl tt refl e
body_take command.EnquireLinkResp status octets b fits e = bare_take command.EnquireLinkResp status octets body.EnquireLinkResp b refl tt refl e
body_take command.GenericNack status octets b fits e = bare_take command.GenericNack status octets body.GenericNack b refl tt refl e

-- ---- what was spelled is read again

whole_again : (x : List ℕ) → x ≡ x ++ []
whole_again x = sym (append-nil x)

bind_again : (mode : Mode) (v : Values bind_fields) → AllFit bind_fields v → bind_at mode (spellings bind_fields v) ≡ Ok (bind_of mode v)
unfolding bind_at
bind_again mode v fits =
    let read : values_at bind_fields (spellings bind_fields v) ≡ Ok (v, []) = ap (values_at bind_fields) (whole_again (spellings bind_fields v)) ∙ values_again bind_fields v [] fits in
    ap (λ (r : Result (Values bind_fields × List ℕ) PduError). r >>= λ values. ended values.1 >>= λ done. Ok (bind_of mode values.0)) read

sm_again : (sm : Sm) → SmFits sm → sm_at (sm_spelling sm) ≡ Ok sm
unfolding sm_at
sm_again sm fits =
    let read = values_again sm_fields (sm_values sm) (parameters_spelling sm.params) fits.fields in
    let params : parameters_at (parameters_spelling sm.params) ≡ Ok sm.params = parameters_again (length (parameters_spelling sm.params)) sm.params (omega arith) fits.params in
    ap (λ (r : Result (Values sm_fields × List ℕ) PduError). r >>= λ values. parameters_at values.1 >>= λ params. Ok (sm_of values.0 params)) read ∙ ap (λ (r : Result (List Parameter) PduError). r >>= λ params. Ok (sm_of (sm_values sm) params)) params

absent_none : (status : ℕ) → status ≢ 0 → is_absent status [] ≡ true
absent_none zero ne = absurd (ne refl)
absent_none (suc n) ne = lt-ltb 0 (suc n) (omega arith)

absent_some : (status x : ℕ) (xs : List ℕ) → is_absent status (x ∷ xs) ≡ false
absent_some status x xs = rw (filled_test (length xs)) refl

present : (status : ℕ) (text rest : List ℕ) → is_absent status ((text ++ 0 ∷ []) ++ rest) ≡ false
present status [] rest = absent_some status 0 rest
present status (x ∷ xs) rest = absent_some status x ((xs ++ 0 ∷ []) ++ rest)

bind_resp_again : (mode : Mode) (status : ℕ) (id : Option (List ℕ)) (params : List Parameter) → BindRespFits status id params → bind_resp_at mode status (bind_resp_spelling id params) ≡ Ok (body.BindResp mode id params)
unfolding bind_resp_at
bind_resp_again mode status None params fits = rw (absent_none status fits.0, fits.1) refl
bind_resp_again mode status (Some id) params fits =
    let read = values_again bind_resp_fields (id, tt) (parameters_spelling params) fits.0 in
    let again : parameters_at (parameters_spelling params) ≡ Ok params = parameters_again (length (parameters_spelling params)) params (omega arith) fits.1 in
    let there : is_absent status (spellings bind_resp_fields (id, tt) ++ parameters_spelling params) ≡ false = ap (λ (x : List ℕ). is_absent status (x ++ parameters_spelling params)) (append-nil (id ++ 0 ∷ [])) ∙ present status id (parameters_spelling params) in
    rw there (ap (λ (r : Result (Values bind_resp_fields × List ℕ) PduError). r >>= λ values. parameters_at values.1 >>= λ params. Ok (body.BindResp mode (Some values.0.0) params)) read ∙ ap (λ (r : Result (List Parameter) PduError). r >>= λ params. Ok (body.BindResp mode (Some id) params)) again)

message_id_again : (status : ℕ) (id : Option (List ℕ)) → SmRespFits status id → message_id_at status (sm_resp_spelling id) ≡ Ok id
unfolding message_id_at
message_id_again status None fits = rw (absent_none status fits) refl
message_id_again status (Some id) fits =
    let read : values_at sm_resp_fields (spellings sm_resp_fields (id, tt)) ≡ Ok ((id, tt), []) = ap (values_at sm_resp_fields) (whole_again (spellings sm_resp_fields (id, tt))) ∙ values_again sm_resp_fields (id, tt) [] fits in
    let there : is_absent status (spellings sm_resp_fields (id, tt)) ≡ false = present status id [] in
    rw there (ap (λ (r : Result (Values sm_resp_fields × List ℕ) PduError). r >>= λ values. ended values.1 >>= λ done. Ok (Some values.0.0)) read)

pub body_again : (status : ℕ) (b : Body) → BodyFits status b → body_at (command_in b) status (body_spelling b) ≡ Ok b
body_again status (body.Bind Transmitter system_id password system_type interface_version addr_ton addr_npi address_range) fits = bind_again Transmitter _ fits
body_again status (body.Bind Transceiver system_id password system_type interface_version addr_ton addr_npi address_range) fits = bind_again Transceiver _ fits
body_again status (body.BindResp Transmitter system_id params) fits = bind_resp_again Transmitter status system_id params fits
body_again status (body.BindResp Transceiver system_id params) fits = bind_resp_again Transceiver status system_id params fits
body_again status (body.Submit sm) fits = ap (λ (r : Result Sm PduError). r >>= λ sm. Ok (body.Submit sm)) (sm_again sm fits)
body_again status (body.Deliver sm) fits = ap (λ (r : Result Sm PduError). r >>= λ sm. Ok (body.Deliver sm)) (sm_again sm fits)
body_again status (body.SubmitResp id) fits = ap (λ (r : Result (Option (List ℕ)) PduError). r >>= λ id. Ok (body.SubmitResp id)) (message_id_again status id fits)
body_again status (body.DeliverResp id) fits = ap (λ (r : Result (Option (List ℕ)) PduError). r >>= λ id. Ok (body.DeliverResp id)) (message_id_again status id fits)
body_again status body.Unbind fits = refl
body_again status body.UnbindResp fits = refl
body_again status body.EnquireLink fits = refl
body_again status body.EnquireLinkResp fits = refl
body_again status body.GenericNack fits = refl
