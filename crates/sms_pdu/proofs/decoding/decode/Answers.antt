use Rattle.std.proofs.Common.{◌≡◌, ℕ, List, drop, Result, Ok, Err, refl, subst, arith}
use Rattle.sms_pdu.specs.declared.error.PduError.{PduError}
use Rattle.sms_pdu.specs.declared.header.Header.{Header}
use Rattle.sms_pdu.specs.declared.command.Command.{Command}
use Rattle.sms_pdu.specs.declared.command.Command.TheVariants.{SubmitSm, DeliverSm}
use Rattle.sms_pdu.specs.declared.body.Pdu.{Pdu}
use Rattle.sms_pdu.specs.declared.body.Body.TheVariants as body
use Rattle.sms_pdu.specs.Grammar.{Spells}
use Rattle.sms_pdu.specs.Reading.{GivesBut, HasStrings, sm_at, body_at, pdu_of, header_told, reading}
use Rattle.sms_pdu.proofs.Wholes.{is_found, reading_again, message_given}
use Rattle.sms_pdu.proofs.decoding.decode.Goals as goal

-- what was returned is what was told
abbrev Tells : Result Pdu PduError → Result Pdu PduError → Type 0
Tells r told = GivesBut (λ (q : Pdu). HasStrings q.body) (λ (q : Pdu). q) r told

only_told : (octets : List ℕ) (r : Result Pdu PduError) → Tells r (reading octets) → (p : Pdu) → Spells p octets → Tells r (Ok p)
only_told octets r tells p s = subst (λ told. Tells r told) (reading_again p octets s) tells

behind_header : (octets : List ℕ) (command : Command) (h : Header) (r : Result Pdu PduError) → header_told octets ≡ Ok (command, h) → Tells r (pdu_of h.status h.number (body_at command h.status (drop 16 octets))) → Tells r (reading octets)
unfolding reading
behind_header octets command h r told tells = rw told tells

faulty_header : (octets : List ℕ) (e : PduError) → header_told octets ≡ Err e → Tells (Err e) (reading octets)
unfolding reading
faulty_header octets e told = rw told refl

pub returns-in-Ok-SubmitSm-default : goal.returns-in-Ok-SubmitSm-default
returns-in-Ok-SubmitSm-default c =
    let octets = c.args.octets.now in
    let h = c.in-Ok-SubmitSm-default.h in
    let told : header_told octets ≡ Ok (SubmitSm, h) = cc in
    let given = message_given h.status h.number (λ sm. body.Submit sm) (sm_at (drop 16 octets)) c.message_pdu.result (λ sm. tt) (rw c.body_of.ensures at (c.message_pdu.ensures.submitted refl)) in
    let tells = behind_header octets SubmitSm h c.message_pdu.result told given in
    record { found = is_found octets c.message_pdu.result (λ i. omega (arith, c.type_inv.octets i)) tells; only = only_told octets c.message_pdu.result tells; exact = tells }

pub returns-in-Ok-DeliverSm-default : goal.returns-in-Ok-DeliverSm-default
returns-in-Ok-DeliverSm-default c =
    let octets = c.args.octets.now in
    let h = c.in-Ok-DeliverSm-default.h in
    let told : header_told octets ≡ Ok (DeliverSm, h) = cc in
    let given = message_given h.status h.number (λ sm. body.Deliver sm) (sm_at (drop 16 octets)) c.message_pdu-in-Ok-DeliverSm-default.result (λ sm. tt) (rw c.body_of-in-Ok-DeliverSm-default.ensures at (c.message_pdu-in-Ok-DeliverSm-default.ensures.delivered refl)) in
    let tells = behind_header octets DeliverSm h c.message_pdu-in-Ok-DeliverSm-default.result told given in
    record { found = is_found octets c.message_pdu-in-Ok-DeliverSm-default.result (λ i. omega (arith, c.type_inv.octets i)) tells; only = only_told octets c.message_pdu-in-Ok-DeliverSm-default.result tells; exact = tells }

pub returns-in-Ok : goal.returns-in-Ok
returns-in-Ok c =
    let octets = c.args.octets.now in
    let h = c.in-Ok.h in
    let told : header_told octets ≡ Ok (c.in-Ok.command, h) = cc in
    let given = rw c.body_of-in-Ok.ensures at c.other.ensures in
    let tells = behind_header octets c.in-Ok.command h c.other.result told given in
    record { found = is_found octets c.other.result (λ i. omega (arith, c.type_inv.octets i)) tells; only = only_told octets c.other.result tells; exact = tells }

pub returns-in-Err-clause-only : goal.returns-in-Err-clause-only
returns-in-Err-clause-only c =
    let told : header_told c.args.octets.now ≡ Err c.in-Err.fault = cc in
    only_told c.args.octets.now (Err c.in-Err.fault) (faulty_header c.args.octets.now c.in-Err.fault told)

pub returns-in-Err-clause-exact : goal.returns-in-Err-clause-exact
returns-in-Err-clause-exact c =
    let told : header_told c.args.octets.now ≡ Err c.in-Err.fault = cc in
    faulty_header c.args.octets.now c.in-Err.fault told
