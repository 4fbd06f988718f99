-- Which frames are requests, responses and acknowledgements.
use Rattle.std.proofs.Common.{◌≡◌, ℕ, List, [], Bool, true, false, true≢false, Option, None, Some, refl, sym, ap, subst, ◌∙◌, arith}
use Rattle.std.specs.Prelude.{IfSome, ◌==◌, ◌&&◌, ◌||◌, not, if◌then◌else◌}
use Rattle.sms_core.specs.Statuses.{no_error}
use Rattle.sms_pdu.specs.declared.body.Pdu.{Pdu}
use Rattle.sms_pdu.specs.declared.body.Body.TheVariants as body
use Rattle.sms_pdu.specs.declared.command.Command.TheVariants as command
use Rattle.sms_pdu.specs.Command.{id_of, is_response}
use Rattle.sms_pdu.specs.Grammar.{Spells, command_in}
use Rattle.sms_pdu.specs.Header.{number_at}
use Rattle.sms_pdu.proofs.Wholes.{spelled_heads}
use Rattle.sms_session.specs.declared.session.Response.{Response}
use Rattle.sms_bind.specs.declared.device.Keeping.{Keeping}
use Rattle.sms_bind.specs.declared.outcome.FrameOutcome.TheVariants.{Replied}
use Rattle.sms_bind.specs.declared.outcome.Written.{Written}
use Rattle.sms_bind.specs.Deeds.{IsWritten, Responded, body_for, enquiry_of, pdu_for}
use Rattle.sms_bind.specs.Frames.{is_unclaimed, IsEnquiry, IsRequest, IsResponse, IsUnclaimed}
use Rattle.sms_bind.specs.Keepings.{IsAcknowledgement, acknowledges, allows, answer_to, refused, temporary_error}

-- what spells a request is one
pub spelled_request : (p : Pdu) (frame : List ℕ) → Spells p frame → is_unclaimed (id_of (command_in p.body)) ≡ false → IsRequest frame
spelled_request p frame s is = ap is_unclaimed (spelled_heads p frame s).id ∙ is

-- nobody claims a response, or an enquire_link
either_true : (a b : Bool) → a ≡ true → (a || b) ≡ true
either_true true b e = refl
either_true false b e = absurd cc

pub response_unclaimed : (frame : List ℕ) → IsResponse frame → IsUnclaimed frame
response_unclaimed frame is = either_true (is_response (number_at 4 frame)) (number_at 4 frame == id_of command.EnquireLink) is

pub enquiry_unclaimed : (frame : List ℕ) → IsEnquiry frame → IsUnclaimed frame
enquiry_unclaimed frame is = ap is_unclaimed is

pub spelled_enquiry : (number : ℕ) (frame : List ℕ) → Spells (enquiry_of number) frame → IsEnquiry frame
spelled_enquiry number frame s = (spelled_heads (enquiry_of number) frame s).id

-- and so does what was sent of it
pub sent_spells : (sent : Option (List ℕ)) (n m : ℕ) (frame : List ℕ) → n ≡ m → Spells (enquiry_of n) frame → IfSome sent (λ octets. octets ≡ frame) → IfSome sent (Spells (enquiry_of m))
sent_spells None n m frame same s is = tt
sent_spells (Some octets) n m frame same s is = subst (λ k. Spells (enquiry_of k) octets) same (subst (Spells (enquiry_of n)) (sym is) s)

response_body : (id : ℕ) → is_response (id_of (command_in (body_for id))) ≡ true
response_body id = by_case (id == id_of command.DeliverSmResp) (id == id_of command.EnquireLinkResp) (id == id_of command.UnbindResp)
  where
    by_case : (a b c : Bool) → is_response (id_of (command_in (if a then body.DeliverResp (Some []) else (if b then body.EnquireLinkResp else (if c then body.UnbindResp else body.GenericNack))))) ≡ true
    by_case true b c = refl
    by_case false true c = refl
    by_case false false true = refl
    by_case false false false = refl

-- what spells a response of the reader is one
pub spelled_response : (r : Response) (frame : List ℕ) → Spells (pdu_for r) frame → IsResponse frame
spelled_response r frame s = ap is_response (spelled_heads (pdu_for r) frame s).id ∙ response_body r.command

-- its number
pub spelled_number : (r : Response) (frame : List ℕ) → Spells (pdu_for r) frame → number_at 12 frame ≡ r.number
spelled_number r frame s = (spelled_heads (pdu_for r) frame s).number

-- only a deliver_sm_resp has a deliver_sm_resp's body
deliver_body : (id : ℕ) → id_of (command_in (body_for id)) ≡ id_of command.DeliverSmResp → (id == id_of command.DeliverSmResp) ≡ true
deliver_body id = by_case (id == id_of command.DeliverSmResp) (id == id_of command.EnquireLinkResp) (id == id_of command.UnbindResp)
  where
    by_case : (a b c : Bool) → id_of (command_in (if a then body.DeliverResp (Some []) else (if b then body.EnquireLinkResp else (if c then body.UnbindResp else body.GenericNack)))) ≡ id_of command.DeliverSmResp → a ≡ true
    by_case true b c e = refl
    by_case false true c e = absurd (omega (arith, e))
    by_case false false true e = absurd (omega (arith, e))
    by_case false false false e = absurd (omega (arith, e))

both_true : (a b : Bool) → a ≡ true → b ≡ true → (a && b) ≡ true
both_true true true e f = refl
both_true true false e f = absurd cc
both_true false b e f = absurd cc

same_status : (n : ℕ) → n ≡ no_error → (n == no_error) ≡ true
same_status n e = rw e refl

-- what spells another response acknowledges no deliver_sm
pub spelled_other : (r : Response) (frame : List ℕ) → Spells (pdu_for r) frame → acknowledges r ≡ false → ¬ IsAcknowledgement frame
spelled_other r frame s other is =
    let heads = spelled_heads (pdu_for r) frame s in
    let same_id = deliver_body r.command (sym heads.id ∙ is.0) in
    let status = same_status r.status (sym heads.status ∙ is.1) in
    true≢false (sym (both_true (r.command == id_of command.DeliverSmResp) (r.status == no_error) same_id status) ∙ other)

-- a refusal acknowledges none
pub refused_other : (r : Response) → acknowledges (refused r) ≡ false
refused_other r = by_case (r.command == id_of command.DeliverSmResp)
  where
    by_case : (b : Bool) → (b && (temporary_error == no_error)) ≡ false
    by_case true = refl
    by_case false = refl

-- ---- which response goes out

pub responded : (keeping : Keeping) (asked response : Response) (written : Written) → response ≡ answer_to keeping asked → IsWritten response written → Responded (answer_to keeping asked) (Replied response written)
responded keeping asked response written is done = subst (λ (r : Response). Responded r (Replied response written)) is (written, refl, done)

pub answer_other : (keeping : Keeping) (r : Response) → acknowledges r ≡ false → r ≡ answer_to keeping r
answer_other keeping r other = subst (λ (b : Bool). r ≡ (if b && not (allows keeping) then refused r else r)) (sym other) refl

pub answer_allowed : (keeping : Keeping) (r : Response) → allows keeping ≡ true → r ≡ answer_to keeping r
answer_allowed keeping r allowed =
    let same : (acknowledges r && not true) ≡ false = and_false (acknowledges r) in
    subst (λ (b : Bool). r ≡ (if acknowledges r && not b then refused r else r)) (sym allowed) (subst (λ (b : Bool). r ≡ (if b then refused r else r)) (sym same) refl)
  where
    and_false : (b : Bool) → (b && false) ≡ false
    and_false true = refl
    and_false false = refl

pub answer_refused : (keeping : Keeping) (r : Response) → acknowledges r ≡ true → allows keeping ≡ false → refused r ≡ answer_to keeping r
answer_refused keeping r is unkept =
    subst (λ (b : Bool). refused r ≡ (if b && not (allows keeping) then refused r else r)) (sym is) (subst (λ (b : Bool). refused r ≡ (if not b then refused r else r)) (sym unkept) refl)
