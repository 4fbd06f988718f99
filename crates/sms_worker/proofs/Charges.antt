-- A charge's last attempt has its answer.
use Rattle.std.proofs.Common.{◌≡◌, ℕ, suc, Bool, true, false, List, [], ◌∷◌, Some, None, length, refl, sym, ap, ◌∙◌, ne_eqb, true≢false}
use Rattle.std.specs.Prelude.{Option, slice_get, if◌then◌else◌}
use mathlib.Core.Logic.{dite}
use native.Mathlib.Decide.{ℕ_discrete}
use Rattle.sms_core.specs.declared.request.Phase.TheVariants as phases
use Rattle.sms_core.specs.Statuses.{no_error}
use Rattle.sms_core.specs.Replies.{outcome_of, outcome_of_last, is_charge}
use Rattle.sms_pdu.specs.declared.reply.Reply.{Reply}
use Rattle.sms_worker.specs.Types.{Attempt}
use Rattle.sms_message.specs.Ends.{phase_of}
use Rattle.sms_worker.specs.Laws.{ChargesAreAnswered}
use Rattle.sms_worker.specs.Told.{IsAnswered}
use Rattle.sms_message.specs.Results.{answers, read_reply}
use Rattle.sms_worker.proofs.Tries.{all_at}

is_charge_of : (status : ℕ) (nack : Bool) → is_charge status nack ≡ true → (status ≡ no_error) × (nack ≡ false)
is_charge_of status true e = absurd (true≢false (sym e))
is_charge_of status false e = dite (ℕ_discrete status no_error) (λ same. (same, refl)) (λ ne. absurd (true≢false (sym e ∙ ne_eqb status no_error ne)))

-- the reply of an attempt that is the last and comes to a charge
record IsCharge (o : Option Reply) : Type 0 where
  reply : Reply
  came : o ≡ Some reply
  accepts : is_charge reply.status reply.nack ≡ true

last_charge : (o : Option Reply) → outcome_of_last (read_reply o) ≡ phases.Charged → IsCharge o
last_charge None e = absurd (cc)
last_charge (Some r) e = record { reply = r; came = refl; accepts = charged (is_charge r.status r.nack) e }
  where
    charged : (b : Bool) → (if b then phases.Charged else phases.Refused) ≡ phases.Charged → b ≡ true
    charged true e = refl
    charged false e = absurd (cc)

-- the last attempt comes to a charge
record ChargeAt (xs : List Attempt) : Type 0 where
  place : ℕ
  attempt : Attempt
  there : slice_get xs place ≡ Some attempt
  last : length xs ≡ suc place
  charge : IsCharge attempt.reply

charge_at : (xs : List Attempt) → outcome_of (answers xs) ≡ phases.Charged → ChargeAt xs
charge_at [] e = absurd (cc)
charge_at (x ∷ []) e = record { place = 0; attempt = x; there = refl; last = refl; charge = last_charge x.reply e }
charge_at (x ∷ y ∷ xs) e = let h = charge_at (y ∷ xs) e in record { place = suc h.place; attempt = h.attempt; there = h.there; last = ap suc h.last; charge = h.charge }

pub charges_are_answered : ChargesAreAnswered
charges_are_answered rules before received m p s told settled charged =
    let h = charge_at s.attempts (settled.outcome ∙ ap phase_of charged) in
    let r = h.charge.reply in
    let kind = is_charge_of r.status r.nack h.charge.accepts in
    let came = all_at (IsAnswered before received) s.attempts h.place h.attempt told.answered h.there r h.charge.came in
    record { place = h.place; attempt = h.attempt; reply = r; is = h.there; last = h.last; answered = h.charge.came; number = came.0; status = kind.0; response = kind.1; came = came.1 }
