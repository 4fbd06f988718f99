-- Each charge of a bind's workers has an answer that accepts it, in a place of its own.
use Rattle.std.proofs.Common.{◌≡◌, ℕ, zero, suc, Bool, true, false, List, [], ◌∷◌, Some, None, length, replicate, refl, sym, ap, ◌∙◌, subst, ne_eqb, true≢false}
use Rattle.std.specs.Prelude.{Option, drop, take, slice_get, if◌then◌else◌}
use Rattle.std.specs.List.{AllZip}
use mathlib.Core.Logic.{dite}
use native.Mathlib.Decide.{ℕ_discrete}
use Rattle.sms_core.specs.declared.request.Phase.TheVariants as phases
use Rattle.sms_core.specs.Statuses.{no_error}
use Rattle.sms_core.specs.Replies.{outcome_of, outcome_of_last, is_charge}
use Rattle.sms_pdu.specs.declared.reply.Reply.{Reply}
use Rattle.sms_message.specs.declared.message.Message.{Message}
use Rattle.sms_message.specs.declared.rules.Rules.{Rules}
use Rattle.sms_worker.specs.Types.{Attempt, MessageEnd, SegmentEnd}
use Rattle.sms_worker.specs.EndOf.{IsEndOf}
use Rattle.sms_message.specs.Ends.{phase_of, segment_at, segments_in}
use Rattle.sms_worker.specs.Rests.{Charge}
use Rattle.sms_message.specs.Results.{answers, read_reply}
use Rattle.sms_driver.specs.Answered.{Answered, RestOn, ends_at}
use Rattle.sms_driver.specs.Deals.{cons_at, dealt, next}
use Rattle.sms_send.specs.Laws.{AcceptsLast}

-- lists that are dealt

module _ {X : Type 0} where
  later : (xs : List X) (n k : ℕ) (x : X) → slice_get (drop n xs) k ≡ Some x → (j : ℕ) × (slice_get xs j ≡ Some x)
  later xs zero k x at = (k, at)
  later [] (suc n) k x at = absurd (cc)
  later (y ∷ xs) (suc n) k x at = let h = later xs n k x at in (suc h.0, h.1)

  within : (xs : List X) (n k : ℕ) (x : X) → slice_get (take n xs) k ≡ Some x → slice_get xs k ≡ Some x
  within xs zero k x at = absurd (cc)
  within [] (suc n) k x at = absurd (cc)
  within (y ∷ xs) (suc n) zero x at = at
  within (y ∷ xs) (suc n) (suc k) x at = within xs n k x at

-- what a bind's workers have is among what all have
of_bind : (workers bind : ℕ) (ess : List (List MessageEnd)) (w : ℕ) (es : List MessageEnd) → slice_get (ends_at workers bind ess) w ≡ Some es → (k : ℕ) × (slice_get ess k ≡ Some es)
of_bind workers zero ess w es at = (w, within ess workers w es at)
of_bind workers (suc bind) ess w es at =
    let h = of_bind workers bind (drop workers ess) w es at in
    later ess workers h.0 es h.1

-- what holds of each item holds of each that was dealt
module _ {X : Type 0} (P : X → Type 0) where
  in_nils : (n w k : ℕ) (xs : List X) (x : X) → slice_get (replicate n []) w ≡ Some xs → slice_get xs k ≡ Some x → P x
  in_nils zero w k xs x there at = absurd (cc)
  in_nils (suc n) zero k xs x there at = absurd (cc)
  in_nils (suc n) (suc w) k xs x there at = in_nils n w k xs x there at

  in_cons_at : (ls : List (List X)) (v : ℕ) (y : X) → P y → ((w k : ℕ) (xs : List X) (x : X) → slice_get ls w ≡ Some xs → slice_get xs k ≡ Some x → P x)
      → (w k : ℕ) (xs : List X) (x : X) → slice_get (cons_at ls v y) w ≡ Some xs → slice_get xs k ≡ Some x → P x
  in_cons_at [] v y holds others w k xs x there at = absurd (cc)
  in_cons_at (l ∷ ls) zero y holds others zero zero xs x there at = let same : y ≡ x = cc in subst P same holds
  in_cons_at (l ∷ ls) zero y holds others zero (suc k) xs x there at = others 0 k l x refl cc
  in_cons_at (l ∷ ls) zero y holds others (suc w) k xs x there at = others (suc w) k xs x there at
  in_cons_at (l ∷ ls) (suc v) y holds others zero k xs x there at = others 0 k xs x there at
  in_cons_at (l ∷ ls) (suc v) y holds others (suc w) k xs x there at = in_cons_at ls v y holds (λ u. others (suc u)) w k xs x there at

  in_dealt : (count v : ℕ) (ys : List X) → ((k : ℕ) (y : X) → slice_get ys k ≡ Some y → P y)
      → (w k : ℕ) (xs : List X) (x : X) → slice_get (dealt count v ys) w ≡ Some xs → slice_get xs k ≡ Some x → P x
  in_dealt count v [] all w k xs x there at = in_nils count w k xs x there at
  in_dealt count v (y ∷ ys) all w k xs x there at =
      in_cons_at (dealt count (next count v) ys) v y (all 0 y refl) (in_dealt count (next count v) ys (λ j. all (suc j))) w k xs x there at

-- a message's end

zip_at : {A B : Type 0} (R : A → B → Type 0) (xs : List A) (ys : List B) → AllZip R xs ys → (k : ℕ) (y : B) → slice_get ys k ≡ Some y → (x : A) × R x y
zip_at R [] [] a k y at = absurd (cc)
zip_at R [] (z ∷ ys) a k y at = absurd a
zip_at R (x ∷ xs) [] a k y at = absurd a
zip_at R (x ∷ xs) (z ∷ ys) a zero y at = let e : z ≡ y = cc in (x, subst (R x) e a.0)
zip_at R (x ∷ xs) (z ∷ ys) a (suc k) y at = zip_at R xs ys a.1 k y at

pub end_at : (es : List MessageEnd) (k p : ℕ) (s : SegmentEnd) → segment_at es k p ≡ Some s → (e : MessageEnd) × (slice_get es k ≡ Some e) × (slice_get (segments_in e.result) p ≡ Some s)
end_at [] k p s at = absurd (cc)
end_at (e ∷ es) zero p s at = (e, refl, at)
end_at (e ∷ es) (suc k) p s at = end_at es k p s at

-- the last attempt of a charge

is_charge_of : (status : ℕ) (nack : Bool) → is_charge status nack ≡ true → (status ≡ no_error) × (nack ≡ false)
is_charge_of status true e = absurd (true≢false (sym e))
is_charge_of status false e = dite (ℕ_discrete status no_error) (λ same. (same, refl)) (λ ne. absurd (true≢false (sym e ∙ ne_eqb status no_error ne)))

-- the reply of an attempt that comes to a charge
record IsCharge (o : Option Reply) : Type 0 where
  reply : Reply
  came : o ≡ Some reply
  accepts : is_charge reply.status reply.nack ≡ true

last_charge : (o : Option Reply) → outcome_of_last (read_reply o) ≡ phases.Charged → IsCharge o
last_charge None e = absurd (cc)
last_charge (Some r) e = record { reply = r; came = refl; accepts = charged (is_charge r.status r.nack) e }
  where
    charged : (b : Bool) → (if b then phases.Charged else phases.Refused) ≡ phases.Charged → b ≡ true
    charged true e = refl
    charged false e = absurd (cc)

record ChargeAt (xs : List Attempt) : Type 0 where
  place : ℕ
  attempt : Attempt
  there : slice_get xs place ≡ Some attempt
  last : length xs ≡ suc place
  charge : IsCharge attempt.reply

charge_at : (xs : List Attempt) → outcome_of (answers xs) ≡ phases.Charged → ChargeAt xs
charge_at [] e = absurd (cc)
charge_at (x ∷ []) e = record { place = 0; attempt = x; there = refl; last = refl; charge = last_charge x.reply e }
charge_at (x ∷ y ∷ xs) e = let h = charge_at (y ∷ xs) e in record { place = suc h.place; attempt = h.attempt; there = h.there; last = ap suc h.last; charge = h.charge }

-- the charges of a bind's workers
module _ (rules : Rules) (accounts count workers bind : ℕ) (ms : List Message) (es : List MessageEnd) (each : AllZip (IsEndOf rules accounts) ms es) where
  abbrev ess : List (List MessageEnd)
  ess = ends_at workers bind (dealt count 0 es)

  charge_of : (x : Charge ess) → ChargeAt x.segment.attempts
  charge_of x =
      let e = end_at x.ends x.message x.part x.segment x.there in
      let w = of_bind workers bind (dealt count 0 es) x.worker x.ends x.theirs in
      let m = in_dealt (λ end. (m : Message) × IsEndOf rules accounts m end) count 0 es (zip_at (IsEndOf rules accounts) ms es each) w.0 x.message x.ends e.0 w.1 e.1 in
      charge_at x.segment.attempts ((m.1.segments x.part x.segment e.2).settled.outcome ∙ ap phase_of x.charged)

  pub answered : Charge ess → Answered ess
  answered x =
      let h = charge_of x in
      record {
        worker = x.worker;
        message = x.message;
        part = x.part;
        attempt = h.place;
        ends = x.ends;
        theirs = x.theirs;
        one = h.attempt;
        is = record { segment = x.segment; there = x.there; has = h.there };
        reply = h.charge.reply;
        has = h.charge.came;
      }

  -- the answer in its place accepts its last attempt
  pub accepted : (replies : List Reply) (rests : RestOn replies ess) (x : Charge ess) → (reply : Reply) × (slice_get replies (rests.place (answered x)) ≡ Some reply) × AcceptsLast x.segment reply
  unfolding answered
  accepted replies rests x =
      let h = charge_of x in
      let r = h.charge.reply in
      let kind = is_charge_of r.status r.nack h.charge.accepts in (
        r,
        rests.there (answered x),
        record {
          place = h.place;
          last = h.attempt;
          is = h.there;
          no_later = h.last;
          accepts = record { response = kind.1; status = kind.0; numbered = rests.number (answered x) };
        },
      )

  -- charges with one place are one
  pub apart : (replies : List Reply) (rests : RestOn replies ess) (x y : Charge ess) → rests.place (answered x) ≡ rests.place (answered y) → (x.worker ≡ y.worker) × (x.message ≡ y.message) × (x.part ≡ y.part)
  unfolding answered
  apart replies rests x y same = let a = rests.apart (answered x) (answered y) same in (a.0, a.1, a.2)
