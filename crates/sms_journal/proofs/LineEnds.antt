-- The attempts that a line of a report can be of.
use Rattle.std.proofs.Common.{◌≡◌, ◌∙◌, ◌≤◌, sym, refl, ap, ℕ, zero, suc, ◌-◌, Bool, true, false, List, [], ◌∷◌, length, subst, Some, None, arith}
use Rattle.std.specs.Prelude.{Option, ◌&&◌, nat_le}
use Rattle.std.proofs.lemmas.Bool.Decides.{nat_tests}
use Rattle.sms_core.specs.Replies.{AreRetried, IsRetried, Reply, is_charge, outcome_of, outcome_of_last}
use Rattle.sms_core.specs.Statuses.{no_error, throttled}
use Rattle.sms_core.specs.declared.request.Phase.TheVariants as phases
use Rattle.sms_message.specs.declared.ends.Outcome.{Outcome}
use Rattle.sms_message.specs.declared.ends.Outcome.TheVariants.{Charged, Refused, Unanswered, Unsent}
use Rattle.sms_message.specs.Ends.{phase_of}
use Rattle.sms_journal.specs.RecordLines.{has_ended}
use Rattle.sms_journal.specs.RestLaws.{CanEnd, LinesAreOfAttempts, last_status}

-- ---- attempts for a line

abbrev tries : ℕ → Option Reply → List (Option Reply)
tries zero last = last ∷ []
tries (suc k) last = Some (record { status = throttled; nack = false }) ∷ tries k last

is_again : IsRetried (Some (record { status = throttled; nack = false }))
is_again = record { reply = record { status = throttled; nack = false }; came = refl; retries = refl }

retried : (k : ℕ) (last : Option Reply) → AreRetried (tries k last)
retried zero last = tt
retried (suc zero) last = (is_again, tt)
retried (suc (suc k)) last = (is_again, retried (suc k) last)

come : (k : ℕ) (last : Option Reply) → outcome_of (tries k last) ≡ outcome_of_last last
come zero last = refl
come (suc zero) last = refl
come (suc (suc k)) last = come (suc k) last

ends : (k : ℕ) (last : Option Reply) → last_status (tries k last) ≡ last_status (last ∷ [])
ends zero last = refl
ends (suc zero) last = refl
ends (suc (suc k)) last = ends (suc k) last

count : (k : ℕ) (last : Option Reply) → length (tries k last) ≡ suc k
count zero last = refl
count (suc k) last = ap suc (count k last)

tried_so : (most attempts : ℕ) (last : Option Reply) (status : Option ℕ) (outcome : Outcome) → 1 ≤ attempts → attempts ≤ most → last_status (last ∷ []) ≡ status → outcome_of_last last ≡ phase_of outcome → CanEnd most attempts status outcome
tried_so most attempts last status outcome some few is comes =
    let k = attempts - 1 in
    let long = count k last in
    record {
      tried = tries k last;
      allowed = (omega (arith, long, some, few), retried k last);
      count = omega (arith, long, some);
      last = ends k last ∙ is;
      come = come k last ∙ comes;
    }

of_line : (most attempts : ℕ) (status : Option ℕ) (outcome : Outcome) → (has_ended attempts status outcome && nat_le attempts most) ≡ true → CanEnd most attempts status outcome
of_line most attempts None Charged h = absurd (cc)
of_line most attempts (Some s) Charged h =
    let facts : (1 ≤ attempts) × (attempts ≤ most) × (s ≡ 0) = (grind (arith, nat_tests), grind (arith, nat_tests), grind (arith, nat_tests)) in
    tried_so most attempts (Some (record { status = no_error; nack = false })) (Some s) Charged facts.0 facts.1 (ap (λ (n : ℕ). Some n) (sym facts.2)) refl
of_line most attempts None Refused h = absurd (cc)
of_line most attempts (Some s) Refused h =
    let facts : (1 ≤ attempts) × (attempts ≤ most) = (grind (arith, nat_tests), grind (arith, nat_tests)) in
    tried_so most attempts (Some (record { status = s; nack = true })) (Some s) Refused facts.0 facts.1 refl refl
of_line most attempts None Unanswered h =
    let facts : (1 ≤ attempts) × (attempts ≤ most) = (grind (arith, nat_tests), grind (arith, nat_tests)) in
    tried_so most attempts None None Unanswered facts.0 facts.1 refl refl
of_line most attempts (Some s) Unanswered h = absurd (cc)
of_line most attempts None Unsent h =
    let none : attempts ≡ 0 = grind (arith, nat_tests) in
    record { tried = []; allowed = (omega arith, tt); count = sym none; last = refl; come = refl }
of_line most attempts (Some s) Unsent h = absurd (cc)

-- ---- the line of attempts

one_more : (n : ℕ) (status : Option ℕ) (outcome : Outcome) → 1 ≤ n → has_ended n status outcome ≡ true → has_ended (suc n) status outcome ≡ true
one_more n None Charged some h = absurd (cc)
one_more n (Some s) Charged some h = grind (arith, nat_tests)
one_more n None Refused some h = absurd (cc)
one_more n (Some s) Refused some h = grind (arith, nat_tests)
one_more n None Unanswered some h = grind (arith, nat_tests)
one_more n (Some s) Unanswered some h = absurd (cc)
one_more n None Unsent some h = absurd (let none : n ≡ 0 = grind (arith, nat_tests) in omega (arith, none, some))
one_more n (Some s) Unsent some h = absurd (cc)

none_sent : (outcome : Outcome) → phases.Unsent ≡ phase_of outcome → has_ended 0 None outcome ≡ true
none_sent Charged e = absurd (cc)
none_sent Refused e = absurd (cc)
none_sent Unanswered e = absurd (cc)
none_sent Unsent e = refl

no_answer : (outcome : Outcome) → phases.Unanswered ≡ phase_of outcome → has_ended 1 None outcome ≡ true
no_answer Charged e = absurd (cc)
no_answer Refused e = absurd (cc)
no_answer Unanswered e = refl
no_answer Unsent e = absurd (cc)

charged : (outcome : Outcome) (s : ℕ) → s ≡ 0 → phases.Charged ≡ phase_of outcome → has_ended 1 (Some s) outcome ≡ true
charged Charged s zero_is e = grind (arith, nat_tests)
charged Refused s zero_is e = absurd (cc)
charged Unanswered s zero_is e = absurd (cc)
charged Unsent s zero_is e = absurd (cc)

refused : (outcome : Outcome) (s : ℕ) → phases.Refused ≡ phase_of outcome → has_ended 1 (Some s) outcome ≡ true
refused Charged s e = absurd (cc)
refused Refused s e = refl
refused Unanswered s e = absurd (cc)
refused Unsent s e = absurd (cc)

status_of_charge : (s : ℕ) (nack : Bool) → is_charge s nack ≡ true → s ≡ 0
status_of_charge s true e = absurd (cc)
status_of_charge s false e = grind (arith, nat_tests)

answered : (reply : Reply) (outcome : Outcome) → outcome_of_last (Some reply) ≡ phase_of outcome → has_ended 1 (Some reply.status) outcome ≡ true
answered reply outcome e = by (is_charge reply.status reply.nack) refl
  where
    by : (t : Bool) → is_charge reply.status reply.nack ≡ t → has_ended 1 (Some reply.status) outcome ≡ true
    by true p = charged outcome reply.status (status_of_charge reply.status reply.nack p) (let it : phases.Charged ≡ phase_of outcome = rw p at e in it)
    by false p = refused outcome reply.status (let it : phases.Refused ≡ phase_of outcome = rw p at e in it)

ended : (tried : List (Option Reply)) (outcome : Outcome) → outcome_of tried ≡ phase_of outcome → has_ended (length tried) (last_status tried) outcome ≡ true
ended [] outcome e = none_sent outcome e
ended (None ∷ []) outcome e = no_answer outcome e
ended (Some reply ∷ []) outcome e = answered reply outcome e
ended (attempt ∷ next ∷ later) outcome e = one_more (length (next ∷ later)) (last_status (next ∷ later)) outcome (omega arith) (ended (next ∷ later) outcome e)

both : (a b : Bool) → a ≡ true → b ≡ true → (a && b) ≡ true
both true true h g = refl
both true false h g = absurd (cc)
both false b h g = absurd (cc)

to_line : (most attempts : ℕ) (status : Option ℕ) (outcome : Outcome) → CanEnd most attempts status outcome → (has_ended attempts status outcome && nat_le attempts most) ≡ true
to_line most attempts status outcome h =
    let it : has_ended (length h.tried) (last_status h.tried) outcome ≡ true = ended h.tried outcome h.come in
    let there : has_ended attempts status outcome ≡ true = subst (λ (n : ℕ). has_ended n status outcome ≡ true) h.count (subst (λ (s : Option ℕ). has_ended (length h.tried) s outcome ≡ true) h.last it) in
    let low : attempts ≤ most = let few = h.allowed.0 in let same = h.count in omega (arith, few, same) in
    let few : nat_le attempts most ≡ true = grind (arith, nat_tests) in
    both (has_ended attempts status outcome) (nat_le attempts most) there few

pub lines_are_of_attempts : LinesAreOfAttempts
lines_are_of_attempts most attempts status outcome = (of_line most attempts status outcome, to_line most attempts status outcome)
