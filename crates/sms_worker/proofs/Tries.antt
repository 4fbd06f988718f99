-- Lists of attempts, by their last.
use Rattle.std.proofs.Common.{◌≡◌, ◌≢◌, ℕ, zero, suc, ◌+◌, ◌-◌, ◌<◌, Bool, true, false, List, [], ◌∷◌, ◌++◌, length, Some, None, inl, inr, refl, sym, ap, ◌∙◌, subst, arith, ne_eqb, true≢false}
use mathlib.Core.Logic.{dite}
use native.Mathlib.Decide.{ℕ_discrete}
use Rattle.std.proofs.lemmas.Bool.{ltb-true}
use Rattle.std.specs.Prelude.{◌⊎◌, Option, slice_get, nat_lt, ◌&&◌, if◌then◌else◌}
use Rattle.std.specs.List.{AllByRecursion}
use Rattle.sms_core.specs.declared.request.Phase.TheVariants as phases
use Rattle.sms_core.specs.Replies.{IsRetried, AreRetried, AreAllowed, outcome_of, outcome_of_last, is_charge, is_retry}
use Rattle.sms_core.specs.Replies as core
use Rattle.sms_pdu.specs.declared.reply.Reply.{Reply}
use Rattle.sms_session.specs.declared.policy.Decision.{Decision}
use Rattle.sms_session.specs.declared.policy.Decision.TheVariants.{Charge, RetryAfter, Refuse}
use Rattle.sms_session.specs.Decisions.{decided, delay}
use Rattle.sms_message.specs.declared.ends.Outcome.{Outcome}
use Rattle.sms_message.specs.declared.ends.Outcome.TheVariants.{Charged, Refused, Unanswered, Unsent}
use Rattle.sms_worker.specs.Types.{Attempt, SegmentEnd}
use Rattle.sms_message.specs.Ends.{phase_of}
use Rattle.sms_message.specs.Results.{read_reply, answers, IsSettled, IsWaiting}
use Rattle.sms_worker.specs.Steps.{outcome_after, with_outcome, given_outcome}

last_at : (xs : List Attempt) (n : ℕ) (a : Attempt) → slice_get xs n ≡ Some a → length xs ≡ suc n → (front : List Attempt) × (xs ≡ front ++ a ∷ [])
last_at [] n a at len = absurd (cc)
last_at (x ∷ []) zero a at len = ([], (let same : x ≡ a = cc in ap (λ y. y ∷ []) same))
last_at (x ∷ y ∷ xs) zero a at len = absurd (omega arith)
last_at (x ∷ xs) (suc n) a at len = let h = last_at xs n a at (omega arith) in (x ∷ h.0, ap (λ l. x ∷ l) h.1)

pub some_last : (xs : List Attempt) (a : Attempt) → slice_get xs (length xs - 1) ≡ Some a → (front : List Attempt) × (xs ≡ front ++ a ∷ [])
some_last [] a at = absurd (cc)
some_last (x ∷ xs) a at = last_at (x ∷ xs) (length xs) a (ap (slice_get (x ∷ xs)) (let n : length xs ≡ length (x ∷ xs) - 1 = omega arith in n) ∙ at) refl

pub answers_snoc : (xs : List Attempt) (a : Attempt) → answers (xs ++ a ∷ []) ≡ answers xs ++ read_reply a.reply ∷ []
answers_snoc [] a = refl
answers_snoc (x ∷ xs) a = ap (λ l. read_reply x.reply ∷ l) (answers_snoc xs a)

pub length-answers : (xs : List Attempt) → length (answers xs) ≡ length xs
length-answers [] = refl
length-answers (x ∷ xs) = ap suc (length-answers xs)

pub outcome_snoc : (ys : List (Option core.Reply)) (y : Option core.Reply) → outcome_of (ys ++ y ∷ []) ≡ outcome_of_last y
outcome_snoc [] y = refl
outcome_snoc (x ∷ []) y = refl
outcome_snoc (x ∷ z ∷ ys) y = outcome_snoc (z ∷ ys) y

pub retried_front : (ys : List (Option core.Reply)) (y : Option core.Reply) → AreRetried (ys ++ y ∷ []) → AllByRecursion IsRetried ys
retried_front [] y h = tt
retried_front (x ∷ []) y h = (h.0, tt)
retried_front (x ∷ z ∷ ys) y h = (h.0, retried_front (z ∷ ys) y h.1)

pub retried_back : (ys : List (Option core.Reply)) (y : Option core.Reply) → AllByRecursion IsRetried ys → AreRetried (ys ++ y ∷ [])
retried_back [] y h = tt
retried_back (x ∷ []) y h = (h.0, tt)
retried_back (x ∷ z ∷ ys) y h = (h.0, retried_back (z ∷ ys) y h.1)

pub all_snoc : {X : Type 0} (P : X → Type 0) (xs : List X) (x : X) → AllByRecursion P xs → P x → AllByRecursion P (xs ++ x ∷ [])
all_snoc P [] x a h = (h, tt)
all_snoc P (y ∷ xs) x a h = (a.0, all_snoc P xs x a.1 h)

pub all_front : {X : Type 0} (P : X → Type 0) (xs : List X) (x : X) → AllByRecursion P (xs ++ x ∷ []) → AllByRecursion P xs × P x
all_front P [] x a = (tt, a.0)
all_front P (y ∷ xs) x a = let h = all_front P xs x a.1 in ((a.0, h.0), h.1)

pub length-snoc : {X : Type 0} (xs : List X) (x : X) → length (xs ++ x ∷ []) ≡ suc (length xs)
length-snoc [] x = refl
length-snoc (y ∷ xs) x = ap suc (length-snoc xs x)

-- a charge or a refusal is no lack of an answer
pub answered_phase : (b : Bool) → (if b then phases.Charged else phases.Refused) ≡ phases.Unanswered → ⊥
answered_phase true e = cc
answered_phase false e = cc

unanswered : (o : Outcome) → phases.Unanswered ≡ phase_of o → o ≡ Unanswered
unanswered Charged e = absurd (cc)
unanswered Refused e = absurd (cc)
unanswered Unanswered e = refl
unanswered Unsent e = absurd (cc)

not_retried : (o : Option Reply) → o ≡ None → IsRetried (read_reply o) → ⊥
not_retried None e h = let n = h.came in cc
not_retried (Some r) e h = cc

-- attempts are left, all but the last were to be tried again, and of the last this holds
pub record IsLast (most : ℕ) (front : List Attempt) (P : Type 0) : Type 0 where
  pub few : length front < most
  pub retried : AllByRecursion IsRetried (answers front)
  pub last : P

settled_last : (most : ℕ) (s : SegmentEnd) (front : List Attempt) (a : Attempt) → s.attempts ≡ front ++ a ∷ [] → IsSettled most s
    → IsLast most front (outcome_of_last (read_reply a.reply) ≡ phase_of s.outcome)
settled_last most s front a e h =
    let is : answers s.attempts ≡ answers front ++ read_reply a.reply ∷ [] = ap answers e ∙ answers_snoc front a in
    let allowed : AreAllowed most (answers front ++ read_reply a.reply ∷ []) = subst (AreAllowed most) is h.allowed in
    let long = length-snoc (answers front) (read_reply a.reply) in
    let n = length-answers front in
    let few = allowed.0 in
    record {
      few = omega arith;
      retried = retried_front (answers front) (read_reply a.reply) allowed.1;
      last = sym (outcome_snoc (answers front) (read_reply a.reply)) ∙ sym (ap outcome_of is) ∙ h.outcome;
    }

pub waits_by_last : (most : ℕ) (s : SegmentEnd) (a : Attempt) (r : Reply) → slice_get s.attempts (length s.attempts - 1) ≡ Some a → s.outcome ≡ Unanswered → IsSettled most s ⊎ IsWaiting most s → a.reply ≡ Some r → IsWaiting most s
waits_by_last most s a r at is state some_r = elim state [
  | inl h ↦ (let f = some_last s.attempts a at in
      let l = settled_last most s f.0 a f.1 h in
      let e : outcome_of_last (read_reply (Some r)) ≡ phases.Unanswered = ap (λ o. outcome_of_last (read_reply o)) (sym some_r) ∙ l.last ∙ ap phase_of is in
      absurd (answered_phase (is_charge r.status r.nack) e))
  | inr h ↦ h
]

pub settled_by_last : (most : ℕ) (s : SegmentEnd) (a : Attempt) → slice_get s.attempts (length s.attempts - 1) ≡ Some a → IsSettled most s ⊎ IsWaiting most s → a.reply ≡ None → IsSettled most s
settled_by_last most s a at state silent = elim state [
  | inl h ↦ h
  | inr h ↦ (let f = some_last s.attempts a at in
      let all : AllByRecursion IsRetried (answers f.0 ++ read_reply a.reply ∷ []) = subst (AllByRecursion IsRetried) (ap answers f.1 ∙ answers_snoc f.0 a) h.retried in
      absurd (not_retried a.reply silent (all_front IsRetried (answers f.0) (read_reply a.reply) all).1))
]

-- a segment whose last attempt has no answer is settled as one that isn't answered
pub silent_last : (most : ℕ) (s : SegmentEnd) (front : List Attempt) (a : Attempt) → s.attempts ≡ front ++ a ∷ [] → a.reply ≡ None → IsSettled most s ⊎ IsWaiting most s
    → IsLast most front (s.outcome ≡ Unanswered)
silent_last most s front a e silent state = elim state [
  | inl h ↦ (let l = settled_last most s front a e h in
      record { few = l.few; retried = l.retried; last = unanswered s.outcome (ap (λ o. outcome_of_last (read_reply o)) (sym silent) ∙ l.last) })
  | inr h ↦ (let all : AllByRecursion IsRetried (answers front ++ read_reply a.reply ∷ []) = subst (AllByRecursion IsRetried) (ap answers e ∙ answers_snoc front a) h.retried in
      absurd (not_retried a.reply silent (all_front IsRetried (answers front) (read_reply a.reply) all).1))
]

all_true : (a b : Bool) → (a && b) ≡ true → (a ≡ true) × (b ≡ true)
all_true true b e = (refl, e)
all_true false b e = absurd (cc)

-- the state after an answer, by what it decided
abbrev Follows : ℕ → SegmentEnd → Decision → Type 0
Follows most s d = IsSettled most (with_outcome (outcome_after d) s) ⊎ IsWaiting most (with_outcome (outcome_after d) s)

-- a charge or a refusal
follows_last : (most : ℕ) (front : List Attempt) (a : Attempt) (r : Reply) (b : Bool) (o : Outcome) (s : SegmentEnd) → length front < most → AllByRecursion IsRetried (answers front) → a.reply ≡ Some r → s.attempts ≡ front ++ a ∷ []
    → is_charge r.status r.nack ≡ b → (if b then phases.Charged else phases.Refused) ≡ phase_of o → IsSettled most (with_outcome o s)
follows_last most front a r b o s few retried is e charge comes =
    let all : answers s.attempts ≡ answers front ++ read_reply (Some r) ∷ [] = ap answers e ∙ answers_snoc front a ∙ ap (λ x. answers front ++ read_reply x ∷ []) is in
    let n = length-answers front in
    let long = length-snoc (answers front) (read_reply (Some r)) in
    record {
      allowed = subst (AreAllowed most) (sym all) (omega arith, retried_back (answers front) (read_reply (Some r)) retried);
      outcome = ap outcome_of all ∙ outcome_snoc (answers front) (read_reply (Some r)) ∙ ap (λ x. if x then phases.Charged else phases.Refused) charge ∙ comes;
    }

follows_retry : (most : ℕ) (front : List Attempt) (a : Attempt) (r : Reply) (s : SegmentEnd) → length front + 1 < most → AllByRecursion IsRetried (answers front) → a.reply ≡ Some r → s.attempts ≡ front ++ a ∷ []
    → is_retry r.status r.nack ≡ true → IsWaiting most (with_outcome Unanswered s)
follows_retry most front a r s few retried is e again =
    let all : answers s.attempts ≡ answers front ++ read_reply (Some r) ∷ [] = ap answers e ∙ answers_snoc front a ∙ ap (λ x. answers front ++ read_reply x ∷ []) is in
    let n = length-answers front in
    let long = length-snoc (answers front) (read_reply (Some r)) in
    let count = ap length all in
    record {
      outcome = refl;
      retried = subst (AllByRecursion IsRetried) (sym all) (all_snoc IsRetried (answers front) (read_reply (Some r)) retried record { reply = record { status = r.status; nack = r.nack }; came = refl; retries = again });
      fewer = omega arith;
    }

follows : (most ms : ℕ) (front : List Attempt) (a : Attempt) (r : Reply) (s : SegmentEnd) (b c : Bool) → length front < most → AllByRecursion IsRetried (answers front) → a.reply ≡ Some r → s.attempts ≡ front ++ a ∷ []
    → is_charge r.status r.nack ≡ b → (is_retry r.status r.nack && nat_lt (length front + 1) most) ≡ c → Follows most s (if b then Charge else (if c then RetryAfter ms else Refuse))
follows most ms front a r s true c few retried is e charge again = inl (follows_last most front a r true Charged s few retried is e charge refl)
follows most ms front a r s false true few retried is e charge again =
    let both = all_true (is_retry r.status r.nack) (nat_lt (length front + 1) most) again in
    inr (follows_retry most front a r s (ltb-true (length front + 1) most both.1) retried is e both.0)
follows most ms front a r s false false few retried is e charge again = inl (follows_last most front a r false Refused s few retried is e charge refl)

pub decided_state : (most base : ℕ) (front : List Attempt) (a : Attempt) (r : Reply) (d : Decision) (s : SegmentEnd) → length front < most → AllByRecursion IsRetried (answers front) → a.reply ≡ Some r → s.attempts ≡ front ++ a ∷ []
    → d ≡ decided r (length front + 1) most base → IsSettled most (with_outcome (outcome_after d) s) ⊎ IsWaiting most (with_outcome (outcome_after d) s)
decided_state most base front a r d s few retried is e decides =
    subst (Follows most s) (sym decides) (follows most (delay base (length front + 1)) front a r s (is_charge r.status r.nack) (is_retry r.status r.nack && nat_lt (length front + 1) most) few retried is e refl refl)

-- what was decided, by all attempts
pub decided_by_all : (most base : ℕ) (front : List Attempt) (a : Attempt) (r : Reply) (d : Decision) (all : List Attempt) → all ≡ front ++ a ∷ [] → d ≡ decided r (length front + 1) most base → d ≡ decided r (length all) most base
decided_by_all most base front a r d all is decides =
    let more = length-snoc front a in
    let same = ap length is in
    let long : length front + 1 ≡ length all = omega arith in
    decides ∙ ap (λ n. decided r n most base) long

retry_is_no_charge : (status : ℕ) (nack : Bool) → is_retry status nack ≡ true → is_charge status nack ≡ false
retry_is_no_charge status true h = refl
retry_is_no_charge status false h = dite (ℕ_discrete status 0)
    (λ e. absurd (true≢false (sym h ∙ ap (λ n. is_retry n false) e)))
    (λ ne. ne_eqb status 0 ne)

retried_outcome : (y : Option core.Reply) (ys : List (Option core.Reply)) → AllByRecursion IsRetried (y ∷ ys) → outcome_of (y ∷ ys) ≡ phases.Refused
retried_outcome y [] h =
    let r = h.0 in
    ap outcome_of_last r.came ∙ ap (λ b. if b then phases.Charged else phases.Refused) (retry_is_no_charge r.reply.status r.reply.nack r.retries)
retried_outcome y (z ∷ ys) h = retried_outcome z ys h.1

all_retried : (ys : List (Option core.Reply)) → AllByRecursion IsRetried ys → AreRetried ys
all_retried [] h = tt
all_retried (y ∷ []) h = tt
all_retried (y ∷ z ∷ ys) h = (h.0, all_retried (z ∷ ys) h.1)

given_phase : (xs : List Attempt) → AllByRecursion IsRetried (answers xs) → outcome_of (answers xs) ≡ phase_of (given_outcome xs)
given_phase [] h = refl
given_phase (x ∷ xs) h = retried_outcome (read_reply x.reply) (answers xs) h

pub given_state : (s s' : SegmentEnd) → s'.attempts ≡ s.attempts → s'.outcome ≡ given_outcome s.attempts → (most : ℕ) → IsWaiting most s → IsSettled most s'
given_state s s' e o most w = record {
  allowed = subst (λ l. AreAllowed most (answers l)) (sym e) (let f = w.fewer in omega arith, all_retried (answers s.attempts) w.retried);
  outcome = ap (λ l. outcome_of (answers l)) e ∙ given_phase s.attempts w.retried ∙ ap phase_of (sym o);
}

pub given_none : (xs : List Attempt) → length xs ≡ 0 → Unsent ≡ given_outcome xs
given_none [] e = refl
given_none (x ∷ xs) e = absurd (omega arith)

pub given_some : (xs : List Attempt) → length xs ≢ 0 → Refused ≡ given_outcome xs
given_some [] ne = absurd (ne refl)
given_some (x ∷ xs) ne = refl

-- a waiting segment that was sent once more
pub sent_state : (most : ℕ) (s s' : SegmentEnd) (a : Attempt) → IsWaiting most s → s'.attempts ≡ s.attempts ++ a ∷ [] → a.reply ≡ None → s'.outcome ≡ s.outcome → IsSettled most s'
sent_state most s s' a w e silent o =
    let all : answers s'.attempts ≡ answers s.attempts ++ read_reply None ∷ [] = ap answers e ∙ answers_snoc s.attempts a ∙ ap (λ r. answers s.attempts ++ read_reply r ∷ []) silent in
    let long = length-snoc (answers s.attempts) (read_reply None) in
    let few = w.fewer in
    record {
      allowed = subst (AreAllowed most) (sym all) (omega arith, retried_back (answers s.attempts) (read_reply None) w.retried);
      outcome = ap outcome_of all ∙ outcome_snoc (answers s.attempts) (read_reply None) ∙ sym (ap phase_of (o ∙ w.outcome));
    }

pub all_map : {X : Type 0} (P Q : X → Type 0) → ((x : X) → P x → Q x) → (xs : List X) → AllByRecursion P xs → AllByRecursion Q xs
all_map P Q f [] a = tt
all_map P Q f (x ∷ xs) a = (f x a.0, all_map P Q f xs a.1)

pub all_at : {X : Type 0} (P : X → Type 0) (xs : List X) (i : ℕ) (x : X) → AllByRecursion P xs → slice_get xs i ≡ Some x → P x
all_at P [] i x a at = absurd (cc)
all_at P (y ∷ xs) zero x a at = let same : y ≡ x = cc in subst P same a.0
all_at P (y ∷ xs) (suc i) x a at = all_at P xs i x a.1 at
