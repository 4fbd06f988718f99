-- What a reader gave in turns.
use Rattle.std.proofs.Common.{◌≡◌, ◌≢◌, ◌⊎◌, ℕ, ◌+◌, ◌*◌, ◌<◌, ◌≤◌, List, inl, inr, length, length-append, Option, Some, None, ap, ◌∙◌, subst, arith}
use Rattle.std.specs.Io.KnownBytes.{Consumes, Keeps}
use Rattle.std.proofs.lemmas.Bool.{cases_lt}
use Rattle.sms_pdu.specs.Faults.{Counts, IsCounted}
use Rattle.sms_pdu.specs.Turn.{GaveAtMost, IsSpent, Passed, Turned}

pub gave_none : (n : ℕ) (r : Option (List ℕ)) → GaveAtMost n r r
gave_none n None = tt
gave_none n (Some xs) = omega arith

pub gave : (n : ℕ) (r t : Option (List ℕ)) (piece : List ℕ) → length piece ≤ n → Consumes r t piece → GaveAtMost n r t
gave n None t piece few c = tt
gave n (Some xs) None piece few c = absurd c
gave n (Some xs) (Some ys) piece few c = let l = ap length c ∙ length-append piece ys in omega (arith, l)

pub gave_kept : (n : ℕ) (r t : Option (List ℕ)) → Keeps r t → GaveAtMost n r t
gave_kept n None t k = tt
gave_kept n (Some xs) None k = absurd k
gave_kept n (Some xs) (Some ys) k = let l = ap length k in omega (arith, l)

pub gave_more : (n k : ℕ) (r t u : Option (List ℕ)) → GaveAtMost n r t → GaveAtMost k t u → GaveAtMost (n + k) r u
gave_more n k None t u p q = tt
gave_more n k (Some xs) None u p q = absurd p
gave_more n k (Some xs) (Some ys) None p q = absurd q
gave_more n k (Some xs) (Some ys) (Some zs) p q = omega arith

pub gave_fits : (n k : ℕ) (r t : Option (List ℕ)) → n ≤ k → GaveAtMost n r t → GaveAtMost k r t
gave_fits n k None t le p = tt
gave_fits n k (Some xs) None le p = absurd p
gave_fits n k (Some xs) (Some ys) le p = omega arith

-- who read something had something left
pub not_spent : (r t : Option (List ℕ)) (piece : List ℕ) → 0 < length piece → Consumes r t piece → ¬ IsSpent r
not_spent None t piece some given none = none
not_spent (Some xs) None piece some given none = given
not_spent (Some xs) (Some ys) piece some given none =
    let l = ap length given ∙ length-append piece ys in
    let z = ap length none in
    omega (arith, l, z, some)

-- ---- turns, one after another

-- no turn
pub turned_none : (turns a : ℕ) (all : Type 0) (r : Option (List ℕ)) → ¬ all → Turned turns all r r a a
turned_none turns a all r none = record { most = gave_none (65536 * turns) r; passed = λ h. absurd (none h) }

pub turned_begins : (a : ℕ) (r : Option (List ℕ)) → Turned 0 (Unit {0}) r r a a
turned_begins a r = record { most = gave_none 0 r; passed = λ h. passed r }
  where
    passed : (t : Option (List ℕ)) → Passed 0 t t a a
    passed None = tt
    passed (Some xs) = inl (omega arith)

-- a turn that read something
pub turned_read : (all : Type 0) (r t : Option (List ℕ)) (piece : List ℕ) (b c : ℕ) → length piece ≤ 65536 → 0 < length piece → b ≡ c → Consumes r t piece → Turned 1 all r t b c
turned_read all r t piece b c few some same given = record { most = gave 65536 r t piece few given; passed = λ h. passed r t given }
  where
    passed : (u v : Option (List ℕ)) → Consumes u v piece → Passed 1 u v b c
    passed None v k = tt
    passed (Some xs) None k = absurd k
    passed (Some xs) (Some ys) k = let l = ap length k ∙ length-append piece ys in inl (omega (arith, l))

-- a turn after which the reader ends
pub turned_ends : (all : Type 0) (r t : Option (List ℕ)) (piece : List ℕ) (b c : ℕ) → length piece ≤ 65536 → ¬ all → Consumes r t piece → Turned 1 all r t b c
turned_ends all r t piece b c few none given = record { most = gave 65536 r t piece few given; passed = λ h. absurd (none h) }

-- a turn whose device answered an error
pub turned_fault : (all : Type 0) (r t : Option (List ℕ)) (b c : ℕ) → IsCounted b c → b ≤ c → Keeps r t → Turned 1 all r t b c
turned_fault all r t b c counted up kept = record { most = gave_kept 65536 r t kept; passed = λ h. passed r t kept counted }
  where
    passed : (u v : Option (List ℕ)) → Keeps u v → IsCounted b c → Passed 1 u v b c
    passed None v k h = tt
    passed (Some xs) None k h = absurd k
    passed (Some xs) (Some ys) k (inl more) = let l = ap length k in inl (omega (arith, l))
    passed (Some xs) (Some ys) k (inr top) = inr (omega arith)

passed_more : (n a b c : ℕ) (r t u : Option (List ℕ)) → b ≤ c → Passed n r t a b → Passed 1 t u b c → Passed (n + 1) r u a c
passed_more n a b c None t u up p q = tt
passed_more n a b c (Some xs) None u up p q = absurd p
passed_more n a b c (Some xs) (Some ys) None up p q = absurd q
passed_more n a b c (Some xs) (Some ys) (Some zs) up (inl x) (inl y) = inl (omega arith)
passed_more n a b c (Some xs) (Some ys) (Some zs) up (inl x) (inr y) = inr y
passed_more n a b c (Some xs) (Some ys) (Some zs) up (inr x) q = inr (omega arith)

-- one turn more
pub turned_more : (n a b c : ℕ) (all : Type 0) (r t u : Option (List ℕ)) → b ≤ c → Turned n (Unit {0}) r t a b → Turned 1 all t u b c → all → Turned (n + 1) (Unit {0}) r u a c
turned_more n a b c all r t u up p q on =
    record { most = gave_fits (65536 * n + 65536 * 1) (65536 * (n + 1)) r u (omega arith) (gave_more (65536 * n) (65536 * 1) r t u p.most q.most); passed = λ h. passed_more n a b c r t u up (p.passed tt) (q.passed on) }

-- the last turn
pub turned_last : (n turns a b c : ℕ) (one all : Type 0) (r t u : Option (List ℕ)) → n < turns → Turned n (Unit {0}) r t a b → Turned 1 one t u b c → ¬ all → Turned turns all r u a c
turned_last n turns a b c one all r t u low p q none =
    record { most = gave_fits (65536 * n + 65536 * 1) (65536 * turns) r u (omega arith) (gave_more (65536 * n) (65536 * 1) r t u p.most q.most); passed = λ h. absurd (none h) }

-- the reader ends before a turn
pub turned_stops : (n turns a b : ℕ) (all : Type 0) (r t : Option (List ℕ)) → n < turns → ¬ all → Turned n (Unit {0}) r t a b → Turned turns all r t a b
turned_stops n turns a b all r t low none p = record { most = gave_fits (65536 * n) (65536 * turns) r t (omega arith) p.most; passed = λ h. absurd (none h) }

-- all turns were taken
pub turned_all : (n turns a b : ℕ) (all : Type 0) (r t : Option (List ℕ)) → n ≡ turns → Turned n (Unit {0}) r t a b → Turned turns all r t a b
turned_all n turns a b all r t e p = subst (λ k. Turned k all r t a b) e (record { most = p.most; passed = λ h. p.passed tt })

-- the same turns, where another fact means that all were taken
pub turned_where : (turns a b : ℕ) (all other : Type 0) (r t : Option (List ℕ)) → (other → all) → Turned turns all r t a b → Turned turns other r t a b
turned_where turns a b all other r t f p = record { most = p.most; passed = λ h. p.passed (f h) }

-- ---- the counts of errors

-- a count that grew later grew
pub counted_later : (a b c : ℕ) → a ≤ b → b ≤ c → IsCounted b c → IsCounted a c
counted_later a b c low up (inl h) = inl (omega arith)
counted_later a b c low up (inr h) = elim (cases_lt a c) [ inl more ↦ inl more | inr same ↦ inr (omega arith) ]

-- one more than a number that is the same
pub counted_once : (a b c : ℕ) → b ≡ a → Counts b c → Counts a c
counted_once a b c same h = subst (λ n. Counts n c) same h

-- ---- a read that failed

-- it ends the reading by its fault or not at all
pub not_failed : {C : Type 0} → (end : Option C) (fault other : C) → (end ≡ None) ⊎ (end ≡ Some fault) → ¬ (other ≡ fault) → end ≢ Some other
not_failed end fault other (inl e) off is = absurd cc
not_failed end fault other (inr e) off is = off cc
