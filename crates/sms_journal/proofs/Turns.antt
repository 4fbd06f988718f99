-- The parts in turn are all parts, each once, and each finds its credits free.
use Rattle.std.proofs.Common.{◌≡◌, ℕ, ◌+◌, ◌<◌, ◌≤◌, Bool, true, false, List, [], ◌∷◌, ◌++◌, map, length, get_or, refl, sym, ap, ◌∙◌, subst, arith, eq-eqb, ne_eqb, append_assoc, sum_by}
use Rattle.std.specs.List.{AllByRecursion}
use Rattle.std.proofs.lemmas.Bool.{cases_Bool, false≢true}
use Rattle.std.proofs.Common.{⊎_elim}
use Rattle.std.proofs.lemmas.List.{append-nil, map-append}
use Rattle.std.proofs.lemmas.List.Sums.{sum_by-cons, sum_by-append}
use mathlib.Core.Logic.{dite}
use native.Mathlib.Decide.{ℕ_discrete}
use Rattle.sms_core.specs.declared.request.Phase.{Phase}
use Rattle.sms_core.specs.declared.request.Phase.TheVariants.{Ready, Open, Charged, Refused, Unanswered, Unsent}
use Rattle.sms_core.specs.declared.request.Request.{Request}
use Rattle.sms_core.specs.CoreLaws.{IsFinal}
use Rattle.sms_core.specs.Replies.{Reply, is_charge, outcome_of, outcome_of_last}
use Rattle.sms_core.specs.Rows.{Entry, over, part, reserved_of, charged_of}
use Rattle.sms_core.specs.State.{entry_of}
use Rattle.sms_core.proofs.AccountSums.{over_push, over-map}
use Rattle.sms_core.proofs.ListSums.{sum_by-map}
use Rattle.std.specs.Prelude.{Option, Some, None}
use Rattle.sms_journal.specs.declared.audit.part.SentPart.{SentPart}
use Rattle.sms_journal.specs.Schedules.{NamedPart, comes_back, entry_for, in_turn, is_charged, is_unanswered, phase_in, request_for, those, where_so}
use Rattle.sms_journal.specs.ScheduleLaws.{CanBeSent}
use Rattle.sms_journal.proofs.SeveralRuns.{FindFree, has_name, used_by}

-- ---- attempts come to a phase that is final

last_is_final : (attempt : Option Reply) → IsFinal (outcome_of_last attempt)
last_is_final None = tt
last_is_final (Some reply) = ⊎_elim
    (λ (yes : is_charge reply.status reply.nack ≡ true). rw yes tt)
    (λ (no : is_charge reply.status reply.nack ≡ false). rw no tt)
    (cases_Bool (is_charge reply.status reply.nack))

pub outcome_is_final : (attempts : List (Option Reply)) → IsFinal (outcome_of attempts)
outcome_is_final [] = tt
outcome_is_final (attempt ∷ []) = last_is_final attempt
outcome_is_final (attempt ∷ next ∷ later) = outcome_is_final (next ∷ later)

-- ---- sums

-- the parts in their own order
abbrev pub all_named : ℕ → List SentPart → List NamedPart
all_named name [] = []
all_named name (p ∷ ps) = record { name = name; part = p } ∷ all_named (name + 1) ps

-- counted on from a name
abbrev pub in_turn_from : ℕ → List SentPart → List NamedPart
in_turn_from name ps = those comes_back name ps ++ (those is_charged name ps ++ those is_unanswered name ps)

one_of_three : (f : NamedPart → ℕ) (n : NamedPart) (phase : Phase) → IsFinal phase
    → sum_by f (where_so (comes_back phase) n) + (sum_by f (where_so (is_charged phase) n) + sum_by f (where_so (is_unanswered phase) n)) ≡ f n
one_of_three f n Ready final = absurd final
one_of_three f n Open final = absurd final
one_of_three f n Charged final = omega (arith, sum_by-cons f n [])
one_of_three f n Refused final = omega (arith, sum_by-cons f n [])
one_of_three f n Unanswered final = omega (arith, sum_by-cons f n [])
one_of_three f n Unsent final = omega (arith, sum_by-cons f n [])

those-cons : (f : NamedPart → ℕ) (is : Phase → Bool) (name : ℕ) (p : SentPart) (ps : List SentPart)
    → sum_by f (those is name (p ∷ ps)) ≡ sum_by f (where_so (is (phase_in p)) (record { name = name; part = p })) + sum_by f (those is (name + 1) ps)
those-cons f is name p ps = sum_by-append f (where_so (is (phase_in p)) (record { name = name; part = p })) (those is (name + 1) ps)

turn_split : (f : NamedPart → ℕ) (name : ℕ) (ps : List SentPart) → sum_by f (in_turn_from name ps) ≡ sum_by f (those comes_back name ps) + (sum_by f (those is_charged name ps) + sum_by f (those is_unanswered name ps))
turn_split f name ps =
    let outer = sum_by-append f (those comes_back name ps) (those is_charged name ps ++ those is_unanswered name ps) in
    let inner = sum_by-append f (those is_charged name ps) (those is_unanswered name ps) in
    omega arith

three_sums : (f : NamedPart → ℕ) (name : ℕ) (ps : List SentPart)
    → sum_by f (those comes_back name ps) + (sum_by f (those is_charged name ps) + sum_by f (those is_unanswered name ps)) ≡ sum_by f (all_named name ps)
three_sums f name [] = refl
three_sums f name (p ∷ ps) =
    let n : NamedPart = record { name = name; part = p } in
    let one = one_of_three f n (phase_in p) (outcome_is_final p.attempts) in
    let rest = three_sums f (name + 1) ps in
    let a = those-cons f comes_back name p ps in
    let b = those-cons f is_charged name p ps in
    let c = those-cons f is_unanswered name p ps in
    let d = sum_by-cons f n (all_named (name + 1) ps) in
    omega arith

-- the sum over the parts in turn is the sum over all
pub turn_sum : (f : NamedPart → ℕ) (ps : List SentPart) → sum_by f (in_turn ps) ≡ sum_by f (all_named 0 ps)
turn_sum f ps = turn_split f 0 ps ∙ three_sums f 0 ps

-- and that over the parts themselves, where names don't count
pub part_sum : (g : SentPart → ℕ) (name : ℕ) (ps : List SentPart) → sum_by (λ (n : NamedPart). g n.part) (all_named name ps) ≡ sum_by g ps
part_sum g name [] = refl
part_sum g name (p ∷ ps) = omega (arith, sum_by-cons (λ (n : NamedPart). g n.part) (record { name = name; part = p }) (all_named (name + 1) ps), sum_by-cons g p ps, part_sum g (name + 1) ps)

-- ---- names

other_name : (id : ℕ) (n : NamedPart) → (n.name ≡ id → ⊥) → has_name id n ≡ 0
other_name id n ne = rw (ne_eqb n.name id ne) refl

at_most_one : (id : ℕ) (n : NamedPart) → has_name id n ≤ 1
at_most_one id n = dite (ℕ_discrete n.name id)
    (λ is. let one : has_name id n ≡ 1 = rw (eq-eqb n.name id is) refl in omega arith)
    (λ ne. let none = other_name id n ne in omega arith)

none_below : (id name : ℕ) (ps : List SentPart) → id < name → sum_by (has_name id) (all_named name ps) ≡ 0
none_below id name [] below = refl
none_below id name (p ∷ ps) below =
    let n : NamedPart = record { name = name; part = p } in
    let none = other_name id n (λ e. (let same : name ≡ id = e in omega arith)) in
    omega (arith, sum_by-cons (has_name id) n (all_named (name + 1) ps), none_below id (name + 1) ps (omega arith))

once_named : (id name : ℕ) (ps : List SentPart) → sum_by (has_name id) (all_named name ps) ≤ 1
once_named id name [] = omega arith
once_named id name (p ∷ ps) =
    let n : NamedPart = record { name = name; part = p } in
    let sums = sum_by-cons (has_name id) n (all_named (name + 1) ps) in
    dite (ℕ_discrete name id)
    (λ is. let few = at_most_one id n in let none = none_below id (name + 1) ps (omega arith) in omega arith)
    (λ ne. let none = other_name id n ne in let rest = once_named id (name + 1) ps in omega arith)

pub turn_names : (id : ℕ) (ps : List SentPart) → sum_by (has_name id) (in_turn ps) ≤ 1
turn_names id ps = let sums = turn_sum (has_name id) ps in let once = once_named id 0 ps in omega arith

-- ---- what holds of each

pub all_append : {X : Type 0} (P : X → Type 0) (xs ys : List X) → AllByRecursion P xs → AllByRecursion P ys → AllByRecursion P (xs ++ ys)
all_append P [] ys a b = b
all_append P (x ∷ xs) ys a b = (a.0, all_append P xs ys a.1 b)

those_all : (P : SentPart → Type 0) (is : Phase → Bool) (name : ℕ) (ps : List SentPart) → AllByRecursion P ps → AllByRecursion (λ (n : NamedPart). P n.part) (those is name ps)
those_all P is name [] a = tt
those_all P is name (p ∷ ps) a =
    all_append (λ (n : NamedPart). P n.part) (where_so (is (phase_in p)) (record { name = name; part = p })) (those is (name + 1) ps) (here (is (phase_in p))) (those_all P is (name + 1) ps a.1)
  where
    here : (b : Bool) → AllByRecursion (λ (n : NamedPart). P n.part) (where_so b (record { name = name; part = p }))
    here true = (a.0, tt)
    here false = tt

pub turn_all : (P : SentPart → Type 0) (ps : List SentPart) → AllByRecursion P ps → AllByRecursion (λ (n : NamedPart). P n.part) (in_turn ps)
turn_all P ps a = all_append (λ (n : NamedPart). P n.part) (those comes_back 0 ps) (those is_charged 0 ps ++ those is_unanswered 0 ps) (those_all P comes_back 0 ps a)
    (all_append (λ (n : NamedPart). P n.part) (those is_charged 0 ps) (those is_unanswered 0 ps) (those_all P is_charged 0 ps a) (those_all P is_unanswered 0 ps a))

-- the phase of each is such a one
those_phase : (is : Phase → Bool) (name : ℕ) (ps : List SentPart) → AllByRecursion (λ (n : NamedPart). is (phase_in n.part) ≡ true) (those is name ps)
those_phase is name [] = tt
those_phase is name (p ∷ ps) = all_append (λ (n : NamedPart). is (phase_in n.part) ≡ true) (where_so (is (phase_in p)) (record { name = name; part = p })) (those is (name + 1) ps) (here (is (phase_in p)) refl) (those_phase is (name + 1) ps)
  where
    here : (b : Bool) → is (phase_in p) ≡ b → AllByRecursion (λ (n : NamedPart). is (phase_in n.part) ≡ true) (where_so b (record { name = name; part = p }))
    here true e = (e, tt)
    here false e = tt

-- ---- credits

abbrev pub reserved_in : ℕ → NamedPart → ℕ
reserved_in account n = part reserved_of account (entry_for n.part)

abbrev pub charged_in : ℕ → NamedPart → ℕ
charged_in account n = part charged_of account (entry_for n.part)

pub over_requests : (f : Phase → ℕ → ℕ) (account : ℕ) (ns : List NamedPart) → over f account (map entry_of (map request_for ns)) ≡ sum_by (λ (n : NamedPart). part f account (entry_for n.part)) ns
over_requests f account ns = over-map f account entry_of (map request_for ns) ∙ sum_by-map (λ (r : Request). part f account (entry_of r)) request_for ns

used_more : (account : ℕ) (rs : List Request) (n : NamedPart) → used_by account (rs ++ request_for n ∷ []) ≡ used_by account rs + (reserved_in account n + charged_in account n)
used_more account rs n =
    let list : map entry_of (rs ++ request_for n ∷ []) ≡ map entry_of rs ++ entry_for n.part ∷ [] = map-append entry_of rs (request_for n ∷ []) in
    let a = ap (over reserved_of account) list ∙ over_push reserved_of account (map entry_of rs) (entry_for n.part) in
    let b = ap (over charged_of account) list ∙ over_push charged_of account (map entry_of rs) (entry_for n.part) in
    omega arith

none_by_zero : (f : Phase → ℕ → ℕ) (account : ℕ) (e : Entry) → f e.phase e.cost ≡ 0 → part f account e ≡ 0
none_by_zero f account e nothing = dite (ℕ_discrete e.account account) (λ is. rw (eq-eqb e.account account is) nothing) (λ ne. rw (ne_eqb e.account account ne) refl)

-- a part whose credits came back uses none
back_reserves : (phase : Phase) (cost : ℕ) → comes_back phase ≡ true → reserved_of phase cost ≡ 0
back_reserves Ready cost e = absurd (false≢true e)
back_reserves Open cost e = absurd (false≢true e)
back_reserves Charged cost e = refl
back_reserves Refused cost e = refl
back_reserves Unanswered cost e = absurd (false≢true e)
back_reserves Unsent cost e = refl

back_charges : (phase : Phase) (cost : ℕ) → comes_back phase ≡ true → charged_of phase cost ≡ 0
back_charges Ready cost e = refl
back_charges Open cost e = refl
back_charges Charged cost e = absurd (false≢true e)
back_charges Refused cost e = refl
back_charges Unanswered cost e = refl
back_charges Unsent cost e = refl

-- another uses its whole cost
abbrev pub IsKept : Phase → Type 0
IsKept Ready = ⊥
IsKept Open = ⊥
IsKept Charged = Unit {0}
IsKept Refused = ⊥
IsKept Unanswered = Unit {0}
IsKept Unsent = ⊥

kept_uses : (phase : Phase) (cost : ℕ) → IsKept phase → reserved_of phase cost + charged_of phase cost ≡ cost
kept_uses Ready cost k = absurd k
kept_uses Open cost k = absurd k
kept_uses Charged cost k = omega arith
kept_uses Refused cost k = absurd k
kept_uses Unanswered cost k = omega arith
kept_uses Unsent cost k = absurd k

own_credits : (n : NamedPart) → IsKept (phase_in n.part) → reserved_in n.part.account n + charged_in n.part.account n ≡ n.part.cost
own_credits n kept = rw (eq-eqb n.part.account n.part.account refl) (kept_uses (phase_in n.part) n.part.cost kept)

pub free_append : (credits : List ℕ) (rs : List Request) (xs ys : List NamedPart) → FindFree credits rs xs → FindFree credits (rs ++ map request_for xs) ys → FindFree credits rs (xs ++ ys)
free_append credits rs [] ys a b = subst (λ (l : List Request). FindFree credits l ys) (append-nil {A = Request} rs) b
free_append credits rs (x ∷ xs) ys a b =
    (a.0, free_append credits (rs ++ request_for x ∷ []) xs ys a.1 (subst (λ (l : List Request). FindFree credits l ys) (sym (append_assoc rs (request_for x ∷ []) (map request_for xs))) b))

back_free : (most : ℕ) (credits : List ℕ) (rs : List Request) (ns : List NamedPart) → ((i : ℕ) → used_by i rs ≡ 0) → AllByRecursion (λ (n : NamedPart). comes_back (phase_in n.part) ≡ true) ns
    → AllByRecursion (λ (n : NamedPart). CanBeSent most credits n.part) ns → FindFree credits rs ns
back_free most credits rs [] none back can = tt
back_free most credits rs (n ∷ ns) none back can =
    let nothing = none n.part.account in
    let covered = can.0.covered in (
      omega arith,
      back_free most credits (rs ++ request_for n ∷ []) ns
          (λ i.
          let before = none i in
          let more = used_more i rs n in
          let a = none_by_zero reserved_of i (entry_for n.part) (back_reserves (phase_in n.part) n.part.cost back.0) in
          let b = none_by_zero charged_of i (entry_for n.part) (back_charges (phase_in n.part) n.part.cost back.0) in
          omega arith)
          back.1 can.1,
    )

back_sums : (f : NamedPart → ℕ) (ns : List NamedPart) → AllByRecursion (λ (n : NamedPart). f n ≡ 0) ns → sum_by f ns ≡ 0
back_sums f [] none = refl
back_sums f (n ∷ ns) none = let here = none.0 in omega (arith, sum_by-cons f n ns, back_sums f ns none.1)

kept_free : (most : ℕ) (credits : List ℕ) (rs : List Request) (ns : List NamedPart)
    → ((i : ℕ) → i < length credits → used_by i rs + (sum_by (reserved_in i) ns + sum_by (charged_in i) ns) ≤ get_or credits i 0)
    → AllByRecursion (λ (n : NamedPart). IsKept (phase_in n.part)) ns → AllByRecursion (λ (n : NamedPart). CanBeSent most credits n.part) ns → FindFree credits rs ns
kept_free most credits rs [] within kept can = tt
kept_free most credits rs (n ∷ ns) within kept can =
    let enough = within n.part.account can.0.known in
    let own = own_credits n kept.0 in
    let a = sum_by-cons (reserved_in n.part.account) n ns in
    let b = sum_by-cons (charged_in n.part.account) n ns in (
      omega arith,
      kept_free most credits (rs ++ request_for n ∷ []) ns
          (λ i inside.
          let all = within i inside in
          let c = sum_by-cons (reserved_in i) n ns in
          let d = sum_by-cons (charged_in i) n ns in
          let more = used_more i rs n in
          omega arith)
          kept.1 can.1,
    )

-- ---- in turn

kept_charged : (phase : Phase) → is_charged phase ≡ true → IsKept phase
kept_charged Ready e = absurd (false≢true e)
kept_charged Open e = absurd (false≢true e)
kept_charged Charged e = tt
kept_charged Refused e = absurd (false≢true e)
kept_charged Unanswered e = tt
kept_charged Unsent e = absurd (false≢true e)

kept_unanswered : (phase : Phase) → is_unanswered phase ≡ true → IsKept phase
kept_unanswered Ready e = absurd (false≢true e)
kept_unanswered Open e = absurd (false≢true e)
kept_unanswered Charged e = tt
kept_unanswered Refused e = absurd (false≢true e)
kept_unanswered Unanswered e = tt
kept_unanswered Unsent e = absurd (false≢true e)

all_map : {X : Type 0} (P Q : X → Type 0) → ((x : X) → P x → Q x) → (xs : List X) → AllByRecursion P xs → AllByRecursion Q xs
all_map P Q f [] a = tt
all_map P Q f (x ∷ xs) a = (f x a.0, all_map P Q f xs a.1)

module _ (most : ℕ) (credits : List ℕ) (ps : List SentPart) (can : AllByRecursion (CanBeSent most credits) ps)
    (within : (i : ℕ) → i < length credits → over reserved_of i (map entry_for ps) + over charged_of i (map entry_for ps) ≤ get_or credits i 0) where
  abbrev backs : List NamedPart
  backs = those comes_back 0 ps

  abbrev keeps : List NamedPart
  keeps = those is_charged 0 ps ++ those is_unanswered 0 ps

  kept : AllByRecursion (λ (n : NamedPart). IsKept (phase_in n.part)) keeps
  kept = all_append (λ (n : NamedPart). IsKept (phase_in n.part)) (those is_charged 0 ps) (those is_unanswered 0 ps)
      (all_map (λ (n : NamedPart). is_charged (phase_in n.part) ≡ true) (λ (n : NamedPart). IsKept (phase_in n.part)) (λ n e. kept_charged (phase_in n.part) e) (those is_charged 0 ps) (those_phase is_charged 0 ps))
      (all_map (λ (n : NamedPart). is_unanswered (phase_in n.part) ≡ true) (λ (n : NamedPart). IsKept (phase_in n.part)) (λ n e. kept_unanswered (phase_in n.part) e) (those is_unanswered 0 ps) (those_phase is_unanswered 0 ps))

  can_keep : AllByRecursion (λ (n : NamedPart). CanBeSent most credits n.part) keeps
  can_keep = all_append (λ (n : NamedPart). CanBeSent most credits n.part) (those is_charged 0 ps) (those is_unanswered 0 ps)
      (those_all (CanBeSent most credits) is_charged 0 ps can) (those_all (CanBeSent most credits) is_unanswered 0 ps can)

  sums : (f : Phase → ℕ → ℕ) (i : ℕ) → sum_by (λ (n : NamedPart). part f i (entry_for n.part)) backs + sum_by (λ (n : NamedPart). part f i (entry_for n.part)) keeps ≡ over f i (map entry_for ps)
  sums f i =
      sym (sum_by-append (λ (n : NamedPart). part f i (entry_for n.part)) (those comes_back 0 ps) (those is_charged 0 ps ++ those is_unanswered 0 ps))
      ∙ turn_sum (λ (n : NamedPart). part f i (entry_for n.part)) ps ∙ part_sum (λ (p : SentPart). part f i (entry_for p)) 0 ps ∙ sym (over-map f i entry_for ps)

  totals : (i : ℕ) → i < length credits → used_by i (map request_for backs) + (sum_by (reserved_in i) keeps + sum_by (charged_in i) keeps) ≤ get_or credits i 0
  totals i inside =
      let a = over_requests reserved_of i backs in
      let b = over_requests charged_of i backs in
      let c = sums reserved_of i in
      let d = sums charged_of i in
      let all = within i inside in
      omega arith

  -- each part in turn finds its credits free, where all parts use no more than there are
  pub turn_free : FindFree credits [] (in_turn ps)
  turn_free =
      free_append credits [] backs keeps (back_free most credits [] backs (λ i. refl) (those_phase comes_back 0 ps) (those_all (CanBeSent most credits) comes_back 0 ps can))
      (kept_free most credits (map request_for backs) keeps totals kept can_keep)
