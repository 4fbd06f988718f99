-- The request of each part is found by its place.
use Rattle.std.proofs.Common.{◌≡◌, ℕ, zero, suc, ◌+◌, ◌<◌, Bool, true, false, List, [], ◌∷◌, ◌++◌, map, slice_get, Option, Some, None, refl, ap, ◌∙◌, subst, arith, eq-eqb, ne_eqb}
use Rattle.std.proofs.lemmas.List.{map-append}
use mathlib.Core.Logic.{dite}
use native.Mathlib.Decide.{ℕ_discrete}
use Rattle.sms_core.specs.declared.request.Phase.{Phase}
use Rattle.sms_core.specs.declared.request.Phase.TheVariants.{Ready, Open, Charged, Refused, Unanswered, Unsent}
use Rattle.sms_core.specs.declared.request.Request.{Request}
use Rattle.sms_core.specs.declared.request.RequestState.{RequestState}
use Rattle.sms_core.specs.CoreLaws.{IsFinal}
use Rattle.sms_core.specs.State.{find_request}
use Rattle.sms_journal.specs.declared.audit.part.SentPart.{SentPart}
use Rattle.sms_journal.specs.Schedules.{NamedPart, comes_back, in_turn, is_charged, is_unanswered, phase_in, request_for, those, where_so}
use Rattle.sms_journal.proofs.Turns.{outcome_is_final}

abbrev or_other : Option RequestState → Option RequestState → Option RequestState
or_other (Some s) other = Some s
or_other None other = other

found_append : (id : ℕ) (xs ys : List Request) → find_request id (xs ++ ys) ≡ or_other (find_request id xs) (find_request id ys)
found_append id [] ys = refl
found_append id (x ∷ xs) ys = dite (ℕ_discrete x.id id) (λ is. rw (eq-eqb x.id id is) refl) (λ ne. rw (ne_eqb x.id id ne) (found_append id xs ys))

abbrev found_if : Bool → RequestState → Option RequestState
found_if true s = Some s
found_if false s = None

-- a part of this name before others that haven't it; and one of another name
own_first : (id : ℕ) (b : Bool) (n : NamedPart) (ns : List NamedPart) → n.name ≡ id → find_request id (map request_for ns) ≡ None → find_request id (map request_for (where_so b n ++ ns)) ≡ found_if b (request_for n).state
own_first id true n ns is none = rw (eq-eqb n.name id is) refl
own_first id false n ns is none = none

other_first : (id : ℕ) (b : Bool) (n : NamedPart) (ns : List NamedPart) → (n.name ≡ id → ⊥) → find_request id (map request_for (where_so b n ++ ns)) ≡ find_request id (map request_for ns)
other_first id true n ns ne = rw (ne_eqb n.name id ne) refl
other_first id false n ns ne = refl

none_below : (is : Phase → Bool) (id name : ℕ) (ps : List SentPart) → id < name → find_request id (map request_for (those is name ps)) ≡ None
none_below is id name [] below = refl
none_below is id name (p ∷ ps) below =
    other_first id (is (phase_in p)) (record { name = name; part = p }) (those is (name + 1) ps) (λ e. (let same : name ≡ id = e in omega arith)) ∙ none_below is id (name + 1) ps (omega arith)

those_found : (is : Phase → Bool) (id name i : ℕ) (ps : List SentPart) (p : SentPart) → id ≡ name + i → slice_get ps i ≡ Some p
    → find_request id (map request_for (those is name ps)) ≡ found_if (is (phase_in p)) (request_for (record { name = id; part = p })).state
those_found is id name i [] p at there = absurd (cc)
those_found is id name zero (q ∷ ps) p at there =
    let same : q ≡ p = cc in
    let own : name ≡ id = omega arith in
    subst (λ (x : SentPart). find_request id (map request_for (those is name (q ∷ ps))) ≡ found_if (is (phase_in x)) (request_for (record { name = id; part = x })).state) same
    (own_first id (is (phase_in q)) (record { name = name; part = q }) (those is (name + 1) ps) own (none_below is id (name + 1) ps (omega arith)))
those_found is id name (suc i) (q ∷ ps) p at there =
    other_first id (is (phase_in q)) (record { name = name; part = q }) (those is (name + 1) ps) (λ e. (let same : name ≡ id = e in omega arith))
    ∙ those_found is id (name + 1) i ps p (omega arith) there

one_is_found : (phase : Phase) (s : RequestState) → IsFinal phase → or_other (found_if (comes_back phase) s) (or_other (found_if (is_charged phase) s) (found_if (is_unanswered phase) s)) ≡ Some s
one_is_found Ready s final = absurd final
one_is_found Open s final = absurd final
one_is_found Charged s final = refl
one_is_found Refused s final = refl
one_is_found Unanswered s final = refl
one_is_found Unsent s final = refl

pub turn_found : (ps : List SentPart) (i : ℕ) (p : SentPart) → slice_get ps i ≡ Some p → find_request i (map request_for (in_turn ps)) ≡ Some (request_for (record { name = i; part = p })).state
turn_found ps i p there =
    let backs : List NamedPart = those comes_back 0 ps in
    let charged : List NamedPart = those is_charged 0 ps in
    let open_ones : List NamedPart = those is_unanswered 0 ps in
    let zero_is : i ≡ 0 + i = omega arith in
    let s : RequestState = (request_for (record { name = i; part = p })).state in
    let a = those_found comes_back i 0 i ps p zero_is there in
    let b = those_found is_charged i 0 i ps p zero_is there in
    let c = those_found is_unanswered i 0 i ps p zero_is there in
    ap (find_request i) (map-append request_for backs (charged ++ open_ones) ∙ ap (λ (l : List Request). map request_for backs ++ l) (map-append request_for charged open_ones))
    ∙ found_append i (map request_for backs) (map request_for charged ++ map request_for open_ones)
    ∙ ap (λ (o : Option RequestState). or_other (find_request i (map request_for backs)) o) (found_append i (map request_for charged) (map request_for open_ones))
    ∙ rw (a, b, c) (one_is_found (phase_in p) s (outcome_is_final p.attempts))
