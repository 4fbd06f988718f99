-- Laws of a run's journal over its rounds.
use Rattle.std.proofs.Common.{◌≡◌, ℕ, zero, suc, ◌+◌, ◌<◌, List, [], ◌∷◌, ◌++◌, take, Some, None, inl, inr, refl, sym, ap, ◌∙◌, subst, append_assoc, arith}
use Rattle.std.specs.Prelude.{Option, Bool, true, false, ◌⊎◌, ◌==◌, slice_get, if◌then◌else◌}
use Rattle.std.specs.List.{AllZip}
use Rattle.std.proofs.lemmas.Bool.{eq-eqb, eqb-true}
use Rattle.std.proofs.lemmas.List.{take-append-le}
use Rattle.std.proofs.lemmas.Option.{slice_get_within}
use Rattle.sms_message.specs.declared.message.Message.{Message}
use Rattle.sms_message.specs.declared.rules.Rules.{Rules}
use Rattle.sms_message.specs.declared.ends.MessageEnd.{MessageEnd}
use Rattle.sms_message.specs.declared.ends.MessageRefusal.{MessageRefusal}
use Rattle.sms_journal.specs.declared.notes.note.Note.{Note}
use Rattle.sms_journal.specs.declared.notes.note.Note.TheVariants.{Begun, Sent, Unsent, Heard, Refused, End, Round}
use Rattle.sms_journal.specs.declared.notes.note.RequestId.{RequestId}
use Rattle.sms_journal.specs.declared.notes.run_size.RunSize.{RunSize}
use Rattle.sms_journal.specs.Going.{AllGoOn, AreOfOneRound}
use Rattle.sms_journal.specs.Lawful.{MayFollow, indexes_of, place_from, place_of}
use Rattle.sms_journal.specs.Recovered.{IsRecoveredEnd, or_else, start_in, start_of}
use Rattle.sms_journal.specs.Rounds.{Going, GoesOn, IsRunEnd, MayGoOn, NoneIsBegunTwice, OneRoundHasItsEnds, OneRoundIsAJournal, RequestsAreOfTheirRound, RunFrontsAreLawful, IsBegunBefore, first_round, going_by, is_left, is_left_by, left_after, round_in, told_by, told_from}
use Rattle.sms_journal.proofs.Firsts.{first_snoc}
use Rattle.sms_journal.proofs.Rounds.{free_all, free_step, one_front, unshift}

got_whole : {X : Type 0} (xs ys : List X) (k : ℕ) (x : X) → slice_get xs k ≡ Some x → slice_get (xs ++ ys) k ≡ Some x
got_whole [] ys k x e = absurd (cc)
got_whole (y ∷ xs) ys zero x e = e
got_whole (y ∷ xs) ys (suc k) x e = got_whole xs ys k x e

pub run_fronts_are_lawful : RunFrontsAreLawful
run_fronts_are_lawful rules size ms notes later all k n at =
    subst (λ (l : List Note). MayGoOn rules size ms l n) (take-append-le k notes later (omega (arith, slice_get_within notes k n at))) (all k n (got_whole notes later k n at))

-- ---- one round

told_step : (i : ℕ) (notes : List Note) (n : Note) (ns : List Note) → round_in n ≡ None → told_from i notes (n ∷ ns) ≡ told_from i (notes ++ n ∷ []) ns
told_step i notes (Begun m) ns e = refl
told_step i notes (Sent request m p) ns e = refl
told_step i notes (Unsent request) ns e = refl
told_step i notes (Heard by reply) ns e = refl
told_step i notes (Refused m refusal) ns e = refl
told_step i notes (End status) ns e = refl
told_step i notes (Round number binds workers) ns e = absurd (cc)

pub told_free : (i : ℕ) (notes ns : List Note) → AreOfOneRound ns → told_from i notes ns ≡ notes ++ ns
told_free i notes [] one = sym (append_nil_of notes)
  where
    append_nil_of : (l : List Note) → l ++ [] ≡ l
    append_nil_of [] = refl
    append_nil_of (x ∷ l) = ap (λ (m : List Note). x ∷ m) (append_nil_of l)
told_free i notes (n ∷ ns) one = told_step i notes n ns (one 0 n refl) ∙ told_free i (notes ++ n ∷ []) ns (λ k. one (suc k)) ∙ append_assoc notes (n ∷ []) ns

pub one_round_has_its_ends : OneRoundHasItsEnds
one_round_has_its_ends notes i one = told_free i [] notes one

zip_by : (rules : Rules) (front back : List Note) → ((i : ℕ) → told_by i front ≡ back) → (ms : List Message) (es : List (MessageEnd (Unit {0}))) → AllZip (IsRunEnd rules front) ms es → AllZip (IsRecoveredEnd rules back) ms es
zip_by rules front back same [] [] h = h
zip_by rules front back same [] (e ∷ es) h = absurd h
zip_by rules front back same (m ∷ ms) [] h = absurd h
zip_by rules front back same (m ∷ ms) (e ∷ es) h = (subst (λ (l : List Note). IsRecoveredEnd rules l m e) (same m.index) h.0, zip_by rules front back same ms es h.1)

by_zip : (rules : Rules) (front back : List Note) → ((i : ℕ) → told_by i front ≡ back) → (ms : List Message) (es : List (MessageEnd (Unit {0}))) → AllZip (IsRecoveredEnd rules back) ms es → AllZip (IsRunEnd rules front) ms es
by_zip rules front back same [] [] h = h
by_zip rules front back same [] (e ∷ es) h = absurd h
by_zip rules front back same (m ∷ ms) [] h = absurd h
by_zip rules front back same (m ∷ ms) (e ∷ es) h = (subst (λ (l : List Note). IsRecoveredEnd rules l m e) (sym (same m.index)) h.0, by_zip rules front back same ms es h.1)

module _ (rules : Rules) (size : RunSize) (ms : List Message) (front : List Note) (one : AreOfOneRound front) where
  abbrev its : Going
  its = record { number = 1; size = size; given = indexes_of ms; notes = front }

  by_round : (n : Note) → round_in n ≡ None → GoesOn rules ms front its n → MayFollow rules size ms (indexes_of ms) front n
  by_round (Begun i) e h = h
  by_round (Sent request i p) e h = h
  by_round (Unsent request) e h = h
  by_round (Heard by reply) e h = h
  by_round (Refused i refusal) e h = h
  by_round (End status) e h = record {
    going_on = h.going_on;
    follows = record {
      started = elim h.started [ inl all ↦ all | inr further ↦ absurd (let more = further.0 in omega (arith, more)) ];
      ends = h.ends;
      are = zip_by rules front front (λ i. told_free i [] front one) ms h.ends h.are;
      status_is = h.status_is;
    };
  }
  by_round (Round number binds workers) e h = absurd (cc)

  to_round : (n : Note) → MayFollow rules size ms (indexes_of ms) front n → GoesOn rules ms front its n
  to_round (Begun i) h = h
  to_round (Sent request i p) h = h
  to_round (Unsent request) h = h
  to_round (Heard by reply) h = h
  to_round (Refused i refusal) h = h
  to_round (End status) h = record {
    going_on = h.going_on;
    started = inl h.follows.started;
    ends = h.follows.ends;
    are = by_zip rules front front (λ i. told_free i [] front one) ms h.follows.ends h.follows.are;
    status_is = h.follows.status_is;
  }
  to_round (Round number binds workers) h = absurd h.follows

pub one_round_is_a_journal : OneRoundIsAJournal
one_round_is_a_journal rules size ms notes one = (
  (λ all k n at.
      let front = one_front notes k one in
      by_round rules size ms (take k notes) front n (one k n at) (subst (λ (g : Going). GoesOn rules ms (take k notes) g n) (free_all (first_round size ms) (take k notes) front) (all k n at))),
  (λ all k n at.
      let front = one_front notes k one in
      subst (λ (g : Going). GoesOn rules ms (take k notes) g n) (sym (free_all (first_round size ms) (take k notes) front)) (to_round rules size ms (take k notes) front n (all k n at))),
)

-- ---- no message is begun twice

-- the message was begun in the round that goes on, or the round wasn't given it
abbrev IsOver : ℕ → Going → Type 0
IsOver i g = (start_of g.notes i ≡ Some None) ⊎ (place_of g.given i ≡ None)

start_kept : (i : ℕ) (notes : List Note) (n : Note) → start_of notes i ≡ Some None → start_of (notes ++ n ∷ []) i ≡ Some None
start_kept i notes n h = first_snoc (start_in i) notes n ∙ ap (λ (o : Option (Option MessageRefusal)). or_else o (start_in i n)) h

not_left : (notes : List Note) (js : List ℕ) (i k : ℕ) → is_left notes i ≡ false → place_from k (left_after notes js) i ≡ None
not_left notes [] i k gone = refl
not_left notes (j ∷ js) i k gone = here (is_left notes j) refl (not_left notes js i (k + 1) gone) (not_left notes js i k gone)
  where
    here : (b : Bool) → is_left notes j ≡ b → place_from (k + 1) (left_after notes js) i ≡ None → place_from k (left_after notes js) i ≡ None → place_from k (if b then j ∷ left_after notes js else left_after notes js) i ≡ None
    here false e next same = same
    here true e next same = at (j == i) refl
      where
        at : (b : Bool) → (j == i) ≡ b → (if b then Some k else place_from (k + 1) (left_after notes js) i) ≡ None
        at false f = next
        at true f = absurd (let is : j ≡ i = eqb-true j i f in let left : is_left notes i ≡ true = ap (is_left notes) (sym is) ∙ e in cc)

not_given : (notes : List Note) (js : List ℕ) (i k l : ℕ) → place_from k js i ≡ None → place_from l (left_after notes js) i ≡ None
not_given notes [] i k l none = refl
not_given notes (j ∷ js) i k l none = here (j == i) refl none (λ rest from. not_given notes js i (k + 1) from rest)
  where
    here : (b : Bool) → (j == i) ≡ b → (if b then Some k else place_from (k + 1) js i) ≡ None → (place_from (k + 1) js i ≡ None → (from : ℕ) → place_from from (left_after notes js) i ≡ None)
        → place_from l (if is_left notes j then j ∷ left_after notes js else left_after notes js) i ≡ None
    here true e some more = absurd (cc)
    here false e rest more = by (is_left notes j) (more rest (l + 1)) (more rest l)
      where
        by : (b : Bool) → place_from (l + 1) (left_after notes js) i ≡ None → place_from l (left_after notes js) i ≡ None → place_from l (if b then j ∷ left_after notes js else left_after notes js) i ≡ None
        by true next same = ap (λ (c : Bool). if c then Some l else place_from (l + 1) (left_after notes js) i) e ∙ next
        by false next same = same

stays_over : (i : ℕ) (g : Going) (n : Note) → IsOver i g → IsOver i (going_by g n)
stays_over i g (Begun m) (inl begun) = inl (start_kept i g.notes (Begun m) begun)
stays_over i g (Begun m) (inr none) = inr none
stays_over i g (Sent request m p) (inl begun) = inl (start_kept i g.notes (Sent request m p) begun)
stays_over i g (Sent request m p) (inr none) = inr none
stays_over i g (Unsent request) (inl begun) = inl (start_kept i g.notes (Unsent request) begun)
stays_over i g (Unsent request) (inr none) = inr none
stays_over i g (Heard by reply) (inl begun) = inl (start_kept i g.notes (Heard by reply) begun)
stays_over i g (Heard by reply) (inr none) = inr none
stays_over i g (Refused m refusal) (inl begun) = inl (start_kept i g.notes (Refused m refusal) begun)
stays_over i g (Refused m refusal) (inr none) = inr none
stays_over i g (End status) (inl begun) = inl (start_kept i g.notes (End status) begun)
stays_over i g (End status) (inr none) = inr none
stays_over i g (Round number binds workers) (inl begun) = inr (not_left g.notes g.given i 0 (ap is_left_by begun))
stays_over i g (Round number binds workers) (inr none) = inr (not_given g.notes g.given i 0 0 none)

module _ (rules : Rules) (ms : List Message) where
  not_again : (i : ℕ) (before : List Note) (g : Going) → IsOver i g → GoesOn rules ms before g (Begun i) → ⊥
  not_again i before g (inl begun) h = let first = h.follows.0.first in absurd (cc)
  not_again i before g (inr none) h = let there = h.follows.0.there in absurd (cc)

  none_later : (i : ℕ) (ns before : List Note) (g : Going) → AllGoOn rules ms before g ns → IsOver i g → (k : ℕ) → slice_get ns k ≡ Some (Begun i) → ⊥
  none_later i [] before g all over k at = absurd (cc)
  none_later i (n ∷ ns) before g all over zero at = not_again i (before ++ []) g over (all 0 (Begun i) at)
  none_later i (n ∷ ns) before g all over (suc k) at = none_later i ns (before ++ n ∷ []) (going_by g n) (unshift rules ms before g n ns all) (stays_over i g n over) k at

  begun_over : (i : ℕ) (before : List Note) (g : Going) → GoesOn rules ms before g (Begun i) → IsOver i (going_by g (Begun i))
  begun_over i before g h =
      inl (first_snoc (start_in i) g.notes (Begun i) ∙ ap (λ (o : Option (Option MessageRefusal)). or_else o (start_in i (Begun i))) h.follows.0.first ∙ ap (λ (b : Bool). if b then Some None else None) (eq-eqb i i refl))

  never_twice : (i : ℕ) (ns before : List Note) (g : Going) → AllGoOn rules ms before g ns → (j k : ℕ) → j < k → slice_get ns j ≡ Some (Begun i) → slice_get ns k ≡ Some (Begun i) → ⊥
  never_twice i [] before g all j k low first second = absurd (cc)
  never_twice i (n ∷ ns) before g all j zero low first second = absurd (omega (arith, low))
  never_twice i (n ∷ ns) before g all zero (suc k) low first second =
      let same : n ≡ Begun i = cc in
      let over = subst (λ (m : Note). IsOver i (going_by g m)) (sym same) (begun_over i (before ++ []) g (all 0 (Begun i) first)) in
      none_later i ns (before ++ n ∷ []) (going_by g n) (unshift rules ms before g n ns all) over k second
  never_twice i (n ∷ ns) before g all (suc j) (suc k) low first second = never_twice i ns (before ++ n ∷ []) (going_by g n) (unshift rules ms before g n ns all) j k (omega (arith, low)) first second

pub none_is_begun_twice : NoneIsBegunTwice
none_is_begun_twice rules size ms notes j k i all first second = elim (least j k) [
  | inl same ↦ same
  | inr (inl low) ↦ absurd (never_twice rules ms i notes [] (first_round size ms) all j k low first second)
  | inr (inr low) ↦ absurd (never_twice rules ms i notes [] (first_round size ms) all k j low second first)
]
  where
    least : (a b : ℕ) → (a ≡ b) ⊎ ((a < b) ⊎ (b < a))
    least zero zero = inl refl
    least zero (suc b) = inr (inl (omega arith))
    least (suc a) zero = inr (inr (omega arith))
    least (suc a) (suc b) = elim (least a b) [ inl e ↦ inl (ap suc e) | inr (inl l) ↦ inr (inl (omega (arith, l))) | inr (inr l) ↦ inr (inr (omega (arith, l))) ]

-- ---- requests are of their round

-- the first of them begin no round
abbrev Free : List Note → ℕ → Type 0
Free ns k = (l : ℕ) (m : Note) → l < k → slice_get ns l ≡ Some m → round_in m ≡ None

free_more : (n : Note) (ns : List Note) (k : ℕ) → round_in n ≡ None → Free ns k → Free (n ∷ ns) (suc k)
free_more n ns k here rest zero m low at = let same : n ≡ m = cc in subst (λ (x : Note). round_in x ≡ None) same here
free_more n ns k here rest (suc l) m low at = rest l m (omega (arith, low)) at

begun_later : (n : Note) (ns : List Note) (i k : ℕ) → IsBegunBefore ns i k → IsBegunBefore (n ∷ ns) i (suc k)
begun_later n ns i k h = record { place = suc h.place; earlier = let low = h.earlier in omega (arith, low); there = h.there; one_round = λ l m. at l m }
  where
    at : (l : ℕ) (m : Note) → suc h.place < l → l < suc k → slice_get (n ∷ ns) l ≡ Some m → round_in m ≡ None
    at zero m low high e = absurd (omega (arith, low))
    at (suc l) m low high e = h.one_round l m (omega (arith, low)) (omega (arith, high)) e

begun_first : (n : Note) (ns : List Note) (i k : ℕ) → n ≡ Begun i → Free ns k → IsBegunBefore (n ∷ ns) i (suc k)
begun_first n ns i k is free = record { place = zero; earlier = omega arith; there = ap Some is; one_round = λ l m. at l m }
  where
    at : (l : ℕ) (m : Note) → 0 < l → l < suc k → slice_get (n ∷ ns) l ≡ Some m → round_in m ≡ None
    at zero m low high e = absurd (omega (arith, low))
    at (suc l) m low high e = free l m (omega (arith, high)) e

either : (o s : Option (Option MessageRefusal)) → or_else o s ≡ Some None → (o ≡ Some None) ⊎ (s ≡ Some None)
either None s e = inr e
either (Some x) s e = inl e

abbrev only : Bool → Option MessageRefusal → Option (Option MessageRefusal)
only b start = if b then Some start else None

begins : (i : ℕ) (n : Note) → start_in i n ≡ Some None → n ≡ Begun i
begins i (Begun m) e = at (m == i) refl e
  where
    at : (b : Bool) → (m == i) ≡ b → only b None ≡ Some None → Begun m ≡ Begun i
    at true f g = ap Begun (eqb-true m i f)
    at false f g = absurd (cc)
begins i (Sent request m p) e = absurd (cc)
begins i (Unsent request) e = absurd (cc)
begins i (Heard by reply) e = absurd (cc)
begins i (Refused m refusal) e = at (m == i) e
  where
    at : (b : Bool) → only b (Some refusal) ≡ Some None → Refused m refusal ≡ Begun i
    at true g = absurd (cc)
    at false g = absurd (cc)
begins i (End status) e = absurd (cc)
begins i (Round number binds workers) e = absurd (cc)

-- a note begins a round, of which nothing was noted, or is noted in the one that goes on
new_round : (g : Going) (n : Note) → ((going_by g n).notes ≡ []) ⊎ (round_in n ≡ None)
new_round g (Begun m) = inr refl
new_round g (Sent request m p) = inr refl
new_round g (Unsent request) = inr refl
new_round g (Heard by reply) = inr refl
new_round g (Refused m refusal) = inr refl
new_round g (End status) = inr refl
new_round g (Round number binds workers) = inl refl

module _ (rules : Rules) (ms : List Message) (i : ℕ) where
  abbrev IsBegunYet : Going → List Note → ℕ → Type 0
  IsBegunYet g ns k = ((start_of g.notes i ≡ Some None) × Free ns k) ⊎ IsBegunBefore ns i k

  one_earlier : (g : Going) (n : Note) (ns : List Note) (k : ℕ) → IsBegunYet (going_by g n) ns k → IsBegunYet g (n ∷ ns) (suc k)
  one_earlier g n ns k (inr h) = inr (begun_later n ns i k h)
  one_earlier g n ns k (inl h) = elim (new_round g n) [
    | inl empty ↦ absurd (let none : start_of (going_by g n).notes i ≡ None = ap (λ (l : List Note). start_of l i) empty in let some = h.0 in cc)
    | inr one ↦
        let noted_here : start_of (g.notes ++ n ∷ []) i ≡ Some None = sym (ap (λ (k : Going). start_of k.notes i) (free_step g n one)) ∙ h.0 in
        elim (either (start_of g.notes i) (start_in i n) (sym (first_snoc (start_in i) g.notes n) ∙ noted_here)) [
          | inl before ↦ inl (before, free_more n ns k one h.1)
          | inr here ↦ inr (begun_first n ns i k (begins i n here) h.1)
        ]
  ]

  begun_before : (ns before : List Note) (g : Going) → AllGoOn rules ms before g ns → (k p : ℕ) (request : RequestId) → slice_get ns k ≡ Some (Sent request i p) → IsBegunYet g ns k
  begun_before [] before g all k p request at = absurd (cc)
  begun_before (n ∷ ns) before g all zero p request at = inl ((all 0 (Sent request i p) at).follows.begun, (λ l m low. absurd (omega (arith, low))))
  begun_before (n ∷ ns) before g all (suc k) p request at = one_earlier g n ns k (begun_before ns (before ++ n ∷ []) (going_by g n) (unshift rules ms before g n ns all) k p request at)

pub requests_are_of_their_round : RequestsAreOfTheirRound
requests_are_of_their_round rules size ms notes k i p request all at = elim (begun_before rules ms i notes [] (first_round size ms) all k p request at) [
  | inl h ↦ absurd (let none = h.0 in cc)
  | inr h ↦ h
]
