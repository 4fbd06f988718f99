-- What is found of messages and requests among what is kept.
use Rattle.std.proofs.Common.{◌≡◌, ℕ, ◌+◌, ◌-◌, ◌<◌, List, [], ◌∷◌, ◌++◌, length, Some, None, inl, inr, refl, sym, ap, ◌∙◌, subst, Bool, true, false, take, get_or, arith}
use Rattle.std.specs.Prelude.{Option, IfSome, IsNone, IsSome, slice_get, if◌then◌else◌, ◌==◌}
use Rattle.std.proofs.lemmas.Option.{get_or_from_slice_get}
use Rattle.sms_message.specs.declared.message.Message.{Message}
use Rattle.sms_message.specs.declared.rules.Rules.{Rules}
use Rattle.sms_journal.specs.declared.notes.note.RequestId.{RequestId}
use Rattle.sms_journal.specs.declared.notes.note.Note.{Note}
use Rattle.sms_journal.specs.Recovered.{or_else, fate_of, start_of}
use Rattle.sms_journal.specs.DenseMap.{value_at}
use Rattle.sms_journal.specs.RunSize.{IsDealt, all_workers}
use Rattle.sms_journal.specs.declared.notes.run_size.RunSize.{RunSize}
use Rattle.sms_journal.specs.declared.notes.seen.Seen.{Seen}
use Rattle.sms_journal.specs.declared.notes.seen.Tries.{Tries}
use Rattle.sms_journal.specs.Lawful.{HasParts, HasTurn, IsDealtTo, IsRetried, MayTry, message_of, place_from, place_of, requests_of, with_index}
use Rattle.sms_journal.specs.Seen.{AreTries, IsCounted, IsPlace, Sees}
use Rattle.sms_journal.proofs.Firsts.{first_snoc}
use Rattle.sms_journal.proofs.Lists.{got_before, got_last, length_front, take_snoc}

-- ---- places of messages

pub at_place : (ms : List Message) (i : ℕ) (o : Option ℕ) (k : ℕ) (m : Message) → IsPlace ms i o → o ≡ Some k → m ≡ get_or ms k m → message_of ms i ≡ Some m
at_place ms i None k m here e is = absurd (cc)
at_place ms i (Some j) k m here e is =
    let same : j ≡ k = cc in
    let at : slice_get ms k ≡ Some here.0 = ap (slice_get ms) (sym same) ∙ here.1 in
    here.2 ∙ ap Some (sym (is ∙ get_or_from_slice_get ms k here.0 m at))

-- one more message
pub place_snoc : (ms : List Message) (m : Message) (i : ℕ) (o : Option ℕ) → IsPlace ms i o → IsPlace (ms ++ m ∷ []) i (or_else o (if m.index == i then Some (length ms) else None))
place_snoc ms m i (Some k) h = (h.0, got_before ms m k h.0 h.1, first_snoc (with_index i) ms m ∙ ap (λ f. or_else f (with_index i m)) h.2)
place_snoc ms m i None h = here (m.index == i) refl
  where
    before : message_of (ms ++ m ∷ []) i ≡ with_index i m
    before = first_snoc (with_index i) ms m ∙ ap (λ f. or_else f (with_index i m)) h

    here : (b : Bool) → (m.index == i) ≡ b → IsPlace (ms ++ m ∷ []) i (if b then Some (length ms) else None)
    here true e = (m, got_last ms m, before ∙ ap (λ b. if b then Some m else None) e)
    here false e = before ∙ ap (λ b. if b then Some m else None) e

-- ---- requests

-- a part that was sent may be sent again where it is left, and its latest request was answered by a retry status
pub again_tries : (rules : Rules) (notes : List Note) (m p : ℕ) (o : Option Tries) (tries : Tries) → AreTries rules notes m p o → o ≡ Some tries → 0 < tries.left → IsRetried (fate_of notes tries.last.worker tries.last.number) → MayTry rules notes m p
again_tries rules notes m p None tries h e some retried = absurd (cc)
again_tries rules notes m p (Some kept) tries h e some retried =
    let same : tries ≡ kept = cc in
    let left : 0 < kept.left = subst (λ (t : Tries). 0 < t.left) same some in
    let is : kept.left ≡ rules.policy.attempts - length (requests_of notes m p) = h.1 in
    record {
      few = omega (arith, left, is);
      retried = λ k other there. elim (h.0.others k other there) [
        | inl is ↦ subst (λ (c : RequestId). IsRetried (fate_of notes c.worker c.number)) (ap (λ (t : Tries). t.last) same ∙ sym is) retried
        | inr done ↦ done
      ];
    }

pub tries_again : (rules : Rules) (notes : List Note) (m p : ℕ) (o : Option Tries) (tries : Tries) → AreTries rules notes m p o → o ≡ Some tries → MayTry rules notes m p
    → (0 < tries.left) × IsRetried (fate_of notes tries.last.worker tries.last.number)
tries_again rules notes m p None tries h e may = absurd (cc)
tries_again rules notes m p (Some kept) tries h e may =
    let same : kept ≡ tries = cc in
    let few : length (requests_of notes m p) < rules.policy.attempts = may.few in
    let is : kept.left ≡ rules.policy.attempts - length (requests_of notes m p) = h.1 in
    let left : 0 < kept.left = omega (arith, few, is) in
    (subst (λ (t : Tries). 0 < t.left) same left, subst (λ (t : Tries). IsRetried (fate_of notes t.last.worker t.last.number)) same (may.retried h.0.place kept.last h.0.there))

-- and one that was not sent may be sent where the rules allow any attempt
pub first_try : (rules : Rules) (notes : List Note) (m p : ℕ) (o : Option Tries) → AreTries rules notes m p o → o ≡ None → 0 < rules.policy.attempts → MayTry rules notes m p
first_try rules notes m p None h e some = record { few = subst (λ (l : List RequestId). length l < rules.policy.attempts) (sym h.none) some; retried = λ k request there. absurd (h.nowhere k request there) }
first_try rules notes m p (Some kept) h e some = absurd (cc)

pub some_tries : (rules : Rules) (notes : List Note) (m p : ℕ) → MayTry rules notes m p → 0 < rules.policy.attempts
some_tries rules notes m p may = let few : length (requests_of notes m p) < rules.policy.attempts = may.few in omega (arith, few)

-- ---- turns

pub no_turn : (size : RunSize) (given : List ℕ) (notes : List Note) (i : ℕ) → place_of given i ≡ None → HasTurn size given notes i → ⊥
no_turn size given notes i none turn = let is = turn.there in absurd (cc)

-- the first message that a worker was dealt waits for none
pub first_turn : (size : RunSize) (given : List ℕ) (notes : List Note) (i at : ℕ) → start_of notes i ≡ None → place_of given i ≡ Some at → at < all_workers size → HasTurn size given notes i
first_turn size given notes i at first there low = record { place = at; there = there; first = first; next = λ before j is got. absurd (omega (arith, low, is)) }

pub no_other : (size : RunSize) (given : List ℕ) (notes : List Note) (i at before : ℕ) → start_of notes i ≡ None → place_of given i ≡ Some at → before + all_workers size ≡ at → slice_get given before ≡ None → HasTurn size given notes i
no_other size given notes i at before first there is nothing = record {
  place = at;
  there = there;
  first = first;
  next = λ other j e got. let same : other ≡ before = omega (arith, is, e) in let none : slice_get given other ≡ None = ap (slice_get given) same ∙ nothing in absurd (cc);
}

pub some_turn : (rules : Rules) (size : RunSize) (ms : List Message) (given : List ℕ) (notes : List Note) (seen : Seen) (i at before j : ℕ) → Sees rules size ms notes seen → start_of notes i ≡ None → place_of given i ≡ Some at
    → before + all_workers size ≡ at → slice_get given before ≡ Some j → IsSome (value_at seen.starts j) → HasTurn size given notes i
some_turn rules size ms given notes seen i at before j sees first there is got some = record {
  place = at;
  there = there;
  first = first;
  next = λ other k e found.
      let same : other ≡ before = omega (arith, is, e) in
      let here : slice_get given before ≡ Some k = ap (slice_get given) (sym same) ∙ found in
      let one : j ≡ k = cc in
      subst (λ (l : ℕ). IsSome (start_of notes l)) one (subst IsSome (sees.starts j) some);
}

pub turn_some : (rules : Rules) (size : RunSize) (ms : List Message) (given : List ℕ) (notes : List Note) (seen : Seen) (i at before j : ℕ) → Sees rules size ms notes seen → place_of given i ≡ Some at
    → before + all_workers size ≡ at → slice_get given before ≡ Some j → HasTurn size given notes i → IsSome (value_at seen.starts j)
turn_some rules size ms given notes seen i at before j sees there is got turn =
    let here = turn.there in
    let same : at ≡ turn.place = cc in
    subst IsSome (sym (sees.starts j)) (turn.next before j (is ∙ same) got)

-- ---- workers

pub no_place : (size : RunSize) (given : List ℕ) (i worker : ℕ) → place_of given i ≡ None → IsDealtTo size given i worker → ⊥
no_place size given i worker none h = let is = h.there in absurd (cc)

pub dealt_there : (size : RunSize) (given : List ℕ) (i worker at : ℕ) → place_of given i ≡ Some at → IsDealtTo size given i worker → IsDealt size at worker
dealt_there size given i worker at here h = let is = h.there in let same : h.place ≡ at = cc in subst (λ (k : ℕ). IsDealt size k worker) same h.its

-- one more index stands behind the others
order_from : (k : ℕ) (js : List ℕ) (j i : ℕ) → place_from k (js ++ j ∷ []) i ≡ or_else (place_from k js i) (if j == i then Some (k + length js) else None)
order_from k [] j i = here (j == i)
  where
    here : (b : Bool) → (if b then Some k else None) ≡ (if b then Some (k + 0) else None)
    here true = ap Some (omega arith)
    here false = refl
order_from k (x ∷ js) j i = here (x == i) (order_from (k + 1) js j i)
  where
    long : (k + 1) + length js ≡ k + length (x ∷ js)
    long = omega arith

    here : (b : Bool) → place_from (k + 1) (js ++ j ∷ []) i ≡ or_else (place_from (k + 1) js i) (if j == i then Some ((k + 1) + length js) else None)
        → (if b then Some k else place_from (k + 1) (js ++ j ∷ []) i) ≡ or_else (if b then Some k else place_from (k + 1) js i) (if j == i then Some (k + length (x ∷ js)) else None)
    here true h = refl
    here false h = h ∙ ap (λ (n : ℕ). or_else (place_from (k + 1) js i) (if j == i then Some n else None)) long

pub order_more : (js : List ℕ) (k j i : ℕ) (o : Option ℕ) → slice_get js k ≡ Some j → o ≡ place_of (take k js) i → or_else o (if j == i then Some k else None) ≡ place_of (take (k + 1) js) i
order_more js k j i o there h =
    let long = length_front js k j there in
    let count : 0 + length (take k js) ≡ k = omega (arith, long) in
    let split : place_of (take (k + 1) js) i ≡ place_of (take k js ++ j ∷ []) i = ap (λ (l : List ℕ). place_of l i) (take_snoc js k j there) in
    let more : place_of (take k js ++ j ∷ []) i ≡ or_else (place_of (take k js) i) (if j == i then Some (0 + length (take k js)) else None) = order_from 0 (take k js) j i in
    let same : or_else (place_of (take k js) i) (if j == i then Some (0 + length (take k js)) else None) ≡ or_else (place_of (take k js) i) (if j == i then Some k else None) =
    ap (λ (n : ℕ). or_else (place_of (take k js) i) (if j == i then Some n else None)) count in
    ap (λ (p : Option ℕ). or_else p (if j == i then Some k else None)) h ∙ sym (split ∙ more ∙ same)

-- ---- counts

pub counted : (rules : Rules) (size : RunSize) (ms : List Message) (i : ℕ) (o : Option ℕ) (count : ℕ) → IsCounted rules size ms i o → o ≡ Some count → HasParts rules size ms i count
counted rules size ms i None count h e = absurd h
counted rules size ms i (Some k) count h e = let same : k ≡ count = cc in subst (HasParts rules size ms i) same h

-- ---- one more

pub place_more : (ms : List Message) (k : ℕ) (m : Message) (i : ℕ) (o : Option ℕ) → slice_get ms k ≡ Some m → IsPlace (take k ms) i o → IsPlace (take (k + 1) ms) i (or_else o (if m.index == i then Some k else None))
place_more ms k m i o there h =
    subst (λ (l : List Message). IsPlace l i (or_else o (if m.index == i then Some k else None))) (sym (take_snoc ms k m there))
    (subst (λ (j : ℕ). IsPlace (take k ms ++ m ∷ []) i (or_else o (if m.index == i then Some j else None))) (length_front ms k m there) (place_snoc (take k ms) m i o h))

pub when_yes : {P : Type 0} (b : Bool) (o : Option ℕ) → o ≡ (if b then Some 0 else None) → (b ≡ true → P) → IfSome o (λ (count : ℕ). P)
when_yes true None e h = absurd (cc)
when_yes true (Some x) e h = h refl
when_yes false None e h = tt
when_yes false (Some x) e h = absurd (cc)

pub when_no : (b : Bool) (o : Option ℕ) → o ≡ (if b then Some 0 else None) → IsNone o → b ≡ true → ⊥
when_no true None e none holds = absurd (cc)
when_no true (Some x) e none holds = absurd (cc)
when_no false o e none holds = absurd (cc)
