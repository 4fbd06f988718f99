-- The requests for a message say all of its attempts.
use Rattle.std.proofs.Common.{◌≡◌, ℕ, ◌+◌, ◌<◌, List, [], ◌∷◌, ◌++◌, length, take, get_or, Some, None, refl, sym, ap, ◌∙◌, Bool, true, false}
use Rattle.std.specs.Prelude.{Option, flat_map, if◌then◌else◌, ◌==◌, ◌&&◌}
use Rattle.std.specs.Option.{is_some}
use Rattle.std.proofs.lemmas.Bool.{eqb-true}
use Rattle.std.proofs.lemmas.Grind.{flat_map-append}
use Rattle.std.proofs.lemmas.List.{append-nil, append_assoc}
use Rattle.std.proofs.lemmas.Option.{get_or_from_slice_get, slice_get-get_or}
use Rattle.sms_journal.specs.declared.notes.note.Note.{Note}
use Rattle.sms_journal.specs.declared.notes.note.Note.TheVariants.{Begun, Sent, Unsent, Heard, Refused, End, Round}
use Rattle.sms_journal.specs.declared.notes.grouping.PartRequest.{PartRequest}
use Rattle.sms_journal.specs.Recovered.{attempts_with, fate_of, attempts_in, listed}
use Rattle.sms_journal.specs.Index.{attempts_by, request_about, requests_about}
use Rattle.sms_journal.proofs.Lists.{flat_more}

by_one : (notes : List Note) (m p : ℕ) (n : Note) → flat_map (attempts_by notes p) (request_about m n) ≡ attempts_in notes m p n
by_one notes m p (Begun i) = refl
by_one notes m p (Sent request i q) = here (i == m)
  where
    here : (b : Bool) → flat_map (attempts_by notes p) (if b then record { request = request; part = q } ∷ [] else []) ≡ (if b && (q == p) then attempts_with request.number (fate_of notes request.worker request.number) else [])
    here true = append-nil (attempts_by notes p (record { request = request; part = q }))
    here false = refl
by_one notes m p (Unsent request) = refl
by_one notes m p (Heard worker reply) = refl
by_one notes m p (Refused i refusal) = refl
by_one notes m p (End status) = refl
by_one notes m p (Round number binds workers) = refl

pub attempts_about : (notes : List Note) (m p : ℕ) (ns : List Note) → flat_map (attempts_by notes p) (requests_about ns m) ≡ flat_map (attempts_in notes m p) ns
attempts_about notes m p [] = refl
attempts_about notes m p (n ∷ ns) = flat_map-append (attempts_by notes p) (request_about m n) (requests_about ns m) ∙ (λ i. by_one notes m p n i ++ attempts_about notes m p ns i)

-- the attempts by the requests so far, with those by one more
pub attempts_more : {A : Type 0} (f : PartRequest → List A) (sent : List PartRequest) (i : ℕ) (d : PartRequest) (first old new : List A) → i < length sent → new ≡ old ++ f (get_or sent i d) → old ≡ first ++ flat_map f (take i sent)
    → new ≡ first ++ flat_map f (take (i + 1) sent)
attempts_more f sent i d first old new low is before =
    let x = get_or sent i d in
    let there = get_or_from_slice_get sent i x x (slice_get-get_or sent i d low) in
    is ∙ ap (λ l. l ++ f x) before ∙ append_assoc first (flat_map f (take i sent)) (f x) ∙ ap (λ l. first ++ l) (sym (flat_more f sent i x low (sym there)))

-- ---- a request more

-- behind others
pub other_more : (first : Option PartRequest) (old new more : List PartRequest) → new ≡ old ++ more → listed first ++ new ≡ (listed first ++ old) ++ more
other_more first old new more is = ap (λ l. listed first ++ l) is ∙ sym (append_assoc (listed first) old more)

pub others_stay : (key q : ℕ) (first : ℕ → Option PartRequest) (old new : List PartRequest) (r : PartRequest) → is_some (first key) ≡ true → (first q ≡ None → old ≡ []) → new ≡ old ++ (if key == q then r ∷ [] else []) → first q ≡ None → new ≡ []
others_stay key q first old new r some turn is none = here (key == q) refl is
  where
    here : (b : Bool) → (key == q) ≡ b → new ≡ old ++ (if b then r ∷ [] else []) → new ≡ []
    here true e is =
        let empty : is_some (first key) ≡ false = ap (λ k. is_some (first k)) (eqb-true key q e) ∙ ap is_some none in
        absurd (cc)
    here false e is = is ∙ append-nil old ∙ turn none

-- the first
pub first_more : (key q : ℕ) (old : ℕ → Option PartRequest) (new : Option PartRequest) (others : List PartRequest) (r : PartRequest) → is_some (old key) ≡ false → (old q ≡ None → others ≡ []) → new ≡ (if key == q then Some r else old q)
    → listed new ++ others ≡ (listed (old q) ++ others) ++ (if key == q then r ∷ [] else [])
first_more key q old new others r empty turn is = here (key == q) refl is
  where
    none_of : (o : Option PartRequest) → is_some o ≡ false → o ≡ None
    none_of None e = refl
    none_of (Some x) e = absurd (cc)

    alone : old q ≡ None → r ∷ others ≡ (listed (old q) ++ others) ++ r ∷ []
    alone none = ap (λ l. r ∷ l) (turn none) ∙ sym ((λ i. (listed (none i) ++ turn none i) ++ r ∷ []))

    here : (b : Bool) → (key == q) ≡ b → new ≡ (if b then Some r else old q) → listed new ++ others ≡ (listed (old q) ++ others) ++ (if b then r ∷ [] else [])
    here true e is = ap (λ o. listed o ++ others) is ∙ alone (none_of (old q) (ap (λ k. is_some (old k)) (sym (eqb-true key q e)) ∙ empty))
    here false e is = ap (λ o. listed o ++ others) is ∙ sym (append-nil (listed (old q) ++ others))

pub first_stays : (key q : ℕ) (old new : Option PartRequest) (others : List PartRequest) (r : PartRequest) → (old ≡ None → others ≡ []) → new ≡ (if key == q then Some r else old) → new ≡ None → others ≡ []
first_stays key q old new others r turn is none = here (key == q) is
  where
    here : (b : Bool) → new ≡ (if b then Some r else old) → others ≡ []
    here true is = let no : Some r ≡ None = sym is ∙ none in absurd (cc)
    here false is = turn (sym is ∙ none)
