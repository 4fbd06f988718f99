-- What is kept of the messages, where one part or one message changes.
use Rattle.std.proofs.Common.{◌≡◌, ℕ, zero, suc, ◌<◌, ◌≤◌, List, [], ◌∷◌, ◌++◌, length, map, Some, None, inl, inr, refl, sym, ap, ◌∙◌, arith}
use Rattle.std.specs.Prelude.{◌≢◌, ◌⊎◌, Option, option_map, option_and_then, slice_get, slice_set, nat_le, ◌-◌, true, false, if◌then◌else◌}
use mathlib.Core.Logic.{dite}
use native.Mathlib.Decide.{ℕ_discrete}
use Rattle.std.proofs.lemmas.Option.{slice_get-map}
use Rattle.sms_alphabet.specs.declared.coded.Coded.{Coded}
use Rattle.sms_segment.specs.declared.part.Part.{Part}
use Rattle.sms_segment.specs.declared.place.Reference.{Reference}
use Rattle.sms_segment.specs.Laws.{PartsTellTooLong}
use Rattle.sms_segment.specs.Message.{IsTooLong, parts_of, whole}
use Rattle.sms_message.specs.declared.message.Message.{Message}
use Rattle.sms_message.specs.declared.rules.Rules.{Rules}
use Rattle.sms_worker.specs.declared.state.open.SegmentPlace.{SegmentPlace}
use Rattle.sms_worker.specs.declared.state.pending.PendingPart.{PendingPart}
use Rattle.sms_worker.specs.declared.state.pending.Link.{Link}
use Rattle.sms_worker.specs.PendingState.{AreUnlinked, PendingState, data_in, changed, pending_at, no_pending, relinked, settled_one, pending_of, with_link}
use Rattle.sms_worker.specs.Told.{ArePending}
use Rattle.sms_message.specs.UserData.{message_data, user_data}

module _ {X : Type 0} (f : X → X) where
  pub set_changed : (xs : List X) (n : ℕ) (x y : X) → slice_get xs n ≡ Some x → y ≡ f x → slice_set xs n y ≡ changed f xs n
  set_changed [] n x y at e = refl
  set_changed (z ∷ xs) zero x y at e = let same : z ≡ x = cc in ap (λ w. w ∷ xs) (e ∙ ap f (sym same))
  set_changed (z ∷ xs) (suc n) x y at e = ap (λ l. z ∷ l) (set_changed xs n x y at e)

  pub changed_past : (xs : List X) (n : ℕ) → length xs ≤ n → changed f xs n ≡ xs
  changed_past [] n low = refl
  changed_past (z ∷ xs) zero low = absurd (omega arith)
  changed_past (z ∷ xs) (suc n) low = ap (λ l. z ∷ l) (changed_past xs n (omega arith))

  pub changed_here : (xs : List X) (n : ℕ) → slice_get (changed f xs n) n ≡ option_map f (slice_get xs n)
  changed_here [] n = refl
  changed_here (z ∷ xs) zero = refl
  changed_here (z ∷ xs) (suc n) = changed_here xs n

  pub changed_there : (xs : List X) (n m : ℕ) → m ≢ n → slice_get (changed f xs n) m ≡ slice_get xs m
  changed_there [] n m other = refl
  changed_there (z ∷ xs) zero zero other = absurd (other refl)
  changed_there (z ∷ xs) zero (suc m) other = refl
  changed_there (z ∷ xs) (suc n) zero other = refl
  changed_there (z ∷ xs) (suc n) (suc m) other = changed_there xs n m (λ e. other (ap suc e))

  pub length-mapped : {Y : Type 0} (g : X → Y) (xs : List X) (n : ℕ) → length (map g (changed f xs n)) ≡ length (map g xs)
  length-mapped g [] n = refl
  length-mapped g (z ∷ xs) zero = refl
  length-mapped g (z ∷ xs) (suc n) = ap suc (length-mapped g xs n)

  -- what it doesn't change
  pub changed_map : {Y : Type 0} (g : X → Y) → ((x : X) → g (f x) ≡ g x) → (xs : List X) (n : ℕ) → map g (changed f xs n) ≡ map g xs
  changed_map g same [] n = refl
  changed_map g same (z ∷ xs) zero = ap (λ y. y ∷ map g xs) (same z)
  changed_map g same (z ∷ xs) (suc n) = ap (λ l. g z ∷ l) (changed_map g same xs n)

pub map_more : {X Y : Type 0} (g : X → Y) (xs : List X) (x : X) → map g (xs ++ x ∷ []) ≡ map g xs ++ g x ∷ []
map_more g [] x = refl
map_more g (z ∷ xs) x = ap (λ l. g z ∷ l) (map_more g xs x)

-- what the parts carry
pub data_of : (parts : List Part) → data_in (pending_of parts) ≡ map user_data parts
data_of [] = refl
data_of (part ∷ parts) = ap (λ l. user_data part ∷ l) (data_of parts)

-- and none of them is linked
pub unlinked_of : (parts : List Part) → AreUnlinked (pending_of parts)
unlinked_of [] q = refl
unlinked_of (part ∷ parts) zero = refl
unlinked_of (part ∷ parts) (suc q) = unlinked_of parts q

-- a header can count one part
pub one_is_short : (text : Coded) (reference : Reference) → PartsTellTooLong → parts_of text reference ≡ whole text ∷ [] → ¬ IsTooLong text reference
one_is_short text reference tell one long =
    let more : 255 < length (parts_of text reference) = (tell text reference).0 long in
    let few = ap length one in
    absurd (omega arith)

pub data_linked : (part : ℕ) (link : Link) (pending : PendingState) → data_in (with_link part link pending) ≡ data_in pending
data_linked part link pending = changed_map (λ (kept : PendingPart). record kept { link = link }) (λ (kept : PendingPart). kept.user_data) (λ kept. refl) pending.parts part

pub data_relinked : (pending : List PendingState) (place : SegmentPlace) (link : Link) → map data_in (relinked pending place link) ≡ map data_in pending
data_relinked pending place link = changed_map (with_link place.part link) data_in (data_linked place.part link) pending place.message

data_settled : (pending : PendingState) → (data_in (settled_one pending) ≡ data_in pending) ⊎ (data_in (settled_one pending) ≡ [])
data_settled pending = elim (nat_le pending.unsettled 1) as (λ b. (data_in (if b then no_pending else record pending { unsettled = pending.unsettled - 1 }) ≡ data_in pending) ⊎ (data_in (if b then no_pending else record pending { unsettled = pending.unsettled - 1 }) ≡ [])) [
  | true ↦ inr refl
  | false ↦ inl refl
]

-- a message more that is settled leaves its parts or gives them back
pub pending_settled : (rules : Rules) (ms : List Message) (xs : List PendingState) (k : ℕ) → ArePending rules ms (map data_in xs) → ArePending rules ms (map data_in (changed settled_one xs k))
pending_settled rules ms xs k all j m ps there at = dite (ℕ_discrete j k) (λ here. at_settled here) (λ other. all j m ps there (slice_get-map data_in xs j ∙ ap (option_map data_in) (sym (changed_there settled_one xs k j other)) ∙ sym (slice_get-map data_in (changed settled_one xs k) j) ∙ at))
  where
    old : (o : Option PendingState) → slice_get xs j ≡ o → option_map (λ t. data_in (settled_one t)) o ≡ Some ps → (ps ≡ []) ⊎ (ps ≡ message_data rules m)
    old None is e = absurd (cc)
    old (Some t) is e =
        let now : data_in (settled_one t) ≡ ps = cc in
        elim (data_settled t) [
          | inl same ↦ all j m ps there (slice_get-map data_in xs j ∙ ap (option_map data_in) is ∙ ap Some (sym same ∙ now))
          | inr none_left ↦ inl (sym now ∙ none_left)
        ]

    twice : (o : Option PendingState) → option_map data_in (option_map settled_one o) ≡ option_map (λ t. data_in (settled_one t)) o
    twice None = refl
    twice (Some t) = refl

    at_settled : j ≡ k → (ps ≡ []) ⊎ (ps ≡ message_data rules m)
    at_settled here =
        let there_now : slice_get (changed settled_one xs k) j ≡ option_map settled_one (slice_get xs j) = ap (λ n. slice_get (changed settled_one xs n) j) (sym here) ∙ changed_here settled_one xs j in
        old (slice_get xs j) refl (sym (twice (slice_get xs j)) ∙ ap (option_map data_in) (sym there_now) ∙ sym (slice_get-map data_in (changed settled_one xs k) j) ∙ at)

-- where one part gets another link

linked_there : (o : Option PendingState) (part other : ℕ) (link : Link) → other ≢ part → option_and_then (λ (t : PendingState). slice_get t.parts other) (option_map (with_link part link) o) ≡ option_and_then (λ (t : PendingState). slice_get t.parts other) o
linked_there None part other link apart = refl
linked_there (Some t) part other link apart = changed_there (λ (kept : PendingPart). record kept { link = link }) t.parts part other apart

linked_here : (o : Option PendingState) (part : ℕ) (link : Link) → option_and_then (λ (t : PendingState). slice_get t.parts part) (option_map (with_link part link) o) ≡ option_map (λ (kept : PendingPart). record kept { link = link }) (option_and_then (λ (t : PendingState). slice_get t.parts part) o)
linked_here None part link = refl
linked_here (Some t) part link = changed_here (λ (kept : PendingPart). record kept { link = link }) t.parts part

pub kept_here : (pending : List PendingState) (place : SegmentPlace) (link : Link) → pending_at (relinked pending place link) place ≡ option_map (λ (kept : PendingPart). record kept { link = link }) (pending_at pending place)
kept_here pending place link = ap (option_and_then (λ (t : PendingState). slice_get t.parts place.part)) (changed_here (with_link place.part link) pending place.message) ∙ linked_here (slice_get pending place.message) place.part link

pub kept_there : (pending : List PendingState) (place q : SegmentPlace) (link : Link) → q ≢ place → pending_at (relinked pending place link) q ≡ pending_at pending q
kept_there pending place q link other = dite (ℕ_discrete q.message place.message)
    (λ same.
    let part : q.part ≢ place.part = λ e. other (λ i. record { message = same i; part = e i }) in
    let now : slice_get (changed (with_link place.part link) pending place.message) q.message ≡ option_map (with_link place.part link) (slice_get pending q.message) = ap (λ n. slice_get (changed (with_link place.part link) pending n) q.message) (sym same) ∙ changed_here (with_link place.part link) pending q.message in
    ap (option_and_then (λ (t : PendingState). slice_get t.parts q.part)) now ∙ linked_there (slice_get pending q.message) place.part q.part link part)
    (λ apart. ap (option_and_then (λ (t : PendingState). slice_get t.parts q.part)) (changed_there (with_link place.part link) pending place.message q.message apart))
