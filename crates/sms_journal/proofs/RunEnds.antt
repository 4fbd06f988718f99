-- The ends of messages over the rounds of a run.
use Rattle.std.proofs.Common.{◌≡◌, ℕ, zero, suc, ◌+◌, ◌-◌, ◌<◌, ◌≤◌, Bool, true, false, List, [], ◌∷◌, ◌++◌, length, take, drop, Some, None, inl, inr, refl, sym, ap, ◌∙◌, subst, append_assoc, get_or, add-one, arith}
use Rattle.std.specs.Prelude.{Option, ◌≢◌, ◌⊎◌, slice_get, slice_set, if◌then◌else◌}
use Rattle.std.specs.List.{AllZip}
use Rattle.std.proofs.lemmas.List.{take-append-drop}
use Rattle.std.proofs.lemmas.Option.{slice_get_within}
use Rattle.sms_message.specs.declared.message.Message.{Message}
use Rattle.sms_message.specs.declared.rules.Rules.{Rules}
use Rattle.sms_message.specs.declared.ends.MessageEnd.{MessageEnd}
use Rattle.sms_message.specs.declared.ends.MessageRefusal.{MessageRefusal}
use Rattle.sms_message.specs.declared.ends.MessageResult.{MessageResult}
use Rattle.sms_message.specs.declared.ends.MessageResult.TheVariants as ends
use Rattle.sms_journal.specs.declared.notes.note.Note.{Note}
use Rattle.sms_journal.specs.declared.notes.note.Note.TheVariants.{Begun, Sent, Unsent, Heard, Refused, End, Round}
use Rattle.sms_journal.specs.Going.{AreEndsAt, AreOfOneRound, IsRoundEnd, between, over}
use Rattle.sms_journal.specs.Left.{is_left as is_left_result, is_passing}
use Rattle.sms_journal.specs.Recovered.{IsRecoveredEnd, IsRecoveredRefusal, IsRecoveredResult, start_of}
use Rattle.sms_journal.specs.Rounds.{IsRunEnd, is_left, is_left_by, round_in, told_by, told_from}
use Rattle.sms_files.proofs.Lists.{take_whole}
use Rattle.sms_journal.proofs.Lists.{take_snoc}
use Rattle.sms_journal.proofs.RoundLaws.{told_free}
use Rattle.sms_journal.proofs.Rounds.{got_of_take, none_between, whole_between}

-- ---- ends that are put in the place of others

module _ (ls : List (MessageEnd (Unit {0}))) (l : MessageEnd (Unit {0})) where
  put : (es : List (MessageEnd (Unit {0}))) (k : ℕ) (e : MessageEnd (Unit {0})) → k < length es → e ≡ get_or es k e → is_left_result e.result ≡ true
      → take (suc k) (slice_set es k l) ++ over (drop (suc k) (slice_set es k l)) ls ≡ take k es ++ over (drop k es) (l ∷ ls)
  put [] k e low is left = absurd (omega arith)
  put (x ∷ es) zero e low is left =
      let left : is_left_result x.result ≡ true = subst (λ (y : MessageEnd (Unit {0})). is_left_result y.result ≡ true) is left in
      ap (λ (b : Bool). (if b then l else x) ∷ over es ls) (sym left)
  put (x ∷ es) (suc k) e low is left = ap (λ (t : List (MessageEnd (Unit {0}))). x ∷ t) (put es k e (omega arith) is left)

  kept : (es : List (MessageEnd (Unit {0}))) (k : ℕ) (e : MessageEnd (Unit {0})) → k < length es → e ≡ get_or es k e → is_left_result e.result ≡ false
      → take (suc k) es ++ over (drop (suc k) es) ls ≡ take k es ++ over (drop k es) (l ∷ ls)
  kept [] k e low is not = absurd (omega arith)
  kept (x ∷ es) zero e low is not =
      let not : is_left_result x.result ≡ false = subst (λ (y : MessageEnd (Unit {0})). is_left_result y.result ≡ false) is not in
      ap (λ (b : Bool). (if b then l else x) ∷ over es ls) (sym not)
  kept (x ∷ es) (suc k) e low is not = ap (λ (t : List (MessageEnd (Unit {0}))). x ∷ t) (kept es k e (omega arith) is not)

got : (es : List (MessageEnd (Unit {0}))) (k : ℕ) (e : MessageEnd (Unit {0})) → slice_get es k ≡ Some e → (k < length es) × (e ≡ get_or es k e)
got [] k e at = absurd (cc)
got (x ∷ es) zero e at = let same : x ≡ e = cc in (omega arith, sym same)
got (x ∷ es) (suc k) e at = let g = got es k e at in let low = g.0 in (omega (arith, low), g.1)

pub end_put : (es more later rest : List (MessageEnd (Unit {0}))) (k : ℕ) (e l : MessageEnd (Unit {0})) → slice_get es k ≡ Some e → is_left_result e.result ≡ true → more ≡ slice_set es k l → later ≡ l ∷ rest
    → take (k + 1) more ++ over (drop (k + 1) more) rest ≡ take k es ++ over (drop k es) later
end_put es more later rest k e l there left puts takes =
    let g = got es k e there in
    rw add-one
    (ap (λ (m : List (MessageEnd (Unit {0}))). take (suc k) m ++ over (drop (suc k) m) rest) puts ∙ put rest l es k e g.0 g.1 left
    ∙ ap (λ (m : List (MessageEnd (Unit {0}))). take k es ++ over (drop k es) m) (sym takes))

pub end_kept : (es later rest : List (MessageEnd (Unit {0}))) (k : ℕ) (e l : MessageEnd (Unit {0})) → slice_get es k ≡ Some e → is_left_result e.result ≡ false → later ≡ l ∷ rest
    → take (k + 1) es ++ over (drop (k + 1) es) rest ≡ take k es ++ over (drop k es) later
end_kept es later rest k e l there not takes =
    let g = got es k e there in
    rw add-one (kept rest l es k e g.0 g.1 not ∙ ap (λ (m : List (MessageEnd (Unit {0}))). take k es ++ over (drop k es) m) (sym takes))

none_over : (es : List (MessageEnd (Unit {0}))) → over es [] ≡ es
none_over [] = refl
none_over (e ∷ es) = refl

whole : (es : List (MessageEnd (Unit {0}))) (k : ℕ) → take k es ++ over (drop k es) [] ≡ es
whole es k = ap (λ (l : List (MessageEnd (Unit {0}))). take k es ++ l) (none_over (drop k es)) ∙ take-append-drop k es

pub none_put : (es later rest : List (MessageEnd (Unit {0}))) (k : ℕ) → later ≡ [] → rest ≡ [] → take (k + 1) es ++ over (drop (k + 1) es) rest ≡ take k es ++ over (drop k es) later
none_put es later rest k none also =
    ap (λ (m : List (MessageEnd (Unit {0}))). take (k + 1) es ++ over (drop (k + 1) es) m) also ∙ whole es (k + 1) ∙ sym (whole es k)
    ∙ ap (λ (m : List (MessageEnd (Unit {0}))). take k es ++ over (drop k es) m) (sym none)

pub all_put : (es later : List (MessageEnd (Unit {0}))) (k : ℕ) → length es ≤ k → take k es ++ over (drop k es) later ≡ es
all_put [] later zero low = refl
all_put [] later (suc k) low = refl
all_put (e ∷ es) later zero low = absurd (omega arith)
all_put (e ∷ es) later (suc k) low = ap (λ (t : List (MessageEnd (Unit {0}))). e ∷ t) (all_put es later k (omega arith))

-- ---- what notes told the end of a message

-- by a further round those of the round before it, unless that left the message
pub told_over : (i : ℕ) (notes front slice : List Note) (number binds workers : ℕ) → AreOfOneRound slice
    → told_from i notes (front ++ Round number binds workers ∷ slice) ≡ (if is_left (told_from i notes front) i then slice else told_from i notes front)
told_over i notes [] slice number binds workers one = ap (λ (l : List Note). if is_left notes i then l else notes) (told_free i [] slice one)
told_over i notes (Begun m ∷ front) slice number binds workers one = told_over i (notes ++ Begun m ∷ []) front slice number binds workers one
told_over i notes (Sent request m p ∷ front) slice number binds workers one = told_over i (notes ++ Sent request m p ∷ []) front slice number binds workers one
told_over i notes (Unsent request ∷ front) slice number binds workers one = told_over i (notes ++ Unsent request ∷ []) front slice number binds workers one
told_over i notes (Heard by reply ∷ front) slice number binds workers one = told_over i (notes ++ Heard by reply ∷ []) front slice number binds workers one
told_over i notes (Refused m refusal ∷ front) slice number binds workers one = told_over i (notes ++ Refused m refusal ∷ []) front slice number binds workers one
told_over i notes (End status ∷ front) slice number binds workers one = told_over i (notes ++ End status ∷ []) front slice number binds workers one
told_over i notes (Round k b w ∷ front) slice number binds workers one = at (is_left notes i) refl (told_over i [] front slice number binds workers one)
  where
    at : (left : Bool) → is_left notes i ≡ left
        → told_from i [] (front ++ Round number binds workers ∷ slice) ≡ (if is_left (told_from i [] front) i then slice else told_from i [] front)
        → (if left then told_from i [] (front ++ Round number binds workers ∷ slice) else notes)
        ≡ (if is_left (if left then told_from i [] front else notes) i then slice else (if left then told_from i [] front else notes))
    at true e later = later
    at false e later = ap (λ (b : Bool). if b then slice else notes) (sym e)

-- a message's end leaves it where the notes that told it do
refusal_leaves : (rules : Rules) (m : Message) (start : Option (Option MessageRefusal)) (refusal : MessageRefusal) → IsRecoveredRefusal rules m start refusal → is_passing refusal ≡ is_left_by start
refusal_leaves rules m None refusal h = ap is_passing h
refusal_leaves rules m (Some None) refusal h = ap is_passing h.1
refusal_leaves rules m (Some (Some noted)) refusal h = ap is_passing h

result_leaves : (rules : Rules) (notes : List Note) (m : Message) (r : MessageResult (Unit {0})) → IsRecoveredResult rules notes m r → is_left_result r ≡ is_left notes m.index
result_leaves rules notes m (ends.Sent parts) h = ap is_left_by (sym h.begun)
result_leaves rules notes m (ends.Refused refusal) h = refusal_leaves rules m (start_of notes m.index) refusal h

module _ (rules : Rules) (front slice : List Note) (number binds workers : ℕ) (one : AreOfOneRound slice) where
  abbrev longer : List Note
  longer = front ++ Round number binds workers ∷ slice

  picked : (m : Message) (e l : MessageEnd (Unit {0})) (b : Bool) → IsRecoveredEnd rules (told_by m.index front) m e → IsRecoveredEnd rules slice m l
      → IsRecoveredEnd rules (if b then slice else told_by m.index front) m (if b then l else e)
  picked m e l true here later = later
  picked m e l false here later = here

  end_over : (m : Message) (e l : MessageEnd (Unit {0})) → IsRunEnd rules front m e → IsRecoveredEnd rules slice m l → IsRunEnd rules longer m (if is_left_result e.result then l else e)
  end_over m e l here later =
      let leaves : is_left_result e.result ≡ is_left (told_by m.index front) m.index = result_leaves rules (told_by m.index front) m e.result here.result in
      let told : told_by m.index longer ≡ (if is_left_result e.result then slice else told_by m.index front) =
      told_over m.index [] front slice number binds workers one ∙ ap (λ (b : Bool). if b then slice else told_by m.index front) (sym leaves) in
      subst (λ (l' : List Note). IsRecoveredEnd rules l' m (if is_left_result e.result then l else e)) (sym told) (picked m e l (is_left_result e.result) here later)

  ends_over : (ms : List Message) (es ls : List (MessageEnd (Unit {0}))) → AllZip (IsRunEnd rules front) ms es → AllZip (IsRecoveredEnd rules slice) ms ls → AllZip (IsRunEnd rules longer) ms (over es ls)
  ends_over [] [] ls here later = tt
  ends_over [] (e ∷ es) ls here later = absurd here
  ends_over (m ∷ ms) [] ls here later = absurd here
  ends_over (m ∷ ms) (e ∷ es) [] here later = absurd later
  ends_over (m ∷ ms) (e ∷ es) (l ∷ ls) here later = (end_over m e l here.0 later.0, ends_over ms es ls here.1 later.1)

-- ---- rounds, one after another

got_within : {X : Type 0} (xs : List X) (m k : ℕ) (x : X) → k < m → slice_get xs k ≡ Some x → slice_get (take m xs) k ≡ Some x
got_within xs zero k x low e = absurd (omega (arith, low))
got_within [] (suc m) k x low e = absurd (cc)
got_within (y ∷ ys) (suc m) zero x low e = e
got_within (y ∷ ys) (suc m) (suc k) x low e = got_within ys m k x (omega (arith, low)) e

got_from : {X : Type 0} (xs : List X) (from k : ℕ) (x : X) → slice_get xs (from + k) ≡ Some x → slice_get (drop from xs) k ≡ Some x
got_from xs zero k x e = let same : 0 + k ≡ k = omega arith in subst (λ (j : ℕ). slice_get xs j ≡ Some x) same e
got_from [] (suc f) k x e = absurd (cc)
got_from (y ∷ ys) (suc f) k x e = let same : suc f + k ≡ suc (f + k) = omega arith in got_from ys f k x (subst (λ (j : ℕ). slice_get (y ∷ ys) j ≡ Some x) same e)

pub from_got : {X : Type 0} (xs : List X) (from k : ℕ) (x : X) → slice_get (drop from xs) k ≡ Some x → slice_get xs (from + k) ≡ Some x
from_got xs zero k x e = let same : k ≡ 0 + k = omega arith in subst (λ (j : ℕ). slice_get xs j ≡ Some x) same e
from_got [] (suc f) k x e = absurd (cc)
from_got (y ∷ ys) (suc f) k x e = let same : suc (f + k) ≡ suc f + k = omega arith in subst (λ (j : ℕ). slice_get (y ∷ ys) j ≡ Some x) same (from_got ys f k x e)

-- notes between places, by their places
one_at : (notes : List Note) (from to k : ℕ) (n : Note) → AreOfOneRound (between from to notes) → from ≤ k → k < to → slice_get notes k ≡ Some n → round_in n ≡ None
one_at notes from to k n one low high there =
    let place : k ≡ from + (k - from) = omega (arith, low) in
    one (k - from) n (got_within (drop from notes) (to - from) (k - from) n (omega (arith, low, high)) (got_from notes from (k - from) n (subst (λ (j : ℕ). slice_get notes j ≡ Some n) place there)))

at_one : (notes : List Note) (from to : ℕ) → ((k : ℕ) (n : Note) → from ≤ k → k < to → slice_get notes k ≡ Some n → round_in n ≡ None) → AreOfOneRound (between from to notes)
at_one notes from to all j n there =
    let low : j < length (take (to - from) (drop from notes)) = slice_get_within (take (to - from) (drop from notes)) j n there in
    let high : j < to - from = few (drop from notes) (to - from) j low in
    all (from + j) n (omega arith) (omega (arith, high)) (from_got notes from j n (got_of_take (drop from notes) (to - from) j n there))
  where
    few : (xs : List Note) (m k : ℕ) → k < length (take m xs) → k < m
    few xs zero k low = absurd (omega (arith, low))
    few [] (suc m) k low = absurd (omega (arith, low))
    few (x ∷ xs) (suc m) zero low = omega arith
    few (x ∷ xs) (suc m) (suc k) low = let h = few xs m k (omega (arith, low)) in omega (arith, h)

-- a place further on that begins no round
pub one_on : (notes : List Note) (place stop : ℕ) (n : Note) → IsRoundEnd notes place stop → slice_get notes place ≡ Some n → round_in n ≡ None → IsRoundEnd notes (place + 1) stop
one_on notes place stop n h there free = record {
  from_is = on (least place stop h.from_is);
  within = h.within;
  free = at_one notes (place + 1) stop (λ k m low high at. one_at notes place stop k m h.free (omega (arith, low)) high at);
  stops = h.stops;
}
  where
    least : (a b : ℕ) → a ≤ b → (a + 1 ≤ b) ⊎ (b ≡ a)
    least zero zero low = inr refl
    least zero (suc b) low = inl (omega arith)
    least (suc a) zero low = absurd (omega (arith, low))
    least (suc a) (suc b) low = elim (least a b (omega (arith, low))) [ inl l ↦ inl (omega (arith, l)) | inr e ↦ inr (ap suc e) ]

    on : (place + 1 ≤ stop) ⊎ (stop ≡ place) → place + 1 ≤ stop
    on (inl low) = low
    on (inr same) = absurd (h.stops n (subst (λ (k : ℕ). slice_get notes k ≡ Some n) (sym same) there) free)

-- the round ends where another begins
pub ends_there : (notes : List Note) (place stop : ℕ) (n : Note) → IsRoundEnd notes place stop → slice_get notes place ≡ Some n → round_in n ≢ None → stop ≡ place
ends_there notes place stop n h there begins = at (least place stop h.from_is)
  where
    least : (a b : ℕ) → a ≤ b → (a < b) ⊎ (b ≡ a)
    least zero zero low = inr refl
    least zero (suc b) low = inl (omega arith)
    least (suc a) zero low = absurd (omega (arith, low))
    least (suc a) (suc b) low = elim (least a b (omega (arith, low))) [ inl l ↦ inl (omega (arith, l)) | inr e ↦ inr (ap suc e) ]

    at : (place < stop) ⊎ (stop ≡ place) → stop ≡ place
    at (inl low) = absurd (begins (one_at notes place stop place n h.free (omega arith) low there))
    at (inr same) = same

module _ (rules : Rules) (ms : List Message) (notes : List Note) where
  zip_told : (front back : List Note) → ((i : ℕ) → told_by i front ≡ back) → (ms' : List Message) (es : List (MessageEnd (Unit {0}))) → AllZip (IsRecoveredEnd rules back) ms' es → AllZip (IsRunEnd rules front) ms' es
  zip_told front back same [] [] h = h
  zip_told front back same [] (e ∷ es) h = absurd h
  zip_told front back same (m ∷ ms') [] h = absurd h
  zip_told front back same (m ∷ ms') (e ∷ es) h = (subst (λ (l : List Note). IsRecoveredEnd rules l m e) (sym (same m.index)) h.0, zip_told front back same ms' es h.1)

  -- by the notes of the first round
  pub ends_first : (first : ℕ) (es : List (MessageEnd (Unit {0}))) → IsRoundEnd notes 0 first → AllZip (IsRecoveredEnd rules (take first notes)) ms es → AreEndsAt rules ms notes first es
  ends_first first es h are = record {
    stop = first;
    is = record { from_is = omega arith; within = h.within; free = none_between notes first; stops = h.stops };
    are = zip_told (take first notes) (take first notes) (λ i. told_free i [] (take first notes) free) ms es are;
  }
    where
      free : AreOfOneRound (take first notes)
      free = let same : first - 0 ≡ first = omega arith in subst (λ (k : ℕ). AreOfOneRound (take k notes)) same h.free

  -- one note further
  pub ends_on : (place : ℕ) (n : Note) (es : List (MessageEnd (Unit {0}))) → slice_get notes place ≡ Some n → round_in n ≡ None → AreEndsAt rules ms notes place es → AreEndsAt rules ms notes (place + 1) es
  ends_on place n es there free h = record { stop = h.stop; is = one_on notes place h.stop n h.is there free; are = h.are }

  -- and where it begins a round
  pub ends_next : (place end : ℕ) (n : Note) (es ls : List (MessageEnd (Unit {0}))) → slice_get notes place ≡ Some n → round_in n ≢ None → AreEndsAt rules ms notes place es
      → IsRoundEnd notes (place + 1) end → AllZip (IsRecoveredEnd rules (between (place + 1) end notes)) ms ls → AreEndsAt rules ms notes (place + 1) (over es ls)
  ends_next place end n es ls there begins h next are = record {
    stop = end;
    is = next;
    are =
        let stop = ends_there notes place h.stop n h.is there begins in
        let here : AllZip (IsRunEnd rules (take place notes)) ms es = subst (λ (k : ℕ). AllZip (IsRunEnd rules (take k notes)) ms es) stop h.are in
        let whole : take end notes ≡ take place notes ++ n ∷ between (place + 1) end notes =
        whole_between notes (place + 1) end next.from_is ∙ ap (λ (l : List Note). l ++ between (place + 1) end notes) (take_snoc notes place n there) ∙ append_assoc (take place notes) (n ∷ []) (between (place + 1) end notes) in
        subst (λ (l : List Note). AllZip (IsRunEnd rules l) ms (over es ls)) (sym whole) (at n begins here);
  }
    where
      at : (m : Note) → round_in m ≢ None → AllZip (IsRunEnd rules (take place notes)) ms es → AllZip (IsRunEnd rules (take place notes ++ m ∷ between (place + 1) end notes)) ms (over es ls)
      at (Round number binds workers) some here = ends_over rules (take place notes) (between (place + 1) end notes) number binds workers next.free ms es ls here are
      at (Begun m) some here = absurd (some refl)
      at (Sent request m p) some here = absurd (some refl)
      at (Unsent request) some here = absurd (some refl)
      at (Heard by reply) some here = absurd (some refl)
      at (Refused m refusal) some here = absurd (some refl)
      at (End status) some here = absurd (some refl)

  pub ends_last : (place : ℕ) (es : List (MessageEnd (Unit {0}))) → length notes ≤ place → AreEndsAt rules ms notes place es → AllZip (IsRunEnd rules notes) ms es
  ends_last place es past h =
      let low = h.is.from_is in
      subst (λ (l : List Note). AllZip (IsRunEnd rules l) ms es) (take_whole notes h.stop (omega (arith, past, low))) h.are
