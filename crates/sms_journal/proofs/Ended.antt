-- The note of a run's end changes no message's end.
use Rattle.std.proofs.Common.{◌≡◌, ◌⊎◌, ◌+◌, ℕ, Bool, true, false, List, [], ◌∷◌, ◌++◌, length, take, Option, Some, None, inl, inr, refl, sym, ap, ◌∙◌, subst, arith, append_assoc}
use Rattle.std.specs.Borrow.{Bor}
use Rattle.std.specs.Prelude.{flat_map, if◌then◌else◌, ◌==◌, ◌&&◌, ◌≤◌, slice_get, option_copied, IfSome, IsSome}
use Rattle.std.specs.List.{AllZip}
use Rattle.std.proofs.lemmas.Grind.{flat_map-append}
use Rattle.std.proofs.lemmas.List.{append-nil}
use Rattle.std.proofs.lemmas.Option.{slice_get_within}
use Rattle.sms_message.specs.declared.message.Message.{Message}
use Rattle.sms_message.specs.declared.rules.Rules.{Rules}
use Rattle.sms_message.specs.declared.ends.MessageEnd.{MessageEnd}
use Rattle.sms_message.specs.declared.ends.MessageResult.{MessageResult}
use Rattle.sms_message.specs.declared.ends.MessageResult.TheVariants as result
use Rattle.sms_message.specs.declared.ends.SegmentEnd.{SegmentEnd}
use Rattle.sms_message.specs.declared.ends.MessageRefusal.{MessageRefusal}
use Rattle.sms_journal.specs.declared.notes.note.Note.{Note}
use Rattle.sms_journal.specs.declared.notes.note.Note.TheVariants.{Begun, Sent, Unsent, Heard, Refused, End, Round}
use Rattle.sms_journal.specs.Recovered.{IsRecoveredEnd, IsRecoveredRefusal, IsRecoveredResult, IsRecoveredSegment, attempts_in, attempts_of, attempts_with, fate_in, fate_of, start_in, start_of}
use Rattle.sms_journal.specs.Going.{IsBehind}
use Rattle.sms_journal.specs.Rounds.{IsRunEnd, is_left, told_from}
use Rattle.sms_files.proofs.Lists.{take_whole}
use Rattle.sms_journal.proofs.Firsts.{first_snoc, or_none}
use Rattle.sms_journal.proofs.Lists.{take_snoc}
use Rattle.sms_journal.proofs.Passing.{front_of}

-- ---- a message's end by the notes of its round

module _ (notes : List Note) (status : ℕ) where
  start_kept : (m : ℕ) → start_of (notes ++ End status ∷ []) m ≡ start_of notes m
  start_kept m = first_snoc (start_in m) notes (End status) ∙ or_none (start_of notes m)

  fate_kept : (worker number : ℕ) → fate_of (notes ++ End status ∷ []) worker number ≡ fate_of notes worker number
  fate_kept worker number = first_snoc (fate_in worker number) notes (End status) ∙ or_none (fate_of notes worker number)

  try_kept : (m p : ℕ) (n : Note) → attempts_in (notes ++ End status ∷ []) m p n ≡ attempts_in notes m p n
  try_kept m p (Begun i) = refl
  try_kept m p (Sent request i q) = λ j. if i == m && (q == p) then attempts_with request.number (fate_kept request.worker request.number j) else []
  try_kept m p (Unsent request) = refl
  try_kept m p (Heard by reply) = refl
  try_kept m p (Refused i refusal) = refl
  try_kept m p (End s) = refl
  try_kept m p (Round number binds workers) = refl

  tries_kept : (m p : ℕ) (ns : List Note) → flat_map (attempts_in (notes ++ End status ∷ []) m p) ns ≡ flat_map (attempts_in notes m p) ns
  tries_kept m p [] = refl
  tries_kept m p (n ∷ ns) = λ j. try_kept m p n j ++ tries_kept m p ns j

  attempts_kept : (m p : ℕ) → attempts_of (notes ++ End status ∷ []) m p ≡ attempts_of notes m p
  attempts_kept m p =
      tries_kept m p (notes ++ End status ∷ []) ∙ flat_map-append (attempts_in notes m p) notes (End status ∷ []) ∙ append-nil (attempts_of notes m p)

  segment_kept : (rules : Rules) (m : Message) (p : ℕ) (s : SegmentEnd (Unit {0})) → IsRecoveredSegment rules (notes ++ End status ∷ []) m p s → IsRecoveredSegment rules notes m p s
  segment_kept rules m p s h = record { cost = h.cost; attempts = h.attempts ∙ attempts_kept m.index p; outcome = h.outcome }

  result_kept : (rules : Rules) (m : Message) (r : MessageResult (Unit {0})) → IsRecoveredResult rules (notes ++ End status ∷ []) m r → IsRecoveredResult rules notes m r
  result_kept rules m (result.Sent parts) h = record {
    begun = sym (start_kept m.index) ∙ h.begun;
    short = h.short;
    count = h.count;
    each = λ p s at. segment_kept rules m (p + 1) s (h.each p s at);
  }
  result_kept rules m (result.Refused refusal) h = subst (λ (o : Option (Option MessageRefusal)). IsRecoveredRefusal rules m o refusal) (start_kept m.index) h

  end_kept : (rules : Rules) (m : Message) (e : MessageEnd (Unit {0})) → IsRecoveredEnd rules (notes ++ End status ∷ []) m e → IsRecoveredEnd rules notes m e
  end_kept rules m e h = record { index = h.index; result = result_kept rules m e.result h.result }

-- ---- by the notes of all rounds

told_kept : (i status : ℕ) (kept notes : List Note) →
    (told_from i kept (notes ++ End status ∷ []) ≡ told_from i kept notes) ⊎ (told_from i kept (notes ++ End status ∷ []) ≡ told_from i kept notes ++ End status ∷ [])
told_kept i status kept [] = inr refl
told_kept i status kept (Begun m ∷ ns) = told_kept i status (kept ++ Begun m ∷ []) ns
told_kept i status kept (Sent request m p ∷ ns) = told_kept i status (kept ++ Sent request m p ∷ []) ns
told_kept i status kept (Unsent request ∷ ns) = told_kept i status (kept ++ Unsent request ∷ []) ns
told_kept i status kept (Heard by reply ∷ ns) = told_kept i status (kept ++ Heard by reply ∷ []) ns
told_kept i status kept (Refused m refusal ∷ ns) = told_kept i status (kept ++ Refused m refusal ∷ []) ns
told_kept i status kept (End s ∷ ns) = told_kept i status (kept ++ End s ∷ []) ns
told_kept i status kept (Round number binds workers ∷ ns) = by_left (is_left kept i) (told_kept i status [] ns)
  where
    later : List Note
    later = told_from i [] (ns ++ End status ∷ [])

    first : List Note
    first = told_from i [] ns

    by_left : (b : Bool) → (later ≡ first) ⊎ (later ≡ first ++ End status ∷ []) →
        ((if b then later else kept) ≡ (if b then first else kept)) ⊎ ((if b then later else kept) ≡ (if b then first else kept) ++ End status ∷ [])
    by_left true h = h
    by_left false h = inl refl

run_end_kept : (rules : Rules) (notes : List Note) (status : ℕ) (m : Message) (e : MessageEnd (Unit {0})) → IsRunEnd rules (notes ++ End status ∷ []) m e → IsRunEnd rules notes m e
run_end_kept rules notes status m e h = elim (told_kept m.index status [] notes) [
  | inl same ↦ subst (λ (l : List Note). IsRecoveredEnd rules l m e) same h
  | inr more ↦ end_kept (told_from m.index [] notes) status rules m e (subst (λ (l : List Note). IsRecoveredEnd rules l m e) more h)
]

run_ends_kept : (rules : Rules) (notes : List Note) (status : ℕ) (ms : List Message) (es : List (MessageEnd (Unit {0}))) → AllZip (IsRunEnd rules (notes ++ End status ∷ [])) ms es → AllZip (IsRunEnd rules notes) ms es
run_ends_kept rules notes status [] [] h = tt
run_ends_kept rules notes status [] (e ∷ es) h = h
run_ends_kept rules notes status (m ∷ ms) [] h = h
run_ends_kept rules notes status (m ∷ ms) (e ∷ es) h = (run_end_kept rules notes status m e h.0, run_ends_kept rules notes status ms es h.1)

-- ---- by the notes before the run's end

whole_before : (notes round : List Note) (from end status : ℕ) → IsBehind (take from notes) round notes → from ≤ length notes → slice_get round end ≡ Some (End status) → length notes ≤ from + end + 1
    → notes ≡ take (from + end) notes ++ End status ∷ []
whole_before notes round from end status h low there last =
    let within = slice_get_within round end (End status) there in
    sym (take_whole notes (from + (end + 1)) (omega (arith, last))) ∙ front_of notes round from (end + 1) h low (omega (arith, within))
    ∙ ap (λ (l : List Note). take from notes ++ l) (take_snoc round end (End status) there) ∙ sym (append_assoc (take from notes) (take end round) (End status ∷ []))
    ∙ ap (λ (l : List Note). l ++ End status ∷ []) (sym (front_of notes round from end h low (omega (arith, within))))

-- what is known of the ends by the notes before it
pub known_before : (rules : Rules) (ms : List Message) (notes round : List Note) (from end status : ℕ) (ends known : Option (Bor (List (MessageEnd (Unit {0})))))
    → IsBehind (take from notes) round notes → from ≤ length notes → slice_get round end ≡ Some (End status) → IfSome (option_copied ends) (AllZip (IsRunEnd rules notes) ms)
    → IfSome (option_copied known) (λ (k : List (MessageEnd (Unit {0}))). option_copied ends ≡ Some k) → (IsSome known → length notes ≤ from + end + 1)
    → IfSome (option_copied known) (AllZip (IsRunEnd rules (take (from + end) notes)) ms)
known_before rules ms notes round from end status ends None h low there are same last = tt
known_before rules ms notes round from end status ends (Some known) h low there are same last =
    let whole = whole_before notes round from end status h low there (last refl) in
    let its : AllZip (IsRunEnd rules notes) ms known.now = subst (λ (o : Option (List (MessageEnd (Unit {0})))). IfSome o (AllZip (IsRunEnd rules notes) ms)) same are in
    run_ends_kept rules (take (from + end) notes) status ms known.now (subst (λ (l : List Note). AllZip (IsRunEnd rules l) ms known.now) whole its)
