-- The round that goes on, from one note to the next.
use Rattle.std.proofs.Common.{◌≡◌, ℕ, zero, suc, ◌+◌, ◌-◌, ◌<◌, ◌≤◌, List, [], ◌∷◌, ◌++◌, length, take, drop, Some, refl, sym, ap, ◌∙◌, subst, arith}
use Rattle.std.specs.Prelude.{◌⊎◌, slice_get}
use Rattle.std.specs.List.{AllZip}
use Rattle.std.proofs.lemmas.List.{length-take-le}
use Rattle.std.proofs.lemmas.Option.{slice_get_within}
use Rattle.sms_message.specs.declared.message.Message.{Message}
use Rattle.sms_message.specs.declared.rules.Rules.{Rules}
use Rattle.sms_message.specs.declared.ends.MessageEnd.{MessageEnd}
use Rattle.sms_journal.specs.declared.notes.note.Note.{Note}
use Rattle.sms_journal.specs.declared.notes.note.Note.TheVariants.{Begun, Sent, Unsent, Heard, Refused, End, Round}
use Rattle.sms_journal.specs.declared.notes.rounds.Current.{Current}
use Rattle.sms_journal.specs.declared.notes.run_size.RunSize.{RunSize}
use Rattle.sms_journal.specs.Going.{AllGoOn, AreOfOneRound, HaveNoEnd, IsBehind, IsCurrent, IsFirstStop, between, going_of, noted_all}
use Rattle.sms_journal.specs.Lawful.{AreStarted, IsStatusOf, end_in}
use Rattle.sms_journal.specs.Rounds.{Going, GoesOn, IsFirstRunFault, IsNextRound, IsRunEnd, IsRunJournal, MayEndRun, MayGoOn, first_round, going_after, going_by, next_round, round_in}
use Rattle.sms_journal.specs.Seen.{IsGiven}
use Rattle.sms_journal.proofs.Agreeing.{run_ends_once}
use Rattle.sms_journal.proofs.Lists.{take_snoc}
use Rattle.sms_journal.proofs.RunEnds.{from_got}
use Rattle.sms_journal.proofs.Rounds.{after_append, behind_between, free_all, goes_more, got_of_take, join, no_end_of, short_front, whole_between}

round_is : (n : Note) (number binds workers : ℕ) → round_in n ≡ Some (number, binds, workers) → n ≡ Round number binds workers
round_is (Begun i) number binds workers e = absurd (cc)
round_is (Sent request i p) number binds workers e = absurd (cc)
round_is (Unsent request) number binds workers e = absurd (cc)
round_is (Heard by reply) number binds workers e = absurd (cc)
round_is (Refused i refusal) number binds workers e = absurd (cc)
round_is (End status) number binds workers e = absurd (cc)
round_is (Round k b w) number binds workers e = same (k, b, w) (number, binds, workers) e
  where
    same : (x y : ℕ × ℕ × ℕ) → Some x ≡ Some y → Round x.0 x.1 x.2 ≡ Round y.0 y.1 y.2
    same x y e = let is : x ≡ y = cc in ap (λ (t : ℕ × ℕ × ℕ). Round t.0 t.1 t.2) is

pub end_is : (n : Note) (status : ℕ) → end_in n ≡ Some status → n ≡ End status
end_is (Begun i) status e = absurd (cc)
end_is (Sent request i p) status e = absurd (cc)
end_is (Unsent request) status e = absurd (cc)
end_is (Heard by reply) status e = absurd (cc)
end_is (Refused i refusal) status e = absurd (cc)
end_is (End k) status e = let same : k ≡ status = cc in ap End same
end_is (Round number binds workers) status e = absurd (cc)

pub some_at : {X : Type 0} (xs : List X) (k : ℕ) → k < length xs → (x : X) × (slice_get xs k ≡ Some x)
some_at [] k low = absurd (omega (arith, low))
some_at (x ∷ xs) zero low = (x, refl)
some_at (x ∷ xs) (suc k) low = some_at xs k (omega (arith, low))

-- the notes of the round up to its end stand behind those before it
pub front_of : (notes round : List Note) (from end : ℕ) → IsBehind (take from notes) round notes → from ≤ length notes → end ≤ length round → take (from + end) notes ≡ take from notes ++ take end round
front_of notes round from end h low few = let long : length (take from notes) ≡ from = length-take-le from notes (omega (arith, low)) in sym (ap (λ (n : ℕ). take (n + end) notes) long) ∙ h.behind end few

pub stop_within : (rules : Rules) (ms : List Message) (before notes : List Note) (g : Going) (from to k : ℕ) → IsFirstStop rules ms before g (between from to notes) k → from ≤ to → from + k < to
stop_within rules ms before notes g from to k h low =
    let within = slice_get_within (between from to notes) k h.note h.there in let short = (short_front (drop from notes) (to - from)).1 in omega (arith, within, short, low)

module _ (rules : Rules) (size : RunSize) (ms : List Message) (notes : List Note) (c : Current) (is : IsCurrent rules size ms notes c) where
  -- ---- the notes of the round that goes on, up to a place

  module _ (place : ℕ) (low : c.from ≤ place) (one : AreOfOneRound (between c.from place notes)) where
    goes_here : going_after (first_round size ms) (take place notes) ≡ noted_all (going_of c) (between c.from place notes)
    goes_here =
        ap (going_after (first_round size ms)) (whole_between notes c.from place low) ∙ after_append (first_round size ms) (take c.from notes) (between c.from place notes)
        ∙ ap (λ (g : Going). going_after g (between c.from place notes)) is.goes ∙ free_all (going_of c) (between c.from place notes) one

    -- a further round may not begin there
    pub not_next : (n : Note) (number binds workers : ℕ) → slice_get notes place ≡ Some n → round_in n ≡ Some (number, binds, workers) → IsRunJournal rules size ms (take place notes)
        → ¬ IsNextRound (going_of c) number binds workers → IsFirstRunFault rules size ms notes place
    not_next n number binds workers there begins lawful never = record {
      front = lawful;
      note = n;
      there = there;
      refused = λ may.
          let same = round_is n number binds workers begins in
          let here : IsNextRound (noted_all (going_of c) (between c.from place notes)) number binds workers =
          subst (λ (g : Going). GoesOn rules ms (take place notes) g (Round number binds workers)) goes_here (subst (MayGoOn rules size ms (take place notes)) same may) in
          never (record { next = here.next; some_binds = here.some_binds; few_binds = here.few_binds; some_workers = here.some_workers; few_workers = here.few_workers });
    }

    -- a further round goes on behind it
    pub goes_next : (n : Note) (number binds workers : ℕ) (next : Current) → slice_get notes place ≡ Some n → round_in n ≡ Some (number, binds, workers) → IsRunJournal rules size ms (take place notes)
        → IsNextRound (going_of c) number binds workers → next.from ≡ place + 1 → going_of next ≡ next_round (noted_all (going_of c) (between c.from place notes)) number binds workers → IsGiven ms next.given
        → IsCurrent rules size ms notes next
    goes_next n number binds workers next there begins lawful h from are given = record {
      within = let within = slice_get_within notes place n there in omega (arith, within, from);
      lawful = subst (λ (k : ℕ). IsRunJournal rules size ms (take k notes)) (sym from) (subst (λ (l : List Note). IsRunJournal rules size ms l) (sym more) longer);
      goes =
          ap (λ (k : ℕ). going_after (first_round size ms) (take k notes)) from ∙ ap (going_after (first_round size ms)) more ∙ after_append (first_round size ms) (take place notes) (n ∷ [])
          ∙ ap (λ (g : Going). going_by g n) goes_here ∙ ap (going_by (noted_all (going_of c) (between c.from place notes))) (round_is n number binds workers begins) ∙ sym are;
      given = given;
    }
      where
        more : take (place + 1) notes ≡ take place notes ++ n ∷ []
        more = take_snoc notes place n there

        may : MayGoOn rules size ms (take place notes) n
        may =
            subst (MayGoOn rules size ms (take place notes)) (sym (round_is n number binds workers begins))
            (subst (λ (g : Going). GoesOn rules ms (take place notes) g (Round number binds workers)) (sym goes_here)
            (record { next = h.next; some_binds = h.some_binds; few_binds = h.few_binds; some_workers = h.some_workers; few_workers = h.few_workers }))

        longer : IsRunJournal rules size ms (take place notes ++ n ∷ [])
        longer = goes_more rules ms (take place notes) [] (first_round size ms) n lawful may

  -- ---- a check of the round's notes is one of the run's

  module _ (to : ℕ) (low : c.from ≤ to) (few : to ≤ length notes) where
    joined : (xs : List Note) → AllGoOn rules ms (take c.from notes) (going_of c) xs → IsRunJournal rules size ms (take c.from notes ++ xs)
    joined xs all = join rules ms (take c.from notes) xs [] (first_round size ms) is.lawful (subst (λ (g : Going). AllGoOn rules ms (take c.from notes) g xs) (sym is.goes) all)

    pub lawful_before : AllGoOn rules ms (take c.from notes) (going_of c) (between c.from to notes) → IsRunJournal rules size ms (take to notes)
    lawful_before all = subst (λ (l : List Note). IsRunJournal rules size ms l) (sym (whole_between notes c.from to low)) (joined (between c.from to notes) all)

    pub faulty_before : (k : ℕ) → IsFirstStop rules ms (take c.from notes) (going_of c) (between c.from to notes) k → IsFirstRunFault rules size ms notes (c.from + k)
    faulty_before k h = record {
      front = subst (λ (l : List Note). IsRunJournal rules size ms l) (sym front) (joined (take k (between c.from to notes)) h.front);
      note = h.note;
      there = from_got notes c.from k h.note (got_of_take (drop c.from notes) (to - c.from) k h.note h.there);
      refused = λ may.
          let goes : going_after (first_round size ms) (take (c.from + k) notes) ≡ going_after (going_of c) (take k (between c.from to notes)) =
          ap (going_after (first_round size ms)) front ∙ after_append (first_round size ms) (take c.from notes) (take k (between c.from to notes)) ∙ ap (λ (g : Going). going_after g (take k (between c.from to notes))) is.goes in
          h.refused (subst (λ (l : List Note). GoesOn rules ms l (going_after (going_of c) (take k (between c.from to notes))) h.note) front
          (subst (λ (g : Going). GoesOn rules ms (take (c.from + k) notes) g h.note) goes may));
    }
      where
        front : take (c.from + k) notes ≡ take c.from notes ++ take k (between c.from to notes)
        front =
            let within = slice_get_within (between c.from to notes) k h.note h.there in
            let long : length (take c.from notes) ≡ c.from = length-take-le c.from notes (omega (arith, low, few)) in
            sym (ap (λ (n : ℕ). take (n + k) notes) long) ∙ (behind_between notes c.from to low few).behind k (omega (arith, within))

-- ---- the end of a run

module _ (rules : Rules) (ms : List Message) (before round : List Note) (c : Current) (ends : List (MessageEnd (Unit {0}))) (status : ℕ) (none : HaveNoEnd round) (are : AllZip (IsRunEnd rules before) ms ends) where
  pub may_end : AreStarted c.given.indexes.items round ⊎ ((1 < c.number) × (round ≡ [])) → IsStatusOf ends status → MayEndRun rules ms before (noted_all (going_of c) round) status
  may_end started is = record { going_on = no_end_of round none; started = started; ends = ends; are = are; status_is = is }

  pub its_status : MayEndRun rules ms before (noted_all (going_of c) round) status → IsStatusOf ends status
  its_status may = subst (λ (es : List (MessageEnd (Unit {0}))). IsStatusOf es status) (run_ends_once rules before ms may.ends ends may.are are) may.status_is
