-- The notes of a run, round by round.
use Rattle.std.proofs.Common.{◌≡◌, ℕ, zero, suc, ◌+◌, ◌-◌, ◌≤◌, List, [], ◌∷◌, ◌++◌, length, take, drop, Some, None, refl, sym, ap, ◌∙◌, subst, append-nil, append_assoc, arith}
use Rattle.std.specs.Prelude.{Option, Bool, true, false, slice_get, if◌then◌else◌}
use Rattle.std.specs.Option.{is_some}
use Rattle.std.proofs.lemmas.List.{length-take-le}
use Rattle.std.proofs.lemmas.Option.{slice_get_within}
use Rattle.sms_message.specs.declared.message.Message.{Message}
use Rattle.sms_message.specs.declared.rules.Rules.{Rules}
use Rattle.sms_journal.specs.declared.notes.note.Note.{Note}
use Rattle.sms_journal.specs.declared.notes.note.Note.TheVariants.{Begun, Sent, Unsent, Heard, Refused, End, Round}
use Rattle.sms_journal.specs.declared.notes.run_size.RunSize.{RunSize}
use Rattle.sms_journal.specs.Going.{AllGoOn, AreOfOneRound, HaveNoEnd, IsBehind, IsFirstStop, between, noted_all}
use Rattle.sms_journal.specs.Lawful.{IsFirstOff, IsRound, MayFollow, end_in, end_of}
use Rattle.sms_journal.specs.Recovered.{first_in, or_else}
use Rattle.sms_journal.specs.Rounds.{Going, GoesOn, MayEndRun, going_after, going_by, is_left, left_after, noted, round_in}
use Rattle.sms_files.proofs.Lists.{take_whole}
use Rattle.sms_journal.proofs.Firsts.{first_snoc}
use Rattle.sms_journal.proofs.Lists.{each_more, take_snoc}

-- ---- lists

module _ {X : Type 0} where
  take_nil : (n : ℕ) → take {A = X} n [] ≡ []
  take_nil zero = refl
  take_nil (suc n) = refl

  pub got_behind : (xs : List X) (from k : ℕ) (x : X) → from ≤ k → slice_get xs k ≡ Some x → slice_get (drop from xs) (k - from) ≡ Some x
  got_behind xs zero k x low e = let same : k ≡ k - 0 = omega arith in subst (λ (n : ℕ). slice_get xs n ≡ Some x) same e
  got_behind [] (suc f) k x low e = absurd (cc)
  got_behind (y ∷ ys) (suc f) zero x low e = absurd (omega (arith, low))
  got_behind (y ∷ ys) (suc f) (suc k) x low e = let same : k - f ≡ suc k - suc f = omega arith in subst (λ (n : ℕ). slice_get (drop f ys) n ≡ Some x) same (got_behind ys f k x (omega (arith, low)) e)

  pub take_add : (xs : List X) (from j : ℕ) → take (from + j) xs ≡ take from xs ++ take j (drop from xs)
  take_add xs zero j = ap (λ (n : ℕ). take n xs) (omega arith)
  take_add [] (suc f) j = take_nil (suc f + j) ∙ sym (take_nil j)
  take_add (x ∷ xs) (suc f) j =
      let e : suc f + j ≡ suc (f + j) = omega arith in
      ap (λ (n : ℕ). take n (x ∷ xs)) e ∙ ap (λ (l : List X). x ∷ l) (take_add xs f j)

  pub take_take : (xs : List X) (k m : ℕ) → k ≤ m → take k (take m xs) ≡ take k xs
  take_take xs zero m low = refl
  take_take xs (suc k) zero low = absurd (omega (arith, low))
  take_take [] (suc k) (suc m) low = refl
  take_take (x ∷ xs) (suc k) (suc m) low = ap (λ (l : List X). x ∷ l) (take_take xs k m (omega (arith, low)))

  pub short_front : (xs : List X) (m : ℕ) → (length (take m xs) ≤ length xs) × (length (take m xs) ≤ m)
  short_front xs zero = (omega arith, omega arith)
  short_front [] (suc m) = (omega arith, omega arith)
  short_front (x ∷ xs) (suc m) = let h = short_front xs m in let a = h.0 in let b = h.1 in (omega (arith, a), omega (arith, b))

  pub short_rest : (xs : List X) (from : ℕ) → from ≤ length xs → from + length (drop from xs) ≡ length xs
  short_rest xs zero low = omega arith
  short_rest [] (suc f) low = absurd (omega (arith, low))
  short_rest (x ∷ xs) (suc f) low = let h = short_rest xs f (omega (arith, low)) in omega (arith, h)

  pub got_of_take : (xs : List X) (m k : ℕ) (x : X) → slice_get (take m xs) k ≡ Some x → slice_get xs k ≡ Some x
  got_of_take xs zero k x e = absurd (cc)
  got_of_take [] (suc m) k x e = e
  got_of_take (y ∷ ys) (suc m) zero x e = e
  got_of_take (y ∷ ys) (suc m) (suc k) x e = got_of_take ys m k x e

left_append : (notes : List Note) (js : List ℕ) (j : ℕ) → left_after notes (js ++ j ∷ []) ≡ left_after notes js ++ (if is_left notes j then j ∷ [] else [])
left_append notes [] j = refl
left_append notes (i ∷ js) j = step (is_left notes i) (left_append notes js j)
  where
    step : (b : Bool) → left_after notes (js ++ j ∷ []) ≡ left_after notes js ++ (if is_left notes j then j ∷ [] else [])
        → (if b then i ∷ left_after notes (js ++ j ∷ []) else left_after notes (js ++ j ∷ [])) ≡ (if b then i ∷ left_after notes js else left_after notes js) ++ (if is_left notes j then j ∷ [] else [])
    step true h = ap (λ (l : List ℕ). i ∷ l) h
    step false h = h

-- the notes between two places stand behind those before them
pub behind_between : (notes : List Note) (from to : ℕ) → from ≤ to → to ≤ length notes → IsBehind (take from notes) (between from to notes) notes
behind_between notes from to low within = record {
  behind = λ k few.
      let long : length (take from notes) ≡ from = length-take-le from notes (omega (arith, low, within)) in
      let short = (short_front (drop from notes) (to - from)).1 in
      let within_round : k ≤ to - from = omega (arith, few, short) in
      ap (λ (n : ℕ). take (n + k) notes) long ∙ take_add notes from k ∙ ap (λ (l : List Note). take from notes ++ l) (sym (take_take (drop from notes) k (to - from) within_round));
  within =
      let long : length (take from notes) ≡ from = length-take-le from notes (omega (arith, low, within)) in
      let short = (short_front (drop from notes) (to - from)).0 in
      let rest = short_rest notes from (omega (arith, low, within)) in
      omega (arith, long, short, rest);
}

pub whole_between : (notes : List Note) (from to : ℕ) → from ≤ to → take to notes ≡ take from notes ++ between from to notes
whole_between notes from to low = let e : to ≡ from + (to - from) = omega (arith, low) in ap (λ (n : ℕ). take n notes) e ∙ take_add notes from (to - from)

pub one_front : (notes : List Note) (m : ℕ) → AreOfOneRound notes → AreOfOneRound (take m notes)
one_front notes m one k n at = one k n (got_of_take notes m k n at)

none_front : (notes : List Note) (m : ℕ) → HaveNoEnd notes → HaveNoEnd (take m notes)
none_front notes m none k n at = none k n (got_of_take notes m k n at)

pub no_end_of : (xs : List Note) → HaveNoEnd xs → end_of xs ≡ None
no_end_of [] none = refl
no_end_of (x ∷ xs) none = ap (λ (o : Option ℕ). or_else o (first_in end_in xs)) (none 0 x refl) ∙ no_end_of xs (λ k. none (suc k))

-- one note more
pub none_more : (notes : List Note) (k : ℕ) (n : Note) → slice_get notes k ≡ Some n → end_in n ≡ None → HaveNoEnd (take k notes) → HaveNoEnd (take (k + 1) notes)
none_more notes k n there free before = each_more (λ (j : ℕ) (m : Note). end_in m ≡ None) (take k notes) (length (take k notes)) n (take (k + 1) notes) refl before free (take_snoc notes k n there)

-- the first note of the run's end stands there
pub ends_here : (notes : List Note) (k : ℕ) (n : Note) → slice_get notes k ≡ Some n → is_some (end_in n) ≡ true → (status : ℕ) × (slice_get notes k ≡ Some (End status))
ends_here notes k (Begun i) there some = absurd (cc)
ends_here notes k (Sent request i p) there some = absurd (cc)
ends_here notes k (Unsent request) there some = absurd (cc)
ends_here notes k (Heard by reply) there some = absurd (cc)
ends_here notes k (Refused i refusal) there some = absurd (cc)
ends_here notes k (End status) there some = (status, there)
ends_here notes k (Round number binds workers) there some = absurd (cc)

-- one note more behind a place
pub between_more : (notes : List Note) (from k : ℕ) (n : Note) → from ≤ k → slice_get notes k ≡ Some n → round_in n ≡ None → AreOfOneRound (between from k notes) → AreOfOneRound (between from (k + 1) notes)
between_more notes from k n low there free before =
    let there_behind : slice_get (drop from notes) (k - from) ≡ Some n = got_behind notes from k n low there in
    let more : between from (k + 1) notes ≡ between from k notes ++ n ∷ [] = ap (λ (m : ℕ). take m (drop from notes)) (count from k low) ∙ take_snoc (drop from notes) (k - from) n there_behind in
    each_more (λ (j : ℕ) (m : Note). round_in m ≡ None) (between from k notes) (length (between from k notes)) n (between from (k + 1) notes) refl before free more
  where
    count : (f m : ℕ) → f ≤ m → (m + 1) - f ≡ (m - f) + 1
    count f m few = omega (arith, few)

-- none stands between a place and itself
pub none_between : (notes : List Note) (k : ℕ) → AreOfOneRound (between k k notes)
none_between notes k j n there = let none : between k k notes ≡ [] = ap (λ (m : ℕ). take m (drop k notes)) (same k) in got_none j n (ap (λ (l : List Note). slice_get l j) (sym none) ∙ there)
  where
    same : (m : ℕ) → m - m ≡ 0
    same m = omega arith

    got_none : (i : ℕ) (m : Note) → slice_get [] i ≡ Some m → round_in m ≡ None
    got_none i m e = absurd (cc)

-- those of some messages that a round leaves, with one more
pub left_more : (notes : List Note) (js : List ℕ) (k j : ℕ) → slice_get js k ≡ Some j → left_after notes (take (k + 1) js) ≡ left_after notes (take k js) ++ (if is_left notes j then j ∷ [] else [])
left_more notes js k j there = ap (left_after notes) (take_snoc js k j there) ∙ left_append notes (take k js) j

-- ---- the round that goes on

pub free_step : (g : Going) (n : Note) → round_in n ≡ None → going_by g n ≡ noted g n
free_step g (Begun i) e = refl
free_step g (Sent request i p) e = refl
free_step g (Unsent request) e = refl
free_step g (Heard by reply) e = refl
free_step g (Refused i refusal) e = refl
free_step g (End status) e = refl
free_step g (Round number binds workers) e = absurd (cc)

pub free_all : (g : Going) (ns : List Note) → AreOfOneRound ns → going_after g ns ≡ noted_all g ns
free_all g [] one = λ i. record { number = g.number; size = g.size; given = g.given; notes = sym (append-nil g.notes) i }
free_all g (n ∷ ns) one =
    ap (λ (k : Going). going_after k ns) (free_step g n (one 0 n refl)) ∙ free_all (noted g n) ns (λ k. one (suc k))
    ∙ (λ i. record { number = g.number; size = g.size; given = g.given; notes = append_assoc g.notes (n ∷ []) ns i })

pub after_append : (g : Going) (xs ys : List Note) → going_after g (xs ++ ys) ≡ going_after (going_after g xs) ys
after_append g [] ys = refl
after_append g (x ∷ xs) ys = after_append (going_by g x) xs ys

module _ (rules : Rules) (ms : List Message) where
  shift : (before : List Note) (g : Going) (x : Note) (zs : List Note) → GoesOn rules ms (before ++ []) g x → AllGoOn rules ms (before ++ x ∷ []) (going_by g x) zs → AllGoOn rules ms before g (x ∷ zs)
  shift before g x zs here all zero n e = let same : x ≡ n = cc in subst (GoesOn rules ms (before ++ []) g) same here
  shift before g x zs here all (suc k) n e = subst (λ (l : List Note). GoesOn rules ms l (going_after (going_by g x) (take k zs)) n) (append_assoc before (x ∷ []) (take k zs)) (all k n e)

  pub unshift : (before : List Note) (g : Going) (x : Note) (zs : List Note) → AllGoOn rules ms before g (x ∷ zs) → AllGoOn rules ms (before ++ x ∷ []) (going_by g x) zs
  unshift before g x zs all k n e = subst (λ (l : List Note). GoesOn rules ms l (going_after (going_by g x) (take k zs)) n) (sym (append_assoc before (x ∷ []) (take k zs))) (all (suc k) n e)

  pub join : (xs ys before : List Note) (g : Going) → AllGoOn rules ms before g xs → AllGoOn rules ms (before ++ xs) (going_after g xs) ys → AllGoOn rules ms before g (xs ++ ys)
  join [] ys before g first later = subst (λ (l : List Note). AllGoOn rules ms l g ys) (append-nil before) later
  join (x ∷ xs) ys before g first later =
      shift before g x (xs ++ ys) (first 0 x refl)
      (join xs ys (before ++ x ∷ []) (going_by g x) (unshift before g x xs first)
      (subst (λ (l : List Note). AllGoOn rules ms l (going_after (going_by g x) xs) ys) (sym (append_assoc before (x ∷ []) xs)) later))

  pub goes_more : (xs before : List Note) (g : Going) (n : Note) → AllGoOn rules ms before g xs → GoesOn rules ms (before ++ xs) (going_after g xs) n → AllGoOn rules ms before g (xs ++ n ∷ [])
  goes_more xs before g n all here = join xs (n ∷ []) before g all last
    where
      last : AllGoOn rules ms (before ++ xs) (going_after g xs) (n ∷ [])
      last zero m e = let same : n ≡ m = cc in subst (GoesOn rules ms ((before ++ xs) ++ []) (going_after g xs)) same (subst (λ (l : List Note). GoesOn rules ms l (going_after g xs) n) (sym (append-nil (before ++ xs))) here)
      last (suc k) m e = absurd (cc)

  -- ---- the notes of one round

  plain_goes : (before : List Note) (g : Going) (n : Note) → round_in n ≡ None → end_in n ≡ None → MayFollow rules g.size ms g.given g.notes n → GoesOn rules ms before g n
  plain_goes before g (Begun i) one none h = h
  plain_goes before g (Sent request i p) one none h = h
  plain_goes before g (Unsent request) one none h = h
  plain_goes before g (Heard by reply) one none h = h
  plain_goes before g (Refused i refusal) one none h = h
  plain_goes before g (End status) one none h = absurd (cc)
  plain_goes before g (Round number binds workers) one none h = absurd (cc)

  goes_plain : (before : List Note) (g : Going) (n : Note) → round_in n ≡ None → end_in n ≡ None → GoesOn rules ms before g n → MayFollow rules g.size ms g.given g.notes n
  goes_plain before g (Begun i) one none h = h
  goes_plain before g (Sent request i p) one none h = h
  goes_plain before g (Unsent request) one none h = h
  goes_plain before g (Heard by reply) one none h = h
  goes_plain before g (Refused i refusal) one none h = h
  goes_plain before g (End status) one none h = absurd (cc)
  goes_plain before g (Round number binds workers) one none h = absurd (cc)

  -- nothing in the round that goes on runs on behind its end
  no_more : (before : List Note) (g : Going) (n : Note) (status : ℕ) → round_in n ≡ None → end_of g.notes ≡ Some status → GoesOn rules ms before g n → ⊥
  no_more before g (Begun i) status one over h = let on = h.going_on in absurd (cc)
  no_more before g (Sent request i p) status one over h = let on = h.going_on in absurd (cc)
  no_more before g (Unsent request) status one over h = let on = h.going_on in absurd (cc)
  no_more before g (Heard by reply) status one over h = let on = h.going_on in absurd (cc)
  no_more before g (Refused i refusal) status one over h = let on = h.going_on in absurd (cc)
  no_more before g (End other) status one over h = let on = h.going_on in absurd (cc)
  no_more before g (Round number binds workers) status one over h = absurd (cc)

  module _ (before : List Note) (number : ℕ) (size : RunSize) (given : List ℕ) where
    abbrev pub fresh : Going
    fresh = record { number = number; size = size; given = given; notes = [] }

    pub round_goes : (ns : List Note) → AreOfOneRound ns → HaveNoEnd ns → IsRound rules size ms given ns → AllGoOn rules ms before fresh ns
    round_goes ns one none all k n e =
        subst (λ (g : Going). GoesOn rules ms (before ++ take k ns) g n) (sym (free_all fresh (take k ns) (one_front ns k one)))
        (plain_goes (before ++ take k ns) (noted_all fresh (take k ns)) n (one k n e) (none k n e) (all k n e))

    pub round_stops : (ns : List Note) (k : ℕ) → AreOfOneRound ns → HaveNoEnd ns → IsFirstOff rules size ms given ns k → IsFirstStop rules ms before fresh ns k
    round_stops ns k one none h = record {
      front = round_goes (take k ns) (one_front ns k one) (none_front ns k none) h.front;
      note = h.note;
      there = h.there;
      refused = λ goes. h.refused (goes_plain (before ++ take k ns) (noted_all fresh (take k ns)) h.note (one k h.note h.there) (none k h.note h.there)
          (subst (λ (g : Going). GoesOn rules ms (before ++ take k ns) g h.note) (free_all fresh (take k ns) (one_front ns k one)) goes));
    }

    -- ---- the end of a round

    pub stop_whole : (ns : List Note) (end k : ℕ) → IsFirstStop rules ms before fresh (take end ns) k → IsFirstStop rules ms before fresh ns k
    stop_whole ns end k h =
        let within = slice_get_within (take end ns) k h.note h.there in
        let short = (short_front ns end).1 in
        let same = take_take ns k end (omega (arith, within, short)) in
        record {
          front = subst (AllGoOn rules ms before fresh) same h.front;
          note = h.note;
          there = got_of_take ns end k h.note h.there;
          refused = subst (λ (l : List Note). GoesOn rules ms (before ++ l) (going_after fresh l) h.note → ⊥) same h.refused;
        }

    end_goes : (ns : List Note) (end status : ℕ) → AreOfOneRound ns → slice_get ns end ≡ Some (End status) → MayEndRun rules ms (before ++ take end ns) (noted_all fresh (take end ns)) status
        → AllGoOn rules ms before fresh (take end ns) → AllGoOn rules ms before fresh (take (end + 1) ns)
    end_goes ns end status one there may front =
        subst (AllGoOn rules ms before fresh) (sym (take_snoc ns end (End status) there))
        (goes_more (take end ns) before fresh (End status) front
        (subst (λ (g : Going). MayEndRun rules ms (before ++ take end ns) g status) (sym (free_all fresh (take end ns) (one_front ns end one))) may))

    -- the last note of the round is of the run's end
    pub ended : (ns : List Note) (end status : ℕ) → AreOfOneRound ns → slice_get ns end ≡ Some (End status) → length ns ≤ end + 1 → MayEndRun rules ms (before ++ take end ns) (noted_all fresh (take end ns)) status
        → AllGoOn rules ms before fresh (take end ns) → AllGoOn rules ms before fresh ns
    ended ns end status one there few may front = subst (AllGoOn rules ms before fresh) (take_whole ns (end + 1) few) (end_goes ns end status one there may front)

    pub not_ended : (ns : List Note) (end status : ℕ) → AreOfOneRound ns → slice_get ns end ≡ Some (End status) → ¬ MayEndRun rules ms (before ++ take end ns) (noted_all fresh (take end ns)) status
        → AllGoOn rules ms before fresh (take end ns) → IsFirstStop rules ms before fresh ns end
    not_ended ns end status one there never front = record {
      front = front;
      note = End status;
      there = there;
      refused = λ goes. never (subst (λ (g : Going). MayEndRun rules ms (before ++ take end ns) g status) (free_all fresh (take end ns) (one_front ns end one)) goes);
    }

    pub behind_end : (ns : List Note) (end status : ℕ) (n : Note) → AreOfOneRound ns → HaveNoEnd (take end ns) → slice_get ns end ≡ Some (End status) → slice_get ns (end + 1) ≡ Some n
        → MayEndRun rules ms (before ++ take end ns) (noted_all fresh (take end ns)) status → AllGoOn rules ms before fresh (take end ns) → IsFirstStop rules ms before fresh ns (end + 1)
    behind_end ns end status n one none there next may front = record {
      front = end_goes ns end status one there may front;
      note = n;
      there = next;
      refused = λ goes.
          let over : end_of (take (end + 1) ns) ≡ Some status = ap end_of (take_snoc ns end (End status) there) ∙ first_snoc end_in (take end ns) (End status) ∙ ap (λ (o : Option ℕ). or_else o (Some status)) (no_end_of (take end ns) none) in
          no_more (before ++ take (end + 1) ns) (noted_all fresh (take (end + 1) ns)) n status (one (end + 1) n next) over
          (subst (λ (g : Going). GoesOn rules ms (before ++ take (end + 1) ns) g n) (free_all fresh (take (end + 1) ns) (one_front ns (end + 1) one)) goes);
    }
