-- What each kind of move does to what the seats know, and so which step it is.
use Rattle.std.proofs.Common.{◌≡◌, ℕ, zero, suc, ◌+◌, ◌-◌, ◌^◌, ◌==◌, List, [], ◌∷◌, ◌++◌, if◌then◌else◌, length, set, length-set, refl, sym, ap, ◌∙◌, subst, arith, eq-eqb, ne_eqb}
use Rattle.std.specs.Int.{bit_at}
use mathlib.Core.Logic.{dite}
use mathlib.Core.Option.{some}
use native.Mathlib.Decide.{ℕ_discrete}
use lib.ListN.{get_elem?}
use Rattle.std.proofs.lemmas.Nat.Bits.{bit_at-pow_same, bit_at-pow_other}
use Rattle.atomic_table.proofs.Lists.{set_else}
use Rattle.sms_core.proofs.Bits.{bit_at_add, bit_at_more, bit_at_less}
use Rattle.sms_window.specs.declared.view.View.{View}
use Rattle.sms_window.specs.declared.view.Opening.{Opening}
use Rattle.sms_window.specs.Seats.{giver, given, joined, nobody, name_to_give}
use Rattle.sms_window.specs.Rule.{IsWindow}
use Rattle.sms_window.specs.Moves.{Shared, window_word, number_word, IsThere, after_step, Move, looks, claims, releases, splits, joins, looks_at_number, draws, Moves, SplitsOff, TakesIn}
use Rattle.sms_window.specs.MoveSteps.{Turns, KnowsWindow, KnowsNumber, SplitTurn, JoinTurn, SeatStep}
use Rattle.sms_window.specs.Laws.{MoveIsStep}
use Rattle.sms_window.proofs.Views.{set_at}
use Rattle.sms_window.proofs.Seats.{name_apart}
use Rattle.sms_window.proofs.Joins.{families_apart}
use Rattle.sms_window.proofs.LawProofs.{gives_greatest}
use Rattle.sms_window.proofs.Runs.{window_word_after, number_word_after, hold_step, number_step, stays_there}

-- a step on the window word that leaves it as n
knows_window : (o : Opening) (s : Shared) → IsWindow o s → (id n : ℕ) (v w : View) → IsThere s id v → w.met ≡ n → w.seen ≡ v.seen → w.name ≡ v.name → w.family ≡ v.family
    → (t : Shared) → t ≡ after_step s 0 n id w → Turns (KnowsWindow (window_word t)) s id t
knows_window o s r id n v w at met seen name family t e = subst (λ (u : Shared). Turns (KnowsWindow (window_word u)) s id u) (sym e) (record {
  old = v;
  new = w;
  before = at;
  after = set_at s.views id v w at;
  is = record { met = met ∙ sym (window_word_after o s r n id w); seen = seen; name = name; family = family };
})

knows_number : (o : Opening) (s : Shared) → IsWindow o s → (id n : ℕ) (v w : View) → IsThere s id v → w.seen ≡ n → w.met ≡ v.met → w.name ≡ v.name → w.family ≡ v.family
    → (t : Shared) → t ≡ after_step s 1 n id w → Turns (KnowsNumber (number_word t)) s id t
knows_number o s r id n v w at seen met name family t e = subst (λ (u : Shared). Turns (KnowsNumber (number_word u)) s id u) (sym e) (record {
  old = v;
  new = w;
  before = at;
  after = set_at s.views id v w at;
  is = record { seen = seen ∙ sym (number_word_after o s r n id w); met = met; name = name; family = family };
})

last_at : {A : Type 0} (xs : List A) (x : A) → get_elem? (xs ++ x ∷ []) (length xs) ≡ some x
last_at [] x = refl
last_at (y ∷ xs) x = last_at xs x

before_last : {A : Type 0} (xs : List A) (x y : A) (i : ℕ) → get_elem? xs i ≡ some y → get_elem? (xs ++ x ∷ []) i ≡ some y
before_last [] x y i at = absurd (cc)
before_last (z ∷ xs) x y zero at = at
before_last (z ∷ xs) x y (suc i) at = before_last xs x y i at

split_turn : (o : Opening) (s : Shared) (id : ℕ) (t : Shared) → IsWindow o s → SplitsOff s id t → SplitTurn s id t
split_turn o s id t r h =
    let v = h.view in
    let whole = (r.seats id v h.seated.0).whole in
    let own_name = whole.named h.seated.1 in
    let g = name_apart v whole.family own_name.0 own_name.1 h.can in
    let less = bit_at_less v.family (name_to_give v) g.inside whole.family g.there in
    let y : ℕ = less.rest in
    let sum : v.family ≡ y + 2 ^ name_to_give v = less.sum in
    let rest : v.family - 2 ^ name_to_give v ≡ y = omega arith in
    subst (λ (u : Shared). SplitTurn s id u) (sym h.after) (record {
      old = v;
      new = giver v;
      made = given v;
      before = h.seated.0;
      after = before_last (set s.views id (giver v)) (given v) (giver v) id (set_at s.views id v (giver v) h.seated.0);
      there = subst (λ (n : ℕ). get_elem? (set s.views id (giver v) ++ given v ∷ []) n ≡ some (given v)) (length-set s.views id (giver v)) (last_at (set s.views id (giver v)) (given v));
      name = refl;
      greatest = (gives_greatest o s id v r h.seated.0 h.seated.1).1 h.can;
      one = λ n. one_bit (name_to_give v) n;
      rest = λ n. sym (ap (λ (w : ℕ). bit_at w n) sum ∙ bit_at_more y (name_to_give v) less.clear n ∙ ap (λ (w : ℕ). bit_at w n + bit_at (2 ^ name_to_give v) n) (sym rest));
      empty = (refl, refl);
      met = (refl, refl);
      seen = (refl, refl);
    })
  where
    one_bit : (k n : ℕ) → bit_at (2 ^ k) n ≡ (if n == k then 1 else 0)
    one_bit k n = dite (ℕ_discrete n k) (λ e. rw (eq-eqb n k e) (ap (bit_at (2 ^ k)) e ∙ bit_at-pow_same k)) (λ ne. rw (ne_eqb n k ne) (bit_at-pow_other k n ne))

join_turn : (o : Opening) (s : Shared) (id other : ℕ) (t : Shared) → IsWindow o s → TakesIn s id other t → JoinTurn s id other t
join_turn o s id other t r h =
    let v = h.view in
    let u = h.theirs in
    let both = joined v u in
    let there : get_elem? (set s.views id both) other ≡ some u = set_else s.views id other both h.apart ∙ h.there.0 in
    subst (λ (x : Shared). JoinTurn s id other x) (sym h.after) (record {
      old = v;
      theirs = u;
      new = both;
      left = nobody;
      before = h.seated.0;
      before_theirs = h.there.0;
      after = set_else (set s.views id both) other id nobody (λ e. h.apart (sym e)) ∙ set_at s.views id v both h.seated.0;
      after_theirs = set_at (set s.views id both) other u nobody there;
      name = refl;
      family = bit_at_add v.family u.family (families_apart o s r id other v u h.apart h.seated.0 h.there.0);
      met = refl;
      seen = refl;
      spent = refl;
    })

seat_step : (o : Opening) (s : Shared) (m : Move) (t : Shared) → IsWindow o s → Moves s m t → SeatStep s m t
seat_step o s (looks id) t r h = knows_window o s r id _ h.view _ h.seated.0 refl refl refl refl t h.after
seat_step o s (claims id slot) t r h = knows_window o s r id _ h.view _ h.seated.0 refl refl refl refl t h.after
seat_step o s (releases id slot) t r h = knows_window o s r id _ h.view _ h.seated.0 refl refl refl refl t h.after
seat_step o s (splits id) t r h = split_turn o s id t r h
seat_step o s (joins id other) t r h = join_turn o s id other t r h
seat_step o s (looks_at_number id) t r h = knows_number o s r id _ h.view _ h.seated.0 refl refl refl refl t h.after
seat_step o s (draws id) t r h = knows_number o s r id _ h.view _ h.seated.0 refl refl refl refl t h.after

pub move_is_step : MoveIsStep
move_is_step o s m t r h = record { holds = hold_step o s m t r h; numbers = number_step o s m t r h; seats = seat_step o s m t r h; others = λ seat v at out. stays_there s m t seat v at h out }
