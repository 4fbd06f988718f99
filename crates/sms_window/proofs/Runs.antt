-- Each kind of step as plain data: that it keeps the rule, which step on hold sets and on numbers
-- it is, and what runs of them keep.
use Rattle.std.proofs.Common.{◌≡◌, ◌≢◌, ℕ, ◌+◌, ◌-◌, ◌^◌, ◌<◌, ◌≤◌, ◌==◌, List, [], ◌∷◌, ◌++◌, set, refl, sym, ap, ◌∙◌, subst, arith, get_or-set_other, get_or-set_same}
use Rattle.std.specs.Int.{bit_at}
use mathlib.Core.Option.{some}
use lib.ListN.{get_elem?}
use Rattle.std.proofs.lemmas.Nat.Bits.{bit_at-lt, bit_at-pow_same, bit_at-pow_other}
use Rattle.atomic_table.proofs.Lists.{set_else, at_longer}
use Rattle.sms_core.specs.Holds.{SamePairs, Claims, Releases, Passes}
use Rattle.sms_core.specs.Numbers.{times}
use Rattle.sms_core.proofs.Bits.{bit_at_more, bit_at_less}
use Rattle.sms_window.specs.declared.view.View.{View}
use Rattle.sms_window.specs.declared.view.Opening.{Opening}
use Rattle.sms_window.specs.Seats.{Holds, met_with, with_slots, seen_with, drawn_with, giver, given, joined, nobody}
use Rattle.sms_window.specs.Rule.{pairs_of, numbers_of, IsWindow}
use Rattle.sms_window.specs.Moves.{Shared, window_word, number_word, IsThere, after_step, with_views, Move, looks, claims, releases, splits, joins, looks_at_number, draws, Moves, Runs, Spares, AllSpare, Without}
use Rattle.sms_window.specs.MoveSteps.{HoldStep, SameNumbers, OneMoreNumber, NumberStep}
use Rattle.sms_window.specs.Laws.{MoveKeepsRule, ClaimedOnce, DrawnOnce, DroppedStays}
use Rattle.sms_core.proofs.Numbers.{times_append}
use Rattle.sms_window.proofs.Views.{total_set, total_snoc, total_join, set_at, times-numbers_of}
use Rattle.sms_window.proofs.Moves.{met_seat, seen_seat, same_pairs, looked, claimed, released, drew, slot_in_word, word_small}
use Rattle.sms_window.proofs.Seats.{splits_keeps, split_pairs}
use Rattle.sms_window.proofs.Joins.{joins_keeps, passes}

-- the two words after a step on one of them
pub window_word_after : (o : Opening) (s : Shared) → IsWindow o s → (n id : ℕ) (v : View) → window_word (after_step s 0 n id v) ≡ n
window_word_after o s r n id v = let t = r.two in get_or-set_same s.words 0 n 0 (omega arith)

pub number_word_after : (o : Opening) (s : Shared) → IsWindow o s → (n id : ℕ) (v : View) → number_word (after_step s 1 n id v) ≡ n
number_word_after o s r n id v = let t = r.two in get_or-set_same s.words 1 n 0 (omega arith)

pub number_word_kept : (s : Shared) (n id : ℕ) (v : View) → number_word (after_step s 0 n id v) ≡ number_word s
number_word_kept s n id v = get_or-set_other s.words 0 1 n 0 (λ e. omega arith)

pub window_word_kept : (s : Shared) (n id : ℕ) (v : View) → window_word (after_step s 1 n id v) ≡ window_word s
window_word_kept s n id v = get_or-set_other s.words 1 0 n 0 (λ e. omega arith)

-- a seat's slot, taken from the word and given back
word_back : (o : Opening) (s : Shared) → IsWindow o s → (id k : ℕ) (v : View) → IsThere s id v → Holds v k → window_word s ≡ window_word s - 2 ^ k + 2 ^ k
word_back o s r id k v at h =
    let less = bit_at_less (window_word s) k h.0 (word_small o s r) (slot_in_word o s r id v k at h.0 h.1) in
    let y : ℕ = less.rest in
    let sum : window_word s ≡ y + 2 ^ k = less.sum in
    omega arith

pub move_keeps_rule : MoveKeepsRule
move_keeps_rule o s (looks id) t r h =
    subst (IsWindow o) (sym h.after) (looked o s r 0 (window_word s) id [] h.view _ h.seated.0 (omega arith) refl refl refl refl refl (met_seat o.first (number_word s) h.view _ (r.seats id h.view h.seated.0)))
move_keeps_rule o s (claims id slot) t r h = subst (IsWindow o) (sym h.after) (claimed o s r id [] h.view slot (window_word s) (window_word s + 2 ^ slot) h.seated.0 h.inside (word_small o s r) refl h.free refl h.seated.1).rule
move_keeps_rule o s (releases id slot) t r h = subst (IsWindow o) (sym h.after) (released o s r id [] h.view slot (window_word s) (window_word s - 2 ^ slot) h.seated.0 h.held.0 h.held.1 refl (word_back o s r id slot h.view h.seated.0 h.held) h.seated.1).rule
move_keeps_rule o s (splits id) t r h = subst (IsWindow o) (sym h.after) (splits_keeps o id h.view h.seated.1 h.can s r h.seated.0)
move_keeps_rule o s (joins id other) t r h =
    subst (IsWindow o) (sym h.after) (joins_keeps o id h.view other h.theirs h.seated.1 h.there.1 s r h.seated.0 h.apart (set_else s.views id other (joined h.view h.theirs) h.apart ∙ h.there.0))
move_keeps_rule o s (looks_at_number id) t r h =
    let seat = r.seats id h.view h.seated.0 in
    subst (IsWindow o) (sym h.after) (looked o s r 1 (number_word s) id [] h.view _ h.seated.0 (omega arith) refl refl refl refl refl (seen_seat o.first (number_word s) h.view _ seat.seen (omega arith) seat))
move_keeps_rule o s (draws id) t r h = subst (IsWindow o) (sym h.after) (drew o s r id [] h.view (number_word s) (number_word s + 1) h.seated.0 refl refl h.lawful h.seated.1).0

-- which step on hold sets
pub hold_step : (o : Opening) (s : Shared) (m : Move) (t : Shared) → IsWindow o s → Moves s m t → HoldStep s m t
hold_step o s (looks id) t r h = subst (λ (u : Shared). SamePairs (pairs_of s.views) (pairs_of u.views)) (sym h.after) (same_pairs s.views id h.view _ h.seated.0 refl refl)
hold_step o s (claims id slot) t r h =
    record { view = h.view; there = h.seated.0; claim = subst (λ (u : Shared). Claims (pairs_of s.views) h.view.name slot (pairs_of u.views)) (sym h.after) (claimed o s r id [] h.view slot (window_word s) (window_word s + 2 ^ slot) h.seated.0 h.inside (word_small o s r) refl h.free refl h.seated.1).pairs }
hold_step o s (releases id slot) t r h =
    record { view = h.view; there = h.seated.0; release = subst (λ (u : Shared). Releases (pairs_of s.views) h.view.name slot (pairs_of u.views)) (sym h.after) (released o s r id [] h.view slot (window_word s) (window_word s - 2 ^ slot) h.seated.0 h.held.0 h.held.1 refl (word_back o s r id slot h.view h.seated.0 h.held) h.seated.1).pairs }
hold_step o s (splits id) t r h = subst (λ (u : Shared). SamePairs (pairs_of s.views) (pairs_of u.views)) (sym h.after) (split_pairs s.views id h.view (giver h.view) (given h.view) h.seated.0 refl refl refl)
hold_step o s (joins id other) t r h =
    record { view = h.view; theirs = h.theirs; there = h.seated.0; theirs_there = h.there.0; pass = subst (λ (u : Shared). Passes (pairs_of s.views) (λ name. name == h.theirs.name) h.view.name (pairs_of u.views)) (sym h.after) (passes o s r id other h.view h.theirs h.seated.1 h.there.1 h.apart h.seated.0 h.there.0) }
hold_step o s (looks_at_number id) t r h = subst (λ (u : Shared). SamePairs (pairs_of s.views) (pairs_of u.views)) (sym h.after) (same_pairs s.views id h.view _ h.seated.0 refl refl)
hold_step o s (draws id) t r h = subst (λ (u : Shared). SamePairs (pairs_of s.views) (pairs_of u.views)) (sym h.after) (same_pairs s.views id h.view _ h.seated.0 refl refl)

-- one view changes, and not its numbers
numbers_kept : (views : List View) (id : ℕ) (v w : View) → get_elem? views id ≡ some v → w.numbers ≡ v.numbers → (n : ℕ) → times n (numbers_of (set views id w)) ≡ times n (numbers_of views)
numbers_kept views id v w at same n =
    let a = times-numbers_of n (set views id w) in
    let b = times-numbers_of n views in
    let t = total_set (λ u. times n u.numbers) views id v w at in
    let e : times n w.numbers ≡ times n v.numbers = ap (times n) same in
    omega arith

same_numbers : (s : Shared) (n id : ℕ) (v w : View) → IsThere s id v → w.numbers ≡ v.numbers → SameNumbers s (after_step s 0 n id w)
same_numbers s n id v w at same = (number_word_kept s n id w, numbers_kept s.views id v w at same)

split_numbers : (s : Shared) (id : ℕ) (v : View) → IsThere s id v → SameNumbers s (with_views s (set s.views id (giver v) ++ given v ∷ []))
split_numbers s id v at = (
  refl,
  λ n.
      let a = times-numbers_of n (set s.views id (giver v) ++ given v ∷ []) in
      let b = times-numbers_of n s.views in
      let t = total_set (λ u. times n u.numbers) s.views id v (giver v) at in
      let u = total_snoc (λ u. times n u.numbers) (set s.views id (giver v)) (given v) in
      omega arith,
)

join_numbers : (s : Shared) (id other : ℕ) (v w : View) → other ≢ id → IsThere s id v → IsThere s other w → SameNumbers s (with_views s (set (set s.views id (joined v w)) other nobody))
join_numbers s id other v w ne at there = (
  refl,
  λ n.
      let a = times-numbers_of n (set (set s.views id (joined v w)) other nobody) in
      let b = times-numbers_of n s.views in
      let t = total_join (λ u. times n u.numbers) s.views id other v w (joined v w) nobody ne at there (times_append n v.numbers w.numbers) refl in
      omega arith,
)

drawn_numbers : (views : List View) (id k : ℕ) (v : View) → get_elem? views id ≡ some v → (n : ℕ) → times n (numbers_of (set views id (drawn_with v k))) ≡ times n (numbers_of views ++ k ∷ [])
drawn_numbers views id k v at n =
    let a = times-numbers_of n (set views id (drawn_with v k)) in
    let b = times-numbers_of n views in
    let t = total_set (λ u. times n u.numbers) views id v (drawn_with v k) at in
    let mine = times_append n v.numbers (k ∷ []) in
    let all = times_append n (numbers_of views) (k ∷ []) in
    omega arith

-- and what it does to the numbers
pub number_step : (o : Opening) (s : Shared) (m : Move) (t : Shared) → IsWindow o s → Moves s m t → NumberStep s m t
number_step o s (looks id) t r h = subst (SameNumbers s) (sym h.after) (same_numbers s _ id h.view _ h.seated.0 refl)
number_step o s (claims id slot) t r h = subst (SameNumbers s) (sym h.after) (same_numbers s _ id h.view _ h.seated.0 refl)
number_step o s (releases id slot) t r h = subst (SameNumbers s) (sym h.after) (same_numbers s _ id h.view _ h.seated.0 refl)
number_step o s (splits id) t r h = subst (SameNumbers s) (sym h.after) (split_numbers s id h.view h.seated.0)
number_step o s (joins id other) t r h = subst (SameNumbers s) (sym h.after) (join_numbers s id other h.view h.theirs h.apart h.seated.0 h.there.0)
number_step o s (looks_at_number id) t r h = subst (SameNumbers s) (sym h.after) (number_word_after o s r (number_word s) id (seen_with h.view (number_word s)), numbers_kept s.views id h.view _ h.seated.0 refl)
number_step o s (draws id) t r h =
    let w = drawn_with h.view (number_word s) in
    subst (OneMoreNumber s id) (sym h.after)
    (record { old = h.view; new = w; before = h.seated.0; after = set_at s.views id h.view w h.seated.0; is = (refl, number_word_after o s r (number_word s + 1) id w) }, drawn_numbers s.views id (number_word s) h.view h.seated.0)

-- a bit that is set stays where another is set or taken away
more_bits : (w k i : ℕ) → bit_at w k ≡ 0 → bit_at w i ≡ 1 → bit_at (w + 2 ^ k) i ≡ 1
more_bits w k i clear has = let m = bit_at_more w k clear i in let b = bit_at-lt (w + 2 ^ k) i in omega arith

less_bits : (w k i : ℕ) → k < 64 → w < 2 ^ 64 → bit_at w k ≡ 1 → k ≢ i → bit_at w i ≡ 1 → bit_at (w - 2 ^ k) i ≡ 1
less_bits w k i inside small set_there ne has =
    let less = bit_at_less w k inside small set_there in
    let y : ℕ = less.rest in
    let sum : w ≡ y + 2 ^ k = less.sum in
    let rest : bit_at (w - 2 ^ k) i ≡ bit_at y i = ap (λ (n : ℕ). bit_at n i) (omega arith) in
    let whole : bit_at w i ≡ bit_at (y + 2 ^ k) i = ap (λ (n : ℕ). bit_at n i) sum in
    let m = bit_at_more y k less.clear i in
    let p = bit_at-pow_other k i (λ e. ne (sym e)) in
    omega arith

-- a slot that is held stays so until it is released
stays_held : (o : Opening) (s : Shared) (m : Move) (t : Shared) (slot : ℕ) → IsWindow o s → Moves s m t → Spares slot m → bit_at (window_word s) slot ≡ 1 → bit_at (window_word t) slot ≡ 1
stays_held o s (looks id) t slot r h spare has = ap (λ (u : Shared). bit_at (window_word u) slot) h.after ∙ ap (λ (n : ℕ). bit_at n slot) (window_word_after o s r (window_word s) id (met_with h.view (window_word s))) ∙ has
stays_held o s (claims id k) t slot r h spare has =
    ap (λ (u : Shared). bit_at (window_word u) slot) h.after ∙ ap (λ (n : ℕ). bit_at n slot) (window_word_after o s r (window_word s + 2 ^ k) id (with_slots h.view (h.view.slots + 2 ^ k) (window_word s + 2 ^ k))) ∙ more_bits (window_word s) k slot h.free has
stays_held o s (releases id k) t slot r h spare has =
    ap (λ (u : Shared). bit_at (window_word u) slot) h.after ∙ ap (λ (n : ℕ). bit_at n slot) (window_word_after o s r (window_word s - 2 ^ k) id (with_slots h.view (h.view.slots - 2 ^ k) (window_word s - 2 ^ k)))
    ∙ less_bits (window_word s) k slot h.held.0 (word_small o s r) (slot_in_word o s r id h.view k h.seated.0 h.held.0 h.held.1) spare has
stays_held o s (splits id) t slot r h spare has = ap (λ (u : Shared). bit_at (window_word u) slot) h.after ∙ has
stays_held o s (joins id other) t slot r h spare has = ap (λ (u : Shared). bit_at (window_word u) slot) h.after ∙ has
stays_held o s (looks_at_number id) t slot r h spare has = ap (λ (u : Shared). bit_at (window_word u) slot) h.after ∙ ap (λ (n : ℕ). bit_at n slot) (window_word_kept s (number_word s) id (seen_with h.view (number_word s))) ∙ has
stays_held o s (draws id) t slot r h spare has = ap (λ (u : Shared). bit_at (window_word u) slot) h.after ∙ ap (λ (n : ℕ). bit_at n slot) (window_word_kept s (number_word s + 1) id (drawn_with h.view (number_word s))) ∙ has

run_stays_held : (o : Opening) (s : Shared) (ms : List Move) (t : Shared) (slot : ℕ) → IsWindow o s → Runs s ms t → AllSpare slot ms → bit_at (window_word s) slot ≡ 1 → bit_at (window_word t) slot ≡ 1
run_stays_held o s [] t slot r run spare has = ap (λ (u : Shared). bit_at (window_word u) slot) run ∙ has
run_stays_held o s (m ∷ ms) t slot r (mid, move, later) spare has =
    run_stays_held o mid ms t slot (move_keeps_rule o s m mid r move) later spare.1 (stays_held o s m mid slot r move spare.0 has)

pub claimed_once : ClaimedOnce
claimed_once o s claimed later after id other slot ms r h run spare again =
    let there = bit_at_more (window_word s) slot h.free slot in
    let one = bit_at-pow_same slot in
    let clear = h.free in
    let got : bit_at (window_word claimed) slot ≡ 1 = ap (λ (u : Shared). bit_at (window_word u) slot) h.after ∙ ap (λ (n : ℕ). bit_at n slot) (window_word_after o s r (window_word s + 2 ^ slot) id (with_slots h.view (h.view.slots + 2 ^ slot) (window_word s + 2 ^ slot))) ∙ (omega arith) in
    let still = run_stays_held o claimed ms later slot (move_keeps_rule o s (claims id slot) claimed r h) run spare got in
    let free = again.free in
    omega arith

-- the number word never falls
number_grows : (s : Shared) (m : Move) (t : Shared) → NumberStep s m t → number_word s ≤ number_word t
number_grows s (looks id) t e = let a = e.0 in omega arith
number_grows s (claims id slot) t e = let a = e.0 in omega arith
number_grows s (releases id slot) t e = let a = e.0 in omega arith
number_grows s (splits id) t e = let a = e.0 in omega arith
number_grows s (joins id other) t e = let a = e.0 in omega arith
number_grows s (looks_at_number id) t e = let a = e.0 in omega arith
number_grows s (draws id) t e = let a = e.0.is.1 in omega arith

run_grows : (o : Opening) (s : Shared) (ms : List Move) (t : Shared) → IsWindow o s → Runs s ms t → number_word s ≤ number_word t
run_grows o s [] t r run = let e : number_word t ≡ number_word s = ap number_word run in omega arith
run_grows o s (m ∷ ms) t r (mid, move, later) =
    let first = number_grows s m mid (number_step o s m mid r move) in
    let rest = run_grows o mid ms t (move_keeps_rule o s m mid r move) later in
    omega arith

pub drawn_once : DrawnOnce
drawn_once o s drawn later id ms r h run =
    let one = (number_step o s (draws id) drawn r h).0.is.1 in
    let rest = run_grows o drawn ms later (move_keeps_rule o s (draws id) drawn r h) run in
    omega arith

pub run_keeps_rule : (o : Opening) (s : Shared) (ms : List Move) (t : Shared) → IsWindow o s → Runs s ms t → IsWindow o t
run_keeps_rule o s [] t r run = subst (IsWindow o) (sym run) r
run_keeps_rule o s (m ∷ ms) t r (mid, move, later) = run_keeps_rule o mid ms t (move_keeps_rule o s m mid r move) later

-- the view of a seat that makes no step
pub stays_there : (s : Shared) (m : Move) (t : Shared) (seat : ℕ) (v : View) → IsThere s seat v → Moves s m t → Without seat m → IsThere t seat v
stays_there s (looks id) t seat v at h out = subst (λ (u : Shared). IsThere u seat v) (sym h.after) (set_else s.views id seat (met_with h.view (window_word s)) out ∙ at)
stays_there s (claims id slot) t seat v at h out = subst (λ (u : Shared). IsThere u seat v) (sym h.after) (set_else s.views id seat (with_slots h.view (h.view.slots + 2 ^ slot) (window_word s + 2 ^ slot)) out ∙ at)
stays_there s (releases id slot) t seat v at h out = subst (λ (u : Shared). IsThere u seat v) (sym h.after) (set_else s.views id seat (with_slots h.view (h.view.slots - 2 ^ slot) (window_word s - 2 ^ slot)) out ∙ at)
stays_there s (splits id) t seat v at h out = subst (λ (u : Shared). IsThere u seat v) (sym h.after) (at_longer (set s.views id (giver h.view)) (given h.view ∷ []) seat v (set_else s.views id seat (giver h.view) out ∙ at))
stays_there s (joins id other) t seat v at h out =
    subst (λ (u : Shared). IsThere u seat v) (sym h.after) (set_else (set s.views id (joined h.view h.theirs)) other seat nobody out.1 ∙ set_else s.views id seat (joined h.view h.theirs) out.0 ∙ at)
stays_there s (looks_at_number id) t seat v at h out = subst (λ (u : Shared). IsThere u seat v) (sym h.after) (set_else s.views id seat (seen_with h.view (number_word s)) out ∙ at)
stays_there s (draws id) t seat v at h out = subst (λ (u : Shared). IsThere u seat v) (sym h.after) (set_else s.views id seat (drawn_with h.view (number_word s)) out ∙ at)

pub dropped_stays : DroppedStays
dropped_stays s later seat v [] at run out = subst (λ (u : Shared). IsThere u seat v) (sym run) at
dropped_stays s later seat v (m ∷ ms) at (mid, move, rest) out = dropped_stays mid later seat v ms (stays_there s m mid seat v at move out.0) rest out.1
