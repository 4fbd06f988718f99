-- The numbers of a bind's seats, as they are joined into its keeper's.
use Rattle.std.proofs.Common.{◌≡◌, ◌+◌, ◌-◌, ◌++◌, ◌≤◌, ◌<◌, ℕ, zero, suc, List, [], ◌∷◌, length, map, refl, sym, ap, ◌∙◌, subst, arith, append_assoc, append-nil}
use Rattle.std.specs.Prelude.{take, drop, max}
use Rattle.std.proofs.Math.Nat.{le-max_left, le-max_right}
use Rattle.sms_core.specs.Numbers.{times, AllBelow}
use Rattle.sms_window.specs.declared.outcome.Closed.{Closed}
use Rattle.sms_window.specs.declared.view.View.{View}
use Rattle.sms_window.specs.Rule.{numbers_of}
use Rattle.sms_window.specs.Seats.{met_with, joined}
use Rattle.sms_driver.specs.Seated.{of_bind}
use Rattle.sms_driver.specs.Joined.{AreClosed, HasJoined, IsClosed}
use Rattle.sms_driver.specs.Numbered.{DrewBelow, DrewOnce, AllDrewOnce}
use Rattle.sms_driver.proofs.Numbering.{times_both}

-- the first of those that are left
pub next_views : {A : Type 0} (f : A → View) (n i : ℕ) (xs xs' : List A) (x : A) → i < n → xs ≡ x ∷ xs'
    → (take (n - i) (map f xs) ≡ f x ∷ take (n - (i + 1)) (map f xs')) × (drop (n - i) (map f xs) ≡ drop (n - (i + 1)) (map f xs'))
next_views f n i xs xs' x low is =
    let e : n - i ≡ suc (n - (i + 1)) = omega arith in
    ((λ j. take (e j) (map f (is j))), (λ j. drop (e j) (map f (is j))))

pub none_joined : (v : View) → HasJoined v [] v
none_joined v = record { names = omega arith; slots = omega arith; numbers = sym (append-nil v.numbers); first = refl; seen = omega arith; others_seen = tt }

-- a seat that was taken in goes before those that are taken in behind it
pub joined_first : (v u w own : View) (word : ℕ) (rest : List View) → u ≡ met_with (joined v own) word → HasJoined u rest w → HasJoined v (own ∷ rest) w
joined_first v u w own word rest is h =
    let family : u.family ≡ v.family + own.family = ap (λ (x : View). x.family) is in
    let slots : u.slots ≡ v.slots + own.slots = ap (λ (x : View). x.slots) is in
    let first : u.first ≡ v.first = ap (λ (x : View). x.first) is in
    let knows : u.seen ≡ max v.seen own.seen = ap (λ (x : View). x.seen) is in
    let mine : v.seen ≤ max v.seen own.seen = le-max_left v.seen own.seen in
    let theirs : own.seen ≤ max v.seen own.seen = le-max_right v.seen own.seen in
    let more = h.seen in
    let n = h.names in
    let s = h.slots in
    record {
      names = omega arith;
      slots = omega arith;
      numbers = h.numbers ∙ ap (λ (x : View). x.numbers ++ numbers_of rest) is ∙ append_assoc v.numbers own.numbers (numbers_of rest);
      first = h.first ∙ first;
      seen = omega arith;
      others_seen = (omega arith, h.others_seen);
    }

-- where none is left, all were taken in
pub all_joined : (n : ℕ) (v : View) (vs : List View) → n ≡ 0 → HasJoined v (take n vs) v
all_joined zero v vs none = none_joined v
all_joined (suc n) v vs none = absurd (omega arith)

pub none_dropped : (n : ℕ) (vs all : List View) → n ≡ 0 → drop n vs ≡ all → vs ≡ all
none_dropped zero vs all none e = e
none_dropped (suc n) vs all none e = absurd (omega arith)

-- what is once among all is once among those behind
pub once_in : (n : ℕ) (k own all : List ℕ) → all ≡ k ++ own → times n all ≤ 1 → times n own ≤ 1
once_in n k own all is few = let t : times n all ≡ times n k + times n own = ap (times n) is ∙ times_both n k own in omega arith

-- one bind more
pub first_once : {B : Type 0} (workers : ℕ) (bs bs' : List B) (b : B) (vs vs' : List View) → bs ≡ b ∷ bs' → vs' ≡ drop workers vs → DrewOnce (take workers vs)
    → AllDrewOnce (length bs') workers vs' → AllDrewOnce (length bs) workers vs
first_once workers bs bs' b vs vs' is left one rest zero low = one
first_once workers bs bs' b vs vs' is left one rest (suc bind) low =
    let more : length bs ≡ suc (length bs') = ap length is in
    subst (λ (l : List View). DrewOnce (of_bind workers bind l)) left (rest bind (omega (arith, low)))

-- by other words for the same
pub once_as : (binds n workers w : ℕ) (vs us : List View) → n ≡ binds → w ≡ workers → us ≡ vs → AllDrewOnce n w us → AllDrewOnce binds workers vs
once_as binds n workers w vs us e f s h bind low =
    subst (λ (l : List View). DrewOnce (of_bind workers bind l)) s (subst (λ (k : ℕ). DrewOnce (of_bind k bind us)) f (h bind (omega (arith, e, low))))

-- the window of one bind more was closed
pub closed_more : (workers : ℕ) (ks ks' ds ds' vs vs' : List View) (k d : View) (made more rest : List Closed) (c : Closed) (All : List Closed → Type 0) → more ≡ made ++ c ∷ [] → ks ≡ k ∷ ks' → ds ≡ d ∷ ds' → vs' ≡ drop workers vs
    → IsClosed k (d ∷ take workers vs) c → AreClosed workers ks' ds' vs' rest → (AreClosed workers ks ds vs (c ∷ rest) → All (made ++ (c ∷ rest))) → All (more ++ rest)
closed_more workers ks ks' ds ds' vs vs' k d made more rest c All adds ke de left one h goes =
    let others = subst (λ (l : List View). AreClosed workers ks' ds' l rest) left h in
    let all : AreClosed workers ks ds vs (c ∷ rest) = subst (λ (l : List View). AreClosed workers l ds vs (c ∷ rest)) (sym ke) (subst (λ (l : List View). AreClosed workers (k ∷ ks') l vs (c ∷ rest)) (sym de) (one, others)) in
    subst All (sym (ap (λ l. l ++ rest) adds ∙ append_assoc made (c ∷ []) rest)) (goes all)

-- before the first
pub none_closed : (workers : ℕ) (ks ks' ds ds' vs vs' : List View) (made rest : List Closed) → ks' ≡ ks → ds' ≡ ds → vs' ≡ vs → made ≡ [] → AreClosed workers ks' ds' vs' rest → AreClosed workers ks ds vs (made ++ rest)
none_closed workers ks ks' ds ds' vs vs' made rest k d v none h =
    subst (λ (l : List Closed). AreClosed workers ks ds vs (l ++ rest)) (sym none)
    (subst (λ (l : List View). AreClosed workers ks ds l rest) v (subst (λ (l : List View). AreClosed workers ks l vs' rest) d (subst (λ (l : List View). AreClosed workers l ds' vs' rest) k h)))

pub all_closed : (workers : ℕ) (ks ds vs : List View) (cs : List Closed) → AreClosed workers ks ds vs (cs ++ []) → AreClosed workers ks ds vs cs
all_closed workers ks ds vs cs h = subst (AreClosed workers ks ds vs) (append-nil cs) h

-- of two lists, each is below the top where they are below it together
pub below_behind : (top : ℕ) (xs ys : List ℕ) → AllBelow top (xs ++ ys) → AllBelow top ys
below_behind top [] ys a = a
below_behind top (x ∷ xs) ys a = below_behind top xs ys a.1

-- what the workers of each bind drew is below the number that its window was closed with
pub drew_below : (workers : ℕ) (ks ds vs : List View) (cs : List Closed) → AreClosed workers ks ds vs cs → DrewBelow workers vs cs
drew_below workers ks ds vs [] h bind c at = absurd (cc)
drew_below workers [] ds vs (x ∷ cs) h bind c at = absurd h
drew_below workers (k ∷ ks) [] vs (x ∷ cs) h bind c at = absurd h
drew_below workers (k ∷ ks) (d ∷ ds) vs (x ∷ cs) h zero c at =
    let same : x ≡ c = cc in
    let theirs = numbers_of (take workers vs) in
    let all = subst (AllBelow x.next) h.0.joined.numbers h.0.end.numbers in
    subst (λ (y : Closed). AllBelow y.next theirs) same (below_behind x.next d.numbers theirs (below_behind x.next k.numbers (d.numbers ++ theirs) all))
drew_below workers (k ∷ ks) (d ∷ ds) vs (x ∷ cs) h (suc bind) c at = drew_below workers ks ds (drop workers vs) cs h.1 bind c at
