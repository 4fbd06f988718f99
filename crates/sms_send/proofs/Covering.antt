-- Each message's end is among those of some bind's workers, in a place of its own.
use Rattle.std.proofs.Common.{◌≡◌, ◌≢◌, ◌==◌, ◌<◌, ◌+◌, ◌*◌, ⊎_elim, inl, inr, ℕ, zero, suc, Bool, true, false, if◌then◌else◌, List, [], ◌∷◌, Some, length, replicate, refl, sym, ap, ◌∙◌, subst, arith}
use Rattle.std.proofs.lemmas.Bool.Decides.{eqb_tells}
use Rattle.std.proofs.lemmas.List.{length-drop}
use Rattle.std.proofs.Math.Nat.{suc-mul}
use Rattle.std.specs.Prelude.{◌⊎◌, drop, take, slice_get}
use Rattle.sms_worker.specs.Types.{MessageEnd, SegmentEnd}
use Rattle.sms_message.specs.Ends.{segment_at, segments_in}
use Rattle.sms_worker.specs.Rests.{Charge}
use Rattle.sms_driver.specs.Answered.{ends_at}
use Rattle.sms_driver.specs.Deals.{cons_at, dealt, next}
use Rattle.sms_send.proofs.Accepting.{end_at}
use Rattle.sms_send.specs.Laws.{ChargedPart}

module _ {X : Type 0} where
  length-cons_at : (ls : List (List X)) (w : ℕ) (x : X) → length (cons_at ls w x) ≡ length ls
  length-cons_at [] w x = refl
  length-cons_at (l ∷ ls) zero x = refl
  length-cons_at (l ∷ ls) (suc w) x = ap suc (length-cons_at ls w x)

  length-nils : (n : ℕ) (xs : List X) → length (replicate n xs) ≡ n
  length-nils zero xs = refl
  length-nils (suc n) xs = ap suc (length-nils n xs)

  length-dealt : (count w : ℕ) (xs : List X) → length (dealt count w xs) ≡ count
  length-dealt count w [] = length-nils count []
  length-dealt count w (x ∷ xs) = length-cons_at (dealt count (next count w) xs) w x ∙ length-dealt count (next count w) xs

next_below : (count w : ℕ) → w < count → next count w < count
next_below count w low = ⊎_elim
    (λ (e : ((w + 1 == count) ≡ true) × (w + 1 ≡ count)). subst (λ (b : Bool). (if b then 0 else w + 1) < count) (sym e.0) (omega arith))
    (λ (e : ((w + 1 == count) ≡ false) × (w + 1 ≢ count)). subst (λ (b : Bool). (if b then 0 else w + 1) < count) (sym e.0) (let n = e.1 in omega arith))
    (eqb_tells (w + 1) count)

-- places of lists, once an item came first in the one at w: a place in the list v, and what stood there before
abbrev same : ℕ → ℕ → Bool
same zero zero = true
same zero (suc b) = false
same (suc a) zero = false
same (suc a) (suc b) = same a b

same_self : (a : ℕ) → same a a ≡ true
same_self zero = refl
same_self (suc a) = same_self a

abbrev moved : Bool → ℕ → ℕ
moved true k = suc k
moved false k = k

abbrev back : Bool → ℕ → (ℕ → ℕ) → ℕ
back true zero f = zero
back true (suc k) f = suc (f k)
back false k f = suc (f k)

back_moved : (b : Bool) (k : ℕ) (f : ℕ → ℕ) → back b (moved b k) f ≡ suc (f k)
back_moved true k f = refl
back_moved false k f = refl

-- which of the items stands in a place of the lists to which they were dealt
abbrev pub origin : {X : Type 0} → ℕ → ℕ → List X → ℕ → ℕ → ℕ
origin count w [] v k = 0
origin count w (y ∷ ys) v k = back (same v w) k (origin count (next count w) ys v)

-- the k-th item has a place in one of the lists
record HasPlace {X : Type 0} (count w : ℕ) (ys : List X) (k : ℕ) (x : X) : Type 0 where
  list : ℕ
  items : List X
  there : slice_get (dealt count w ys) list ≡ Some items
  place : ℕ
  at : slice_get items place ≡ Some x
  from : origin count w ys list place ≡ k

module _ {X : Type 0} where
  at_front : (ls : List (List X)) (w : ℕ) (x : X) → w < length ls → (items : List X) × (slice_get (cons_at ls w x) w ≡ Some items) × (slice_get items 0 ≡ Some x)
  at_front [] w x low = absurd (omega arith)
  at_front (l ∷ ls) zero x low = (x ∷ l, refl, refl)
  at_front (l ∷ ls) (suc w) x low = at_front ls w x (omega arith)

  behind : (ls : List (List X)) (w : ℕ) (y : X) (v k : ℕ) (items : List X) (x : X) → slice_get ls v ≡ Some items → slice_get items k ≡ Some x
      → (others : List X) × (slice_get (cons_at ls w y) v ≡ Some others) × (slice_get others (moved (same v w) k) ≡ Some x)
  behind [] w y v k items x there at = absurd (cc)
  behind (l ∷ ls) zero y zero k items x there at = let e : items ≡ l = cc in (y ∷ l, refl, subst (λ xs. slice_get xs k ≡ Some x) e at)
  behind (l ∷ ls) zero y (suc v) k items x there at = (items, there, at)
  behind (l ∷ ls) (suc w) y zero k items x there at = (items, there, at)
  behind (l ∷ ls) (suc w) y (suc v) k items x there at = behind ls w y v k items x there at

  dealt_to : (count w : ℕ) (ys : List X) (k : ℕ) (x : X) → w < count → slice_get ys k ≡ Some x → HasPlace count w ys k x
  dealt_to count w [] k x low at = absurd (cc)
  dealt_to count w (y ∷ ys) zero x low at =
      let e : y ≡ x = cc in
      let long = length-dealt count (next count w) ys in
      let h = at_front (dealt count (next count w) ys) w y (omega arith) in
      record { list = w; items = h.0; there = h.1; place = 0; at = h.2 ∙ ap Some e; from = ap (λ b. back b 0 (origin count (next count w) ys w)) (same_self w) }
  dealt_to count w (y ∷ ys) (suc k) x low at =
      let h = dealt_to count (next count w) ys k x (next_below count w low) at in
      let b = behind (dealt count (next count w) ys) w y h.list h.place h.items x h.there h.at in
      record {
        list = h.list;
        items = b.0;
        there = b.1;
        place = moved (same h.list w) h.place;
        at = b.2;
        from = back_moved (same h.list w) h.place (origin count (next count w) ys h.list) ∙ ap suc h.from;
      }

  -- what stands in a list is among its first so many, or behind them
  parted : (n : ℕ) (xs : List X) (k : ℕ) (x : X) → slice_get xs k ≡ Some x → (slice_get (take n xs) k ≡ Some x) ⊎ ((j : ℕ) × (slice_get (drop n xs) j ≡ Some x) × (k ≡ n + j))
  parted zero xs k x at = inr (k, at, omega arith)
  parted (suc n) [] k x at = absurd (cc)
  parted (suc n) (y ∷ xs) zero x at = inl at
  parted (suc n) (y ∷ xs) (suc k) x at = ⊎_elim
      (λ (h : slice_get (take n xs) k ≡ Some x). inl h)
      (λ (h : (j : ℕ) × (slice_get (drop n xs) j ≡ Some x) × (k ≡ n + j)). inr (h.0, h.1, (let e = h.2 in omega arith)))
      (parted n xs k x at)

-- the bind of the worker at this place among all, and its place among the bind's
record HasBind (workers binds : ℕ) (ess : List (List MessageEnd)) (w : ℕ) (es : List MessageEnd) : Type 0 where
  bind : ℕ
  is_one : bind < binds
  worker : ℕ
  theirs : slice_get (ends_at workers bind ess) worker ≡ Some es
  from : w ≡ bind * workers + worker

of_some : (workers binds : ℕ) (ess : List (List MessageEnd)) (w : ℕ) (es : List MessageEnd) → length ess ≡ binds * workers → slice_get ess w ≡ Some es → HasBind workers binds ess w es
of_some workers zero [] w es long at = absurd (cc)
of_some workers zero (x ∷ ess) w es long at = absurd (omega (arith, long))
of_some workers (suc binds) ess w es long at = ⊎_elim
    (λ (h : slice_get (take workers ess) w ≡ Some es). record { bind = 0; is_one = omega arith; worker = w; theirs = h; from = omega arith })
    (λ (h : (j : ℕ) × (slice_get (drop workers ess) j ≡ Some es) × (w ≡ workers + j)).
    let more = suc-mul binds workers in
    let dropped = length-drop workers ess in
    let r = of_some workers binds (drop workers ess) h.0 es (omega (arith, more, dropped, long)) h.1 in
    let next_one = suc-mul r.bind workers in
    let low = r.is_one in
    let e = h.2 in
    let f = r.from in
    record { bind = suc r.bind; is_one = omega arith; worker = r.worker; theirs = r.theirs; from = omega (arith, next_one, e, f) })
    (parted workers ess w es at)

part_at : (es : List MessageEnd) (k p : ℕ) (e : MessageEnd) (s : SegmentEnd) → slice_get es k ≡ Some e → slice_get (segments_in e.result) p ≡ Some s → segment_at es k p ≡ Some s
part_at [] k p e s there at = absurd (cc)
part_at (x ∷ es) zero p e s there at = let h : e ≡ x = cc in subst (λ y. slice_get (segments_in y.result) p ≡ Some s) h at
part_at (x ∷ es) (suc k) p e s there at = part_at es k p e s there at

some_count : (binds workers : ℕ) → 0 < binds → 0 < workers → 0 < binds * workers
some_count zero workers b w = absurd (omega arith)
some_count (suc binds) workers b w = let more = suc-mul binds workers in omega (arith, more)

-- a part is one of the charges of a bind
pub record IsOf (binds workers : ℕ) (es : List MessageEnd) (x : ChargedPart es) : Type 0 where
  pub bind : ℕ
  pub is_one : bind < binds
  pub charge : Charge (ends_at workers bind (dealt (binds * workers) 0 es))
  pub same_segment : charge.segment ≡ x.segment
  pub same_part : charge.part ≡ x.part
  pub from : origin (binds * workers) 0 es (bind * workers + charge.worker) charge.message ≡ x.message

pub of_a_bind : (binds workers : ℕ) (es : List MessageEnd) → 0 < binds → 0 < workers → (x : ChargedPart es) → IsOf binds workers es x
of_a_bind binds workers es some_binds some_workers x =
    let e = end_at es x.message x.part x.segment x.there in
    let h = dealt_to (binds * workers) 0 es x.message e.0 (some_count binds workers some_binds some_workers) e.1 in
    let r = of_some workers binds (dealt (binds * workers) 0 es) h.list h.items (length-dealt (binds * workers) 0 es) h.there in
    record {
      bind = r.bind;
      is_one = r.is_one;
      same_segment = refl;
      same_part = refl;
      charge = record {
        worker = r.worker;
        message = h.place;
        part = x.part;
        ends = h.items;
        theirs = r.theirs;
        segment = x.segment;
        there = part_at h.items h.place x.part e.0 x.segment h.at e.2;
        charged = x.charged;
      };
      from = ap (λ w. origin (binds * workers) 0 es w h.place) (sym r.from) ∙ h.from;
    }

-- parts that are one charge of one bind are one part
pub one_part : (binds workers : ℕ) (es : List MessageEnd) (x y : ChargedPart es) (a : IsOf binds workers es x) (b : IsOf binds workers es y)
    → a.bind ≡ b.bind → (a.charge.worker ≡ b.charge.worker) × (a.charge.message ≡ b.charge.message) × (a.charge.part ≡ b.charge.part) → (x.message ≡ y.message) × (x.part ≡ y.part)
one_part binds workers es x y a b bind (worker, message, part) =
    (sym a.from ∙ (λ i. origin (binds * workers) 0 es (bind i * workers + worker i) (message i)) ∙ b.from, sym a.same_part ∙ part ∙ b.same_part)
