-- Each step on a book's table keeps its rule.
use Rattle.std.proofs.Common.{◌≡◌, ◌≢◌, ◌⊎◌, ℕ, zero, suc, ◌+◌, List, [], ◌∷◌, ◌++◌, length, map, set, Option, Some, None, Bool, true, true≢false, refl, sym, ap, ◌∙◌, subst, ⊎_elim, inl, inr, arith, length-set}
use Rattle.std.specs.Prelude.{slice_get, slice_index, replicate}
use Rattle.std.proofs.lemmas.List.{length-map, length-replicate}
use mathlib.Core.Option.{some, some-ne-none, some-injective}
use mathlib.Core.Logic.{dite}
use native.Mathlib.Decide.{ℕ_discrete}
use lib.ListN.{get_elem?}
use Rattle.atomic_table.specs.Table.{Me, Allows, Splits, Joins, keeps, opening}
use Rattle.atomic_table.proofs.Lists.{at_set, set_else, set_again, at_longer, at_last}
use Rattle.sms_book.specs.declared.rule.Portion.{Portion}
use Rattle.sms_book.specs.declared.rule.Entry.{Entry}
use Rattle.sms_book.specs.declared.rule.View.{View}
use Rattle.sms_book.specs.declared.rule.View.TheVariants.{Book, Lent, Holder, Spent}
use Rattle.sms_book.specs.Portions.{nothing, of_till}
use Rattle.sms_book.specs.Sums.{AddUp, MoveBy}
use Rattle.sms_book.specs.Rule.{at_home, away, lent, left_after, right_after, Shared, IsThere, IsBooks, Fits, Kept, IsKnown, Told, KeptTold, left_dealt, right_dealt, portions_in, opening_entries, new_book}
use Rattle.sms_book.proofs.Totals.{adds_home, adds_lent, adds_out, adds_moved, adds_opening}

module _ {A : Type 0} where
  pub get_set_here : (xs : List A) (k : ℕ) (x y : A) → slice_get xs k ≡ Some x → slice_get (set xs k y) k ≡ Some y
  get_set_here [] k x y e = absurd (cc)
  get_set_here (z ∷ xs) zero x y e = refl
  get_set_here (z ∷ xs) (suc k) x y e = get_set_here xs k x y e

  pub get_set_else : (xs : List A) (k j : ℕ) (y : A) → j ≢ k → slice_get (set xs k y) j ≡ slice_get xs j
  get_set_else [] k j y n = refl
  get_set_else (z ∷ xs) zero zero y n = absurd (n refl)
  get_set_else (z ∷ xs) zero (suc j) y n = refl
  get_set_else (z ∷ xs) (suc k) zero y n = refl
  get_set_else (z ∷ xs) (suc k) (suc j) y n = get_set_else xs k j y (λ e. n (ap suc e))

  pub set_back : (xs : List A) (k : ℕ) (x : A) → slice_get xs k ≡ Some x → set xs k x ≡ xs
  set_back [] k x e = refl
  set_back (z ∷ xs) zero x e = let same : x ≡ z = cc in ap (λ (y : A). y ∷ xs) same
  set_back (z ∷ xs) (suc k) x e = ap (λ (l : List A). z ∷ l) (set_back xs k x e)

  at_last_or : (l : List A) (a b : A) (j : ℕ) → get_elem? (l ++ a ∷ []) j ≡ some b → (get_elem? l j ≡ some b) ⊎ ((j ≡ length l) × (a ≡ b))
  at_last_or [] a b zero e = inr (refl, some-injective a b e)
  at_last_or [] a b (suc j) e = absurd (some-ne-none b (sym e))
  at_last_or (x ∷ xs) a b zero e = inl e
  at_last_or (x ∷ xs) a b (suc j) e = ⊎_elim (λ t. inl t) (λ (t : (j ≡ length xs) × (a ≡ b)). inr (ap suc t.0, t.1)) (at_last_or xs a b j e)

-- an entry is not both at home and away
is_here : Option Entry → Bool
is_here None = true
is_here (Some e) = e.here

pub apart : (a b : List Portion) → Some (at_home a) ≡ Some (away b) → ⊥
unfolding is_here
apart a b e = true≢false (ap is_here e)

portions_of : Option Entry → List Portion
portions_of None = []
portions_of (Some e) = e.portions

same_portions : (b c : List Portion) → Some (away b) ≡ Some (away c) → b ≡ c
unfolding portions_of
same_portions b c e = ap portions_of e

-- a seat has one view, so views of two kinds are of two seats
other_seat : (s : Shared) (i j q : ℕ) (v : View) (c : List Portion) → IsThere s i v → IsThere s j (Holder q c) → (v ≡ Holder q c → ⊥) → j ≢ i
other_seat s i j q v c here there differ e = differ (some-injective v (Holder q c) (sym here ∙ sym (ap (get_elem? s.views) e) ∙ there))

-- what is set at the book's seat stands there
pub set_at_book : (l : List View) (id : ℕ) (v w : View) → id ≡ 0 → get_elem? l id ≡ some v → get_elem? (set l id w) 0 ≡ some w
set_at_book l id v w first at = ap (λ (j : ℕ). get_elem? (set l j w) 0) first ∙ here l (sym (ap (get_elem? l) first) ∙ at)
  where
    here : (l : List View) → get_elem? l 0 ≡ some v → get_elem? (set l 0 w) 0 ≡ some w
    here [] e = absurd (cc)
    here (z ∷ l) e = refl

-- the table's one word, set to what it was
same_word : (ws : List ℕ) (i : ℕ) → ws ≡ 0 ∷ [] → set ws i (slice_index ws i) ≡ 0 ∷ []
same_word ws i e = subst (λ (l : List ℕ). set l i (slice_index l i) ≡ 0 ∷ []) (sym e) (one i)
  where
    one : (i : ℕ) → set (0 ∷ []) i (slice_index (0 ∷ []) i) ≡ 0 ∷ []
    one zero = refl
    one (suc i) = refl

pub joins : (accounts workers id other k : ℕ) (es : List Entry) (ts a : List Portion) → Joins (Kept accounts workers) id (Book es ts) other (Holder k a) (Lent es ts k a) Spent
joins accounts workers id other k es ts a s h at apart' there =
    let mine : IsBooks h.entries h.totals id (Book es ts) = h.fits id (Book es ts) at in
    let at_other : IsThere s other (Holder k a) = sym (set_else s.views id other (Lent es ts k a) apart') ∙ there in
    let theirs : Fits h.entries h.totals h.holder other (Holder k a) = h.fits other (Holder k a) at_other in
    let entry : slice_get es k ≡ Some (away a) = subst (λ (l : List Entry). slice_get l k ≡ Some (away a)) (sym mine.entries) theirs.1 in
    let es' = set es k (at_home a) in
    record {
      entries = es';
      totals = h.totals;
      holder = h.holder;
      book = record {
        view = Lent es ts k a;
        there = set_else (set s.views id (Lent es ts k a)) other 0 Spent (λ e. apart' (sym e ∙ sym mine.first)) ∙ set_at_book s.views id (Book es ts) (Lent es ts k a) mine.first at;
        entries = refl;
        totals = mine.totals;
      };
      fits = λ j u e. ⊎_elim
          (λ (t : (j ≡ other) × (Spent ≡ u)). subst (Fits es' h.totals h.holder j) t.1 tt)
          (λ (t : (j ≢ other) × (get_elem? (set s.views id (Lent es ts k a)) j ≡ some u)).
          ⊎_elim
          (λ (t' : (j ≡ id) × (Lent es ts k a ≡ u)). subst (Fits es' h.totals h.holder j) t'.1 (record { first = t'.0 ∙ mine.first; entries = refl; totals = mine.totals }, entry))
          (λ (t' : (j ≢ id) × (get_elem? s.views j ≡ some u)). kept j u t.0 t'.0 (h.fits j u t'.1) mine theirs)
          (at_set s.views id j (Lent es ts k a) u t.1))
          (at_set (set s.views id (Lent es ts k a)) other j Spent u e);
      held = λ q c out.
          let differ : q ≢ k = (λ e. apart a c (sym (get_set_here es k (away a) (at_home a) entry) ∙ subst (λ (i : ℕ). slice_get es' i ≡ Some (away c)) e out)) in
          let was : slice_get h.entries q ≡ Some (away c) = subst (λ (l : List Entry). slice_get l q ≡ Some (away c)) mine.entries (sym (get_set_else es k q (at_home a) differ) ∙ out) in
          let there' : IsThere s (h.holder q) (Holder q c) = h.held q c was in
          let not_mine : h.holder q ≢ id = other_seat s id (h.holder q) q (Book es ts) c at there' (λ e. cc) in
          let not_theirs : h.holder q ≢ other = other_seat s other (h.holder q) q (Holder k a) c at_other there' (λ e. differ (let p : k ≡ q = cc in sym p)) in
          set_else (set s.views id (Lent es ts k a)) other (h.holder q) Spent not_theirs ∙ set_else s.views id (h.holder q) (Lent es ts k a) not_mine ∙ there';
      long = length-set es k (at_home a) ∙ ap length mine.entries ∙ h.long;
      wide = h.wide;
      sums = adds_home h.totals es k a entry (subst (AddUp h.totals) (sym mine.entries) h.sums);
      word = h.word;
    }
  where
    kept : (j : ℕ) (u : View) → j ≢ other → j ≢ id → Fits h.entries h.totals h.holder j u → IsBooks h.entries h.totals id (Book es ts) → Fits h.entries h.totals h.holder other (Holder k a)
        → Fits (set es k (at_home a)) h.totals h.holder j u
    kept j (Book xs us) nt ni f mine theirs = absurd (ni (f.first ∙ sym mine.first))
    kept j (Lent xs us q b) nt ni f mine theirs = absurd (ni (f.0.first ∙ sym mine.first))
    kept j (Holder q b) nt ni f mine theirs =
        let differ : q ≢ k = (λ e. nt (sym f.0 ∙ ap h.holder e ∙ theirs.0)) in
        (f.0, get_set_else es k q (at_home a) differ ∙ subst (λ (l : List Entry). slice_get l q ≡ Some (away b)) (sym mine.entries) f.1)
    kept j Spent nt ni f mine theirs = tt

-- the holder of each number after a split
moved : (ℕ → ℕ) → ℕ → ℕ → ℕ → ℕ
moved holder k n q = dite (ℕ_discrete q k) (λ _. n) (λ _. holder q)

moved-here : (holder : ℕ → ℕ) (k n : ℕ) → moved holder k n k ≡ n
unfolding moved
moved-here holder k n = here (ℕ_discrete k k)
  where
    here : (d : Dec (k ≡ k)) → dite d (λ _. n) (λ _. holder k) ≡ n
    here (yes p) = refl
    here (no p) = absurd (p refl)

moved-else : (holder : ℕ → ℕ) (k n q : ℕ) → q ≢ k → moved holder k n q ≡ holder q
unfolding moved
moved-else holder k n q ne = other (ℕ_discrete q k)
  where
    other : (d : Dec (q ≡ k)) → dite d (λ _. n) (λ _. holder q) ≡ holder q
    other (yes p) = absurd (ne p)
    other (no p) = refl

-- The number k goes out with the portions b, from a seat whose view fits, in which k is at home and every other number is
-- as in es; the totals us are the sums after it
module _ (accounts workers id k : ℕ) (es : List Entry) (us b : List Portion) (v : View) (s : Shared) (h : Kept accounts workers s)
    (first : id ≡ 0) (at : IsThere s id v) (book : (q : ℕ) (c : List Portion) → v ≡ Holder q c → ⊥)
    (home : (x : Entry) × (slice_get es k ≡ Some x)) (free : (c : List Portion) → slice_get h.entries k ≡ Some (away c) → ⊥)
    (alike : (q : ℕ) → q ≢ k → slice_get h.entries q ≡ slice_get es q)
    (long' : length es ≡ workers + 1) (wide' : length us ≡ accounts) (sums' : AddUp us (set es k (away b))) where
  others : (j : ℕ) (u : View) → j ≢ id → Fits h.entries h.totals h.holder j u → Fits (set es k (away b)) us (moved h.holder k (length (set s.views id (Book (set es k (away b)) us)))) j u
  others j (Book xs ws) ni f = absurd (ni (f.first ∙ sym first))
  others j (Lent xs ws q c) ni f = absurd (ni (f.0.first ∙ sym first))
  others j (Holder q c) ni f =
      let differ : q ≢ k = (λ e. free c (subst (λ (i : ℕ). slice_get h.entries i ≡ Some (away c)) e f.1)) in
      (moved-else h.holder k _ q differ ∙ f.0, get_set_else es k q (away b) differ ∙ sym (alike q differ) ∙ f.1)
  others j Spent ni f = tt

  pub goes_out : Kept accounts workers record { words = s.words; homes = s.homes; views = set s.views id (Book (set es k (away b)) us) ++ Holder k b ∷ [] }
  goes_out =
      let es' = set es k (away b) in
      let w = Book es' us in
      let l = set s.views id w in
      let n = length l in
      let holder' = moved h.holder k n in
      record {
        entries = es';
        totals = us;
        holder = holder';
        book = record { view = w; there = at_longer l (Holder k b ∷ []) 0 w (set_at_book s.views id v w first at); entries = refl; totals = refl };
        fits = λ j u e. ⊎_elim
            (λ (t : get_elem? l j ≡ some u).
            ⊎_elim
            (λ (t' : (j ≡ id) × (w ≡ u)). subst (Fits es' us holder' j) t'.1 (record { first = t'.0 ∙ first; entries = refl; totals = refl }))
            (λ (t' : (j ≢ id) × (get_elem? s.views j ≡ some u)). others j u t'.0 (h.fits j u t'.1))
            (at_set s.views id j w u t))
            (λ (t : (j ≡ n) × (Holder k b ≡ u)). subst (Fits es' us holder' j) t.1 (moved-here h.holder k n ∙ sym t.0, get_set_here es k home.0 (away b) home.1))
            (at_last_or l (Holder k b) u j e);
        held = λ q c out. by_number q c out (ℕ_discrete q k);
        long = length-set es k (away b) ∙ long';
        wide = wide';
        sums = sums';
        word = h.word;
      }
    where
      by_number : (q : ℕ) (c : List Portion) → slice_get (set es k (away b)) q ≡ Some (away c) → Dec (q ≡ k)
          → get_elem? (set s.views id (Book (set es k (away b)) us) ++ Holder k b ∷ []) (moved h.holder k (length (set s.views id (Book (set es k (away b)) us))) q) ≡ some (Holder q c)
      by_number q c out (yes is) =
          let l = set s.views id (Book (set es k (away b)) us) in
          let here : slice_get (set es k (away b)) k ≡ Some (away c) = subst (λ (i : ℕ). slice_get (set es k (away b)) i ≡ Some (away c)) is out in
          let whole : Some (away b) ≡ Some (away c) = sym (get_set_here es k home.0 (away b) home.1) ∙ here in
          let same : b ≡ c = same_portions b c whole in
          subst (λ (x : ℕ × List Portion). get_elem? (l ++ Holder k b ∷ []) (moved h.holder k (length l) x.0) ≡ some (Holder x.0 x.1)) (λ i. (sym is i, same i))
          (ap (get_elem? (l ++ Holder k b ∷ [])) (moved-here h.holder k (length l)) ∙ at_last l (Holder k b) (length l) refl)
      by_number q c out (no ne) =
          let l = set s.views id (Book (set es k (away b)) us) in
          let there = h.held q c (alike q ne ∙ sym (get_set_else es k q (away b) ne) ∙ out) in
          let not_mine : h.holder q ≢ id = other_seat s id (h.holder q) q v c at there (book q c) in
          ap (get_elem? (l ++ Holder k b ∷ [])) (moved-else h.holder k (length l) q ne)
          ∙ at_longer l (Holder k b ∷ []) (h.holder q) (Holder q c) (set_else s.views id (h.holder q) (Book (set es k (away b)) us) not_mine ∙ there)

-- the totals of a view that fits are the sums over its entries
fits_sums : (es fs : List Entry) (ts us : List Portion) → fs ≡ es → us ≡ ts → AddUp ts es → AddUp us fs
fits_sums es fs ts us e t = subst (λ (x : List Portion × List Entry). AddUp x.0 x.1) (λ i. (sym t i, sym e i))

pub splits : (accounts workers id k : ℕ) (es : List Entry) (ts us a b : List Portion) → MoveBy a b ts us → Splits (Kept accounts workers) id (Lent es ts k a) (Book (set es k (away b)) us) (Holder k b)
splits accounts workers id k es ts us a b by s h at =
    let fits = h.fits id (Lent es ts k a) at in
    let mine = fits.0 in
    let entry = fits.1 in
    let sums = fits_sums h.entries (set es k (at_home a)) h.totals ts mine.entries mine.totals h.sums in
    goes_out accounts workers id k es us b (Lent es ts k a) s h mine.first at (λ q c e. cc) (away a, entry)
    (λ c e. apart a c (sym (get_set_here es k (away a) (at_home a) entry) ∙ subst (λ (l : List Entry). slice_get l k ≡ Some (away c)) (sym mine.entries) e))
    (λ q ne. ap (λ (l : List Entry). slice_get l q) (sym mine.entries) ∙ get_set_else es k q (at_home a) ne)
    (sym (length-set es k (at_home a)) ∙ ap length mine.entries ∙ h.long)
    (by.0 ∙ ap length mine.totals ∙ h.wide)
    (adds_moved ts us es k a b entry by (adds_lent ts es k a entry sums))

pub portions_there : (es : List Entry) (k : ℕ) (a : List Portion) → slice_get es k ≡ Some (at_home a) → portions_in es k ≡ a
portions_there [] k a e = absurd (cc)
portions_there (x ∷ es) zero a e = let same : x ≡ at_home a = cc in ap (λ (y : Entry). y.portions) same
portions_there (x ∷ es) (suc k) a e = portions_there es k a e

pub dealt_views : (k : ℕ) (es : List Entry) (ts a : List Portion) (v : View) → v ≡ Book es ts → slice_get es k ≡ Some (at_home a) → (left_dealt k v ≡ Book (set es k (away a)) ts) × (right_dealt k v ≡ Holder k a)
dealt_views k es ts a v is here = let p = portions_there es k a here in
    (ap (left_dealt k) is ∙ ap (λ (c : List Portion). Book (set es k (away c)) ts) p, ap (right_dealt k) is ∙ ap (Holder k) p)

pub deals : (accounts workers id k : ℕ) (es : List Entry) (ts a : List Portion) (v : View) → v ≡ Book es ts → slice_get es k ≡ Some (at_home a) → Splits (Kept accounts workers) id v (left_dealt k v) (right_dealt k v)
deals accounts workers id k es ts a v is here =
    let d = dealt_views k es ts a v is here in
    subst (λ (u : View). Splits (Kept accounts workers) id u (left_dealt k v) (right_dealt k v)) (sym is)
    (subst (λ (x : View × View). Splits (Kept accounts workers) id (Book es ts) x.0 x.1) (λ i. (sym d.0 i, sym d.1 i)) whole)
  where
    whole : Splits (Kept accounts workers) id (Book es ts) (Book (set es k (away a)) ts) (Holder k a)
    whole s h at =
        let mine = h.fits id (Book es ts) at in
        let sums = fits_sums h.entries es h.totals ts mine.entries mine.totals h.sums in
        goes_out accounts workers id k es ts a (Book es ts) s h mine.first at (λ q c e. cc) (at_home a, here)
        (λ c e. apart a c (sym here ∙ subst (λ (l : List Entry). slice_get l k ≡ Some (away c)) (sym mine.entries) e))
        (λ q ne. ap (λ (l : List Entry). slice_get l q) (sym mine.entries))
        (ap length mine.entries ∙ h.long) (ap length mine.totals ∙ h.wide) (adds_out ts es k a here sums)

-- a look leaves all views
pub look_keeps : (accounts workers : ℕ) (s : Shared) → Kept accounts workers s → (ws : List ℕ) → ws ≡ 0 ∷ [] → (id : ℕ) (v : View) → IsThere s id v
    → Kept accounts workers record { words = ws; homes = s.homes; views = set s.views id v }
look_keeps accounts workers s h ws one id v at =
    let same = set_again s.views id v at in
    record {
      entries = h.entries;
      totals = h.totals;
      holder = h.holder;
      book = record { view = h.book.view; there = ap (λ (l : List View). get_elem? l 0) same ∙ h.book.there; entries = h.book.entries; totals = h.book.totals };
      fits = λ j u e. h.fits j u (subst (λ (l : List View). get_elem? l j ≡ some u) same e);
      held = λ q c out. ap (λ (l : List View). get_elem? l (h.holder q)) same ∙ h.held q c out;
      long = h.long;
      wide = h.wide;
      sums = h.sums;
      word = one;
    }

-- what the rule says of a number that the book was lent
known : (accounts workers : ℕ) (s : Shared) → Kept accounts workers s → (id : ℕ) (v : View) → IsThere s id v → IsKnown v
known accounts workers s h id v at es ts k a is =
    let fits : Fits h.entries h.totals h.holder id (Lent es ts k a) = subst (Fits h.entries h.totals h.holder id) is (h.fits id v at) in
    let mine = fits.0 in
    (fits.1, adds_lent ts es k a fits.1 (fits_sums h.entries (set es k (at_home a)) h.totals ts mine.entries mine.totals h.sums))

pub tells : (accounts workers slots id word : ℕ) (v : View) → Allows (Kept accounts workers) slots id (v, []) word (λ n. n) (λ _. Told (v, []))
tells accounts workers slots id word v s h _ at _ =
    (v, keeps, tt, look_keeps accounts workers s h (set s.words word (slice_index s.words word)) (same_word s.words word h.word) id v at, (refl, known accounts workers s h id v at))

-- the book keeps the number that it was lent
pub home_keeps : (accounts workers : ℕ) (s : Shared) → Kept accounts workers s → (ws : List ℕ) → ws ≡ 0 ∷ [] → (id : ℕ) (es : List Entry) (ts : List Portion) (k : ℕ) (a : List Portion)
    → IsThere s id (Lent es ts k a) → Kept accounts workers record { words = ws; homes = s.homes; views = set s.views id (Book (set es k (at_home a)) ts) }
home_keeps accounts workers s h ws one id es ts k a at =
    let mine = (h.fits id (Lent es ts k a) at).0 in
    let w = Book (set es k (at_home a)) ts in
    record {
      entries = h.entries;
      totals = h.totals;
      holder = h.holder;
      book = record { view = w; there = set_at_book s.views id (Lent es ts k a) w mine.first at; entries = mine.entries; totals = mine.totals };
      fits = λ j u e. ⊎_elim
          (λ (t : (j ≡ id) × (w ≡ u)). subst (Fits h.entries h.totals h.holder j) t.1 (record { first = t.0 ∙ mine.first; entries = mine.entries; totals = mine.totals }))
          (λ (t : (j ≢ id) × (get_elem? s.views j ≡ some u)). h.fits j u t.1)
          (at_set s.views id j w u e);
      held = λ q c out.
          let there = h.held q c out in
          set_else s.views id (h.holder q) w (other_seat s id (h.holder q) q (Lent es ts k a) c at there (λ e. cc)) ∙ there;
      long = h.long;
      wide = h.wide;
      sums = h.sums;
      word = one;
    }

pub keeps_told : (accounts workers slots id word : ℕ) (v : View) (es : List Entry) (ts : List Portion) (k : ℕ) (a : List Portion) → v ≡ Lent es ts k a → Allows (Kept accounts workers) slots id (v, []) word (λ n. n) (λ _. KeptTold (v, []))
keeps_told accounts workers slots id word v es ts k a is =
    subst (λ (x : View). Allows (Kept accounts workers) slots id (x, []) word (λ n. n) (λ _. KeptTold (x, []))) (sym is)
    (λ s h _ at _. (
      Book (set es k (at_home a)) ts,
      keeps,
      tt,
      home_keeps accounts workers s h (set s.words word (slice_index s.words word)) (same_word s.words word h.word) id es ts k a at,
      (refl, known accounts workers s h id (Lent es ts k a) at),
    ))

-- the moves, at views that are known by equations
pub joins_as : (accounts workers id other k : ℕ) (es : List Entry) (ts a : List Portion) (v w : View) → v ≡ Book es ts → w ≡ Holder k a → Joins (Kept accounts workers) id v other w (lent v w) Spent
joins_as accounts workers id other k es ts a v w is there =
    subst (λ (x : View × View). Joins (Kept accounts workers) id x.0 other x.1 (lent x.0 x.1) Spent) (λ i. (sym is i, sym there i)) (joins accounts workers id other k es ts a)

pub splits_as : (accounts workers id k : ℕ) (es : List Entry) (ts us a b : List Portion) (v : View) → v ≡ Lent es ts k a → MoveBy a b ts us → Splits (Kept accounts workers) id v (left_after b us v) (right_after b v)
splits_as accounts workers id k es ts us a b v is by =
    subst (λ (x : View). Splits (Kept accounts workers) id x (left_after b us x) (right_after b x)) (sym is) (splits accounts workers id k es ts us a b by)

pub tells_as : (accounts workers slots id word : ℕ) (me : Me (Unit {0}) View) → me.1 ≡ [] → Allows (Kept accounts workers) slots id me word (λ n. n) (λ _. Told me)
tells_as accounts workers slots id word me none =
    subst (λ (l : List (ℕ × Unit {0})). Allows (Kept accounts workers) slots id (me.0, l) word (λ n. n) (λ _. Told (me.0, l))) (sym none) (tells accounts workers slots id word me.0)

pub keeps_told_as : (accounts workers slots id word : ℕ) (me : Me (Unit {0}) View) (es : List Entry) (ts : List Portion) (k : ℕ) (a : List Portion) → me.0 ≡ Lent es ts k a → me.1 ≡ []
    → Allows (Kept accounts workers) slots id me word (λ n. n) (λ _. KeptTold me)
keeps_told_as accounts workers slots id word me es ts k a is none =
    subst (λ (l : List (ℕ × Unit {0})). Allows (Kept accounts workers) slots id (me.0, l) word (λ n. n) (λ _. KeptTold (me.0, l))) (sym none) (keeps_told accounts workers slots id word me.0 es ts k a is)

-- the one view of a list
pub same_view : (v w : View) (vs : List View) → vs ≡ v ∷ [] → vs ≡ w ∷ [] → v ≡ w
same_view v w vs e f = cc

none_away : (n k : ℕ) (a c : List Portion) → slice_get (replicate n (at_home a)) k ≡ Some (away c) → ⊥
none_away zero k a c e = cc
none_away (suc n) zero a c e = apart a c e
none_away (suc n) (suc k) a c e = none_away n k a c e

begun : (credits : List ℕ) (workers : ℕ) (id : ℕ) (v : View) → get_elem? (new_book credits workers ∷ []) id ≡ some v → Fits (opening_entries credits workers) (map of_till credits) (λ _. 0) id v
begun credits workers zero v e = subst (Fits (opening_entries credits workers) (map of_till credits) (λ _. 0) 0) (some-injective _ _ e) (record { first = refl; entries = refl; totals = refl })
begun credits workers (suc id) v e = absurd (some-ne-none v (sym e))

none_out : (credits : List ℕ) (workers : ℕ) (k : ℕ) (a : List Portion) → slice_get (opening_entries credits workers) k ≡ Some (away a) → ⊥
none_out credits workers zero a e = apart _ a e
none_out credits workers (suc k) a e = none_away _ k _ a e

long_opening : (credits : List ℕ) (workers : ℕ) → length (opening_entries credits workers) ≡ workers + 1
long_opening credits workers = let r = length-replicate workers (at_home (replicate (length credits) nothing)) in omega arith

pub begins : (credits : List ℕ) (workers : ℕ) → Kept (length credits) workers (opening (0 ∷ []) [] (new_book credits workers))
begins credits workers = record {
  entries = opening_entries credits workers;
  totals = map of_till credits;
  holder = λ _. 0;
  book = record { view = new_book credits workers; there = refl; entries = refl; totals = refl };
  fits = begun credits workers;
  held = λ k a e. absurd (none_out credits workers k a e);
  long = long_opening credits workers;
  wide = length-map credits of_till;
  sums = adds_opening credits workers;
  word = refl;
}
