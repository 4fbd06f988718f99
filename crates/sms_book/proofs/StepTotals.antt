-- What each step on a book's table does to the sums over its entries, and to its totals.
use Rattle.std.proofs.Common.{◌≡◌, ℕ, List, [], ◌∷◌, set, Some, refl, sym, ap, ◌∙◌, subst, arith}
use Rattle.std.specs.Prelude.{slice_get}
use mathlib.Core.Option.{some-injective}
use lib.ListN.{get_elem?}
use Rattle.atomic_table.proofs.Lists.{at_longer, set_else, set_again}
use Rattle.sms_book.specs.declared.rule.Portion.{Portion}
use Rattle.sms_book.specs.declared.rule.Entry.{Entry}
use Rattle.sms_book.specs.declared.rule.View.{View}
use Rattle.sms_book.specs.declared.rule.View.TheVariants.{Book, Lent, Holder, Spent}
use Rattle.sms_book.specs.Rule.{Shared, IsThere, BookHas, at_home, away, HasEntries, HasTotals, Kept, portions_in}
use Rattle.sms_book.specs.Sums.{total, MoveBy}
use Rattle.sms_book.specs.TableSteps.{TableStep, takes_in, looks, gives_back, deals, keeps, Steps}
use Rattle.sms_book.specs.Laws.{TotalSteps, StepMovesTotals, BookTotalsMove, StepMovesBookTotals}
use Rattle.sms_book.proofs.Moves.{portions_there, set_at_book}
use Rattle.sms_book.proofs.Totals.{total_home, total_out, total_set}
use Rattle.sms_book.proofs.LawProofs.{is_books, other_seat}

-- The book's view before a step and after it, where the number's entry is of this kind
record Turns (kind : List Portion → Entry) (before after : List Entry → List Portion → ℕ → List Portion → View) (v w : View) : Type 0 where
  entries : List Entry
  totals : List Portion
  number : ℕ
  portions : List Portion
  entry : slice_get entries number ≡ Some (kind portions)
  was : v ≡ before entries totals number portions
  is : w ≡ after entries totals number portions

-- the number that was lent goes out again
record GoesOut (s : Shared) (id : ℕ) (new totals : List Portion) (v w : View) : Type 0 where
  turn : Turns away Lent (λ es ts k ps. Book (set es k (away new)) totals) v w
  there : IsThere s id (Lent turn.entries turn.totals turn.number turn.portions)
  moves : MoveBy turn.portions new turn.totals totals

-- the book's view before each kind of step, and after it
abbrev BookSteps : Shared → TableStep → View → View → Type 0
BookSteps s (takes_in id other) v w = Turns away (λ es ts k ps. Book es ts) Lent v w
BookSteps s (looks id) v w = w ≡ v
BookSteps s (gives_back id new totals) v w = GoesOut s id new totals v w
BookSteps s (deals id q) v w = Turns at_home (λ es ts k ps. Book es ts) (λ es ts k ps. Book (set es k (away ps)) ts) v w
BookSteps s (keeps id) v w = Turns away Lent (λ es ts k ps. Book (set es k (at_home ps)) ts) v w

record BookTurn (s : Shared) (step : TableStep) (t : Shared) : Type 0 where
  before : View
  after : View
  there : IsThere s 0 before
  then : IsThere t 0 after
  how : BookSteps s step before after

-- a seat with entries is the first
first : (accounts workers : ℕ) (s : Shared) (h : Kept accounts workers s) (id : ℕ) (v : View) (es : List Entry) → IsThere s id v → HasEntries v es → id ≡ 0
first accounts workers s h id v es at has = (is_books h.entries h.totals h.holder id v es (h.fits id v at) has).first

at_first : (s : Shared) (id : ℕ) (v : View) → id ≡ 0 → IsThere s id v → IsThere s 0 v
at_first s id v e at = sym (ap (get_elem? s.views) e) ∙ at

book_turn : (accounts workers : ℕ) (s : Shared) (step : TableStep) (t : Shared) → Kept accounts workers s → Steps s step t → BookTurn s step t
book_turn accounts workers s (takes_in id other) t h m =
    let v = Book m.entries m.totals in
    let w = Lent m.entries m.totals m.number m.portions in
    let zero = first accounts workers s h id v m.entries m.book refl in
    let ne = other_seat s id other m.entries m.totals m.number m.portions m.book m.holder in
    record {
      before = v;
      after = w;
      there = at_first s id v zero m.book;
      then = ap (λ (u : Shared). get_elem? u.views 0) m.after ∙ set_else (set s.views id w) other 0 Spent (λ e. ne (sym e ∙ sym zero)) ∙ set_at_book s.views id v w zero m.book;
      how = record {
        entries = m.entries;
        totals = m.totals;
        number = m.number;
        portions = m.portions;
        entry = subst (λ (l : List Entry). slice_get l m.number ≡ Some (away m.portions)) (sym (h.fits id v m.book).entries) (h.fits other (Holder m.number m.portions) m.holder).1;
        was = refl;
        is = refl;
      };
    }
book_turn accounts workers s (looks id) t h m = record {
  before = h.book.view;
  after = h.book.view;
  there = h.book.there;
  then = ap (λ (u : Shared). get_elem? u.views 0) m.after ∙ ap (λ (l : List View). get_elem? l 0) (set_again s.views id m.view m.there) ∙ h.book.there;
  how = refl;
}
book_turn accounts workers s (gives_back id new totals) t h m =
    let v = Lent m.entries m.had m.number m.portions in
    let w = Book (set m.entries m.number (away new)) totals in
    let zero = first accounts workers s h id v (set m.entries m.number (at_home m.portions)) m.book refl in
    record {
      before = v;
      after = w;
      there = at_first s id v zero m.book;
      then = ap (λ (u : Shared). get_elem? u.views 0) m.after ∙ at_longer (set s.views id w) (Holder m.number new ∷ []) 0 w (set_at_book s.views id v w zero m.book);
      how = record {
        turn = record { entries = m.entries; totals = m.had; number = m.number; portions = m.portions; entry = (h.fits id v m.book).1; was = refl; is = refl };
        there = m.book;
        moves = m.moves;
      };
    }
book_turn accounts workers s (deals id k) t h m =
    let v = Book m.entries m.totals in
    let w = Book (set m.entries k (away (portions_in m.entries k))) m.totals in
    let zero = first accounts workers s h id v m.entries m.book refl in
    record {
      before = v;
      after = w;
      there = at_first s id v zero m.book;
      then = ap (λ (u : Shared). get_elem? u.views 0) m.after ∙ at_longer (set s.views id w) (Holder k (portions_in m.entries k) ∷ []) 0 w (set_at_book s.views id v w zero m.book);
      how = record {
        entries = m.entries;
        totals = m.totals;
        number = k;
        portions = m.portions;
        entry = m.entry;
        was = refl;
        is = ap (λ (c : List Portion). Book (set m.entries k (away c)) m.totals) (portions_there m.entries k m.portions m.entry);
      };
    }
book_turn accounts workers s (keeps id) t h m =
    let v = Lent m.entries m.totals m.number m.portions in
    let w = Book (set m.entries m.number (at_home m.portions)) m.totals in
    let zero = first accounts workers s h id v (set m.entries m.number (at_home m.portions)) m.book refl in
    record {
      before = v;
      after = w;
      there = at_first s id v zero m.book;
      then = ap (λ (u : Shared). get_elem? u.views 0) m.after ∙ set_at_book s.views id v w zero m.book;
      how = record { entries = m.entries; totals = m.totals; number = m.number; portions = m.portions; entry = (h.fits id v m.book).1; was = refl; is = refl };
    }

-- the entries, and the totals, of the view that stands there
entries_there : (s : Shared) (es : List Entry) (ts : List Portion) (w : View) → BookHas s es ts → IsThere s 0 w → HasEntries w es
entries_there s es ts w b there = subst (λ (u : View). HasEntries u es) (some-injective b.view w (sym b.there ∙ there)) b.entries

totals_there : (s : Shared) (es : List Entry) (ts : List Portion) (w : View) → BookHas s es ts → IsThere s 0 w → HasTotals w ts
totals_there s es ts w b there = subst (λ (u : View). HasTotals u ts) (some-injective b.view w (sym b.there ∙ there)) b.totals

same_sum : (f : Portion → ℕ) (i : ℕ) (v : View) (es fs : List Entry) → HasEntries v es → HasEntries v fs → total f i fs ≡ total f i es
same_sum f i (Book xs ts) es fs a b = ap (total f i) (sym b ∙ a)
same_sum f i (Lent xs ts k ps) es fs a b = ap (total f i) (sym b ∙ a)
same_sum f i (Holder k ps) es fs a b = absurd a
same_sum f i Spent es fs a b = absurd a

same_list : (v : View) (ts us : List Portion) → HasTotals v ts → HasTotals v us → us ≡ ts
same_list (Book xs ws) ts us a b = sym b ∙ a
same_list (Lent xs ws k ps) ts us a b = sym b ∙ a
same_list (Holder k ps) ts us a b = absurd a
same_list Spent ts us a b = absurd a

sums_step : (s : Shared) (step : TableStep) (v w : View) (es fs : List Entry) (f : Portion → ℕ) (i : ℕ) → BookSteps s step v w → HasEntries v es → HasEntries w fs → TotalSteps f i s step es fs
sums_step s (takes_in id other) v w es fs f i b has has' =
    let old : b.entries ≡ es = subst (λ (u : View). HasEntries u es) b.was has in
    let new : set b.entries b.number (at_home b.portions) ≡ fs = subst (λ (u : View). HasEntries u fs) b.is has' in
    ap (total f i) (sym new) ∙ total_home f i b.entries b.number b.portions b.entry ∙ ap (total f i) old
sums_step s (looks id) v w es fs f i b has has' = same_sum f i v es fs has (subst (λ (u : View). HasEntries u fs) b has')
sums_step s (gives_back id new totals) v w es fs f i b has has' =
    let m = b.turn in
    let old : set m.entries m.number (at_home m.portions) ≡ es = subst (λ (u : View). HasEntries u es) m.was has in
    let next : set m.entries m.number (away new) ≡ fs = subst (λ (u : View). HasEntries u fs) m.is has' in
    let o : total f i (set m.entries m.number (at_home m.portions)) ≡ total f i es = ap (total f i) old in
    let n : total f i (set m.entries m.number (away new)) ≡ total f i fs = ap (total f i) next in
    let c = total_home f i m.entries m.number m.portions m.entry in
    let d = total_set f i m.entries m.number m.portions new m.entry in
    record { entries = m.entries; totals = m.totals; number = m.number; had = m.portions; there = b.there; moves = omega arith }
sums_step s (deals id q) v w es fs f i b has has' =
    let old : b.entries ≡ es = subst (λ (u : View). HasEntries u es) b.was has in
    let new : set b.entries b.number (away b.portions) ≡ fs = subst (λ (u : View). HasEntries u fs) b.is has' in
    ap (total f i) (sym new) ∙ total_out f i b.entries b.number b.portions b.entry ∙ ap (total f i) old
sums_step s (keeps id) v w es fs f i b has has' =
    let old : set b.entries b.number (at_home b.portions) ≡ es = subst (λ (u : View). HasEntries u es) b.was has in
    let new : set b.entries b.number (at_home b.portions) ≡ fs = subst (λ (u : View). HasEntries u fs) b.is has' in
    ap (total f i) (sym new ∙ old)

pub step_moves_totals : StepMovesTotals
step_moves_totals accounts workers s step t es fs ts us f i h m had has =
    let b = book_turn accounts workers s step t h m in
    sums_step s step b.before b.after es fs f i b.how (entries_there s es ts b.before had b.there) (entries_there t fs us b.after has b.then)

totals_step : (s : Shared) (step : TableStep) (v w : View) (ts us : List Portion) → BookSteps s step v w → HasTotals v ts → HasTotals w us → BookTotalsMove s step ts us
totals_step s (takes_in id other) v w ts us b has has' = same_list (Book b.entries b.totals) ts us (subst (λ (u : View). HasTotals u ts) b.was has) (subst (λ (u : View). HasTotals u us) b.is has')
totals_step s (looks id) v w ts us b has has' = same_list v ts us has (subst (λ (u : View). HasTotals u us) b has')
totals_step s (gives_back id new totals) v w ts us b has has' =
    let m = b.turn in
    let old : m.totals ≡ ts = subst (λ (u : View). HasTotals u ts) m.was has in
    let next : totals ≡ us = subst (λ (u : View). HasTotals u us) m.is has' in
    let there = subst (λ (l : List Portion). IsThere s id (Lent m.entries l m.number m.portions)) old b.there in
    let moves = subst (λ (x : List Portion × List Portion). MoveBy m.portions new x.0 x.1) (λ j. (old j, next j)) b.moves in
    record { is = sym next; entries = m.entries; number = m.number; had = m.portions; there = there; moves = moves }
totals_step s (deals id q) v w ts us b has has' = same_list (Book b.entries b.totals) ts us (subst (λ (u : View). HasTotals u ts) b.was has) (subst (λ (u : View). HasTotals u us) b.is has')
totals_step s (keeps id) v w ts us b has has' = same_list (Book b.entries b.totals) ts us (subst (λ (u : View). HasTotals u ts) b.was has) (subst (λ (u : View). HasTotals u us) b.is has')

pub step_moves_book_totals : StepMovesBookTotals
step_moves_book_totals accounts workers s step t es fs ts us h m had has =
    let b = book_turn accounts workers s step t h m in
    totals_step s step b.before b.after ts us b.how (totals_there s es ts b.before had b.there) (totals_there t fs us b.after has b.then)
