-- The laws of a book's table.
use Rattle.std.proofs.Common.{◌≡◌, ◌≢◌, ℕ, List, [], ◌∷◌, length, Some, refl, sym, ap, ◌∙◌, subst}
use Rattle.std.specs.Prelude.{slice_get}
use mathlib.Core.Option.{some-injective}
use lib.ListN.{get_elem?}
use Rattle.atomic_table.proofs.Lists.{set_else}
use Rattle.sms_book.specs.declared.rule.Portion.{Portion}
use Rattle.sms_book.specs.declared.rule.Entry.{Entry}
use Rattle.sms_book.specs.declared.rule.View.{View}
use Rattle.sms_book.specs.declared.rule.View.TheVariants.{Book, Lent, Holder, Spent}
use Rattle.sms_book.specs.Rule.{away, Shared, IsThere, IsBooks, HasEntries, Fits, Kept}
use Rattle.sms_book.specs.TableSteps.{new_table, TableStep, takes_in, looks, gives_back, deals, keeps, Runs}
use Rattle.sms_book.specs.Laws.{RuleIsOrderly, OpeningMeetsRule, StepKeepsRule, RunIsOrderly}
use Rattle.sms_book.proofs.Moves.{apart, begins, joins, splits, deals as goes_out_first, look_keeps, home_keeps}

-- a view that has entries is the book's
pub is_books : (es : List Entry) (ts : List Portion) (holder : ℕ → ℕ) (id : ℕ) (v : View) (fs : List Entry) → Fits es ts holder id v → HasEntries v fs → IsBooks es ts id v
is_books es ts holder id (Book xs us) fs fits has = fits
is_books es ts holder id (Lent xs us k ps) fs fits has = fits.0
is_books es ts holder id (Holder k ps) fs fits has = absurd has
is_books es ts holder id Spent fs fits has = absurd has

pub rule_is_orderly : RuleIsOrderly
rule_is_orderly accounts workers s h =
    let entry : (id k : ℕ) (ps : List Portion) → IsThere s id (Holder k ps) → slice_get h.entries k ≡ Some (away ps) = λ id k ps at. (h.fits id (Holder k ps) at).1 in
    record {
      entries = h.entries;
      totals = h.totals;
      book = h.book;
      long = h.long;
      wide = h.wide;
      sums = h.sums;
      one_book = λ id v es at has. (is_books h.entries h.totals h.holder id v es (h.fits id v at) has).first;
      entry = entry;
      held = λ k ps out. (h.holder k, h.held k ps out);
      one_holder = λ id other k ps qs at there. sym (h.fits id (Holder k ps) at).0 ∙ (h.fits other (Holder k qs) there).0;
      home = λ id k ps qs here at. apart ps qs (sym here ∙ entry id k qs at);
      word = h.word;
    }

pub opening_meets_rule : OpeningMeetsRule
opening_meets_rule credits workers = begins credits workers

-- the holder that is taken in is another seat than the book's
pub other_seat : (s : Shared) (id other : ℕ) (es : List Entry) (ts : List Portion) (k : ℕ) (ps : List Portion) → IsThere s id (Book es ts) → IsThere s other (Holder k ps) → other ≢ id
other_seat s id other es ts k ps at there e = let same : Book es ts ≡ Holder k ps = some-injective (Book es ts) (Holder k ps) (sym at ∙ sym (ap (get_elem? s.views) e) ∙ there) in absurd (cc)

pub step_keeps_rule : StepKeepsRule
step_keeps_rule accounts workers s (takes_in id other) t h m =
    let ne = other_seat s id other m.entries m.totals m.number m.portions m.book m.holder in
    subst (Kept accounts workers) (sym m.after)
    (joins accounts workers id other m.number m.entries m.totals m.portions s h m.book ne (set_else s.views id other (Lent m.entries m.totals m.number m.portions) ne ∙ m.holder))
step_keeps_rule accounts workers s (looks id) t h m = subst (Kept accounts workers) (sym m.after) (look_keeps accounts workers s h s.words h.word id m.view m.there)
step_keeps_rule accounts workers s (gives_back id new totals) t h m =
    subst (Kept accounts workers) (sym m.after) (splits accounts workers id m.number m.entries m.had totals m.portions new m.moves s h m.book)
step_keeps_rule accounts workers s (deals id k) t h m =
    subst (Kept accounts workers) (sym m.after) (goes_out_first accounts workers id k m.entries m.totals m.portions (Book m.entries m.totals) refl m.entry s h m.book)
step_keeps_rule accounts workers s (keeps id) t h m =
    subst (Kept accounts workers) (sym m.after) (home_keeps accounts workers s h s.words h.word id m.entries m.totals m.number m.portions m.book)

run_keeps : (accounts workers : ℕ) (s : Shared) (steps : List TableStep) (t : Shared) → Kept accounts workers s → Runs s steps t → Kept accounts workers t
run_keeps accounts workers s [] t h r = subst (Kept accounts workers) (sym r) h
run_keeps accounts workers s (step ∷ steps) t h (mid, move, later) = run_keeps accounts workers mid steps t (step_keeps_rule accounts workers s step mid h move) later

pub run_is_orderly : RunIsOrderly
run_is_orderly credits workers steps t r = rule_is_orderly (length credits) workers t (run_keeps (length credits) workers (new_table credits workers) steps t (opening_meets_rule credits workers) r)
