-- What a run takes for accounts that open with all that is free is all that is free.
use Rattle.std.proofs.Common.{◌≡◌, ℕ, Bool, true, false, List, [], ◌∷◌, ◌++◌, Some, None, refl, sym, ap, ◌∙◌, subst}
use Rattle.std.specs.Prelude.{◌==◌, ◌||◌, ◌&&◌, Option, unwrap_or, if◌then◌else◌}
use Rattle.std.proofs.lemmas.Bool.{eq-eqb}
use Rattle.std.proofs.lemmas.List.Concat.{flat_map-cons}
use Rattle.sms_book.specs.declared.opening.Opening.{Opening}
use Rattle.sms_ledger.specs.Books.{AreBooked, State, after_all, no_row, row_at, stand_of}
use Rattle.sms_ledger.specs.Posting.{taking_from, taking_of, takings_of}
use Rattle.sms_ledger.specs.PostingLaws.{AreTaken}
use Rattle.sms_ledger.specs.declared.entry.Entry.{Entry}
use Rattle.sms_ledger.specs.declared.entry.Row.{Row}
use Rattle.sms_ledger.specs.declared.entry.Stand.{Stand}
use Rattle.sms_ledger.specs.declared.entry.Stand.TheVariants.{Out}
use Rattle.sms_ledger.proofs.TakingAll.{takings_booked, takings_take_all}
use Rattle.sms_journal.specs.OfLedger.{are_out, is_out_with, taking_for, takings_for}
use Rattle.sms_journal.specs.TakingLaws.{FreeIsTaken, OpenFree}

taking_is : (run : List ℕ) (s : State) (name : List ℕ) (credits : ℕ) → credits ≡ (row_at name s).free → taking_for run name credits ≡ taking_of run s name
taking_is run s name credits is = by (s.accounts name) refl
  where
    by : (row : Option Row) → s.accounts name ≡ row → taking_for run name credits ≡ taking_of run s name
    by None e = ap (taking_for run name) (is ∙ ap (λ (row : Option Row). (unwrap_or row no_row).free) e) ∙ sym (ap (taking_from run name) e)
    by (Some row) e = ap (taking_for run name) (is ∙ ap (λ (row : Option Row). (unwrap_or row no_row).free) e) ∙ sym (ap (taking_from run name) e)

takings_are : (run : List ℕ) (s : State) (names : List (List ℕ)) (openings : List Opening) → OpenFree s names openings → takings_for run names openings ≡ takings_of run s names
takings_are run s [] [] free = refl
takings_are run s [] (o ∷ openings) free = absurd free
takings_are run s (name ∷ names) [] free = absurd free
takings_are run s (name ∷ names) (o ∷ openings) free =
    ap (λ (l : List Entry). l ++ takings_for run names openings) (taking_is run s name o.credits free.0) ∙ ap (λ (l : List Entry). taking_of run s name ++ l) (takings_are run s names openings free.1)
    ∙ sym (flat_map-cons (taking_of run s) name names)

-- what is out is what was free
own_out : (n : ℕ) (b : Bool) → (b || is_out_with n (if b then None else Some (Out n))) ≡ true
own_out n true = refl
own_out n false = eq-eqb n n refl

one_out : (n credits : ℕ) (stand : Option Stand) → credits ≡ n → stand ≡ (if n == 0 then None else Some (Out n)) → (credits == 0 || is_out_with credits stand) ≡ true
one_out n credits stand is out = ap (λ (k : ℕ). k == 0 || is_out_with k stand) is ∙ ap (λ (s : Option Stand). n == 0 || is_out_with n s) out ∙ own_out n (n == 0)

all_out : (run : List ℕ) (old new : State) (names : List (List ℕ)) (openings : List Opening) → OpenFree old names openings → AreTaken run old new names → are_out run new names openings ≡ true
all_out run old new [] [] free taken = refl
all_out run old new [] (o ∷ openings) free taken = refl
all_out run old new (name ∷ names) [] free taken = refl
all_out run old new (name ∷ names) (o ∷ openings) free taken =
    ap (λ (b : Bool). b && are_out run new names openings) (one_out (row_at name old).free o.credits (stand_of run name new) free.0 taken.0) ∙ all_out run old new names openings free.1 taken.2

pub free_is_taken : FreeIsTaken
free_is_taken s run names openings distinct untaken free =
    let are = sym (takings_are run s names openings free) in
    let taken : AreTaken run s (after_all (takings_for run names openings) s) names =
    subst (λ (es : List Entry). AreTaken run s (after_all es s) names) are (takings_take_all s run names distinct untaken) in
    (subst (AreBooked s) are (takings_booked s run names distinct untaken), taken, all_out run s (after_all (takings_for run names openings) s) names openings free taken)
