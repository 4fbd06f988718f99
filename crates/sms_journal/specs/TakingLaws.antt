-- What holds of all that runs take, by the definitions alone.
use Rattle.std.specs.Prelude.{◌≡◌, true, List, ℕ}
use Rattle.std.specs.List.{AllZip}
use Rattle.sms_book.specs.declared.opening.Opening.{Opening}
use Rattle.sms_ledger.specs.Books.{AreBooked, State, after_all, row_at}
use Rattle.sms_ledger.specs.PostingLaws.{AreDistinct, AreTaken, AreUntaken}
use Rattle.sms_journal.specs.OfLedger.{are_out, takings_for}

-- accounts open with all that is free of these names
abbrev pub OpenFree : State → List (List ℕ) → List Opening → Type 0
OpenFree s names openings = AllZip (λ name opening. opening.credits ≡ (row_at name s).free) names openings

-- what a run takes for such accounts, each once, may be booked where it took nothing of them before; then none of them has free credits, and what they
-- opened with is out with the run
abbrev pub FreeIsTaken : Type 0
FreeIsTaken =
    (s : State) (run : List ℕ) (names : List (List ℕ)) (openings : List Opening) → AreDistinct names → AreUntaken run s names → OpenFree s names openings
    → AreBooked s (takings_for run names openings) × AreTaken run s (after_all (takings_for run names openings) s) names × (are_out run (after_all (takings_for run names openings) s) names openings ≡ true)
