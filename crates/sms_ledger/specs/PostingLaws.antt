-- What holds of all that commands book, by the definitions alone.
use Rattle.std.specs.Prelude.{◌≡◌, ◌≢◌, take, ⊤, ℕ, ◌==◌, List, [], ◌∷◌, Option, Some, None, if◌then◌else◌, ◌++◌, ◌+◌}
use Rattle.sms_core.specs.declared.row.Row.{Row as RunRow}
use Rattle.sms_ledger.specs.declared.entry.Entry.{Entry}
use Rattle.sms_ledger.specs.declared.entry.Stand.{Stand}
use Rattle.sms_ledger.specs.declared.entry.Stand.TheVariants.{Back, Out}
use Rattle.sms_ledger.specs.Books.{AreBooked, IsBooked, IsLedger, State, after_all, books_of, row_at, stand_of}
use Rattle.sms_ledger.specs.Lines.{IsEntry, IsFileOf, IsU64, IsWholeLength, IsWholeText}
use Rattle.sms_ledger.specs.Posting.{appended_text, lines_of, returns_of, takings_of}
use Rattle.sms_ledger.specs.Text.{entry_text}

abbrev pub IsNoneOf : List ℕ → List (List ℕ) → Type 0
IsNoneOf name [] = ⊤
IsNoneOf name (other ∷ others) = (name ≢ other) × IsNoneOf name others

-- each name stands there once
abbrev pub AreDistinct : List (List ℕ) → Type 0
AreDistinct [] = ⊤
AreDistinct (name ∷ names) = IsNoneOf name names × AreDistinct names

-- the run took of none of them
abbrev pub AreUntaken : List ℕ → State → List (List ℕ) → Type 0
AreUntaken run s [] = ⊤
AreUntaken run s (name ∷ names) = (stand_of run name s ≡ None) × AreUntaken run s names

-- what was free is out with the run
abbrev pub out_if_some : ℕ → Option Stand
out_if_some free = if free == 0 then None else Some (Out free)

-- of each of them all free credits are out with the run, and none is free
abbrev pub AreTaken : List ℕ → State → State → List (List ℕ) → Type 0
AreTaken run old new [] = ⊤
AreTaken run old new (name ∷ names) = (stand_of run name new ≡ out_if_some (row_at name old).free) × ((row_at name new).free ≡ 0) × AreTaken run old new names

-- what a run takes of distinct accounts, of which it took nothing before, may follow
abbrev pub TakingsAreBooked : Type 0
TakingsAreBooked = (s : State) (run : List ℕ) (accounts : List (List ℕ)) → AreDistinct accounts → AreUntaken run s accounts → AreBooked s (takings_of run s accounts)

-- and then it has all that was free
abbrev pub TakingsTakeAll : Type 0
TakingsTakeAll = (s : State) (run : List ℕ) (accounts : List (List ℕ)) → AreDistinct accounts → AreUntaken run s accounts → AreTaken run s (after_all (takings_of run s accounts) s) accounts

-- ---- what a run gives back

-- each row has in all what the run has out of its account
abbrev pub AddUp : List ℕ → State → List (List ℕ) → List RunRow → Type 0
AddUp run s [] rows = ⊤
AddUp run s (name ∷ names) [] = ⊤
AddUp run s (name ∷ names) (row ∷ rows) = ((n : ℕ) → stand_of run name s ≡ Some (Out n) → row.free + row.reserved + row.charged ≡ n) × AddUp run s names rows

-- what was out is back, but for what is in doubt
abbrev pub back_if_out : ℕ → Option Stand → Option Stand
back_if_out doubt None = None
back_if_out doubt (Some (Back other)) = Some (Back other)
back_if_out doubt (Some (Out n)) = Some (Back doubt)

abbrev pub AreBack : List ℕ → State → State → List (List ℕ) → List RunRow → Type 0
AreBack run old new [] rows = ⊤
AreBack run old new (name ∷ names) [] = ⊤
AreBack run old new (name ∷ names) (row ∷ rows) = (stand_of run name new ≡ back_if_out row.reserved (stand_of run name old)) × AreBack run old new names rows

-- a run's statement of distinct accounts, whose rows add up to what it took, may follow
abbrev pub ReturnsAreBooked : Type 0
ReturnsAreBooked = (s : State) (run : List ℕ) (accounts : List (List ℕ)) (rows : List RunRow) → AreDistinct accounts → AddUp run s accounts rows → AreBooked s (returns_of run s accounts rows)

-- and then nothing of them is out with it
abbrev pub ReturnsBringBack : Type 0
ReturnsBringBack = (s : State) (run : List ℕ) (accounts : List (List ℕ)) (rows : List RunRow) → AreDistinct accounts → AreBack run s (after_all (returns_of run s accounts rows) s) accounts rows

-- ---- what is appended

abbrev pub AreEntries : List Entry → Type 0
AreEntries [] = ⊤
AreEntries (e ∷ es) = IsEntry e × AreEntries es

-- the lines of entries after a whole ledger's octets spell the ledger with those entries
abbrev pub PostsAppend : Type 0
PostsAppend = (text : List ℕ) (es more : List Entry) (time : ℕ) → IsWholeText text es → IsU64 time → AreEntries more → IsWholeText (text ++ lines_of time more) (es ++ more)

-- which it is where they may follow
abbrev pub BookedAppend : Type 0
BookedAppend = (es more : List Entry) → IsLedger es → AreBooked (books_of es) more → IsLedger (es ++ more) × (books_of (es ++ more) ≡ after_all more (books_of es))

-- and so are the octets of a file, of which a line that was truncated is cut off: they are the ledger with those entries
abbrev pub FilesGoOn : Type 0
FilesGoOn =
    (text : List ℕ) (n time : ℕ) (s : State) (more : List Entry) → IsFileOf text s → IsWholeLength text n → IsU64 time → AreEntries more → AreBooked s more
    → IsFileOf (take n text ++ appended_text (take n text) (lines_of time more)) (after_all more s)

-- the same of one entry
abbrev pub FilesTakeEntries : Type 0
FilesTakeEntries =
    (text : List ℕ) (n time : ℕ) (s t : State) (e : Entry) → IsFileOf text s → IsWholeLength text n → IsU64 time → IsEntry e → IsBooked e s t
    → IsFileOf (take n text ++ appended_text (take n text) (entry_text time e)) t
