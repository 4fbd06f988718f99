-- What holds of every ledger's octets, by the definitions alone.
use Rattle.std.specs.Prelude.{⊤, take, ◌≡◌, ◌≢◌, ℕ, List, [], ◌∷◌, ◌++◌, None}
use Rattle.sms_ledger.specs.declared.entry.Entry.{Entry}
use Rattle.sms_ledger.specs.Books.{IsLedger, State, after, books_of, refusal_of}
use Rattle.sms_ledger.specs.declared.fault.Fault.{Fault}
use Rattle.sms_ledger.specs.declared.fault.Fault.TheVariants.{Unreadable, Refused, Memory}
use Rattle.sms_ledger.specs.Lines.{IsBegunText, IsEntry, IsFaulty, IsFileOf, IsU64, IsWholeLength, IsWholeText, Spells}
use Rattle.sms_ledger.specs.Text.{entry_text, header_text}

-- the octets spell a prefix of these entries
pub record SpellsPrefix (text : List ℕ) (es : List Entry) : Type 0 where
  pub front : List Entry
  pub rest : List Entry
  pub is : es ≡ front ++ rest
  pub spells : Spells text front

-- each prefix of a ledger's octets spells a prefix of its entries
abbrev pub PrefixesSpellPrefixes : Type 0
PrefixesSpellPrefixes = (text rest : List ℕ) (es : List Entry) → Spells (text ++ rest) es → SpellsPrefix text es

-- a line that was truncated loses its own entry alone
abbrev pub CutsLoseOne : Type 0
CutsLoseOne =
    (text front rest : List ℕ) (es : List Entry) (time : ℕ) (e : Entry) → IsWholeText text es → IsU64 time → IsEntry e → entry_text time e ≡ front ++ rest → rest ≢ [] → Spells (text ++ front) es

-- octets spell one list of entries
abbrev pub TextsSpellOnce : Type 0
TextsSpellOnce = (text : List ℕ) (es others : List Entry) → Spells text es → Spells text others → es ≡ others

-- an entry's line after a whole ledger's octets spells the ledger with that entry
abbrev pub LinesAppend : Type 0
LinesAppend = (text : List ℕ) (es : List Entry) (time : ℕ) (e : Entry) → IsWholeText text es → IsU64 time → IsEntry e → IsWholeText (text ++ entry_text time e) (es ++ e ∷ [])

-- which it is where the entry may follow
abbrev pub EntriesAppend : Type 0
EntriesAppend = (es : List Entry) (e : Entry) → IsLedger es → refusal_of e (books_of es) ≡ None → IsLedger (es ++ e ∷ []) × (books_of (es ++ e ∷ []) ≡ after e (books_of es))

-- the header alone is a whole ledger's octets, and those spell it
abbrev pub HeadersBegin : Type 0
HeadersBegin = IsWholeText header_text []

abbrev pub WholesSpell : Type 0
WholesSpell = (text : List ℕ) (es : List Entry) → IsWholeText text es → Spells text es

-- ---- octets are a ledger's, of one ledger, or have a fault

-- it isn't that memory was refused
abbrev pub IsOfText : Fault → Type 0
IsOfText (Unreadable place) = ⊤
IsOfText (Refused place r) = ⊤
IsOfText (Memory refused) = ⊥

abbrev pub FaultsSpellNone : Type 0
FaultsSpellNone = (text : List ℕ) (f : Fault) (s : State) → IsOfText f → IsFaulty text f → IsFileOf text s → ⊥

abbrev pub BooksAreOne : Type 0
BooksAreOne = (text : List ℕ) (s t : State) → IsFileOf text s → IsFileOf text t → s ≡ t

-- all whole lines of a ledger's octets are the whole ledger
abbrev pub WholeLinesAreWhole : Type 0
WholeLinesAreWhole = (text : List ℕ) (n : ℕ) (es : List Entry) → IsWholeLength text n → IsBegunText text es → IsWholeText (take n text) es

-- and of a prefix of the header they are none
abbrev pub UnbegunHasNone : Type 0
UnbegunHasNone = (text : List ℕ) (n next : ℕ) (more : List ℕ) → IsWholeLength text n → header_text ≡ text ++ next ∷ more → n ≡ 0
