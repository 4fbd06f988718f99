-- The octets of a ledger and the entries that they spell: one relation.
use Rattle.std.specs.Prelude.{◌≡◌, ◌≢◌, ℕ, suc, ◌+◌, ◌<◌, ◌==◌, ◌⊎◌, ⊤, false, List, [], ◌∷◌, ◌++◌, length, Option, Some, None, if◌then◌else◌}
use Rattle.sms_ledger.specs.declared.refusal.Refusal.{Refusal}
use Rattle.sms_ledger.specs.declared.name.RunAccount.{RunAccount}
use Rattle.sms_ledger.specs.declared.entry.Entry.{Entry}
use Rattle.sms_ledger.specs.declared.entry.Entry.TheVariants.{Paid, Taken, Returned, Decided}
use Rattle.sms_ledger.specs.declared.fault.Fault.{Fault}
use Rattle.sms_ledger.specs.declared.fault.Fault.TheVariants.{Unreadable, Refused, Memory}
use Rattle.sms_ledger.specs.Books.{State, IsLedger, books_of, refusal_of}
use Rattle.sms_ledger.specs.Names.{IsName, IsRun}
use Rattle.sms_ledger.specs.Text.{entry_text, header_text}

-- ---- entries whose numbers and names are those of fields

abbrev pub IsU64 : ℕ → Type 0
IsU64 n = n < 18446744073709551616

abbrev pub IsReference : Option (List ℕ) → Type 0
IsReference None = ⊤
IsReference (Some name) = IsName name

abbrev pub IsPair : RunAccount → Type 0
IsPair of = IsRun of.run × IsName of.account

abbrev pub IsEntry : Entry → Type 0
IsEntry (Paid p) = IsName p.account × IsU64 p.credits × IsReference p.reference
IsEntry (Taken t) = IsPair t.of × IsU64 t.credits
IsEntry (Returned b) = IsPair b.of × IsU64 b.free × IsU64 b.doubt × IsU64 b.spent
IsEntry (Decided d) = IsPair d.of × IsU64 d.message × (d.part < 256) × IsU64 d.cost

-- ---- lines

-- the entry has this line at some time
pub record IsLineOf (line : List ℕ) (e : Entry) : Type 0 where
  pub time : ℕ
  pub low : IsU64 time
  pub good : IsEntry e
  pub is : line ≡ entry_text time e

-- no entry has this line, at no time
abbrev pub IsNoLine : List ℕ → Type 0
IsNoLine line = (e : Entry) → IsLineOf line e → ⊥

abbrev pub IsRead : List ℕ → Option Entry → Type 0
IsRead line None = IsNoLine line
IsRead line (Some e) = IsLineOf line e

-- no line ends in this text
abbrev pub HasNoFeed : List ℕ → Type 0
HasNoFeed [] = ⊤
HasNoFeed (c ∷ cs) = ((c == 10) ≡ false) × HasNoFeed cs

-- where the first line feed stands, or the length
abbrev pub feed_at : List ℕ → ℕ
feed_at [] = 0
feed_at (c ∷ cs) = if c == 10 then 0 else suc (feed_at cs)

-- the text is a line, which ends with its one line feed
pub record IsOneLine (line : List ℕ) : Type 0 where
  pub body : List ℕ
  pub is : line ≡ body ++ 10 ∷ []
  pub none : HasNoFeed body

-- the text ends with a line feed
pub record EndsLine (text : List ℕ) : Type 0 where
  pub body : List ℕ
  pub is : text ≡ body ++ 10 ∷ []

-- the text begins with this line, and the rest comes after it
pub record BeginsWith (line rest text : List ℕ) : Type 0 where
  pub is : text ≡ line ++ rest
  pub one : IsOneLine line

-- these are lines of these entries, in order, and nothing else
abbrev pub AreLines : List ℕ → List Entry → Type 0
AreLines text [] = text ≡ []
AreLines text (e ∷ es) = (line : List ℕ) × (rest : List ℕ) × (text ≡ line ++ rest) × IsLineOf line e × AreLines rest es

-- ---- ledgers

-- the octets are a ledger of these entries, each of whose lines is whole
pub record IsWholeText (text : List ℕ) (es : List Entry) : Type 0 where
  pub lines : List ℕ
  pub is : text ≡ header_text ++ lines
  pub are : AreLines lines es

-- a whole ledger, and after it a line that was truncated, which doesn't count
pub record IsBegunText (text : List ℕ) (es : List Entry) : Type 0 where
  pub front : List ℕ
  pub cut : List ℕ
  pub is : text ≡ front ++ cut
  pub whole : IsWholeText front es
  pub unended : HasNoFeed cut

-- the octets are a prefix of the header: nothing is booked
pub record IsUnbegun (text : List ℕ) : Type 0 where
  pub rest : List ℕ
  pub is : header_text ≡ text ++ rest

-- the octets spell these entries
abbrev pub Spells : List ℕ → List Entry → Type 0
Spells text es = IsBegunText text es ⊎ (IsUnbegun text × (es ≡ []))

-- the octets after a header: whole lines of a ledger's entries and a line that was truncated, and the books that they make
pub record IsFileBehind (behind : List ℕ) (s : State) : Type 0 where
  pub entries : List Entry
  pub lines : List ℕ
  pub cut : List ℕ
  pub is : behind ≡ lines ++ cut
  pub are : AreLines lines entries
  pub unended : HasNoFeed cut
  pub booked : IsLedger entries
  pub books : s ≡ books_of entries

-- the octets spell a ledger, whose books these are
pub record IsFileOf (text : List ℕ) (s : State) : Type 0 where
  pub entries : List Entry
  pub spells : Spells text entries
  pub booked : IsLedger entries
  pub books : s ≡ books_of entries

-- ---- where a line that was truncated begins

-- so many octets of the text are all of its whole lines
pub record IsWholeLength (text : List ℕ) (n : ℕ) : Type 0 where
  pub front : List ℕ
  pub cut : List ℕ
  pub is : text ≡ front ++ cut
  pub long : length front ≡ n
  pub ended : (front ≡ []) ⊎ EndsLine front
  pub unended : HasNoFeed cut

-- ---- what is wrong with octets that spell none

-- the octets don't begin with the header
pub record HasNoHeader (text : List ℕ) : Type 0 where
  pub begun : (behind : List ℕ) → text ≢ header_text ++ behind
  pub unbegun : (rest : List ℕ) → header_text ≢ text ++ rest

-- the records before this place are the header and a ledger's entries, and this is said of the books that they make and of the line there
pub record IsAt (place : ℕ) (behind : List ℕ) (Says : State → List ℕ → Type 0) : Type 0 where
  pub entries : List Entry
  pub lines : List ℕ
  pub left : List ℕ
  pub line : List ℕ
  pub rest : List ℕ
  pub counted : place ≡ length entries + 2
  pub is : behind ≡ lines ++ left
  pub are : AreLines lines entries
  pub booked : IsLedger entries
  pub begins : BeginsWith line rest left
  pub says : Says (books_of entries) line

abbrev pub IsUnreadLine : State → List ℕ → Type 0
IsUnreadLine s line = IsNoLine line

-- the line is an entry's that the books refuse
abbrev pub IsRefusedLine : Refusal → State → List ℕ → Type 0
IsRefusedLine r s line = (e : Entry) × IsLineOf line e × (refusal_of e s ≡ Some r)

-- the first fault of the octets after a header
abbrev pub IsFaultyBehind : List ℕ → Fault → Type 0
IsFaultyBehind behind (Unreadable place) = IsAt place behind IsUnreadLine
IsFaultyBehind behind (Refused place r) = IsAt place behind (IsRefusedLine r)
IsFaultyBehind behind (Memory refused) = ⊤

-- and of octets: they don't begin with the header, or what follows it is faulty
abbrev pub IsFaulty : List ℕ → Fault → Type 0
IsFaulty text (Unreadable place) = ((place ≡ 1) × HasNoHeader text) ⊎ ((behind : List ℕ) × (text ≡ header_text ++ behind) × IsFaultyBehind behind (Unreadable place))
IsFaulty text (Refused place r) = (behind : List ℕ) × (text ≡ header_text ++ behind) × IsFaultyBehind behind (Refused place r)
IsFaulty text (Memory refused) = ⊤

-- a record's entry is refused for this cause
abbrev pub IsRefusedAt : ℕ → Entry → State → Fault → Type 0
IsRefusedAt place e s (Unreadable k) = ⊥
IsRefusedAt place e s (Refused k r) = (k ≡ place) × (refusal_of e s ≡ Some r)
IsRefusedAt place e s (Memory refused) = ⊤
