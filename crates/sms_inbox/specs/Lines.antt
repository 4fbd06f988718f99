-- The octets of an inbox and the records that they spell: one relation.
use Rattle.std.specs.Prelude.{◌≡◌, ℕ, suc, ◌+◌, ◌==◌, ◌⊎◌, ⊤, false, List, [], ◌∷◌, ◌++◌, length, Option, Some, None, if◌then◌else◌}
use Rattle.sms_inbox.specs.declared.record.Record.{Record}
use Rattle.sms_inbox.specs.declared.fault.Fault.{Fault}
use Rattle.sms_inbox.specs.declared.fault.Fault.TheVariants.{Unreadable, OutOfMemory}
use Rattle.sms_inbox.specs.Record.{IsRecord, record_text}

-- ---- lines

-- the record has this line
pub record IsLineOf (line : List ℕ) (r : Record) : Type 0 where
  pub good : IsRecord r
  pub is : line ≡ record_text r

-- no record has this line
abbrev pub IsNoLine : List ℕ → Type 0
IsNoLine line = (r : Record) → IsLineOf line r → ⊥

abbrev pub IsRead : List ℕ → Option Record → Type 0
IsRead line None = IsNoLine line
IsRead line (Some r) = IsLineOf line r

-- no line ends in this text
abbrev pub HasNoFeed : List ℕ → Type 0
HasNoFeed [] = ⊤
HasNoFeed (c ∷ cs) = ((c == 10) ≡ false) × HasNoFeed cs

-- where the first line feed stands, or the length
abbrev pub feed_at : List ℕ → ℕ
feed_at [] = 0
feed_at (c ∷ cs) = if c == 10 then 0 else suc (feed_at cs)

-- the text is a line, which ends with its one line feed
pub record IsOneLine (line : List ℕ) : Type 0 where
  pub body : List ℕ
  pub is : line ≡ body ++ 10 ∷ []
  pub none : HasNoFeed body

-- the text ends with a line feed
pub record EndsLine (text : List ℕ) : Type 0 where
  pub body : List ℕ
  pub is : text ≡ body ++ 10 ∷ []

-- the text begins with this line, and the rest comes after it
pub record BeginsWith (line rest text : List ℕ) : Type 0 where
  pub is : text ≡ line ++ rest
  pub one : IsOneLine line

-- these are lines of these records, in order, and nothing else
abbrev pub AreLines : List ℕ → List Record → Type 0
AreLines text [] = text ≡ []
AreLines text (r ∷ rs) = (line : List ℕ) × (rest : List ℕ) × (text ≡ line ++ rest) × IsLineOf line r × AreLines rest rs

-- ---- inboxes

-- the octets spell these records: lines of them, and after these a line that was truncated, which doesn't count
pub record Spells (text : List ℕ) (rs : List Record) : Type 0 where
  pub lines : List ℕ
  pub cut : List ℕ
  pub is : text ≡ lines ++ cut
  pub are : AreLines lines rs
  pub unended : HasNoFeed cut

-- so many octets of the text are all of its whole lines
pub record IsWholeLength (text : List ℕ) (n : ℕ) : Type 0 where
  pub front : List ℕ
  pub cut : List ℕ
  pub is : text ≡ front ++ cut
  pub long : length front ≡ n
  pub ended : (front ≡ []) ⊎ EndsLine front
  pub unended : HasNoFeed cut

-- the lines before this place are those of records, and the one there is none's
pub record IsUnreadAt (place : ℕ) (text : List ℕ) : Type 0 where
  pub records : List Record
  pub lines : List ℕ
  pub left : List ℕ
  pub line : List ℕ
  pub rest : List ℕ
  pub counted : place ≡ length records + 1
  pub is : text ≡ lines ++ left
  pub are : AreLines lines records
  pub begins : BeginsWith line rest left
  pub unread : IsNoLine line

-- the first fault of octets
abbrev pub IsFaulty : List ℕ → Fault → Type 0
IsFaulty text (Unreadable place) = IsUnreadAt place text
IsFaulty text OutOfMemory = ⊤
