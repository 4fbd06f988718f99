-- The text of a delivery receipt (SMPP 3.4 Appendix B), of any octets:
--     id:IIIIIIIIII sub:SSS dlvrd:DDD submit date:YYMMDDhhmm done date:YYMMDDhhmm stat:DDDDDDD err:E Text:..........
-- The standard gives it as an example, and centres leave fields out, add some, or write them in another order or case. So it is read as
-- words, of which the first that begins with a key has its value. The message's own text comes last, and nothing in it is a field.
use Rattle.std.specs.Prelude.{ℕ, suc, ◌==◌, ◌&&◌, nat_le, ◌≡◌, Bool, true, false, List, [], ◌∷◌, Option, Some, None, length, drop, codes, if◌then◌else◌}
use Rattle.std.specs.Char.{to_ascii_lowercase}
use Rattle.std.specs.Option.{option_copied}
use Rattle.sms_inbox.specs.declared.words.Found.{Found}

-- a space or a control character
abbrev pub is_blank : ℕ → Bool
is_blank c = nat_le c 0x20

-- where the first stands, or the length
abbrev pub blank_at : List ℕ → ℕ
blank_at [] = 0
blank_at (c ∷ cs) = if is_blank c then 0 else suc (blank_at cs)

-- a character before the first word
abbrev pub put : ℕ → List (List ℕ) → List (List ℕ)
put c [] = (c ∷ []) ∷ []
put c (w ∷ ws) = (c ∷ w) ∷ ws

-- the words of a text, empty ones among them
abbrev pub words : List ℕ → List (List ℕ)
words [] = [] ∷ []
words (c ∷ cs) = if is_blank c then [] ∷ words cs else put c (words cs)

-- the word begins with this key, in whatever case its letters are
abbrev pub begins : List ℕ → List ℕ → Bool
begins [] word = true
begins (k ∷ ks) [] = false
begins (k ∷ ks) (c ∷ cs) = (to_ascii_lowercase c == k) && begins ks cs

-- the words before the message's own text
abbrev pub before_text : List (List ℕ) → List (List ℕ)
before_text [] = []
before_text (w ∷ ws) = if begins (codes "text:") w then [] else w ∷ before_text ws

-- what stands behind the key in the first word that begins with it
abbrev pub said : List ℕ → List (List ℕ) → List ℕ
said key [] = []
said key (w ∷ ws) = if begins key w then drop (length key) w else said key ws

-- the value of a key, or no octets
abbrev pub field_of : List ℕ → List ℕ → List ℕ
field_of key text = said key (before_text (words text))

-- ---- word by word

-- the value found, or else that of the word
abbrev pub or_word : List ℕ → Option (List ℕ) → List ℕ → Option (List ℕ)
or_word key None word = if begins key word then Some (drop (length key) word) else None
or_word key (Some value) word = Some value

-- the word stands before the message's own text, and each value not found before is sought in it
pub record HasSeen (old : Found) (word : List ℕ) (new : Found) : Type 0 where
  pub before : begins (codes "text:") word ≡ false
  pub id : option_copied new.id ≡ or_word (codes "id:") (option_copied old.id) word
  pub stat : option_copied new.stat ≡ or_word (codes "stat:") (option_copied old.stat) word
  pub err : option_copied new.err ≡ or_word (codes "err:") (option_copied old.err) word
