-- What holds of every receipt's text.
use Rattle.std.specs.Prelude.{◌≡◌, ℕ, ⊤, false, List, [], ◌∷◌, ◌++◌, codes}
use Rattle.sms_pdu.specs.declared.body.Sm.{Sm}
use Rattle.sms_inbox.specs.Receipt.{has_receipt_text, in_text}
use Rattle.sms_inbox.specs.Words.{field_of, is_blank}

-- the octets have no space and no control character
abbrev pub AreOneWord : List ℕ → Type 0
AreOneWord [] = ⊤
AreOneWord (c ∷ cs) = (is_blank c ≡ false) × AreOneWord cs

-- the fields of the standard's example before its text
pub record Fields : Type 0 where
  pub id : List ℕ
  pub sub : List ℕ
  pub dlvrd : List ℕ
  pub submitted : List ℕ
  pub done : List ℕ
  pub stat : List ℕ
  pub err : List ℕ

pub record AreWords (f : Fields) : Type 0 where
  pub id : AreOneWord f.id
  pub sub : AreOneWord f.sub
  pub dlvrd : AreOneWord f.dlvrd
  pub submitted : AreOneWord f.submitted
  pub done : AreOneWord f.done
  pub stat : AreOneWord f.stat
  pub err : AreOneWord f.err

-- the standard's example with these fields, and any text behind them
abbrev pub standard_text : Fields → List ℕ → List ℕ
standard_text f text =
    codes "id:" ++ (f.id ++ (codes " sub:" ++ (f.sub ++ (codes " dlvrd:" ++ (f.dlvrd ++ (codes " submit date:" ++ (f.submitted
    ++ (codes " done date:" ++ (f.done ++ (codes " stat:" ++ (f.stat ++ (codes " err:" ++ (f.err ++ (codes " Text:" ++ text))))))))))))))

-- a field that the text has
pub record IsReadFrom (text : List ℕ) (f : Fields) : Type 0 where
  pub id : field_of (codes "id:") text ≡ f.id
  pub stat : field_of (codes "stat:") text ≡ f.stat
  pub err : field_of (codes "err:") text ≡ f.err

-- such a text is read, whatever its fields hold
abbrev pub ReceiptsAreRead : Type 0
ReceiptsAreRead = (f : Fields) (text : List ℕ) → AreWords f → IsReadFrom (standard_text f text) f

-- what isn't a receipt says nothing by its text
abbrev pub MessagesSayNothing : Type 0
MessagesSayNothing = (sm : Sm) (key : List ℕ) → has_receipt_text sm.esm_class ≡ false → in_text key sm ≡ []
