-- What a deliver_sm says as a delivery receipt.
use Rattle.std.specs.Prelude.{ℕ, ◌==◌, ◌||◌, ◌/◌, ◌%◌, Bool, List, [], ◌∷◌, Option, Some, None, decimal, codes, if◌then◌else◌}
use Rattle.sms_pdu.specs.declared.body.Sm.{Sm}
use Rattle.sms_inbox.specs.declared.receipt.ErrorRef.{ErrorRef}
use Rattle.sms_inbox.specs.declared.receipt.ErrorRef.TheVariants.{Text, Code}
use Rattle.sms_inbox.specs.declared.receipt.Receipt.{Receipt}
use Rattle.sms_inbox.specs.Parameters.{code_in, id_in, payload_in, state_in}
use Rattle.sms_inbox.specs.Words.{field_of}

-- empty octets say nothing
pub record Said : Type 0 where
  pub id : List ℕ
  pub state : List ℕ
  pub error : List ℕ

-- the message type in bits 5 to 2 of esm_class (5.2.12): an SMSC delivery receipt, or an intermediate notification
abbrev pub has_receipt_text : ℕ → Bool
has_receipt_text esm_class = (esm_class / 4 % 16 == 1) || (esm_class / 4 % 16 == 8)

-- the first octets, or the others where there are none
abbrev pub or_else : List ℕ → List ℕ → List ℕ
or_else [] others = others
or_else (c ∷ cs) others = c ∷ cs

-- where short_message is empty the text is message_payload
abbrev pub text_of : Sm → List ℕ
text_of sm = or_else sm.short_message (payload_in sm.params)

-- what the text says under this key, where it is a receipt's
abbrev pub in_text : List ℕ → Sm → List ℕ
in_text key sm = if has_receipt_text sm.esm_class then field_of key (text_of sm) else []

-- an error code in decimal digits, or else what the text says
abbrev pub code_or : Option ℕ → List ℕ → List ℕ
code_or None text = text
code_or (Some code) text = decimal code

-- each by the parameter that has it, else by the text
abbrev pub receipt_in : Sm → Said
receipt_in sm = record {
  id = or_else (id_in sm.params) (in_text (codes "id:") sm);
  state = or_else (state_in sm.params) (in_text (codes "stat:") sm);
  error = code_or (code_in sm.params) (in_text (codes "err:") sm);
}

-- ---- what is borrowed

abbrev pub error_text : ErrorRef → List ℕ
error_text (Text text) = text.now
error_text (Code code) = decimal code

abbrev pub said_by : Receipt → Said
said_by r = record { id = r.id.now; state = r.state.now; error = error_text r.error }
