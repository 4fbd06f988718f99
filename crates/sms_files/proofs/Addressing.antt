-- The messages that the records of a messages file are, by its rows.
use Rattle.std.proofs.Common.{◌≡◌, sym, ap, ℕ, suc, ◌+◌, List, [], ◌∷◌, ◌++◌, length, refl, arith}
use Rattle.std.specs.List.{AllZip}
use Rattle.std.specs.Prelude.{string_bytes}
use Rattle.sms_message.specs.declared.message.Message.{Message}
use Rattle.sms_files.specs.Fields.{Field, Record}
use Rattle.sms_files.specs.Messages.{message_flaw, messages_header_flaw, most_messages}
use Rattle.sms_files.specs.Rows.{AreRows}
use Rattle.sms_files.specs.MessageRows.{AreFrom, AreMessages, AreSaid, HasFields, IsMessage, Said}
use Rattle.sms_files.specs.declared.tables.message_rows.MessageRow.{MessageRow}

one_message : (names : List Field) (index : ℕ) (r : Record) (row : MessageRow) (m : Message) → HasFields r row → Said names index row m → IsMessage names index r m
one_message names index r row m h (index_is, account_is, source_is, dest_is, text_is) =
    (string_bytes row.account, rw (source_is, dest_is, text_is) (sym h), account_is, index_is)

pub messages_from : (names : List Field) (index : ℕ) (rs : List Record) (rows : List MessageRow) (ms : List Message) → AllZip HasFields rs rows → AreSaid names index rows ms → AreFrom names index rs ms
messages_from names index [] [] [] h s = tt
messages_from names index [] [] (m ∷ ms) h s = absurd s
messages_from names index [] (row ∷ rows) ms h s = absurd h
messages_from names index (r ∷ rs) [] ms h s = absurd h
messages_from names index (r ∷ rs) (row ∷ rows) [] h s = absurd s
messages_from names index (r ∷ rs) (row ∷ rows) (m ∷ ms) h s =
    (one_message names index r row m h.0 s.0, messages_from names (index + 1) rs rows ms h.1 s.1)

-- one row and one message more

said-length : (names : List Field) (index : ℕ) (rows : List MessageRow) (ms : List Message) → AreSaid names index rows ms → length ms ≡ length rows
said-length names index [] [] h = refl
said-length names index [] (m ∷ ms) h = absurd h
said-length names index (row ∷ rows) [] h = absurd h
said-length names index (row ∷ rows) (m ∷ ms) h = ap suc (said-length names (index + 1) rows ms h.1)

said-push : (names : List Field) (index place : ℕ) (rows : List MessageRow) (ms : List Message) (row : MessageRow) (m : Message) → place ≡ index + length rows → AreSaid names index rows ms → Said names place row m
    → AreSaid names index (rows ++ row ∷ []) (ms ++ m ∷ [])
said-push names index place [] [] row m e h s = let here : place ≡ index = omega (arith, e) in (rw here at s, tt)
said-push names index place [] (n ∷ ms) row m e h s = absurd h
said-push names index place (k ∷ rows) [] row m e h s = absurd h
said-push names index place (k ∷ rows) (n ∷ ms) row m e h s =
    let next : place ≡ (index + 1) + length rows = omega (arith, e) in
    (h.0, said-push names (index + 1) place rows ms row m next h.1 s)

pub one-more-said : (names : List Field) (place : ℕ) (rows : List MessageRow) (ms pushed : List Message) (row : MessageRow) (m : Message) → AreSaid names 0 rows ms → Said names place row m → place ≡ length ms
    → pushed ≡ ms ++ m ∷ [] → AreSaid names 0 (rows ++ row ∷ []) pushed
one-more-said names place rows ms pushed row m h s e p =
    let here : place ≡ 0 + length rows = omega (arith, e, said-length names 0 rows ms h) in
    rw p (said-push names 0 place rows ms row m here h s)

pub messages-are : (names : List Field) (rs : List Record) (rows : List MessageRow) (ms : List Message) → AreRows messages_header_flaw message_flaw HasFields most_messages rs rows → AreSaid names 0 rows ms → AreMessages names rs ms
messages-are names [] rows ms h s = absurd h
messages-are names (r ∷ rs) rows ms h s = (h.0, messages_from names 0 rs rows ms h.1 s)
