-- What is printed of quotes: a line for each message and a line for each account.
use Rattle.std.specs.Prelude.{◌≡◌, ℕ, ◌+◌, ◌-◌, Bool, List, [], ◌∷◌, ◌++◌, Option, Some, None, slice_get, codes, decimal, string_bytes}
use Rattle.std.specs.Option.{option_map_or}
use Rattle.sms_book.specs.declared.opening.Opening.{Opening}
use Rattle.sms_book.specs.Tariffs.{Price}
use Rattle.sms_files.specs.Report.{field_text}
use Rattle.sms_message.specs.declared.message.Message.{Message}
use Rattle.sms_files.specs.declared.report.quote.quote.Quote.{Quote}
use Rattle.sms_files.specs.declared.report.quote.quote.Verdict.{Verdict}
use Rattle.sms_files.specs.declared.report.quote.quote.Verdict.TheVariants.{Passes, NoAccount, BadAddress, TooLong, NoCredit}
use Rattle.sms_files.specs.declared.report.quote.total.Total.{Total}
use Rattle.sms_files.specs.Quotes.{AreQuotes, total_of}

abbrev pub verdict_name : Verdict → List ℕ
verdict_name Passes = codes "ok"
verdict_name NoAccount = codes "no-account"
verdict_name BadAddress = codes "bad-address"
verdict_name TooLong = codes "too-long"
verdict_name NoCredit = codes "no-credit"

-- an account's name, and nothing where there is no account
abbrev pub name_of : List Opening → Option ℕ → List ℕ
name_of os None = []
name_of os (Some i) = option_map_or (λ o. field_text (string_bytes o.name)) (slice_get os i) []

abbrev pub number_field : ℕ → List ℕ
number_field n = codes "," ++ decimal n

-- the line of a message
abbrev pub quote_line : List Opening → Message → Quote → List ℕ
quote_line os m q = decimal m.index ++ codes "," ++ name_of os m.account ++ number_field q.parts ++ number_field q.cost ++ codes "," ++ verdict_name q.verdict ++ codes "\n"

abbrev pub quote_lines : List Opening → List Message → List Quote → List ℕ
quote_lines os [] qs = []
quote_lines os (m ∷ ms) [] = []
quote_lines os (m ∷ ms) (q ∷ qs) = quote_line os m q ++ quote_lines os ms qs

-- the line of an account, with what its messages take
abbrev pub account_line : Opening → Total → List ℕ
account_line o t =
    field_text (string_bytes o.name) ++ number_field o.credits ++ number_field t.messages ++ number_field t.parts ++ number_field t.cost ++ number_field (o.credits - t.cost) ++ codes "\n"

-- a line for each account, of totals that are kept
abbrev pub total_lines : List Opening → List Total → List ℕ
total_lines [] ts = []
total_lines (o ∷ os) [] = []
total_lines (o ∷ os) (t ∷ ts) = account_line o t ++ total_lines os ts

-- the same of what the messages take; accounts are counted on from a place
abbrev pub account_lines : ℕ → List Opening → List Message → List Quote → List ℕ
account_lines i [] ms qs = []
account_lines i (o ∷ os) ms qs = account_line o (total_of i ms qs) ++ account_lines (i + 1) os ms qs

abbrev pub text_of : List Opening → List Message → List Quote → List ℕ
text_of os ms qs = codes "message,account,parts,cost,verdict\n" ++ quote_lines os ms qs ++ codes "account,credits,messages,parts,cost,left\n" ++ account_lines 0 os ms qs

-- the same of totals that are kept
abbrev pub kept_text : List Opening → List Message → List Quote → List Total → List ℕ
kept_text os ms qs ts = codes "message,account,parts,cost,verdict\n" ++ quote_lines os ms qs ++ codes "account,credits,messages,parts,cost,left\n" ++ total_lines os ts

-- the text is that of the messages' quotes
pub record IsQuoteText (os : List Opening) (long : Bool) (prices : List Price) (ms : List Message) (text : List ℕ) : Type 0 where
  pub quotes : List Quote
  pub are : AreQuotes os long prices ms quotes
  pub is : text ≡ text_of os ms quotes
