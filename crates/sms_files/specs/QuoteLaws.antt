-- What quotes say of the ends of a sending.
use Rattle.std.specs.Prelude.{◌≡◌, ◌≢◌, ◌⊎◌, ℕ, List, length}
use Rattle.sms_message.specs.declared.message.Message.{Message}
use Rattle.sms_message.specs.declared.rules.Rules.{Rules}
use Rattle.sms_message.specs.declared.ends.MessageRefusal.{MessageRefusal}
use Rattle.sms_message.specs.declared.ends.MessageRefusal.TheVariants as refusal
use Rattle.sms_message.specs.declared.ends.MessageResult.TheVariants.{Refused, Sent}
use Rattle.sms_message.specs.Ends.{total_in}
use Rattle.sms_files.specs.SentEnds.{IsEndOf, MessageEnd, SegmentEnd}
use Rattle.sms_files.specs.declared.report.quote.quote.Quote.{Quote}
use Rattle.sms_files.specs.declared.report.quote.quote.Verdict.{Verdict}
use Rattle.sms_files.specs.declared.report.quote.quote.Verdict.TheVariants.{Passes, NoAccount, BadAddress, TooLong, NoCredit}
use Rattle.sms_files.specs.Quotes.{IsQuoteOf}

-- the refusal that a verdict is, whatever credits there are
abbrev pub IsRefusal : Verdict → MessageRefusal → Type 0
IsRefusal NoAccount r = r ≡ refusal.NoAccount
IsRefusal BadAddress r = r ≡ refusal.BadAddress
IsRefusal TooLong r = r ≡ refusal.TooLong
IsRefusal NoCredit r = ⊥
IsRefusal Passes r = ⊥

abbrev pub RefusalsAreTheWorkers : Type 0
RefusalsAreTheWorkers =
    (rules : Rules) (accounts free : ℕ) (m : Message) (q : Quote) (e : MessageEnd) (r : MessageRefusal) → IsQuoteOf accounts rules.long_reference rules.tariff free m q → IsRefusal q.verdict r → IsEndOf rules accounts m e
    → e.result ≢ Refused refusal.BindClosed → e.result ≢ Refused refusal.OutOfMemory → e.result ≡ Refused r

-- what a message that a worker refuses so is quoted as: the same, and one without credit as one that passes the checks before that
abbrev pub IsQuotedAs : MessageRefusal → Verdict → Type 0
IsQuotedAs refusal.NoAccount v = v ≡ NoAccount
IsQuotedAs refusal.BadAddress v = v ≡ BadAddress
IsQuotedAs refusal.TooLong v = v ≡ TooLong
IsQuotedAs refusal.NoCredit v = (v ≡ Passes) ⊎ (v ≡ NoCredit)
IsQuotedAs refusal.BindClosed v = Unit {0}
IsQuotedAs refusal.OutOfMemory v = Unit {0}

abbrev pub RefusalsAreQuoted : Type 0
RefusalsAreQuoted =
    (rules : Rules) (accounts free : ℕ) (m : Message) (q : Quote) (e : MessageEnd) (r : MessageRefusal) → IsQuoteOf accounts rules.long_reference rules.tariff free m q → IsEndOf rules accounts m e → e.result ≡ Refused r → IsQuotedAs r q.verdict

-- the quote has as many parts, and their costs added up
pub record HasParts (q : Quote) (segments : List SegmentEnd) : Type 0 where
  pub parts : q.parts ≡ length segments
  pub cost : q.cost ≡ total_in (λ s. s.cost) segments

abbrev pub SentAsQuoted : Type 0
SentAsQuoted =
    (rules : Rules) (accounts free : ℕ) (m : Message) (q : Quote) (e : MessageEnd) (segments : List SegmentEnd) → IsQuoteOf accounts rules.long_reference rules.tariff free m q → IsEndOf rules accounts m e → e.result ≡ Sent segments → HasParts q segments
