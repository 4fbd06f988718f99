-- What a quote in which no message lacks credit says of a run of one worker.
use Rattle.std.specs.Prelude.{◌≡◌, ◌≢◌, ℕ, List, length, Some, slice_get}
use Rattle.std.specs.List.{AllZip}
use Rattle.sms_book.specs.declared.opening.Opening.{Opening}
use Rattle.sms_book.specs.Name.{BookId}
use Rattle.sms_book.specs.Openings.{credits_of}
use Rattle.sms_book.specs.Portions.{amounts_at, no_amounts}
use Rattle.sms_book.specs.Shares.{Share}
use Rattle.sms_message.specs.declared.message.Message.{Message}
use Rattle.sms_message.specs.declared.rules.Rules.{Rules}
use Rattle.sms_message.specs.declared.ends.MessageRefusal.TheVariants as refusal
use Rattle.sms_message.specs.declared.ends.MessageResult.TheVariants.{Refused}
use Rattle.sms_files.specs.SentEnds.{Grew, IsEndOf, LackCredit, MessageEnd}
use Rattle.sms_files.specs.declared.report.quote.quote.Quote.{Quote}
use Rattle.sms_files.specs.declared.report.quote.quote.Verdict.TheVariants.{NoCredit}
use Rattle.sms_files.specs.Quotes.{AreQuotes}

-- A call of `run_worker` over a book that was opened with these accounts and has one share: the share had nothing before, and the rest is what that call promises
pub record RanAlone (os : List Opening) (book : BookId) (rules : Rules) (before after : Share) (ms : List Message) (es : List MessageEnd) : Type 0 where
  pub one : book.workers ≡ 1
  pub opening : book.opening ≡ credits_of os
  pub nothing : (i : ℕ) → amounts_at before.amounts i ≡ no_amounts
  pub each : AllZip (IsEndOf rules (length os)) ms es
  pub credits : Grew before.amounts after.amounts ms es
  pub lacking : LackCredit book rules ms es after

-- no message is quoted as one without credit
abbrev pub NoneLacks : List Quote → Type 0
NoneLacks qs = (k : ℕ) (q : Quote) → slice_get qs k ≡ Some q → q.verdict ≢ NoCredit

abbrev pub CreditIsQuoted : Type 0
CreditIsQuoted =
    (os : List Opening) (book : BookId) (rules : Rules) (before after : Share) (ms : List Message) (es : List MessageEnd) (qs : List Quote) → AreQuotes os rules.long_reference rules.tariff ms qs → NoneLacks qs → RanAlone os book rules before after ms es
    → (k : ℕ) (e : MessageEnd) → slice_get es k ≡ Some e → e.result ≢ Refused refusal.NoCredit
