-- The refusals of quotes and of workers.
use Rattle.std.proofs.Common.{◌≡◌, ℕ, refl, sym, ap}
use Rattle.std.specs.Prelude.{◌≢◌}
use Rattle.sms_message.specs.declared.message.Message.{Message}
use Rattle.sms_message.specs.declared.rules.Rules.{Rules}
use Rattle.sms_message.specs.declared.ends.MessageRefusal.{MessageRefusal}
use Rattle.sms_message.specs.declared.ends.MessageRefusal.TheVariants as refusal
use Rattle.sms_message.specs.declared.ends.MessageResult.TheVariants.{Refused, Sent}
use Rattle.sms_message.specs.Results.{IsResultOf}
use Rattle.sms_files.specs.SentEnds.{MessageResult}
use Rattle.sms_files.specs.declared.report.quote.quote.Quote.{Quote}
use Rattle.sms_files.specs.declared.report.quote.quote.Verdict.{Verdict}
use Rattle.sms_files.specs.declared.report.quote.quote.Verdict.TheVariants.{Passes, NoAccount, BadAddress, TooLong, NoCredit}
use Rattle.sms_files.specs.QuoteLaws.{IsRefusal, RefusalsAreTheWorkers}
use Rattle.sms_files.specs.Quotes.{Says}

one_refusal : (rules : Rules) (accounts free : ℕ) (m : Message) (q : Quote) (v : Verdict) (result : MessageResult) (r : MessageRefusal) → Says accounts rules.long_reference rules.tariff free m q v → IsRefusal v r → IsResultOf rules accounts m result
    → result ≢ Refused refusal.BindClosed → result ≢ Refused refusal.OutOfMemory → result ≡ Refused r
one_refusal rules accounts free m q NoAccount (Sent segments) r says is end bind memory = absurd (says.0 end.known)
one_refusal rules accounts free m q NoAccount (Refused refusal.NoAccount) r says is end bind memory = ap Refused (sym is)
one_refusal rules accounts free m q NoAccount (Refused refusal.NoCredit) r says is end bind memory = absurd (says.0 end.0)
one_refusal rules accounts free m q NoAccount (Refused refusal.TooLong) r says is end bind memory = absurd (says.0 end.0)
one_refusal rules accounts free m q NoAccount (Refused refusal.BadAddress) r says is end bind memory = absurd (says.0 end.0)
one_refusal rules accounts free m q NoAccount (Refused refusal.BindClosed) r says is end bind memory = absurd (bind refl)
one_refusal rules accounts free m q NoAccount (Refused refusal.OutOfMemory) r says is end bind memory = absurd (memory refl)
one_refusal rules accounts free m q BadAddress (Sent segments) r says is end bind memory = absurd (says.1 end.addresses)
one_refusal rules accounts free m q BadAddress (Refused refusal.NoAccount) r says is end bind memory = absurd (end says.0)
one_refusal rules accounts free m q BadAddress (Refused refusal.NoCredit) r says is end bind memory = absurd (says.1 end.1)
one_refusal rules accounts free m q BadAddress (Refused refusal.TooLong) r says is end bind memory = absurd (says.1 end.1)
one_refusal rules accounts free m q BadAddress (Refused refusal.BadAddress) r says is end bind memory = ap Refused (sym is)
one_refusal rules accounts free m q BadAddress (Refused refusal.BindClosed) r says is end bind memory = absurd (bind refl)
one_refusal rules accounts free m q BadAddress (Refused refusal.OutOfMemory) r says is end bind memory = absurd (memory refl)
one_refusal rules accounts free m q TooLong (Sent segments) r says is end bind memory = absurd (end.short says.2)
one_refusal rules accounts free m q TooLong (Refused refusal.NoAccount) r says is end bind memory = absurd (end says.0)
one_refusal rules accounts free m q TooLong (Refused refusal.NoCredit) r says is end bind memory = absurd (end.2 says.2)
one_refusal rules accounts free m q TooLong (Refused refusal.TooLong) r says is end bind memory = ap Refused (sym is)
one_refusal rules accounts free m q TooLong (Refused refusal.BadAddress) r says is end bind memory = absurd (end.1 says.1)
one_refusal rules accounts free m q TooLong (Refused refusal.BindClosed) r says is end bind memory = absurd (bind refl)
one_refusal rules accounts free m q TooLong (Refused refusal.OutOfMemory) r says is end bind memory = absurd (memory refl)
one_refusal rules accounts free m q NoCredit result r says is end bind memory = absurd is
one_refusal rules accounts free m q Passes result r says is end bind memory = absurd is

pub same_refusals : RefusalsAreTheWorkers
same_refusals rules accounts free m q e r says is end bind memory = one_refusal rules accounts free m q q.verdict e.result r says is end.result bind memory
