-- What a worker's end says of a quote.
use Rattle.std.proofs.Common.{◌≡◌, ℕ, suc, ◌*◌, List, [], ◌∷◌, length, Some, refl, sym, ap, ◌∙◌, subst, inl, inr, arith, zero-mul, suc-mul}
use Rattle.std.specs.Prelude.{slice_get, string_bytes}
use Rattle.sms_book.specs.Tariffs.{cost_of}
use Rattle.sms_message.specs.declared.message.Message.{Message}
use Rattle.sms_message.specs.declared.rules.Rules.{Rules}
use Rattle.sms_message.specs.declared.ends.MessageRefusal.{MessageRefusal}
use Rattle.sms_message.specs.declared.ends.MessageRefusal.TheVariants as refusal
use Rattle.sms_message.specs.Ends.{segments_in, total_in}
use Rattle.sms_message.specs.Results.{HasSegments, IsResultOf}
use Rattle.sms_message.specs.Admission.{IsRefusalOf}
use Rattle.sms_files.specs.SentEnds.{IsSegmentEnd, MessageResult, SegmentEnd}
use Rattle.sms_files.specs.declared.report.quote.quote.Quote.{Quote}
use Rattle.sms_files.specs.declared.report.quote.quote.Verdict.{Verdict}
use Rattle.sms_files.specs.declared.report.quote.quote.Verdict.TheVariants.{Passes, NoAccount, BadAddress, TooLong, NoCredit}
use Rattle.sms_files.specs.QuoteLaws.{HasParts, IsQuotedAs, RefusalsAreQuoted, SentAsQuoted}
use Rattle.sms_files.specs.Quotes.{IsCut, Says}

module _ (rules : Rules) (accounts free : ℕ) (m : Message) (q : Quote) where
  refusal_is : (r : MessageRefusal) (v : Verdict) → Says accounts rules.long_reference rules.tariff free m q v → IsRefusalOf rules accounts m r → IsQuotedAs r v
  refusal_is refusal.NoAccount NoAccount says is = refl
  refusal_is refusal.NoAccount BadAddress says is = absurd (is says.0)
  refusal_is refusal.NoAccount TooLong says is = absurd (is says.0)
  refusal_is refusal.NoAccount NoCredit says is = absurd (is says.0)
  refusal_is refusal.NoAccount Passes says is = absurd (is says.0)
  refusal_is refusal.BadAddress NoAccount says is = absurd (says.0 is.0)
  refusal_is refusal.BadAddress BadAddress says is = refl
  refusal_is refusal.BadAddress TooLong says is = absurd (is.1 says.1)
  refusal_is refusal.BadAddress NoCredit says is = absurd (is.1 says.1)
  refusal_is refusal.BadAddress Passes says is = absurd (is.1 says.1)
  refusal_is refusal.TooLong NoAccount says is = absurd (says.0 is.0)
  refusal_is refusal.TooLong BadAddress says is = absurd (says.1 is.1)
  refusal_is refusal.TooLong TooLong says is = refl
  refusal_is refusal.TooLong NoCredit says is = absurd (says.2 is.2)
  refusal_is refusal.TooLong Passes says is = absurd (says.2 is.2)
  refusal_is refusal.NoCredit NoAccount says is = absurd (says.0 is.0)
  refusal_is refusal.NoCredit BadAddress says is = absurd (says.1 is.1)
  refusal_is refusal.NoCredit TooLong says is = absurd (is.2 says.2)
  refusal_is refusal.NoCredit NoCredit says is = inr refl
  refusal_is refusal.NoCredit Passes says is = inl refl
  refusal_is refusal.BindClosed v says is = tt
  refusal_is refusal.OutOfMemory v says is = tt

  -- segments of one cost each
  same_cost : (price : ℕ) (segments : List SegmentEnd) → ((p : ℕ) (s : SegmentEnd) → slice_get segments p ≡ Some s → s.cost ≡ price) → total_in (λ s. s.cost) segments ≡ length segments * price
  same_cost price [] each = sym (zero-mul price)
  same_cost price (s ∷ segments) each =
      let here : s.cost ≡ price = each 0 s refl in
      let rest = same_cost price segments (λ p t is. each (suc p) t is) in
      let more = suc-mul (length segments) price in
      omega arith

  parts_are : (segments : List SegmentEnd) → IsCut rules.long_reference rules.tariff m q → HasSegments rules accounts m segments → ((p : ℕ) (s : SegmentEnd) → slice_get segments p ≡ Some s → IsSegmentEnd rules m p s) → HasParts q segments
  parts_are segments cut has each =
      let parts : q.parts ≡ length segments = cut.parts ∙ sym has.parts in
      record {
        parts = parts;
        cost = cut.cost ∙ ap (λ n. n * cost_of rules.tariff (string_bytes m.dest)) parts ∙ sym (same_cost (cost_of rules.tariff (string_bytes m.dest)) segments (λ p s is. (each p s is).cost));
      }

  segments_are : (segments : List SegmentEnd) (v : Verdict) → Says accounts rules.long_reference rules.tariff free m q v → HasSegments rules accounts m segments → ((p : ℕ) (s : SegmentEnd) → slice_get segments p ≡ Some s → IsSegmentEnd rules m p s) → HasParts q segments
  segments_are segments NoAccount says has each = absurd (says.0 has.known)
  segments_are segments BadAddress says has each = absurd (says.1 has.addresses)
  segments_are segments TooLong says has each = absurd (has.short says.2)
  segments_are segments NoCredit says has each = parts_are segments says.3 has each
  segments_are segments Passes says has each = parts_are segments says.3 has each

pub refusals_quoted : RefusalsAreQuoted
refusals_quoted rules accounts free m q e r says end is = refusal_is rules accounts free m q r q.verdict says (subst (IsResultOf rules accounts m) is end.result)

pub sent_quoted : SentAsQuoted
sent_quoted rules accounts free m q e segments says end is =
    segments_are rules accounts free m q segments q.verdict says (subst (IsResultOf rules accounts m) is end.result)
    (λ p s there. end.segments p s (ap (λ (r : MessageResult). slice_get (segments_in r) p) is ∙ there))
