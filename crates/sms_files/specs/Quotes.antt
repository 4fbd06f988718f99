-- What messages are quoted as: the checks of a worker, in the order of the messages, as if each segment were charged.
use Rattle.std.specs.Prelude.{◌≡◌, ℕ, ◌+◌, ◌-◌, ◌*◌, ◌<◌, ◌≤◌, ◌==◌, ◌&&◌, Bool, true, false, List, [], ◌∷◌, length, take, Option, Some, None, slice_get, string_bytes, if◌then◌else◌}
use Rattle.std.specs.Option.{option_map_or}
use Rattle.sms_segment.specs.Message.{IsTooLong}
use Rattle.sms_book.specs.declared.opening.Opening.{Opening}
use Rattle.sms_book.specs.Tariffs.{Price, cost_of}
use Rattle.sms_message.specs.declared.message.Message.{Message}
use Rattle.sms_message.specs.Submits.{HasAddresses, coded_text, parts_for, reference_for}
use Rattle.sms_message.specs.Admission.{IsKnown}
use Rattle.sms_files.specs.declared.report.quote.quote.Quote.{Quote}
use Rattle.sms_files.specs.declared.report.quote.quote.Verdict.{Verdict}
use Rattle.sms_files.specs.declared.report.quote.quote.Verdict.TheVariants.{Passes, NoAccount, BadAddress, TooLong, NoCredit}
use Rattle.sms_files.specs.declared.report.quote.total.Total.{Total}

-- ---- a message by itself

-- a header can count its parts
abbrev pub IsShort : Bool → Message → Type 0
IsShort long m = ¬ IsTooLong (coded_text m) (reference_for long m)

-- it isn't cut
pub record IsUncut (q : Quote) : Type 0 where
  pub parts : q.parts ≡ 0
  pub cost : q.cost ≡ 0

-- it has these parts, and each costs what the tariff says
pub record IsCut (long : Bool) (prices : List Price) (m : Message) (q : Quote) : Type 0 where
  pub parts : q.parts ≡ length (parts_for long m)
  pub cost : q.cost ≡ q.parts * cost_of prices (string_bytes m.dest)

-- what each verdict says of a message whose account has so much free
abbrev pub Says : ℕ → Bool → List Price → ℕ → Message → Quote → Verdict → Type 0
Says accounts long prices free m q NoAccount = (¬ IsKnown accounts m.account) × IsUncut q
Says accounts long prices free m q BadAddress = IsKnown accounts m.account × (¬ HasAddresses m) × IsUncut q
Says accounts long prices free m q TooLong = IsKnown accounts m.account × HasAddresses m × IsTooLong (coded_text m) (reference_for long m) × IsUncut q
Says accounts long prices free m q NoCredit = IsKnown accounts m.account × HasAddresses m × IsShort long m × IsCut long prices m q × (free < q.cost)
Says accounts long prices free m q Passes = IsKnown accounts m.account × HasAddresses m × IsShort long m × IsCut long prices m q × (q.cost ≤ free)

abbrev pub IsQuoteOf : ℕ → Bool → List Price → ℕ → Message → Quote → Type 0
IsQuoteOf accounts long prices free m q = Says accounts long prices free m q q.verdict

-- the same before its credits are looked at
abbrev pub Checked : ℕ → Bool → List Price → Message → Quote → Verdict → Type 0
Checked accounts long prices m q NoAccount = (¬ IsKnown accounts m.account) × IsUncut q
Checked accounts long prices m q BadAddress = IsKnown accounts m.account × (¬ HasAddresses m) × IsUncut q
Checked accounts long prices m q TooLong = IsKnown accounts m.account × HasAddresses m × IsTooLong (coded_text m) (reference_for long m) × IsUncut q
Checked accounts long prices m q NoCredit = ⊥
Checked accounts long prices m q Passes = IsKnown accounts m.account × HasAddresses m × IsShort long m × IsCut long prices m q

abbrev pub IsChecked : ℕ → Bool → List Price → Message → Quote → Type 0
IsChecked accounts long prices m q = Checked accounts long prices m q q.verdict

-- ---- what messages take of an account

abbrev pub passes : Verdict → Bool
passes Passes = true
passes NoAccount = false
passes BadAddress = false
passes TooLong = false
passes NoCredit = false

abbrev pub is_account : ℕ → Option ℕ → Bool
is_account i None = false
is_account i (Some account) = account == i

-- what a message takes of account i, counted by f
abbrev pub share : (Quote → ℕ) → ℕ → Option ℕ → Quote → ℕ
share f i account q = if passes q.verdict && is_account i account then f q else 0

abbrev pub taken : (Quote → ℕ) → ℕ → List Message → List Quote → ℕ
taken f i [] qs = 0
taken f i (m ∷ ms) [] = 0
taken f i (m ∷ ms) (q ∷ qs) = share f i m.account q + taken f i ms qs

abbrev pub one : Quote → ℕ
one q = 1

abbrev pub total_of : ℕ → List Message → List Quote → Total
total_of i ms qs = record { messages = taken one i ms qs; parts = taken (λ q. q.parts) i ms qs; cost = taken (λ q. q.cost) i ms qs }

abbrev pub credits_at : List Opening → ℕ → ℕ
credits_at os i = option_map_or (λ o. o.credits) (slice_get os i) 0

-- what these messages leave of an account's credits
abbrev pub free_at : List Opening → Option ℕ → List Message → List Quote → ℕ
free_at os None ms qs = 0
free_at os (Some i) ms qs = credits_at os i - taken (λ q. q.cost) i ms qs

-- ---- all messages: each is quoted with what those before it leave

abbrev pub AreQuotesOf : List Opening → Bool → List Price → List Message → List Quote → Type 0
AreQuotesOf os long prices ms qs =
    (k : ℕ) (m : Message) (q : Quote) → slice_get ms k ≡ Some m → slice_get qs k ≡ Some q → IsQuoteOf (length os) long prices (free_at os m.account (take k ms) (take k qs)) m q

pub record AreQuotes (os : List Opening) (long : Bool) (prices : List Price) (ms : List Message) (qs : List Quote) : Type 0 where
  pub count : length qs ≡ length ms
  pub each : AreQuotesOf os long prices ms qs

-- a message that passes has a part, and each of its parts costs something
abbrev pub IsCounted : Quote → Type 0
IsCounted q = q.verdict ≡ Passes → (1 ≤ q.parts) × (q.parts ≤ q.cost)
