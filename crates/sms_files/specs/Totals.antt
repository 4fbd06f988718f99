-- What is kept of each account while messages are quoted.
use Rattle.std.specs.Prelude.{◌≡◌, ℕ, ◌+◌, ◌-◌, ◌≤◌, List, length, Option, Some, None, slice_get}
use Rattle.std.specs.Option.{option_map_or}
use Rattle.sms_book.specs.declared.opening.Opening.{Opening}
use Rattle.sms_message.specs.declared.message.Message.{Message}
use Rattle.sms_files.specs.declared.report.quote.quote.Quote.{Quote}
use Rattle.sms_files.specs.declared.report.quote.quote.Verdict.TheVariants.{Passes}
use Rattle.sms_files.specs.declared.report.quote.total.Total.{Total}
use Rattle.sms_files.specs.Quotes.{credits_at, one, share, total_of}

abbrev pub nothing : Total
nothing = record { messages = 0; parts = 0; cost = 0 }

abbrev pub more : Total → Quote → Total
more t q = record { messages = t.messages + 1; parts = t.parts + q.parts; cost = t.cost + q.cost }

abbrev pub cost_at : List Total → ℕ → ℕ
cost_at ts a = option_map_or (λ t. t.cost) (slice_get ts a) 0

abbrev pub left_in : List Opening → List Total → Option ℕ → ℕ
left_in os ts None = 0
left_in os ts (Some a) = credits_at os a - cost_at ts a

-- each message has a part and each part costs something, and an account doesn't give more than it has
pub record IsSmall (credits : ℕ) (t : Total) : Type 0 where
  pub messages : t.messages ≤ t.parts
  pub parts : t.parts ≤ t.cost
  pub cost : t.cost ≤ credits

-- so it is with a message more
pub record Fits (credits : ℕ) (q : Quote) (t : Total) : Type 0 where
  pub small : IsSmall credits t
  pub some : 1 ≤ q.parts
  pub costs : q.parts ≤ q.cost
  pub enough : t.cost + q.cost ≤ credits

abbrev pub FitIn : List Opening → Option ℕ → Quote → List Total → Type 0
FitIn os account q ts = (a : ℕ) (t : Total) → q.verdict ≡ Passes → account ≡ Some a → slice_get ts a ≡ Some t → Fits (credits_at os a) q t

-- what is kept of account i grew by what the message takes of it
pub record HasGrown (i : ℕ) (account : Option ℕ) (q : Quote) (t u : Total) : Type 0 where
  pub messages : u.messages ≡ t.messages + share one i account q
  pub parts : u.parts ≡ t.parts + share (λ s. s.parts) i account q
  pub cost : u.cost ≡ t.cost + share (λ s. s.cost) i account q

abbrev pub IsGrown : ℕ → Option ℕ → Quote → Option Total → Option Total → Type 0
IsGrown i account q None new = new ≡ None
IsGrown i account q (Some t) None = ⊥
IsGrown i account q (Some t) (Some u) = HasGrown i account q t u

-- these are the totals of all accounts
pub record AreTotals (os : List Opening) (ms : List Message) (qs : List Quote) (ts : List Total) : Type 0 where
  pub count : length ts ≡ length os
  pub each : (i : ℕ) (t : Total) → slice_get ts i ≡ Some t → t ≡ total_of i ms qs
  pub small : (i : ℕ) (t : Total) → slice_get ts i ≡ Some t → IsSmall (credits_at os i) t
