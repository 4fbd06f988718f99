-- What was sent is a run of the model: it ends with the statement's rows, with the parts as its requests, and with no slot that is held.
use Rattle.std.specs.Prelude.{◌≡◌, ℕ, ◌<◌, ◌≤◌, List, length, Some, slice_get, slice_index_or, string_bytes}
use Rattle.std.specs.List.{AllByRecursion, AllZip}
use Rattle.sms_core.specs.declared.row.Row.{Row}
use Rattle.sms_core.specs.Limits.{most_topped, top_number}
use Rattle.sms_core.specs.Rows.{IsBalanced, charged_of, no_row, reserved_of, returned_of}
use Rattle.sms_core.specs.State.{AreLimits, rows}
use Rattle.sms_book.specs.Tariffs.{IsTariff, cost_of}
use Rattle.sms_message.specs.Ends.{credits, segments_in}
use Rattle.sms_message.specs.Results.{IsResultOf, IsSettled}
use Rattle.sms_message.specs.declared.ends.MessageEnd.{MessageEnd}
use Rattle.sms_message.specs.declared.ends.SegmentEnd.{SegmentEnd}
use Rattle.sms_message.specs.declared.message.Message.{Message}
use Rattle.sms_message.specs.declared.rules.Rules.{Rules}
use Rattle.sms_journal.specs.ScheduleLaws.{IsRunOf, attempts_in}
use Rattle.sms_journal.specs.SentParts.{parts_sent}

-- what the end of a message says of it, whatever the evidence that its attempts were sent: its segments are such as its text and its tariff ask for,
-- and each came to what its attempts come to, which are such as the retry rule allows
pub record IsTold {S : Type 0} (rules : Rules) (m : Message) (s : SegmentEnd S) : Type 0 where
  pub cost : s.cost ≡ cost_of rules.tariff (string_bytes m.dest)
  pub settled : IsSettled rules.policy.attempts s

pub record IsEndBy {S : Type 0} (rules : Rules) (accounts : ℕ) (m : Message) (e : MessageEnd S) : Type 0 where
  pub result : IsResultOf rules accounts m e.result
  pub segments : (p : ℕ) (s : SegmentEnd S) → slice_get (segments_in e.result) p ≡ Some s → IsTold rules m s

-- no segment costs more than its account was opened with
abbrev pub IsCoveredBy : {S : Type 0} → List ℕ → Message → MessageEnd S → Type 0
IsCoveredBy opened m e = (account : ℕ) → m.account ≡ Some account → AllByRecursion (λ s. s.cost ≤ slice_index_or opened account 0) (segments_in e.result)

-- the row of account i over these ends
pub record IsRowBy {S : Type 0} (topped i : ℕ) (ms : List Message) (es : List (MessageEnd S)) (r : Row) : Type 0 where
  pub topped_is : r.topped ≡ topped
  pub reserved : r.reserved ≡ credits reserved_of i ms es
  pub charged : r.charged ≡ credits charged_of i ms es
  pub returned : r.returned ≡ credits returned_of i ms es
  pub balanced : IsBalanced r

-- a sending of these messages from accounts that were opened so, as its contract has it; and what the model asks beside that: no part costs more than its
-- account was opened with, and there are sequence numbers for all attempts, since the model has the numbers of one bind
pub record IsSending {S : Type 0} (rules : Rules) (opened : List ℕ) (ms : List Message) (es : List (MessageEnd S)) (rs : List Row) : Type 0 where
  pub limits : AreLimits (length opened) 1 rules.policy.attempts
  pub topped : AllByRecursion (λ n. n ≤ most_topped) opened
  pub tariff : IsTariff rules.tariff
  pub ends : AllZip (IsEndBy rules (length opened)) ms es
  pub rows_are : (i : ℕ) → i < length opened → IsRowBy (slice_index_or opened i 0) i ms es (slice_index_or rs i no_row)
  pub covered : AllZip (IsCoveredBy opened) ms es
  pub numbers : attempts_in (parts_sent ms es) ≤ top_number

-- it is a run of the model, whose rows are the statement's
pub record IsModelRun {S : Type 0} (rules : Rules) (opened : List ℕ) (ms : List Message) (es : List (MessageEnd S)) (rs : List Row) : Type 0 where
  pub run : IsRunOf rules.policy.attempts opened (parts_sent ms es)
  pub statement : (i : ℕ) → i < length opened → rows run.world i ≡ Some (slice_index_or rs i no_row)

abbrev pub SendingsAreRuns : Type 0 → Type 0
SendingsAreRuns S = (rules : Rules) (opened : List ℕ) (ms : List Message) (es : List (MessageEnd S)) (rs : List Row) → IsSending rules opened ms es rs → IsModelRun rules opened ms es rs
