-- Whatever was sent is a run of the model.
use Rattle.std.specs.Prelude.{◌≡◌, ℕ, ◌-◌, ◌^◌, ◌<◌, ◌≤◌, length, Option, Some, slice_index_or}
use Rattle.std.specs.List.{AllByRecursion}
use Rattle.sms_core.specs.Limits.{most_topped, top_number}
use Rattle.sms_core.specs.Rows.{no_row, returned_of}
use Rattle.sms_core.specs.State.{AreLimits, rows}
use Rattle.sms_book.specs.Openings.{credits_of}
use Rattle.sms_book.specs.Tariffs.{IsTariff}
use Rattle.sms_message.specs.Ends.{credits}
use Rattle.sms_files.specs.Inputs.{Told}
use Rattle.sms_files.specs.declared.input.Input.{Input}
use Rattle.sms_journal.specs.ScheduleLaws.{IsRunOf, attempts_in}
use Rattle.sms_journal.specs.SentParts.{parts_sent}
use Rattle.sms_send.specs.Sent.{HasSent}
use Rattle.sms_send.specs.declared.args.send_args.Again.{Again}
use Rattle.sms_send.specs.declared.sending.sender.Ended.{Ended}

-- an input that was read has such limits, credits and tariff, and so few messages that no account gets as much back as a statement can't count; and what the
-- model asks of a sending beside its contract: there are sequence numbers for all attempts, since the model has the numbers of one bind
pub record HasModel (input : Input) (ended : Ended) : Type 0 where
  pub limits : AreLimits (length (credits_of input.openings.items)) 1 input.config.retry.policy.attempts
  pub topped : AllByRecursion (λ n. n ≤ most_topped) (credits_of input.openings.items)
  pub tariff : IsTariff input.tariff
  pub returned : (i : ℕ) → i < length (credits_of input.openings.items) → credits returned_of i input.messages.items ended.ends.items < 2 ^ 64 - 1
  pub numbers : attempts_in (parts_sent input.messages.items ended.ends.items) ≤ top_number

-- each event of the schedule of its parts is done, and the rows that it leads to are the statement's
pub record IsModelled (input : Input) (ended : Ended) : Type 0 where
  pub run : IsRunOf input.config.retry.policy.attempts (credits_of input.openings.items) (parts_sent input.messages.items ended.ends.items)
  pub statement : (i : ℕ) → i < length (credits_of input.openings.items) → rows run.world i ≡ Some (slice_index_or ended.statement i no_row)

-- of what was sent in one round, or in as many as it took
abbrev pub EachSendingIsARun : Type 0
EachSendingIsARun = (tells : ℕ → ℕ → Told) (again : Option Again) (input : Input) (ended : Ended) → HasSent tells again input ended → HasModel input ended → IsModelled input ended
