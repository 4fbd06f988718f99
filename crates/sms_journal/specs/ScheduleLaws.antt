-- What holds of the schedule of parts: it is a run of the model.
use Rattle.std.specs.Prelude.{◌≡◌, ℕ, ◌+◌, ◌<◌, ◌≤◌, List, [], map, length, replicate, slice_get, slice_index_or, Some, sum_by}
use Rattle.std.specs.List.{AllByRecursion}
use Rattle.sms_core.specs.declared.event.Step.TheVariants.{Done}
use Rattle.sms_core.specs.Histories.{Runs}
use Rattle.sms_core.specs.Limits.{largest_cost, most_topped, top_number}
use Rattle.sms_core.specs.Replies.{AreAllowed}
use Rattle.sms_core.specs.Rows.{over, row_of, reserved_of, charged_of}
use Rattle.sms_core.specs.State.{State, AreLimits, new_world, rows, request_of}
use Rattle.sms_journal.specs.declared.audit.part.SentPart.{SentPart}
use Rattle.sms_journal.specs.Schedules.{entry_for, request_for, schedule_of}

-- the account is there, and was opened with credits for the part; the cost is one that the model has, and the attempts are such as the retry rule allows
pub record CanBeSent (most : ℕ) (credits : List ℕ) (p : SentPart) : Type 0 where
  pub known : p.account < length credits
  pub some : 1 ≤ p.cost
  pub few : p.cost ≤ largest_cost
  pub covered : p.cost ≤ slice_index_or credits p.account 0
  pub allowed : AreAllowed most p.attempts

abbrev pub attempts_in : List SentPart → ℕ
attempts_in parts = sum_by (λ p. length p.attempts) parts

-- what a sending has to have kept: what is charged and reserved in all was topped up, and there are sequence numbers for all attempts
pub record CanRun (most : ℕ) (credits : List ℕ) (parts : List SentPart) : Type 0 where
  pub limits : AreLimits (length credits) 1 most
  pub topped : AllByRecursion (λ n. n ≤ most_topped) credits
  pub each : AllByRecursion (CanBeSent most credits) parts
  pub used : (i : ℕ) → i < length credits → over reserved_of i (map entry_for parts) + over charged_of i (map entry_for parts) ≤ slice_index_or credits i 0
  pub numbers : attempts_in parts ≤ top_number

-- each event of the schedule is done, one after another, and leaves a world with a row for each account, the sums over its parts; with a request for
-- each part, by its place; and with no slot that is held
pub record IsRunOf (most : ℕ) (credits : List ℕ) (parts : List SentPart) : Type 0 where
  pub world : State
  pub runs : Runs (new_world (length credits) 1 most) (schedule_of most credits parts) (replicate (length (schedule_of most credits parts)) Done) world
  pub topped : world.topped ≡ credits
  pub rows_are : (i : ℕ) → i < length credits → rows world i ≡ Some (row_of (slice_index_or credits i 0) i (map entry_for parts))
  pub requests : (i : ℕ) (p : SentPart) → slice_get parts i ≡ Some p → request_of world i ≡ Some (request_for (record { name = i; part = p })).state
  pub each : length world.requests ≡ length parts
  pub held : world.holds ≡ []
  pub next : world.next ≡ attempts_in parts + 1

abbrev pub PartsAreARun : Type 0
PartsAreARun = (most : ℕ) (credits : List ℕ) (parts : List SentPart) → CanRun most credits parts → IsRunOf most credits parts
