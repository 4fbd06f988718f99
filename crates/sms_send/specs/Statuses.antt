-- The exit status of a sending, with `--strict` or without.
use Rattle.std.specs.Prelude.{◌≡◌, ◌⊎◌, ℕ, ◌==◌, ◌&&◌, not, if◌then◌else◌, Bool, true, List}
use Rattle.sms_files.specs.Report.{ends_status}
use Rattle.sms_files.specs.Whole.{are_whole}
use Rattle.sms_message.specs.declared.ends.MessageEnd.{MessageEnd}

-- 5 where that is asked for, no segment is unanswered and a message was not sent whole; else as the segments say
abbrev pub status_by : {S : Type 0} → Bool → List (MessageEnd S) → ℕ
status_by strict ends = if strict && (ends_status ends == 0 && not (are_whole ends)) then 5 else ends_status ends

-- that of a job that was done: 0, of the sender and of a recovery also 4, and of the sender with `--strict` also 5
abbrev pub IsStatus : ℕ → Type 0
IsStatus status = (status ≡ 0) ⊎ (status ≡ 4)

abbrev pub IsStatusBy : Bool → ℕ → Type 0
IsStatusBy strict status = IsStatus status ⊎ ((strict ≡ true) × (status ≡ 5))
