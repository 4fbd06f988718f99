-- What an answer decides, and when the next attempt is made (SMPP 3.4 5.1.3).
use Rattle.std.specs.Prelude.{ℕ, ◌-◌, ◌*◌, ◌^◌, ◌≤◌, min, ◌&&◌, nat_lt, if◌then◌else◌}
use Rattle.sms_core.specs.Limits.{most_attempts}
use Rattle.sms_core.specs.Replies.{is_charge, is_retry}
use Rattle.sms_pdu.specs.declared.reply.Reply.{Reply}
use Rattle.sms_session.specs.declared.policy.Decision.{Decision}
use Rattle.sms_session.specs.declared.policy.Decision.TheVariants.{Charge, RetryAfter, Refuse}

-- the longest wait in milliseconds
abbrev pub longest_delay : ℕ
longest_delay = 60000

pub record IsPolicy (attempts base : ℕ) : Type 0 where
  pub some_attempt : 1 ≤ attempts
  pub few_attempts : attempts ≤ most_attempts
  pub short_wait : base ≤ longest_delay

-- milliseconds from the answer to attempt k to the next attempt
abbrev pub delay : ℕ → ℕ → ℕ
delay base k = min longest_delay (base * 2 ^ (k - 1))

-- what the answer to an attempt decides, the attempts being counted from 1
abbrev pub decided : Reply → ℕ → ℕ → ℕ → Decision
decided reply attempt attempts base =
    if is_charge reply.status reply.nack then Charge
    else (if is_retry reply.status reply.nack && nat_lt attempt attempts then RetryAfter (delay base attempt) else Refuse)
