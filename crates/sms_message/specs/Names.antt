-- The names of outcomes and of refusals, both ways.
use Rattle.std.specs.Prelude.{ℕ, List, Option, Some, None, if◌then◌else◌, codes}
use Rattle.std.specs.Str.{bytes_eq}
use Rattle.sms_message.specs.declared.ends.MessageRefusal.{MessageRefusal}
use Rattle.sms_message.specs.declared.ends.MessageRefusal.TheVariants.{NoAccount, NoCredit, TooLong, BadAddress, BindClosed, OutOfMemory}
use Rattle.sms_message.specs.declared.ends.Outcome.{Outcome}
use Rattle.sms_message.specs.declared.ends.Outcome.TheVariants.{Charged, Refused, Unanswered, Unsent}

abbrev pub outcome_name : Outcome → List ℕ
outcome_name Charged = codes "charged"
outcome_name Refused = codes "refused"
outcome_name Unanswered = codes "unanswered"
outcome_name Unsent = codes "unsent"

-- the outcome that has this name
abbrev pub outcome_named : List ℕ → Option Outcome
outcome_named name =
    if bytes_eq name (codes "charged") then Some Charged
    else (if bytes_eq name (codes "refused") then Some Refused
    else (if bytes_eq name (codes "unanswered") then Some Unanswered
    else (if bytes_eq name (codes "unsent") then Some Unsent else None)))

abbrev pub refusal_name : MessageRefusal → List ℕ
refusal_name NoAccount = codes "no-account"
refusal_name NoCredit = codes "no-credit"
refusal_name TooLong = codes "too-long"
refusal_name BadAddress = codes "bad-address"
refusal_name BindClosed = codes "bind-closed"
refusal_name OutOfMemory = codes "out-of-memory"

-- the refusal that has this name
abbrev pub refusal_named : List ℕ → Option MessageRefusal
refusal_named name =
    if bytes_eq name (codes "no-account") then Some NoAccount
    else (if bytes_eq name (codes "no-credit") then Some NoCredit
    else (if bytes_eq name (codes "too-long") then Some TooLong
    else (if bytes_eq name (codes "bad-address") then Some BadAddress
    else (if bytes_eq name (codes "bind-closed") then Some BindClosed
    else (if bytes_eq name (codes "out-of-memory") then Some OutOfMemory else None)))))
