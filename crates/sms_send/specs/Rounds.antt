-- A run of several rounds: what each round was given, what it ended with, and what all of them come to.
use Rattle.std.specs.Prelude.{◌≡◌, ◌⊎◌, ℕ, ◌+◌, ◌-◌, ◌^◌, ◌<◌, ◌≤◌, Bool, true, false, List, [], ◌∷◌, Option, Some, None, Result, Ok, Err, Vec, length, map}
use Rattle.std.specs.List.{AllZip}
use Rattle.sms_book.specs.Openings.{credits_of}
use Rattle.sms_book.specs.declared.opening.Opening.{Opening}
use Rattle.sms_book.specs.Portions.{row_at, topped_at}
use Rattle.sms_core.specs.Rows.{IsBalanced, charged_of, reserved_of, returned_of}
use Rattle.sms_core.specs.declared.row.Row.{Row}
use Rattle.sms_message.specs.Ends.{credits}
use Rattle.sms_message.specs.declared.message.Message.{Message}
use Rattle.sms_message.specs.declared.ends.MessageEnd.{MessageEnd}
use Rattle.sms_worker.specs.Types.{MessageEnd as SentEnd}
use Rattle.sms_driver.specs.SendFaults.{IsFaultOfOne}
use Rattle.sms_driver.specs.Sendings.{Sent}
use Rattle.sms_driver.specs.Starts.{TellsStart}
use Rattle.sms_driver.specs.declared.ending.Sending.{Sending}
use Rattle.sms_driver.specs.declared.fault.SendFault.{SendFault}
use Rattle.sms_driver.specs.declared.fault.SendFault.TheVariants.{BindFailed}
use Rattle.sms_driver.specs.declared.settings.RunSettings.{RunSettings}
use Rattle.sms_driver.specs.declared.start_gate.Command.TheVariants.{Go}
use Rattle.sms_driver.specs.declared.start.StartPhase.{StartPhase}
use Rattle.sms_driver.specs.declared.start.StartPhase.TheVariants.{Idle, Released}
use Rattle.sms_files.specs.Inputs.{Told}
use Rattle.sms_files.specs.declared.input.Input.{Input}
use Rattle.sms_journal.specs.Left.{SaysSame, count_left, free_in, left_in}
use Rattle.sms_journal.specs.Over.{ends_over, rows_over}
use Rattle.sms_journal.specs.Sums.{end_without_evidence}
use Rattle.std.specs.declared.alloc.Global.{Global}
use Rattle.sms_journal.specs.declared.recovery.resuming.JournaledRun.{JournaledRun}
use Rattle.sms_send.specs.Faults.{fault_of_sending}
use Rattle.sms_send.specs.Settings.{AreRunSettings}
use Rattle.sms_send.specs.declared.args.send_args.Again.{Again}
use Rattle.sms_send.specs.declared.faults.fault.Fault.{Fault}
use Rattle.sms_send.specs.declared.sending.resumed.Resumed.{Resumed}
use Rattle.sms_send.specs.declared.sending.rounds.Step.{Step}
use Rattle.sms_send.specs.declared.sending.rounds.Step.TheVariants.{On, Over}
use Rattle.sms_send.specs.declared.sending.sender.Ended.{Ended}

-- a round that sent something: its number, the messages that it was given, and what it ended with
pub record Round : Type 0 where
  pub number : ℕ
  pub messages : List Message
  pub sending : Sending

-- `tells` has the octets that the connections of each round give, bind by bind, where they are known: those of a round are what its own dial connects to.
-- The first round is given all messages and the accounts' credits; what it ends with is what the run comes to
pub record IsFirst (tells : ℕ → ℕ → Told) (settings : RunSettings) (credits : List ℕ) (ms : List Message) (r : Round) (ends : List SentEnd) (rows : List Row) : Type 0 where
  pub same : AllZip SaysSame ms r.messages
  pub sent : Sent settings (tells r.number) (length credits) credits r.messages r.sending
  pub ends_are : ends ≡ r.sending.ends.items
  pub rows_are : rows ≡ r.sending.statement

-- a further round is given the messages that the ends before it leave, of which there are some, and the credits that are free in the rows; what it ends
-- with is put in the places of the messages that were left, and added to the rows
pub record IsFurther (tells : ℕ → ℕ → Told) (settings : RunSettings) (credits : List ℕ) (ms : List Message) (es : List SentEnd) (ws : List Row) (r : Round) (ends : List SentEnd) (rows : List Row) : Type 0 where
  pub some : 0 < count_left es
  pub same : AllZip SaysSame (left_in ms es) r.messages
  pub sent : Sent settings (tells r.number) (length credits) (free_in ws) r.messages r.sending
  pub ends_are : ends ≡ ends_over es r.sending.ends.items
  pub rows_are : rows ≡ rows_over ws r.sending.statement

-- what rounds come to, the last one first
abbrev pub AreRounds : (ℕ → ℕ → Told) → RunSettings → List ℕ → List Message → List Round → List SentEnd → List Row → Type 0
AreRounds tells settings credits ms [] ends rows = ⊥
AreRounds tells settings credits ms (r ∷ []) ends rows = IsFirst tells settings credits ms r ends rows
AreRounds tells settings credits ms (r ∷ (q ∷ before)) ends rows =
    (es : List SentEnd) × (ws : List Row) × AreRounds tells settings credits ms (q ∷ before) es ws × IsFurther tells settings credits ms es ws r ends rows

-- the rounds, the last one first, have numbers above `low` and below `high`, and each a greater one than those before it
abbrev pub AreNumbered : ℕ → ℕ → List Round → Type 0
AreNumbered low high [] = Unit {0}
AreNumbered low high (r ∷ before) = (low < r.number) × (r.number < high) × AreNumbered low r.number before

-- it holds of one of so many rounds that follow the first `before`
abbrev pub OfARound : ℕ → ℕ → (ℕ → Type 0) → Type 0
OfARound before most P = (round : ℕ) × (before < round) × (round ≤ before + most) × P round

-- a sum of 64 bits: the greatest number of them where it is past that
abbrev pub IsSumUpTo : ℕ → ℕ → Type 0
IsSumUpTo sum n = (n ≡ sum) ⊎ ((n ≡ 2 ^ 64 - 1) × (2 ^ 64 - 1 ≤ sum))

-- the row of an account over all rounds: its sums over the ends of all messages; it balances
pub record IsRowOver (topped i : ℕ) (ms : List Message) (es : List SentEnd) (r : Row) : Type 0 where
  pub topped_is : r.topped ≡ topped
  pub reserved : r.reserved ≡ credits reserved_of i ms es
  pub charged : r.charged ≡ credits charged_of i ms es
  pub returned : IsSumUpTo (credits returned_of i ms es) r.returned
  pub balanced : IsBalanced r

pub record AreSumsOver (opened : List ℕ) (ms : List Message) (es : List SentEnd) (rows : List Row) : Type 0 where
  pub each : length rows ≡ length opened
  pub sums : (i : ℕ) → i < length opened → IsRowOver (topped_at opened i) i ms es (row_at rows i)

-- the credits are numbers of 64 bits
abbrev pub AreSmall : List ℕ → Type 0
AreSmall credits = (i : ℕ) → i < length credits → topped_at credits i < 2 ^ 64

-- a run of this input: what its rounds came to, whose numbers are among those of the rounds that it may have, so that no two have one; and its statement is the sums over the ends of all messages,
-- from the credits that the accounts were opened with (what was returned, up to 2^64 - 1)
pub record IsRun (tells : ℕ → ℕ → Told) (again : Again) (input : Input) (ended : Ended) : Type 0 where
  pub openings : ended.openings ≡ input.openings
  pub settings : RunSettings
  pub are : AreRunSettings input.config input.tariff settings
  pub rounds : List Round
  pub come : AreRounds tells settings (credits_of input.openings.items) input.messages.items rounds ended.ends.items ended.statement
  pub numbered : AreNumbered 0 (again.most + 2) rounds
  pub each : length ended.ends.items ≡ length input.messages.items
  pub rows : AreSumsOver (credits_of input.openings.items) input.messages.items ended.ends.items ended.statement

-- ---- one round

-- a sending of these messages from accounts with these credits
abbrev pub IsSentFrom : (ℕ → Told) → RunSettings → ℕ → List ℕ → List Message → Sending → Type 0
IsSentFrom told settings accounts credits ms sending = Sent settings told accounts credits ms sending

-- the round that follows what a run came to, if anything: it is given what that leaves
abbrev pub IsNextRound : (ℕ → Told) → RunSettings → List Opening → List Message → Option Sending → Sending → Type 0
IsNextRound told settings openings ms None sending =
    (given : List Message) × AllZip SaysSame ms given × IsSentFrom told settings (length openings) (credits_of openings) given sending
IsNextRound told settings openings ms (Some came) sending =
    (given : List Message) × AllZip SaysSame (left_in ms came.ends.items) given × IsSentFrom told settings (length openings) (free_in came.statement) given sending

-- what was before, if anything, with what a further round ended with
abbrev pub ComesAfter : Option Sending → Sending → Sending → Type 0
ComesAfter None sending came = came ≡ sending
ComesAfter (Some before) sending came = (came.ends.items ≡ ends_over before.ends.items sending.ends.items) × (came.statement ≡ rows_over before.statement sending.statement)

-- how many of so many messages are left after a round, by what the run came to before it
abbrev pub left_by : ℕ → Option Sending → Result Sending SendFault → ℕ
left_by all came (Ok sending) = count_left sending.ends.items
left_by all None (Err fault) = all
left_by all (Some came) (Err fault) = count_left came.ends.items

-- a further round may repair what a round ended with: something was sent, or a bind failed and was not refused
abbrev pub may_mend : SendFault → Bool
may_mend (BindFailed bind why) = true
may_mend _ = false

abbrev pub may_follow : Result Sending SendFault → Bool
may_follow (Ok sending) = true
may_follow (Err fault) = may_mend fault

-- what a run came to after a further round, if anything
abbrev pub GoesOnWith : Option Sending → Result Sending SendFault → Option Sending → Type 0
GoesOnWith came (Ok sending) None = ⊥
GoesOnWith came (Ok sending) (Some after) = ComesAfter came sending after
GoesOnWith came (Err fault) after = after ≡ came

-- what it ended with after its last
abbrev pub EndsWith : Option Sending → Result Sending SendFault → Result Sending Fault → Type 0
EndsWith came (Ok sending) (Ok after) = ComesAfter came sending after
EndsWith came (Ok sending) (Err fault) = ⊥
EndsWith None (Err why) ended = ended ≡ Err (fault_of_sending why)
EndsWith (Some came) (Err why) ended = ended ≡ Ok came

-- a start that was given stays as it is, and one that was not agrees with the fault
abbrev pub TellsRound : StartPhase → StartPhase → SendFault → Type 0
TellsRound before after fault = ((before ≡ Idle) × TellsStart after fault) ⊎ ((before ≡ Released Go) × (after ≡ before))

-- why no round sent anything: the fault of the last, which agrees with what was read of its binds
abbrev pub FailsRounds : (ℕ → Type 0) → (ℕ → Told) → RunSettings → StartPhase → Fault → Type 0
FailsRounds refuses told settings begun fault =
    (f : SendFault) × IsFaultOfOne refuses told settings.bind_settings.settings.mode settings.binds f × TellsStart begun f × (fault ≡ fault_of_sending f)

-- ---- how far a run came

-- it came to this in so many rounds at the most, after `before` others
abbrev pub ComesTo : (ℕ → ℕ → Told) → RunSettings → List Opening → List Message → ℕ → ℕ → Sending → Type 0
ComesTo tells settings openings ms before most came =
    (rounds : List Round) × AreRounds tells settings (credits_of openings) ms rounds came.ends.items came.statement × AreNumbered before (before + most + 1) rounds

-- after so many rounds it goes on from here: nothing was sent and its start is as it was, or something is left
abbrev pub StandsAt : (ℕ → ℕ → Told) → RunSettings → List Opening → List Message → ℕ → ℕ → StartPhase → Option Sending → Type 0
StandsAt tells settings openings ms before most begun None = begun ≡ Idle
StandsAt tells settings openings ms before most begun (Some came) = (begun ≡ Released Go) × (0 < count_left came.ends.items) × ComesTo tells settings openings ms before most came

-- or it ended with the round that follows them: what that sent is the last of it, or nothing was sent and the fault is that round's
abbrev pub EndsRun : (ℕ → ℕ → Type 0) → (ℕ → ℕ → Told) → RunSettings → List Opening → List Message → ℕ → ℕ → StartPhase → Result Sending Fault → Type 0
EndsRun refuses tells settings openings ms before most begun (Ok came) = (begun ≡ Released Go) × ComesTo tells settings openings ms before (most + 1) came
EndsRun refuses tells settings openings ms before most begun (Err fault) = FailsRounds (refuses (before + most + 1)) (tells (before + most + 1)) settings begun fault

abbrev pub IsStepTo : (ℕ → ℕ → Type 0) → (ℕ → ℕ → Told) → RunSettings → List Opening → List Message → ℕ → ℕ → StartPhase → Step → Type 0
IsStepTo refuses tells settings openings ms before most begun (On came) = StandsAt tells settings openings ms before (most + 1) begun came
IsStepTo refuses tells settings openings ms before most begun (Over ended) = EndsRun refuses tells settings openings ms before most begun ended

-- ---- a run that goes on after its journal

-- what a journal says of a run, with what its rounds after that came to
pub record IsPutTogether (openings : Vec Opening Global) (ends : List (MessageEnd (Unit {0}))) (rows : List Row) (came : Sending) (resumed : Resumed) : Type 0 where
  pub openings_are : resumed.openings ≡ openings
  pub ends_are : resumed.ends.items ≡ ends_over ends (map end_without_evidence came.ends.items)
  pub rows_are : resumed.statement ≡ rows_over rows came.statement

-- how many rounds there may be
abbrev pub most_rounds : Option Again → ℕ
most_rounds None = 1
most_rounds (Some again) = again.most + 1

-- the run went on in rounds after those of its journal, of which the first was given what the journal leaves
pub record IsResumed (tells : ℕ → ℕ → Told) (again : Option Again) (run : JournaledRun) (resumed : Resumed) : Type 0 where
  pub settings : RunSettings
  pub are : AreRunSettings run.config run.tariff settings
  pub given : List Message
  pub same : AllZip SaysSame (left_in run.messages.items run.ends.items) given
  pub free : List Opening
  pub credits : credits_of free ≡ free_in run.rows.items
  pub came : Sending
  pub come : ComesTo tells settings free given run.rounds (most_rounds again) came
  pub together : IsPutTogether run.openings run.ends.items run.rows.items came resumed
