-- What a sending promises of what was read.
use Rattle.std.specs.Prelude.{◌≡◌, ◌≢◌, ◌⊎◌, ◌*◌, ◌++◌, ℕ, Bool, List, [], Option, Some, None, Result, Ok, Err, IfErr, IfOk, OnOk, length, map}
use Rattle.std.specs.Io.KnownBytes.{Appends}
use Rattle.std.specs.List.{AllZip}
use Rattle.sms_book.specs.Openings.{credits_of}
use Rattle.sms_bind.specs.Frames.{AreSame, requests}
use Rattle.sms_worker.specs.Credit.{IsCovered}
use Rattle.sms_worker.specs.EndOf.{IsEndOf}
use Rattle.sms_worker.specs.Frames.{frames_in}
use Rattle.sms_message.specs.Fields.{HasNoFields}
use Rattle.sms_message.specs.Limits.{most_turns}
use Rattle.sms_message.specs.declared.rules.Rules.{Rules}
use Rattle.sms_driver.specs.Answered.{AreHeard}
use Rattle.sms_driver.specs.BindEnds.{AreBinds}
use Rattle.sms_driver.specs.Deals.{dealt}
use Rattle.sms_driver.specs.Ended.{HaveEnded}
use Rattle.sms_driver.specs.Closings.{AreExplained, AreReasoned}
use Rattle.sms_driver.specs.Numbered.{AreBelow, AreNumbered}
use Rattle.sms_driver.specs.Rings.{flat}
use Rattle.sms_driver.specs.Handed.{AreWritten}
use Rattle.sms_driver.specs.Unbinds.{handed_in}
use Rattle.sms_driver.specs.declared.bind_end.BindEnd.{BindEnd}
use Rattle.sms_files.specs.Inputs.{IsInput, Told, TellsInput}
use Rattle.sms_devices.specs.Centres.{CentreAt}
use Rattle.sms_devices.specs.Centres.CentreAt.{Named, Own}
use Rattle.sms_devices.specs.declared.gate.GateLimits.{GateLimits}
use Rattle.sms_send.specs.Faults.{ComesAt, HasLostJournal, HasReason, IsReadFault, fault_of_sending, output_failed, unreported}
use Rattle.sms_send.specs.Rounds.{IsResumed, IsRun, OfARound, most_rounds}
use Rattle.sms_send.specs.Settings.{AreSettingsOf}
use Rattle.sms_send.specs.Statuses.{IsStatusBy, status_by}
use Rattle.sms_files.specs.Output.{WritesFront}
use Rattle.sms_files.specs.Report.{report_of}
use Rattle.sms_files.specs.RunRules.{IsRulesOf}
use Rattle.sms_driver.specs.SendFaults.{IsFaultOfOne}
use Rattle.sms_driver.specs.Starts.{TellsStart}
use Rattle.sms_driver.specs.Statements.{AreRows}
use Rattle.sms_files.specs.declared.config.Config.{Config}
use Rattle.sms_driver.specs.declared.binding.BindSettings.{BindSettings}
use Rattle.sms_driver.specs.declared.fault.SendFault.{SendFault}
use Rattle.sms_driver.specs.declared.fault.BindFailure.TheVariants.{NoConnection}
use Rattle.sms_driver.specs.declared.start_gate.Command.TheVariants.{Go}
use Rattle.sms_driver.specs.declared.start.StartPhase.{StartPhase}
use Rattle.sms_driver.specs.declared.start.StartPhase.TheVariants.{Released}
use Rattle.sms_send.specs.declared.args.send_args.Again.{Again}
use Rattle.sms_send.specs.declared.args.send_args.Throttle.{Throttle}
use Rattle.sms_send.specs.declared.faults.fault.Fault.{Fault}
use Rattle.sms_send.specs.declared.faults.fault.Fault.TheVariants.{BindFailed}
use Rattle.sms_files.specs.declared.input.Input.{Input}
use Rattle.sms_journal.specs.declared.recovery.resuming.JournaledRun.{JournaledRun}
use Rattle.sms_send.specs.declared.sending.resumed.Resumed.{Resumed as TheResumed}
use Rattle.sms_send.specs.declared.sending.sender.Ended.{Ended}
use Rattle.sms_send.specs.declared.sending.work.SentWork.{SentWork}
use Rattle.sms_send.specs.declared.sending.work.SentWork.TheVariants.{Resumed, Whole}
use Rattle.sms_send.specs.declared.sending.work.Work.{Work}
use Rattle.sms_send.specs.declared.sending.work.Work.TheVariants.{All, Left}
use Rattle.sms_message.specs.declared.message.Message.{Message}

-- the gate of a sending lets so many requests out in a second, and so many without an answer, as the arguments say; how long an answer may take is the config's
abbrev pub limits_by : Config → Throttle → GateLimits
limits_by config throttle = record { answer_ms = config.retry.answer_ms; rate = throttle.rate; stop_after = throttle.stop_after }

-- the frames of the unbinds that were handed to the wires of these binds
abbrev pub unbinds_in : List BindEnd → List (List ℕ)
unbinds_in binds = flat (map (λ b. handed_in b.unbind_result) binds)

-- there is an end for each message, in order, which it meets by the rules, and it was begun only where its account was
-- opened with what all of its parts cost; a row for each account,
-- whose amounts are the sums over these ends, and an end for each of the config's binds, each of so
-- many workers as the config says; and bind by bind each attempt with a reply has a place of its own,
-- where that reply stands, among the answers in what was read of the bind, of which `told` is what it will give, where that is known, and no
-- other attempt of the bind has its sequence_number, which is below the one that the bind's window would have given next;
-- and the end of each bind says how its reader ended: the bind was opened, and the reader followed, as the config says;
-- and why it was closed to its workers, where they refused a message as bind-closed; and each part that was given up was so for a reason that its
-- worker lists, or since the bind was closed, and memory was refused for each message that is refused for lack of it; and the requests that the
-- wires of the binds were given are the frames of all attempts and the unbinds, each as often; and each wire's frames were written right behind a bind by
-- the config's settings, whole and in order
pub record IsSent (told : ℕ → Told) (input : Input) (ended : Ended) : Type 0 where
  pub openings : ended.openings ≡ input.openings
  pub rules : Rules
  pub says : IsRulesOf input.config.retry input.config.limits input.config.flags input.tariff most_turns rules
  pub fields : rules.fields ≡ input.config.fields
  pub ends : AllZip (IsEndOf rules (length input.openings.items)) input.messages.items ended.ends.items
  pub covered : AllZip (IsCovered (credits_of input.openings.items) rules) input.messages.items ended.ends.items
  pub rows : AreRows (credits_of input.openings.items) input.messages.items ended.ends.items ended.statement
  pub binds : AreBinds input.config.limits.binds input.config.limits.workers ended.binds.items
  pub settings : BindSettings
  pub asks : AreSettingsOf input.config.connection input.config.limits input.config.flags settings
  pub readers : HaveEnded settings rules.turns told ended.binds.items
  pub numbers : AreNumbered input.config.limits.binds input.config.limits.workers (dealt (input.config.limits.binds * input.config.limits.workers) 0 ended.ends.items)
  pub below : AreBelow input.config.limits.workers ended.binds.items (dealt (input.config.limits.binds * input.config.limits.workers) 0 ended.ends.items)
  pub explained : AreExplained input.config.limits.workers ended.binds.items (dealt (input.config.limits.binds * input.config.limits.workers) 0 ended.ends.items)
  pub reasons : AreReasoned rules.policy.attempts input.config.limits.workers ended.binds.items ended.reasons.items (dealt (input.config.limits.binds * input.config.limits.workers) 0 ended.ends.items)
  pub handed : AreSame (requests ended.log.given) (flat (map frames_in (dealt (input.config.limits.binds * input.config.limits.workers) 0 ended.ends.items)) ++ unbinds_in ended.binds.items)
  pub written : AreWritten (Some settings.settings) input.config.limits.binds [] ended.log.given
  pub heard : AreHeard told input.config.limits.binds input.config.limits.workers (dealt (input.config.limits.binds * input.config.limits.workers) 0 ended.ends.items)

-- of a bind without a connection a dial over TCP says nothing to contracts
abbrev pub unknown : ℕ → ℕ → Type 0
unknown = λ round bind. Unit {0}

-- the report of what was sent
abbrev pub report_in : Ended → List ℕ
report_in ended = report_of ended.openings.items ended.ends.items ended.statement

-- an input was sent, in one round or in as many as it took; `tells` has what will be read of each bind, round by round
abbrev pub HasSent : (ℕ → ℕ → Told) → Option Again → Input → Ended → Type 0
HasSent tells None input ended = IsSent (tells 1) input ended
HasSent tells (Some again) input ended = IsRun tells again input ended

-- the input was sent; the report of that was written and nothing else, and the status is by the ends
pub record SendsInput (tells : ℕ → ℕ → Told) (again : Option Again) (strict : Bool) (input : Input) (old new : Option (List ℕ)) (status : ℕ) : Type 0 where
  pub ended : Ended
  pub sent : HasSent tells again input ended
  pub written : Appends old new (report_in ended)
  pub status_is : status ≡ status_by strict ended.ends.items

-- the config, the accounts, the messages and the tariff were read, and sent so, without fields
abbrev pub RunsSender : (ℕ → Told) → Bool → List ℕ → Told → Told → Option Told → Option (List ℕ) → Option (List ℕ) → ℕ → Type 0
RunsSender told strict config accounts messages tariff old new status =
    (input : Input) × IsInput config accounts messages tariff input × HasNoFields input.config.fields × SendsInput (λ round. told) None strict input old new status

-- ---- why nothing was sent in a round

-- a fault is of one of the config's binds, and agrees with what was read of it or with a missing connection, or it is of memory
abbrev pub IsFaultIn : (ℕ → Type 0) → (ℕ → Told) → Config → SendFault → Type 0
IsFaultIn refuses told config = IsFaultOfOne refuses told config.connection.settings.mode config.limits.binds

-- why nothing was sent over the connections: it is such a fault, in the phase in which that comes
abbrev pub FailsDriving : (ℕ → Type 0) → (ℕ → Told) → Config → StartPhase → Fault → Type 0
FailsDriving refuses told config begun fault = (f : SendFault) × IsFaultIn refuses told config f × TellsStart begun f × (fault ≡ fault_of_sending f)

-- nothing was sent, for this fault
abbrev pub IsUnsentFor : (ℕ → Type 0) → (ℕ → Told) → Config → Fault → Type 0
IsUnsentFor refuses told config fault = (f : SendFault) × IsFaultIn refuses told config f × (fault ≡ fault_of_sending f)

-- why an input that was read has no report: nothing was sent, since a bind failed or memory was refused; or all was sent, and the
-- output failed after the beginning of the report of that, or memory was refused for the report and none of it was written
abbrev pub FailsInputOver : (ℕ → ℕ → Type 0) → (ℕ → ℕ → Told) → Option Again → Input → Option (List ℕ) → Option (List ℕ) → Fault → Type 0
FailsInputOver refuses tells again input old new fault =
    OfARound 0 (most_rounds again) (λ round. IsUnsentFor (refuses round) (tells round) input.config fault)
    ⊎ (((fault ≡ output_failed) × (ended : Ended) × HasSent tells again input ended × WritesFront old new (report_in ended))
    ⊎ ((fault ≡ unreported) × (ended : Ended) × HasSent tells again input ended × (new ≡ old)))

-- why these octets have no report: the fault is of the first that have one, or of the sending of what they all say
abbrev pub FailsSender : (ℕ → Type 0) → (ℕ → Told) → List ℕ → Told → Told → Option Told → Option (List ℕ) → Option (List ℕ) → Fault → Type 0
FailsSender refuses told config accounts messages tariff old new fault =
    IsReadFault (TellsInput config accounts messages tariff) fault
    ⊎ ((input : Input) × IsInput config accounts messages tariff input × HasNoFields input.config.fields × FailsInputOver (λ round. refuses) (λ round. told) None input old new fault)

-- ---- what there is to send: what was read, or what a run has left

abbrev pub config_in : Work → Config
config_in (All input) = input.config
config_in (Left run) = run.config

abbrev pub messages_in : Work → List Message
messages_in (All input) = input.messages.items
messages_in (Left run) = run.messages.items

-- a run's journal says of each account what became of it
abbrev pub HasRows : Work → Type 0
HasRows (All input) = Unit {0}
HasRows (Left run) = length run.rows.items ≡ length run.openings.items

-- it was sent
abbrev pub IsWorkDone : (ℕ → ℕ → Told) → Option Again → Work → SentWork → Type 0
IsWorkDone tells again (All input) (Whole ended) = HasSent tells again input ended
IsWorkDone tells again (Left run) (Resumed resumed) = IsResumed tells again run resumed
IsWorkDone tells again _ _ = ⊥

-- what was sent of all messages that were read, or why it was not
abbrev pub IsWholeOf : Result Ended Fault → Result SentWork Fault → Type 0
IsWholeOf (Ok ended) result = result ≡ Ok (Whole ended)
IsWholeOf (Err fault) result = result ≡ Err fault

-- a report is missing, in the phase in which that comes
abbrev pub IsLate : StartPhase → Fault → Type 0
IsLate begun fault = (fault ≡ unreported) × (begun ≡ Released Go)

-- why what there is was not sent, in whichever round; or why it has no report
abbrev pub FailsLeft : (ℕ → ℕ → Type 0) → (ℕ → ℕ → Told) → Option Again → JournaledRun → StartPhase → Fault → Type 0
FailsLeft refuses tells again run begun fault = OfARound run.rounds (most_rounds again) (λ round. FailsDriving (refuses round) (tells round) run.config begun fault) ⊎ IsLate begun fault

abbrev pub FailsWork : (ℕ → ℕ → Type 0) → (ℕ → ℕ → Told) → Option Again → Work → StartPhase → Fault → Type 0
FailsWork refuses tells again (All input) begun fault = OfARound 0 (most_rounds again) (λ round. FailsDriving (refuses round) (tells round) input.config begun fault)
FailsWork refuses tells again (Left run) begun fault = FailsLeft refuses tells again run begun fault

-- what is printed of it, and the status
abbrev pub report_of_sent : SentWork → List ℕ
report_of_sent (Whole ended) = report_in ended
report_of_sent (Resumed run) = report_of run.openings.items run.ends.items run.statement

abbrev pub status_of_sent : Bool → SentWork → ℕ
status_of_sent strict (Whole ended) = status_by strict ended.ends.items
status_of_sent strict (Resumed run) = status_by strict run.ends.items

pub record PrintsSent (strict : Bool) (sent : SentWork) (old new : Option (List ℕ)) (status : ℕ) : Type 0 where
  pub written : Appends old new (report_of_sent sent)
  pub status_is : status ≡ status_of_sent strict sent

abbrev pub FailsPrinting : SentWork → Option (List ℕ) → Option (List ℕ) → Fault → Type 0
FailsPrinting sent old new fault = ((fault ≡ output_failed) × WritesFront old new (report_of_sent sent)) ⊎ ((fault ≡ unreported) × (new ≡ old))

-- a run that its journal leaves was sent on; the report of the whole run was written and nothing else, and the status is by its ends
pub record SendsLeft (tells : ℕ → ℕ → Told) (again : Option Again) (strict : Bool) (run : JournaledRun) (old new : Option (List ℕ)) (status : ℕ) : Type 0 where
  pub resumed : TheResumed
  pub is : IsResumed tells again run resumed
  pub prints : PrintsSent strict (Resumed resumed) old new status

abbrev pub SendsWork : (ℕ → ℕ → Told) → Option Again → Bool → Work → Option (List ℕ) → Option (List ℕ) → ℕ → Type 0
SendsWork tells again strict (All input) old new status = SendsInput tells again strict input old new status
SendsWork tells again strict (Left run) old new status = SendsLeft tells again strict run old new status

abbrev pub FailsLeftOver : (ℕ → ℕ → Type 0) → (ℕ → ℕ → Told) → Option Again → JournaledRun → Option (List ℕ) → Option (List ℕ) → Fault → Type 0
FailsLeftOver refuses tells again run old new fault =
    OfARound run.rounds (most_rounds again) (λ round. IsUnsentFor (refuses round) (tells round) run.config fault)
    ⊎ (((fault ≡ output_failed) × (resumed : TheResumed) × IsResumed tells again run resumed × WritesFront old new (report_of_sent (Resumed resumed)))
    ⊎ ((fault ≡ unreported) × (new ≡ old)))

abbrev pub FailsOver : (ℕ → ℕ → Type 0) → (ℕ → ℕ → Told) → Option Again → Work → Option (List ℕ) → Option (List ℕ) → Fault → Type 0
FailsOver refuses tells again (All input) old new fault = FailsInputOver refuses tells again input old new fault
FailsOver refuses tells again (Left run) old new fault = FailsLeftOver refuses tells again run old new fault

-- how a sending ended with this result: it sends so, or fails so
pub record SendingEnd (strict : Bool) (sends : ℕ → Type 0) (fails : Fault → Type 0) (begun : StartPhase) {W : Type 0} (before after : W) (result : Result ℕ Fault) : Type 0 where
  -- the messages were sent and the report was written
  pub sent : IfOk result sends
  -- the status is 0 or 4, strictly also 5
  pub status : IfOk result (IsStatusBy strict)
  -- all workers were started
  pub started : OnOk result (begun ≡ Released Go)
  -- or there is a fault
  pub refused : IfErr result fails
  -- which says by its phase whether messages may have been sent
  pub phase : IfErr result (ComesAt begun)
  -- nothing was written to the output, unless it failed, or the journal did after the report
  pub unwritten : IfErr result (λ fault. fault ≢ output_failed → ¬ HasLostJournal fault → after ≡ before)

-- a centre of the program's own can't listen
abbrev pub deaf : Fault
deaf = BindFailed 0 NoConnection

abbrev pub IsDeaf : CentreAt → Fault → Type 0
IsDeaf (Own bind_status answers) fault = fault ≡ deaf
IsDeaf (Named host port) fault = ⊥

-- why what there is wasn't sent to a centre: that can't listen, or the fault of the sending, with the reason of a missing connection
abbrev pub FailsSending : CentreAt → (ℕ → ℕ → Told) → Option Again → Work → Option (List ℕ) → Option (List ℕ) → Fault → Type 0
FailsSending centre tells again work old new fault = IsDeaf centre fault ⊎ HasReason (FailsOver unknown tells again work old new) fault
