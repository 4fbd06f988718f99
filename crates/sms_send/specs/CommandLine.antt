-- The command line, in the words of the parser, and the job that it asks for.
use Rattle.std.specs.Prelude.{◌≡◌, ◌≢◌, ◌⊎◌, ℕ, String, Bool, true, false, List, [], ◌∷◌, ◌++◌, Option, Some, None, codes, is_some, option_and_then, option_map, if◌then◌else◌}
use Rattle.std.specs.Str.{bytes_eq}
use Rattle.std.specs.String.{string_bytes}
use Rattle.std.specs.declared.alloc.Global.{Global}
use Rattle.clap.specs.Words.{App, Kinds, IsAmong, Row, Rule, Text, app_of, fault_of, first_of, new_app, subcommand_of, with_rule, with_subcommand}
use Rattle.clap.specs.declared.builder.Command.{Command}
use Rattle.clap.specs.declared.builder.Command.TheViews.{out-Command as fields_of}
use Rattle.clap.specs.declared.error.kind.ErrorKind.{ErrorKind}
use Rattle.clap.specs.declared.error.kind.ErrorKind.TheVariants as kind
use Rattle.sms_journal.specs.declared.bill.listing.Listing.{Listing}
use Rattle.sms_journal.specs.declared.bill.listing.Listing.TheVariants.{Bill, Doubtful}
use Rattle.sms_ledger.specs.Names.{name_said, octets_text}
use Rattle.sms_ledger.specs.declared.entry.Payment.{Payment}
use Rattle.sms_send.specs.Faults.{IsWords}
use Rattle.sms_send.specs.DeliveredWords.{AsksForDelivered, LacksDelivered, delivered_rules}
use Rattle.sms_send.specs.Lines.{AsksForLines, IsWrongLine, line_rules}
use Rattle.sms_send.specs.Numbers.{number_in, number_of}
use Rattle.sms_send.specs.Rules.{file_rule, flag_rule, name_rule, value_rule}
use Rattle.sms_send.specs.declared.faults.argument_error.NumberOption.{NumberOption}
use Rattle.sms_send.specs.declared.faults.argument_error.NumberOption.TheVariants.{Again, AgainMs, ConnectMs, Enquire, Rate, Stay, StopAfter}
use Rattle.sms_send.specs.declared.faults.fault.Fault.{Fault}
use Rattle.sms_send.specs.declared.faults.fault.Fault.TheVariants.{Words, Help, Version, OutOfMemory}
use Rattle.sms_send.specs.declared.args.job.Job.{Job}
use Rattle.sms_send.specs.declared.args.job.Job.TheVariants.{Audit, Balance, Decide, Delivered, List as Lists, Loop, Plan, Quote, Recover, Replay, Rest, Resume, ResumeOn, Send, SendOn, Settle, Stop, TopUp}
use Rattle.sms_send.specs.Words.{bytes_of, file_named, subcommand_named}
use Rattle.sms_send.specs.declared.args.job.Subcommand.{Subcommand}
use Rattle.sms_send.specs.declared.args.ledger_args.TopUpArgs.{TopUpArgs}
use Rattle.sms_send.specs.declared.args.ledger_run_args.SettleArgs.{SettleArgs}
use Rattle.sms_send.specs.declared.args.send_args.Again.{Again as AgainArgs}
use Rattle.sms_send.specs.declared.args.send_args.AuditArgs.{AuditArgs}
use Rattle.sms_send.specs.declared.args.send_args.JournalFile.{JournalFile}
use Rattle.sms_send.specs.declared.args.send_args.ListArgs.{ListArgs}
use Rattle.sms_send.specs.declared.args.send_args.RecoverArgs.{RecoverArgs}
use Rattle.sms_send.specs.declared.args.send_args.RestArgs.{RestArgs}
use Rattle.sms_send.specs.declared.args.send_args.ResumeArgs.{ResumeArgs}
use Rattle.sms_send.specs.declared.args.send_args.SendArgs.{SendArgs}
use Rattle.sms_send.specs.declared.args.send_args.Throttle.{Throttle}
use Rattle.sms_send.specs.declared.args.job.Subcommand.TheVariants as sub
use Rattle.sms_send.specs.declared.sending.target.TargetKind.TheVariants.{Loopback, Remote}

-- a subcommand with these arguments more, in this order
abbrev pub with_rules : App → List Rule → App
with_rules app [] = app
with_rules app (rule ∷ rules) = with_rules (with_rule app rule) rules

-- the command is as this line says; no argument of it is one of its subcommands too
abbrev pub IsLine : App → Command → Type 0
IsLine line command = (app_of command ≡ line) × ((fields_of command).has_globals ≡ false)

-- every subcommand may be asked for the detail lines of a fault, and each that reads messages to read them with references
abbrev pub verbose_rule : Rule
verbose_rule = flag_rule (codes "verbose")

abbrev pub refs_rule : Rule
refs_rule = flag_rule (codes "refs")

-- `replay FILE`
abbrev pub replay_line : App
replay_line = with_rules (new_app (codes "replay")) (name_rule (codes "FILE") ∷ verbose_rule ∷ [])

-- `plan --messages FILE`, with `--long` or without
abbrev pub plan_line : App
plan_line = with_rules (new_app (codes "plan")) (file_rule (codes "messages") ∷ flag_rule (codes "long") ∷ refs_rule ∷ verbose_rule ∷ [])

-- `quote --config FILE`
abbrev pub quote_line : App
quote_line = with_rules (new_app (codes "quote")) (file_rule (codes "config") ∷ refs_rule ∷ verbose_rule ∷ [])

-- what bounds a sending
abbrev pub throttle_rules : List Rule
throttle_rules = value_rule (codes "connect-ms") ∷ value_rule (codes "rate") ∷ value_rule (codes "stop-after") ∷ []

-- how often it goes on in a further round
abbrev pub again_rules : List Rule
again_rules = value_rule (codes "again") ∷ value_rule (codes "again-ms") ∷ []

-- what each sending is asked for before its journal, and behind it
abbrev pub config_rules : List Rule
config_rules = file_rule (codes "config") ∷ value_rule (codes "fields") ∷ flag_rule (codes "quiet") ∷ []

abbrev pub sending_rules : List Rule
sending_rules = flag_rule (codes "sync") ∷ flag_rule (codes "strict") ∷ refs_rule ∷ verbose_rule ∷ throttle_rules ++ again_rules ++ line_rules

-- `loop --config FILE` or `send --config FILE`, with the other words or without
abbrev pub sender_line : Text → App
sender_line name = with_rules (with_rule (with_rules (new_app name) config_rules) (value_rule (codes "journal"))) sending_rules

-- whose credits a sending has: a ledger's, where one is given
abbrev pub ledger_rule : Rule
ledger_rule = value_rule (codes "ledger")

-- `loop` and `send` have that too
abbrev pub send_line : Text → App
send_line name = with_rule (sender_line name) ledger_rule

-- `resume --config FILE --journal FILE`, with the other words of a sending or without
abbrev pub resume_line : App
resume_line = with_rule (with_rules (with_rule (with_rules (new_app (codes "resume")) config_rules) (file_rule (codes "journal"))) sending_rules) ledger_rule

-- `stop --journal FILE`
abbrev pub stop_line : App
stop_line = with_rules (new_app (codes "stop")) (file_rule (codes "journal") ∷ verbose_rule ∷ [])

-- `recover --config FILE --journal FILE`, with `--trial` or without, and `rest --config FILE --report FILE`, with `--accounts` or without
abbrev pub recover_line : App
recover_line = with_rules (new_app (codes "recover")) (file_rule (codes "config") ∷ file_rule (codes "journal") ∷ flag_rule (codes "trial") ∷ refs_rule ∷ verbose_rule ∷ [])

abbrev pub rest_line : App
rest_line = with_rules (new_app (codes "rest")) (file_rule (codes "config") ∷ file_rule (codes "report") ∷ flag_rule (codes "accounts") ∷ refs_rule ∷ verbose_rule ∷ [])

-- a subcommand of this name over a run's journal
abbrev pub list_line : Text → App
list_line name = with_rules (new_app name) (file_rule (codes "config") ∷ file_rule (codes "journal") ∷ refs_rule ∷ verbose_rule ∷ [])

abbrev pub bill_line : App
bill_line = list_line (codes "bill")

abbrev pub doubtful_line : App
doubtful_line = list_line (codes "doubtful")

-- `audit --config FILE --report FILE`
abbrev pub audit_line : App
audit_line = with_rules (new_app (codes "audit")) (file_rule (codes "config") ∷ file_rule (codes "report") ∷ refs_rule ∷ verbose_rule ∷ [])

-- `topup --ledger FILE ACCOUNT CREDITS`, with `--ref REF` or `--trial` or without, and `balance --ledger FILE`
abbrev pub topup_line : App
topup_line = with_rules (new_app (codes "topup")) (file_rule (codes "ledger") ∷ name_rule (codes "ACCOUNT") ∷ name_rule (codes "CREDITS") ∷ value_rule (codes "ref") ∷ flag_rule (codes "trial") ∷ verbose_rule ∷ [])

abbrev pub balance_line : App
balance_line = with_rules (new_app (codes "balance")) (file_rule (codes "ledger") ∷ verbose_rule ∷ [])

-- `settle --ledger FILE --config FILE --journal FILE`, and `decide` with `--decisions FILE` too
abbrev pub run_rules : List Rule
run_rules = file_rule (codes "ledger") ∷ file_rule (codes "config") ∷ file_rule (codes "journal") ∷ refs_rule ∷ []

abbrev pub settle_line : App
settle_line = with_rule (with_rules (new_app (codes "settle")) run_rules) verbose_rule

abbrev pub decide_line : App
decide_line = with_rule (with_rule (with_rules (new_app (codes "decide")) run_rules) (file_rule (codes "decisions"))) verbose_rule

-- `delivered --config FILE --journal FILE --inbox FILE`, with `--ids HOW` or without
abbrev pub delivered_line : App
delivered_line = with_rule (with_rule (with_rules (new_app (codes "delivered")) delivered_rules) refs_rule) verbose_rule

-- the program before its subcommands: it has a version, and its own name is not among the words
abbrev pub program_line : App
program_line =
    let plain = new_app (codes "sms-send") in
    record plain { top = record plain.top { no_binary_name = true; has_version = true } }

-- no word, or a subcommand
abbrev pub command_line : App
command_line =
    with_subcommand (with_subcommand (with_subcommand (with_subcommand (with_subcommand (with_subcommand (with_subcommand (with_subcommand (with_subcommand (with_subcommand (with_subcommand (with_subcommand (with_subcommand (with_subcommand (with_subcommand (with_subcommand (with_subcommand program_line replay_line.top) plan_line.top) quote_line.top)
    (send_line (codes "loop")).top) (send_line (codes "send")).top) resume_line.top) stop_line.top) recover_line.top) rest_line.top) bill_line.top) doubtful_line.top) audit_line.top) topup_line.top) balance_line.top) settle_line.top) decide_line.top) delivered_line.top

-- the subcommand and its matches that the parser reads from the words
abbrev pub subcommand_in : List Text → Option (Text × List Row)
subcommand_in words = subcommand_of command_line words

-- why the parser refuses the words; nothing where it takes them
abbrev pub refusals_of : List Text → Kinds
refusals_of words = fault_of command_line words

-- a flag was given, by the parser's value of it
abbrev pub is_set : Option Text → Bool
is_set None = false
is_set (Some value) = bytes_eq value (codes "true")

-- the journal that the matches of a sender ask for
abbrev pub AsksToNote : List Row → Option JournalFile → Type 0
AsksToNote rows None = (first_of (codes "journal") rows ≡ None) × (is_set (first_of (codes "sync") rows) ≡ false)
AsksToNote rows (Some file) = (first_of (codes "journal") rows ≡ Some (string_bytes file.name)) × (is_set (first_of (codes "sync") rows) ≡ file.sync)

-- what they say bounds the sending
pub record HasThrottle (rows : List Row) (throttle : Throttle) : Type 0 where
  pub connect_ms : number_of 600000 (first_of (codes "connect-ms") rows) ≡ Some throttle.connect_ms
  pub rate : number_of 100000 (first_of (codes "rate") rows) ≡ Some throttle.rate
  pub stop_after : number_of 1000000 (first_of (codes "stop-after") rows) ≡ Some throttle.stop_after

-- how often they ask it to go on, and how long it is to wait before: a second where that isn't said
abbrev pub AsksAgain : List Row → Option AgainArgs → Type 0
AsksAgain rows None = (first_of (codes "again") rows ≡ None) × (first_of (codes "again-ms") rows ≡ None)
AsksAgain rows (Some again) =
    (number_of 1000000 (first_of (codes "again") rows) ≡ Some (Some again.most)) × (number_of 600000 (first_of (codes "again-ms") rows) ≡ Some (if is_some (first_of (codes "again-ms") rows) then Some again.wait_ms else None))
    × (first_of (codes "again-ms") rows ≡ None → again.wait_ms ≡ 1000)

-- the sending that they ask for
pub record AsksToSend (rows : List Row) (order : SendArgs) : Type 0 where
  pub config : first_of (codes "config") rows ≡ Some (string_bytes order.config)
  pub fields : first_of (codes "fields") rows ≡ bytes_of order.fields
  pub quiet : is_set (first_of (codes "quiet") rows) ≡ order.quiet
  pub verbose : is_set (first_of (codes "verbose") rows) ≡ order.verbose
  pub journal : AsksToNote rows order.journal
  pub throttle : HasThrottle rows order.throttle
  pub again : AsksAgain rows order.again
  pub lines : AsksForLines rows order.lines
  pub strict : is_set (first_of (codes "strict") rows) ≡ order.strict
  pub refs : is_set (first_of (codes "refs") rows) ≡ order.refs

-- the further round of a run that they ask for
pub record AsksToResume (rows : List Row) (order : ResumeArgs) : Type 0 where
  pub config : first_of (codes "config") rows ≡ Some (string_bytes order.config)
  pub fields : first_of (codes "fields") rows ≡ bytes_of order.fields
  pub quiet : is_set (first_of (codes "quiet") rows) ≡ order.quiet
  pub verbose : is_set (first_of (codes "verbose") rows) ≡ order.verbose
  pub journal : AsksToNote rows (Some order.journal)
  pub throttle : HasThrottle rows order.throttle
  pub again : AsksAgain rows order.again
  pub lines : AsksForLines rows order.lines
  pub strict : is_set (first_of (codes "strict") rows) ≡ order.strict
  pub refs : is_set (first_of (codes "refs") rows) ≡ order.refs

-- the names of the config and of the file of this other option
abbrev pub HasNames : Text → List Row → String Global → String Global → Type 0
HasNames other rows config name = (first_of (codes "config") rows ≡ Some (string_bytes config)) × (first_of other rows ≡ Some (string_bytes name))

-- the report by a journal that they ask for
abbrev pub AsksToRecover : List Row → RecoverArgs → Type 0
AsksToRecover rows order = HasNames (codes "journal") rows order.config order.journal × (is_set (first_of (codes "trial") rows) ≡ order.trial) × (is_set (first_of (codes "refs") rows) ≡ order.refs)

-- what is left of a run that they ask for
abbrev pub AsksForRest : List Row → RestArgs → Type 0
AsksForRest rows order = HasNames (codes "report") rows order.config order.report × (is_set (first_of (codes "accounts") rows) ≡ order.accounts) × (is_set (first_of (codes "refs") rows) ≡ order.refs)

-- what is listed of a run that they ask for
abbrev pub AsksToList : Listing → List Row → ListArgs → Type 0
AsksToList listing rows order = HasNames (codes "journal") rows order.config order.journal × (order.listing ≡ listing) × (is_set (first_of (codes "refs") rows) ≡ order.refs)

-- the run that they ask to be audited
abbrev pub AsksToAudit : List Row → AuditArgs → Type 0
AsksToAudit rows order = HasNames (codes "report") rows order.config order.report × (is_set (first_of (codes "refs") rows) ≡ order.refs)

-- the name of a ledger's that a text spells, if it does
abbrev pub name_in : Text → Option (List ℕ)
name_in text = name_said (octets_text text)

abbrev pub name_given : Option Text → Option (List ℕ)
name_given text = option_and_then name_in text

-- what is said of a reference that needn't be given; nothing where its text spells no name
abbrev pub reference_in : Option Text → Option (Option (List ℕ))
reference_in None = Some None
reference_in (Some text) = option_map (λ name. Some name) (name_in text)

-- credits that are paid: 1 to 2^40
abbrev pub credits_in : Option Text → Option ℕ
credits_in text = option_and_then (number_in 0x100_0000_0000) text

-- the payment that they ask for
pub record IsPaymentOf (rows : List Row) (payment : Payment) : Type 0 where
  pub account : name_given (first_of (codes "ACCOUNT") rows) ≡ Some payment.account
  pub credits : credits_in (first_of (codes "CREDITS") rows) ≡ Some payment.credits
  pub reference : reference_in (first_of (codes "ref") rows) ≡ Some payment.reference

-- the top-up that they ask for
abbrev pub AsksToTopUp : List Row → TopUpArgs → Type 0
AsksToTopUp rows order = (first_of (codes "ledger") rows ≡ Some (string_bytes order.ledger)) × (is_set (first_of (codes "trial") rows) ≡ order.trial) × IsPaymentOf rows order.payment

-- the files of a run of a ledger that they name
abbrev pub AsksToSettle : List Row → SettleArgs → Type 0
AsksToSettle rows order = HasNames (codes "journal") rows order.config order.journal × (first_of (codes "ledger") rows ≡ Some (string_bytes order.ledger)) × (is_set (first_of (codes "refs") rows) ≡ order.refs)

-- the job that a subcommand with these matches asks for
abbrev pub AsksFor : Subcommand → List Row → Job → Type 0
AsksFor sub.Replay rows (Replay file) = option_map file_named (first_of (codes "FILE") rows) ≡ Some (bytes_of file)
AsksFor sub.Plan rows (Plan messages long refs) = (first_of (codes "messages") rows ≡ Some (string_bytes messages)) × (is_set (first_of (codes "long") rows) ≡ long) × (is_set (first_of (codes "refs") rows) ≡ refs)
AsksFor sub.Quote rows (Quote config verbose refs) = (first_of (codes "config") rows ≡ Some (string_bytes config)) × (is_set (first_of (codes "verbose") rows) ≡ verbose) × (is_set (first_of (codes "refs") rows) ≡ refs)
AsksFor sub.Loop rows (Loop order) = AsksToSend rows order × (first_of (codes "ledger") rows ≡ None)
AsksFor sub.Loop rows (SendOn Loopback ledger order) = AsksToSend rows order × (first_of (codes "ledger") rows ≡ Some (string_bytes ledger)) × (is_some order.journal ≡ true)
AsksFor sub.Send rows (Send order) = AsksToSend rows order × (first_of (codes "ledger") rows ≡ None)
AsksFor sub.Send rows (SendOn Remote ledger order) = AsksToSend rows order × (first_of (codes "ledger") rows ≡ Some (string_bytes ledger)) × (is_some order.journal ≡ true)
AsksFor sub.Resume rows (Resume order) = AsksToResume rows order × (first_of (codes "ledger") rows ≡ None)
AsksFor sub.Resume rows (ResumeOn ledger order) = AsksToResume rows order × (first_of (codes "ledger") rows ≡ Some (string_bytes ledger))
AsksFor sub.Stop rows (Stop journal) = first_of (codes "journal") rows ≡ Some (string_bytes journal)
AsksFor sub.Recover rows (Recover order) = AsksToRecover rows order
AsksFor sub.Rest rows (Rest order) = AsksForRest rows order
AsksFor sub.Bill rows (Lists order) = AsksToList Bill rows order
AsksFor sub.Doubtful rows (Lists order) = AsksToList Doubtful rows order
AsksFor sub.Audit rows (Audit order) = AsksToAudit rows order
AsksFor sub.TopUp rows (TopUp order) = AsksToTopUp rows order
AsksFor sub.Delivered rows (Delivered order) = AsksForDelivered rows order × (is_set (first_of (codes "refs") rows) ≡ order.refs)
AsksFor sub.Balance rows (Balance ledger) = first_of (codes "ledger") rows ≡ Some (string_bytes ledger)
AsksFor sub.Settle rows (Settle order) = AsksToSettle rows order
AsksFor sub.Decide rows (Decide order) = AsksToSettle rows order.run × (first_of (codes "decisions") rows ≡ Some (string_bytes order.decisions))
AsksFor _ rows _ = ⊥

-- the job of a subcommand and its matches; without one it is to replay standard input
abbrev pub IsJob : Option (Text × List Row) → Job → Type 0
IsJob None (Replay file) = bytes_of file ≡ None
IsJob None _ = ⊥
IsJob (Some found) job = (s : Subcommand) × (subcommand_named found.0 ≡ Some s) × AsksFor s found.1 job

-- a fault refuses words for this reason, or memory ran out
abbrev pub RefusesFor : Type 0 → Fault → Type 0
RefusesFor reason fault = (fault ≡ OutOfMemory) ⊎ (IsWords fault × reason)

-- the disk is to have a journal that isn't asked for
abbrev pub IsWrongSync : List Row → Type 0
IsWrongSync rows = (first_of (codes "journal") rows ≡ None) × (is_set (first_of (codes "sync") rows) ≡ true)

-- the number of an option is out of range
abbrev pub IsWrongNumber : NumberOption → List Row → Type 0
IsWrongNumber ConnectMs rows = number_of 600000 (first_of (codes "connect-ms") rows) ≡ None
IsWrongNumber Rate rows = number_of 100000 (first_of (codes "rate") rows) ≡ None
IsWrongNumber StopAfter rows = number_of 1000000 (first_of (codes "stop-after") rows) ≡ None
IsWrongNumber Again rows = number_of 1000000 (first_of (codes "again") rows) ≡ None
IsWrongNumber AgainMs rows = number_of 600000 (first_of (codes "again-ms") rows) ≡ None
IsWrongNumber Enquire rows = number_of 3600 (first_of (codes "enquire") rows) ≡ None
IsWrongNumber Stay rows = number_of 86400 (first_of (codes "stay") rows) ≡ None

-- one of those that bound a sending or its further rounds is
abbrev pub IsWrongThrottle : List Row → Type 0
IsWrongThrottle rows = (option : NumberOption) × IsWrongNumber option rows

-- how long it waits before a further round is said of a sending that has none
abbrev pub IsWrongWait : List Row → Type 0
IsWrongWait rows = (first_of (codes "again") rows ≡ None) × (first_of (codes "again-ms") rows ≢ None)

abbrev pub IsWrongPace : List Row → Type 0
IsWrongPace rows = IsWrongThrottle rows ⊎ IsWrongWait rows

-- what is wrong with the matches of a sender
abbrev pub AreRefusedArgs : List Row → Type 0
AreRefusedArgs rows = (first_of (codes "config") rows ≡ None) ⊎ IsWrongSync rows ⊎ IsWrongPace rows ⊎ IsWrongLine rows

-- the name of the config or of the file of this other option is missing
abbrev pub LacksName : Text → List Row → Type 0
LacksName other rows = (first_of (codes "config") rows ≡ None) ⊎ (first_of other rows ≡ None)

-- and of one that goes on with a run
abbrev pub AreRefusedResumeArgs : List Row → Type 0
AreRefusedResumeArgs rows = LacksName (codes "journal") rows ⊎ IsWrongPace rows ⊎ IsWrongLine rows

-- they ask for no payment, and for no top-up
abbrev pub IsNoPayment : List Row → Type 0
IsNoPayment rows = (name_given (first_of (codes "ACCOUNT") rows) ≡ None) ⊎ (credits_in (first_of (codes "CREDITS") rows) ≡ None) ⊎ (reference_in (first_of (codes "ref") rows) ≡ None)

abbrev pub AreRefusedTopUp : List Row → Type 0
AreRefusedTopUp rows = (first_of (codes "ledger") rows ≡ None) ⊎ IsNoPayment rows

-- a sending is to have credits of a ledger, and no journal
abbrev pub IsLedgerAlone : List Row → Type 0
IsLedgerAlone rows = (first_of (codes "ledger") rows ≢ None) × (first_of (codes "journal") rows ≡ None)

-- a file of a run of a ledger isn't named
abbrev pub AreRefusedSettle : List Row → Type 0
AreRefusedSettle rows = LacksName (codes "journal") rows ⊎ (first_of (codes "ledger") rows ≡ None)

-- what is wrong with the matches of a subcommand that asks for no job: a name is missing, it is a sender's, or a payment's
abbrev pub IsRefused : Subcommand → List Row → Type 0
IsRefused sub.Replay rows = first_of (codes "FILE") rows ≡ None
IsRefused sub.Plan rows = first_of (codes "messages") rows ≡ None
IsRefused sub.Quote rows = first_of (codes "config") rows ≡ None
IsRefused sub.Loop rows = AreRefusedArgs rows ⊎ IsLedgerAlone rows
IsRefused sub.Send rows = AreRefusedArgs rows ⊎ IsLedgerAlone rows
IsRefused sub.Resume rows = AreRefusedResumeArgs rows
IsRefused sub.Stop rows = first_of (codes "journal") rows ≡ None
IsRefused sub.Recover rows = LacksName (codes "journal") rows
IsRefused sub.Rest rows = LacksName (codes "report") rows
IsRefused sub.Bill rows = LacksName (codes "journal") rows
IsRefused sub.Doubtful rows = LacksName (codes "journal") rows
IsRefused sub.Audit rows = LacksName (codes "report") rows
IsRefused sub.TopUp rows = AreRefusedTopUp rows
IsRefused sub.Delivered rows = LacksDelivered rows
IsRefused sub.Balance rows = first_of (codes "ledger") rows ≡ None
IsRefused sub.Settle rows = AreRefusedSettle rows
IsRefused sub.Decide rows = AreRefusedSettle rows ⊎ (first_of (codes "decisions") rows ≡ None)

-- why the subcommand that the parser met asks for no job, where it took the words: there is none of the name, or its matches ask for none
abbrev pub RefusesMatch : Option (Text × List Row) → Fault → Type 0
RefusesMatch None fault = ⊥
RefusesMatch (Some found) fault = RefusesFor ((subcommand_named found.0 ≡ None) ⊎ ((s : Subcommand) × (subcommand_named found.0 ≡ Some s) × IsRefused s found.1)) fault

-- the fault of words that the parser refuses: help or the version was asked for, or neither
abbrev pub RefusesAs : Kinds → Fault → Type 0
RefusesAs kinds (Help text) = IsAmong kind.DisplayHelp kinds
RefusesAs kinds (Version text) = IsAmong kind.DisplayVersion kinds
RefusesAs kinds (Words why) = (k : ErrorKind) × (k ≢ kind.DisplayHelp) × (k ≢ kind.DisplayVersion) × IsAmong k kinds
RefusesAs kinds OutOfMemory = Unit {0}
RefusesAs kinds _ = ⊥

-- why words are refused: the parser refuses them, or takes them and they ask for no job
abbrev pub RefusesWords : List Text → Fault → Type 0
RefusesWords words fault = RefusesAs (refusals_of words) fault ⊎ ((refusals_of words ≡ []) × RefusesMatch (subcommand_in words) fault)
