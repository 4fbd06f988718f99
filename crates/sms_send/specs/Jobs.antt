-- What the program does: a job, of an input of the kind that the job names.
use Rattle.std.specs.Prelude.{◌≡◌, ◌⊎◌, Bool, ℕ, List, Option, None, Some, Result, IfOk, is_some, string_bytes}
use Rattle.std.specs.Io.KnownBytes.{Appends}
use Rattle.sms_devices.specs.Centres.{CentreAt}
use Rattle.sms_send.specs.Audited.{AuditsBy, FailsAuditJob}
use Rattle.sms_send.specs.Words.{bytes_of}
use Rattle.sms_send.specs.ConfigFiles.{OfConfig}
use Rattle.sms_send.specs.Delivered.{DeliversBy, FailsDelivered}
use Rattle.sms_send.specs.Faults.{ComesAt}
use Rattle.sms_files.specs.Fields.{records_of}
use Rattle.sms_files.specs.Inputs.{Told}
use Rattle.sms_files.specs.Messages.{messages_fault}
use Rattle.sms_files.specs.PlanText.{kind_of, plan_of}
use Rattle.sms_send.specs.Listed.{FailsListJob, ListsBy}
use Rattle.sms_send.specs.Opened.{OfFile, OfInput, FailsOpening}
use Rattle.sms_send.specs.PlainFiles.{sees}
use Rattle.sms_send.specs.Plans.{FailsPlan, Warns, BeginsWarning}
use Rattle.sms_send.specs.Quoted.{FailsQuoteJob, BeginsAsAsked, QuotesAsAsked, QuotesFiles}
use Rattle.sms_files.specs.Output.{WritesFront}
use Rattle.sms_send.specs.Recovered.{PrintsAsked, RecoversAndWarns, RecoversBy, FailsRecoverJob, FailsRestJob, trial_line}
use Rattle.sms_send.specs.Replays.{Replays, FailsReplay}
use Rattle.sms_send.specs.Resumed.{ComesInResume, FailsResumeJob, HasBegunResume, ResumesBy}
use Rattle.sms_send.specs.Runs.{IsRun}
use Rattle.sms_send.specs.Statuses.{IsStatus, IsStatusBy}
use Rattle.sms_send.specs.SendJobs.{FailsSendJob, SendsBy}
use Rattle.sms_send.specs.Stopped.{FailsStop}
use Rattle.sms_driver.specs.declared.start_gate.Command.TheVariants.{Go}
use Rattle.sms_driver.specs.declared.start.StartPhase.{StartPhase}
use Rattle.sms_driver.specs.declared.start.StartPhase.TheVariants.{Idle, Released}
use Rattle.sms_send.specs.declared.faults.fault.Fault.{Fault}
use Rattle.sms_send.specs.declared.args.job.Job.{Job}
use Rattle.sms_send.specs.declared.args.send_args.JournalFile.{JournalFile}
use Rattle.sms_send.specs.declared.args.send_args.ResumeArgs.{ResumeArgs}
use Rattle.sms_send.specs.declared.args.job.Job.TheVariants.{Audit, Balance, Decide, Delivered, List as Lists, Loop, Plan, Quote, Recover, Replay, Rest, Resume, ResumeOn, Send, SendOn, Settle, Stop, TopUp}
use Rattle.sms_send.specs.declared.files.run_files.RunFiles.{RunFiles}
use Rattle.sms_send.specs.declared.sending.target.TargetKind.TheVariants.{Loopback, Remote}

-- the bytes are a messages file, and its plan with references of 16 bits or of 8 was written and nothing else
abbrev pub Plans : Bool → List ℕ → Option (List ℕ) → Option (List ℕ) → Type 0
Plans long bytes old new = (messages_fault (records_of bytes) ≡ None) × Appends old new (plan_of (kind_of long) (records_of bytes))

-- the exit status of a job that was done: 0, of the sender and of a recovery also 4, and of the sender with `--strict` also 5
abbrev pub IsStatusOf : Job → ℕ → Type 0
IsStatusOf (Replay file) status = status ≡ 0
IsStatusOf (Plan name long refs) status = status ≡ 0
IsStatusOf (Quote config verbose refs) status = status ≡ 0
IsStatusOf (Loop order) status = IsStatusBy order.strict status
IsStatusOf (Send order) status = IsStatusBy order.strict status
IsStatusOf (Resume order) status = IsStatusBy order.strict status
IsStatusOf (Stop journal) status = status ≡ 0
IsStatusOf (Recover order) status = IsStatus status
IsStatusOf (Rest order) status = status ≡ 0
IsStatusOf (Lists order) status = status ≡ 0
IsStatusOf (Audit order) status = status ≡ 0
IsStatusOf (TopUp order) status = status ≡ 0
IsStatusOf (Balance ledger) status = status ≡ 0
IsStatusOf (SendOn kind ledger order) status = IsStatusBy order.strict status
IsStatusOf (ResumeOn ledger order) status = IsStatusBy order.strict status
IsStatusOf (Settle order) status = status ≡ 0
IsStatusOf (Decide order) status = status ≡ 0
IsStatusOf (Delivered order) status = status ≡ 0

-- the job was done with this status: standard input or the file of the name was replayed, that file planned, the files that the config names quoted, or sent to the centre that is asked for, or what is left of a run printed, or its
-- parts, or its schedule; or a ledger's file was used, in a world that says what that is
abbrev pub Does : {S : Type 0} → (S → Told) → (List ℕ → Option Told → Type 0) → (CentreAt → Bool → ℕ → ℕ → Told) → (Job → Option (List ℕ) → Option (List ℕ) → ℕ → Type 0) → Job → Option (List ℕ) → Option (List ℕ) → ℕ → Type 0
Does standard finds tells books (Replay None) old new status = OfInput standard (λ bytes. Replays bytes old new)
Does standard finds tells books (Replay (Some name)) old new status = OfFile finds (string_bytes name) (λ bytes. Replays bytes old new)
Does standard finds tells books (Plan name long refs) old new status = OfFile (sees refs finds) (string_bytes name) (λ bytes. Plans long bytes old new)
Does standard finds tells books (Quote config verbose refs) old new status = OfConfig (sees refs finds) (string_bytes config) (QuotesFiles (sees refs finds) old new)
Does standard finds tells books (Loop order) old new status = OfConfig (sees order.refs finds) (string_bytes order.config) (SendsBy (sees order.refs finds) tells Loopback (bytes_of order.fields) order.again order.strict (is_some order.journal) old new status)
Does standard finds tells books (Send order) old new status = OfConfig (sees order.refs finds) (string_bytes order.config) (SendsBy (sees order.refs finds) tells Remote (bytes_of order.fields) order.again order.strict (is_some order.journal) old new status)
Does standard finds tells books (Resume order) old new status = ResumesBy (sees order.refs finds) tells order old new status
Does standard finds tells books (Stop journal) old new status = new ≡ old
Does standard finds tells books (Recover order) old new status = RecoversBy (sees order.refs finds) order old new status
Does standard finds tells books (Rest order) old new status = (run : RunFiles) × IsRun finds (string_bytes order.config) (string_bytes order.report) run × PrintsAsked order.accounts order.refs run old new
Does standard finds tells books (Lists order) old new status = ListsBy finds order old new
Does standard finds tells books (Audit order) old new status = AuditsBy (sees order.refs finds) order old new
Does standard finds tells books (TopUp order) old new status = books (TopUp order) old new status
Does standard finds tells books (Balance ledger) old new status = books (Balance ledger) old new status
Does standard finds tells books (SendOn kind ledger order) old new status = books (SendOn kind ledger order) old new status
Does standard finds tells books (ResumeOn ledger order) old new status = books (ResumeOn ledger order) old new status
Does standard finds tells books (Settle order) old new status = books (Settle order) old new status
Does standard finds tells books (Decide order) old new status = books (Decide order) old new status
Does standard finds tells books (Delivered order) old new status = DeliversBy finds order old new

-- what standard error has of a job that was done: by a plan whether a quote is open, by a quote what there is to warn of and, at length, its files' full
-- names, by a recovery whether it is of a trial; by any other nothing (the progress of a sending is written there by threads of its own)
abbrev pub WritesBeside : (List ℕ → Option Told → Type 0) → (List ℕ → List ℕ → Type 0) → (Bool → Type 0) → Job → Option (List ℕ) → Option (List ℕ) → Option (List ℕ) → Option (List ℕ) → Type 0
WritesBeside finds is_full details (Plan name long refs) old new error_old error_new = OfFile (sees refs finds) (string_bytes name) (λ bytes. Warns bytes error_old error_new)
WritesBeside finds is_full details (Quote config verbose refs) old new error_old error_new = QuotesAsAsked (sees refs finds) is_full details config verbose old new error_old error_new
WritesBeside finds is_full details (Recover order) old new error_old error_new = RecoversAndWarns (sees order.refs finds) order old new error_old error_new
WritesBeside finds is_full details _ old new error_old error_new = error_new ≡ error_old

-- what a job that was done did beside its output: the journal that it wrote ends so, or that of the run that it went on with, or a run was asked to stop
abbrev pub NotesJob : (Option JournalFile → ℕ → Type 0) → (ResumeArgs → Option (List ℕ) → Option (List ℕ) → ℕ → Type 0) → (List ℕ → Type 0) → Job → Option (List ℕ) → Option (List ℕ) → Result ℕ Fault → Type 0
NotesJob notes resumes stops (Loop order) old new result = IfOk result (notes order.journal)
NotesJob notes resumes stops (Send order) old new result = IfOk result (notes order.journal)
NotesJob notes resumes stops (Resume order) old new result = IfOk result (resumes order old new)
NotesJob notes resumes stops (Stop journal) old new result = IfOk result (λ status. stops (string_bytes journal))
NotesJob notes resumes stops _ old new result = Unit {0}

-- and of one of which the output failed: the beginning of that
abbrev pub BeginsBeside : (List ℕ → Option Told → Type 0) → (List ℕ → List ℕ → Type 0) → (Bool → Type 0) → Job → Option (List ℕ) → Option (List ℕ) → Type 0
BeginsBeside finds is_full details (Plan name long refs) error_old error_new = OfFile (sees refs finds) (string_bytes name) (λ bytes. BeginsWarning bytes error_old error_new)
BeginsBeside finds is_full details (Quote config verbose refs) error_old error_new = BeginsAsAsked (sees refs finds) is_full details config verbose error_old error_new
BeginsBeside finds is_full details (Recover order) error_old error_new = WritesFront error_old error_new trial_line
BeginsBeside finds is_full details _ error_old error_new = error_new ≡ error_old

-- why a job failed, in a world where a journal's beginning fails so, which refuses files of these names, which holds journals of those, and whose ledgers fail so: its file can't be opened, or the fault is of the
-- input
abbrev pub FailsJob : {S : Type 0} → (JournalFile → Fault → Type 0) → (List ℕ → Type 0) → (List ℕ → Type 0) → (Job → Option (List ℕ) → Option (List ℕ) → Fault → Type 0) → (S → Told) → (List ℕ → Option Told → Type 0) → (CentreAt → Bool → ℕ → ℕ → Told) → Job → Option (List ℕ) → Option (List ℕ) → Fault → Type 0
FailsJob begins refuses holds unbooked standard finds tells (Replay None) old new fault = OfInput standard (λ bytes. FailsReplay (records_of bytes) fault)
FailsJob begins refuses holds unbooked standard finds tells (Replay (Some name)) old new fault = FailsOpening finds name fault ⊎ OfFile finds (string_bytes name) (λ bytes. FailsReplay (records_of bytes) fault)
FailsJob begins refuses holds unbooked standard finds tells (Plan name long refs) old new fault = FailsOpening (sees refs finds) name fault ⊎ OfFile (sees refs finds) (string_bytes name) (λ bytes. FailsPlan (records_of bytes) fault)
FailsJob begins refuses holds unbooked standard finds tells (Quote config verbose refs) old new fault = FailsQuoteJob (sees refs finds) config old new fault
FailsJob begins refuses holds unbooked standard finds tells (Loop order) old new fault = FailsSendJob begins (sees order.refs finds) tells Loopback order old new fault
FailsJob begins refuses holds unbooked standard finds tells (Send order) old new fault = FailsSendJob begins (sees order.refs finds) tells Remote order old new fault
FailsJob begins refuses holds unbooked standard finds tells (Resume order) old new fault = FailsResumeJob refuses holds (sees order.refs finds) tells order old new fault
FailsJob begins refuses holds unbooked standard finds tells (Stop journal) old new fault = FailsStop refuses (string_bytes journal) fault
FailsJob begins refuses holds unbooked standard finds tells (Recover order) old new fault = FailsRecoverJob holds (sees order.refs finds) order old new fault
FailsJob begins refuses holds unbooked standard finds tells (Rest order) old new fault = FailsRestJob finds order old new fault
FailsJob begins refuses holds unbooked standard finds tells (Lists order) old new fault = FailsListJob holds finds order old new fault
FailsJob begins refuses holds unbooked standard finds tells (Audit order) old new fault = FailsAuditJob (sees order.refs finds) order old new fault
FailsJob begins refuses holds unbooked standard finds tells (TopUp order) old new fault = unbooked (TopUp order) old new fault
FailsJob begins refuses holds unbooked standard finds tells (Balance ledger) old new fault = unbooked (Balance ledger) old new fault
FailsJob begins refuses holds unbooked standard finds tells (SendOn kind ledger order) old new fault = unbooked (SendOn kind ledger order) old new fault
FailsJob begins refuses holds unbooked standard finds tells (ResumeOn ledger order) old new fault = unbooked (ResumeOn ledger order) old new fault
FailsJob begins refuses holds unbooked standard finds tells (Settle order) old new fault = unbooked (Settle order) old new fault
FailsJob begins refuses holds unbooked standard finds tells (Decide order) old new fault = unbooked (Decide order) old new fault
FailsJob begins refuses holds unbooked standard finds tells (Delivered order) old new fault = FailsDelivered holds finds order old new fault

-- the phase of its sending once a job was done: all workers were started, of one that sends
abbrev pub HasBegun : Job → StartPhase → Type 0
HasBegun (Loop order) begun = begun ≡ Released Go
HasBegun (Send order) begun = begun ≡ Released Go
HasBegun (Resume order) begun = HasBegunResume begun
HasBegun (SendOn kind ledger order) begun = begun ≡ Released Go
HasBegun (ResumeOn ledger order) begun = HasBegunResume begun
HasBegun _ begun = begun ≡ Idle

-- in which phase of its sending a fault of the job comes; a job that doesn't send starts no worker
abbrev pub ComesIn : Job → StartPhase → Fault → Type 0
ComesIn (Loop order) begun fault = ComesAt begun fault
ComesIn (Send order) begun fault = ComesAt begun fault
ComesIn (Resume order) begun fault = ComesInResume begun fault
ComesIn (SendOn kind ledger order) begun fault = ComesAt begun fault
ComesIn (ResumeOn ledger order) begun fault = ComesInResume begun fault
ComesIn _ begun fault = begun ≡ Idle
