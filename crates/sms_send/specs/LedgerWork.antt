-- The jobs over a ledger among all jobs, in a world whose ledgers' files are so.
use Rattle.std.specs.Prelude.{Bool, ℕ, List, Option, string_bytes}
use Rattle.std.specs.declared.io.ErrorKind.{ErrorKind}
use Rattle.sms_devices.specs.Centres.{CentreAt}
use Rattle.sms_devices.specs.declared.ledger.failure.LedgerFailure.{LedgerFailure}
use Rattle.sms_devices.specs.declared.ledger.kind.LedgerKind.{LedgerKind}
use Rattle.sms_driver.specs.declared.start.StartPhase.{StartPhase}
use Rattle.sms_files.specs.Inputs.{Told}
use Rattle.sms_send.specs.LedgerJobs.{DecidesJob, FailsDecideJob, FailsSettleJob, SettlesJob}
use Rattle.sms_send.specs.Faults.{ComesAt}
use Rattle.sms_send.specs.LedgerKinds.{kind_for, kind_said}
use Rattle.sms_send.specs.LedgerResuming.{FailsResumeOn, ResumesOn}
use Rattle.sms_send.specs.LedgerSendings.{FailsSendOn, SendsOn}
use Rattle.sms_send.specs.Ledgers.{FailsBalance, FailsTopUp, PrintsBalance, TopsUp}
use Rattle.sms_send.specs.PlainFiles.{sees}
use Rattle.sms_send.specs.declared.args.job.Job.{Job}
use Rattle.sms_send.specs.declared.args.job.Job.TheVariants.{Balance, Decide, ResumeOn, SendOn, Settle, TopUp}
use Rattle.sms_send.specs.declared.faults.fault.Fault.{Fault}

-- what they did
abbrev pub BooksJob : {F J : Type 0} → (List ℕ → J → Type 0) → (List ℕ → J → Type 0) → (J → Option (List ℕ)) → (List ℕ → Option Told → Type 0) → (CentreAt → Bool → ℕ → ℕ → Told) → (List ℕ → LedgerKind → Type 0) → (List ℕ → F → Type 0) → (F → Option (List ℕ)) → (F → Option (List ℕ)) → (F → ℕ) → (F → Type 0) → Job → Option (List ℕ) → Option (List ℕ) → ℕ → Type 0
BooksJob makes opens contents finds tells is_of holds octets stored opening is_closed (TopUp order) old new status = is_of (string_bytes order.ledger) (kind_said order.trial) × TopsUp holds octets stored opening is_closed order old new
BooksJob makes opens contents finds tells is_of holds octets stored opening is_closed (Balance name) old new status = PrintsBalance holds octets (string_bytes name) old new
BooksJob makes opens contents finds tells is_of holds octets stored opening is_closed (SendOn kind ledger order) old new status = is_of (string_bytes ledger) (kind_for kind) × SendsOn makes contents (sees order.refs finds) tells kind holds octets stored opening is_closed (string_bytes ledger) order old new status
BooksJob makes opens contents finds tells is_of holds octets stored opening is_closed (ResumeOn ledger order) old new status = ResumesOn contents opens (sees order.refs finds) tells holds octets stored opening is_closed (string_bytes ledger) order old new status
BooksJob makes opens contents finds tells is_of holds octets stored opening is_closed (Settle order) old new status = SettlesJob opens (sees order.refs finds) holds octets stored opening is_closed order old new
BooksJob makes opens contents finds tells is_of holds octets stored opening is_closed (Decide order) old new status = DecidesJob (sees order.run.refs finds) holds octets stored opening is_closed order old new
BooksJob makes opens contents finds tells is_of holds octets stored opening is_closed _ old new status = Unit {0}

-- a sending on a ledger failed in the phase in which its fault comes
abbrev pub FailsInPhase : (StartPhase → Fault → Type 0) → Fault → Type 0
FailsInPhase fails fault = (begun : StartPhase) × ComesAt begun fault × fails begun fault

-- and why they failed
abbrev pub FailsBooksJob : {F J : Type 0} → (List ℕ → J → Type 0) → (List ℕ → J → Type 0) → (J → Option (List ℕ)) → (List ℕ → Type 0) → (List ℕ → Type 0) → (List ℕ → Option Told → Type 0) → (CentreAt → Bool → ℕ → ℕ → Told) → (List ℕ → F → Type 0) → (List ℕ → LedgerFailure → Type 0) → (ErrorKind → Type 0) → (F → Option (List ℕ)) → (F → Option (List ℕ)) → (F → ℕ) → (F → Type 0) → Job → Option (List ℕ) → Option (List ℕ) → Fault → Type 0
FailsBooksJob makes opens contents refuses held finds tells holds lacks errs octets stored opening is_closed (TopUp order) old new fault = FailsTopUp holds lacks errs octets stored opening is_closed order old new fault
FailsBooksJob makes opens contents refuses held finds tells holds lacks errs octets stored opening is_closed (Balance name) old new fault = FailsBalance holds lacks errs octets name old new fault
FailsBooksJob makes opens contents refuses held finds tells holds lacks errs octets stored opening is_closed (SendOn kind ledger order) old new fault =
    FailsInPhase (λ begun fault. FailsSendOn makes refuses held (sees order.refs finds) tells kind holds lacks errs octets stored opening is_closed (string_bytes ledger) order begun old new fault) fault
FailsBooksJob makes opens contents refuses held finds tells holds lacks errs octets stored opening is_closed (ResumeOn ledger order) old new fault =
    FailsResumeOn contents opens refuses held (sees order.refs finds) tells holds lacks errs octets stored opening is_closed (string_bytes ledger) order old new fault
FailsBooksJob makes opens contents refuses held finds tells holds lacks errs octets stored opening is_closed (Settle order) old new fault = FailsSettleJob refuses held (sees order.refs finds) holds lacks errs octets stored opening is_closed order old new fault
FailsBooksJob makes opens contents refuses held finds tells holds lacks errs octets stored opening is_closed (Decide order) old new fault = FailsDecideJob (sees order.run.refs finds) holds lacks errs octets stored opening is_closed order old new fault
FailsBooksJob makes opens contents refuses held finds tells holds lacks errs octets stored opening is_closed _ old new fault = Unit {0}
