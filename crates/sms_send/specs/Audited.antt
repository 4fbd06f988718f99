-- What `audit` prints of a run, and why it fails.
use Rattle.std.specs.Prelude.{◌≡◌, ◌⊎◌, ℕ, List, Option, string_bytes}
use Rattle.sms_files.specs.Inputs.{Told}
use Rattle.sms_journal.specs.Audits.{IsFaultOfAudit, PrintsAudit}
use Rattle.sms_journal.specs.declared.audit.fault.AuditFault.{AuditFault}
use Rattle.sms_send.specs.Faults.{fault_of_audit}
use Rattle.sms_send.specs.Runs.{FailsRunFiles, IsRun, tariff_in}
use Rattle.sms_send.specs.declared.args.send_args.AuditArgs.{AuditArgs}
use Rattle.sms_send.specs.declared.faults.fault.Fault.{Fault}
use Rattle.sms_send.specs.declared.files.run_files.RunFiles.{RunFiles}

-- the schedule of a run, by its report, was written and nothing else
abbrev pub PrintsRun : RunFiles → Option (List ℕ) → Option (List ℕ) → Type 0
PrintsRun run old new = PrintsAudit run.config.items run.named.accounts.items run.named.messages.items (tariff_in run.named) run.written.items old new

-- why there is none
abbrev pub FailsAudit : RunFiles → Option (List ℕ) → Option (List ℕ) → Fault → Type 0
FailsAudit run old new fault =
    (f : AuditFault) × IsFaultOfAudit run.config.items run.named.accounts.items run.named.messages.items (tariff_in run.named) run.written.items old new f × (fault ≡ fault_of_audit f)

-- the run that an order names
abbrev pub AuditsBy : (List ℕ → Option Told → Type 0) → AuditArgs → Option (List ℕ) → Option (List ℕ) → Type 0
AuditsBy finds order old new = (run : RunFiles) × IsRun finds (string_bytes order.config) (string_bytes order.report) run × PrintsRun run old new

abbrev pub FailsAuditJob : (List ℕ → Option Told → Type 0) → AuditArgs → Option (List ℕ) → Option (List ℕ) → Fault → Type 0
FailsAuditJob finds order old new fault =
    FailsRunFiles finds order.config order.report fault
    ⊎ ((run : RunFiles) × IsRun finds (string_bytes order.config) (string_bytes order.report) run × FailsAudit run old new fault)
