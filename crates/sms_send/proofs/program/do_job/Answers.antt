use Rattle.std.proofs.Common.{◌≡◌, IfErr, subst, sym}
use Rattle.sms_send.specs.Faults.{output_failed}
use Rattle.std.specs.Prelude.{string_bytes}
use Rattle.sms_send.specs.Jobs.{BeginsBeside}
use Rattle.sms_send.specs.LedgerSendings.{FailsSendOn}
use Rattle.sms_send.specs.PlainFiles.{sees}
use Rattle.sms_send.specs.declared.args.job.Job.{Job}
use Rattle.sms_send.proofs.OfKinds.{with_kind}
use Rattle.sms_send.proofs.Noting.{both_quiet, noted_too, quiet_too}
use Rattle.sms_send.proofs.SettledRuns.{in_phase}
use Rattle.sms_send.proofs.Telling.{where-output}
use Rattle.sms_send.proofs.program.do_job.Goals as goal

pub returns-in-Recover-clause-front : goal.returns-in-Recover-clause-front
returns-in-Recover-clause-front g c =
    subst (λ (job : Job). IfErr c.recover_job.result (λ fault. fault ≡ output_failed → BeginsBeside (g.R.InputFiles.finds c.args.rt.now) (g.R.FullNames.is_full c.args.rt.now) (g.R.Screen.details c.args.rt.now) job
    (g.E.Write.contents c.args.error.now) (g.E.Write.contents c.recover_job.new.error))) (sym c.in-Recover.is)
    (where-output c.recover_job.result _ c.recover_job.ensures.told)

pub returns-in_ok-open-in-Replay-Some-clause-unwritten : goal.returns-in_ok-open-in-Replay-Some-clause-unwritten
returns-in_ok-open-in-Replay-Some-clause-unwritten g c = quiet_too c.run_replay-in-Replay-Some.result _ c.run_replay-in-Replay-Some.ensures.unwritten

pub returns-in-Recover-clause-unwritten : goal.returns-in-Recover-clause-unwritten
returns-in-Recover-clause-unwritten g c = both_quiet c.recover_job.result _ _ c.recover_job.ensures.unwritten

pub returns-in-Quote-clause-unwritten : goal.returns-in-Quote-clause-unwritten
returns-in-Quote-clause-unwritten g c = both_quiet c.quote_job.result _ _ c.quote_job.ensures.unwritten

pub returns-in-Rest-clause-unwritten : goal.returns-in-Rest-clause-unwritten
returns-in-Rest-clause-unwritten g c = quiet_too c.rest_job.result _ c.rest_job.ensures.unwritten

pub returns-in-List-clause-unwritten : goal.returns-in-List-clause-unwritten
returns-in-List-clause-unwritten g c = quiet_too c.list_job.result _ c.list_job.ensures.unwritten

pub returns-in-Audit-clause-unwritten : goal.returns-in-Audit-clause-unwritten
returns-in-Audit-clause-unwritten g c = quiet_too c.audit_job.result _ c.audit_job.ensures.unwritten

pub returns-in-Replay-None-clause-unwritten : goal.returns-in-Replay-None-clause-unwritten
returns-in-Replay-None-clause-unwritten g c = quiet_too c.run_replay.result _ c.run_replay.ensures.unwritten

pub returns-in-Loop-clause-started : goal.returns-in-Loop-clause-started
returns-in-Loop-clause-started g c = rw c.in-Loop.is c.send_job.ensures.ended.started

pub returns-in-Loop-clause-status : goal.returns-in-Loop-clause-status
returns-in-Loop-clause-status g c = rw c.in-Loop.is c.send_job.ensures.ended.status

pub returns-in-Loop-clause-done : goal.returns-in-Loop-clause-done
returns-in-Loop-clause-done g c = rw c.in-Loop.is c.send_job.ensures.ended.sent

pub returns-in-Loop-clause-refused : goal.returns-in-Loop-clause-refused
returns-in-Loop-clause-refused g c = rw c.in-Loop.is c.send_job.ensures.ended.refused

pub returns-in-Loop-clause-phase : goal.returns-in-Loop-clause-phase
returns-in-Loop-clause-phase g c = rw c.in-Loop.is c.send_job.ensures.ended.phase

pub returns-in-Loop-clause-unwritten : goal.returns-in-Loop-clause-unwritten
returns-in-Loop-clause-unwritten g c = noted_too c.send_job.result _ c.send_job.ensures.ended.unwritten

pub returns-in-Send-clause-started : goal.returns-in-Send-clause-started
returns-in-Send-clause-started g c = rw c.in-Send.is c.send_job-in-Send.ensures.ended.started

pub returns-in-Send-clause-status : goal.returns-in-Send-clause-status
returns-in-Send-clause-status g c = rw c.in-Send.is c.send_job-in-Send.ensures.ended.status

pub returns-in-Send-clause-done : goal.returns-in-Send-clause-done
returns-in-Send-clause-done g c = rw c.in-Send.is c.send_job-in-Send.ensures.ended.sent

pub returns-in-Send-clause-refused : goal.returns-in-Send-clause-refused
returns-in-Send-clause-refused g c = rw c.in-Send.is c.send_job-in-Send.ensures.ended.refused

pub returns-in-Send-clause-phase : goal.returns-in-Send-clause-phase
returns-in-Send-clause-phase g c = rw c.in-Send.is c.send_job-in-Send.ensures.ended.phase

pub returns-in-Send-clause-unwritten : goal.returns-in-Send-clause-unwritten
returns-in-Send-clause-unwritten g c = noted_too c.send_job-in-Send.result _ c.send_job-in-Send.ensures.ended.unwritten

pub returns-in-Loop-clause-noted : goal.returns-in-Loop-clause-noted
returns-in-Loop-clause-noted g c = rw c.in-Loop.is c.send_job.ensures.noted

pub returns-in-Send-clause-noted : goal.returns-in-Send-clause-noted
returns-in-Send-clause-noted g c = rw c.in-Send.is c.send_job-in-Send.ensures.noted

pub returns-in-Resume-clause-noted : goal.returns-in-Resume-clause-noted
returns-in-Resume-clause-noted g c = rw c.in-Resume.is c.resume_job.ensures.noted

pub returns-in-Resume-clause-started : goal.returns-in-Resume-clause-started
returns-in-Resume-clause-started g c = rw c.in-Resume.is c.resume_job.ensures.started

pub returns-in-Resume-clause-status : goal.returns-in-Resume-clause-status
returns-in-Resume-clause-status g c = rw c.in-Resume.is c.resume_job.ensures.status

pub returns-in-Resume-clause-done : goal.returns-in-Resume-clause-done
returns-in-Resume-clause-done g c = rw c.in-Resume.is c.resume_job.ensures.resumed

pub returns-in-Resume-clause-refused : goal.returns-in-Resume-clause-refused
returns-in-Resume-clause-refused g c = rw c.in-Resume.is c.resume_job.ensures.refused

pub returns-in-Resume-clause-phase : goal.returns-in-Resume-clause-phase
returns-in-Resume-clause-phase g c = rw c.in-Resume.is c.resume_job.ensures.phase

pub returns-in-Resume-clause-unwritten : goal.returns-in-Resume-clause-unwritten
returns-in-Resume-clause-unwritten g c = noted_too c.resume_job.result _ c.resume_job.ensures.unwritten

pub returns-in-Stop-clause-noted : goal.returns-in-Stop-clause-noted
returns-in-Stop-clause-noted g c = rw c.in-Stop.is c.stop_job.ensures.stopped

pub returns-in-TopUp-clause-done : goal.returns-in-TopUp-clause-done
returns-in-TopUp-clause-done g c = rw c.in-TopUp.is (with_kind c.topup_job.result _ _ c.topup_job.ensures.kind c.topup_job.ensures.booked)

pub returns-in-TopUp-clause-unwritten : goal.returns-in-TopUp-clause-unwritten
returns-in-TopUp-clause-unwritten g c = quiet_too c.topup_job.result _ c.topup_job.ensures.unwritten

pub returns-in-Balance-clause-unwritten : goal.returns-in-Balance-clause-unwritten
returns-in-Balance-clause-unwritten g c = quiet_too c.balance_job.result _ c.balance_job.ensures.unwritten

pub returns-in-Settle-clause-unwritten : goal.returns-in-Settle-clause-unwritten
returns-in-Settle-clause-unwritten g c = quiet_too c.settle_job.result _ c.settle_job.ensures.unwritten

pub returns-in-Decide-clause-unwritten : goal.returns-in-Decide-clause-unwritten
returns-in-Decide-clause-unwritten g c = quiet_too c.decide_job.result _ c.decide_job.ensures.unwritten

pub returns-in-Delivered-clause-unwritten : goal.returns-in-Delivered-clause-unwritten
returns-in-Delivered-clause-unwritten g c = quiet_too c.delivered_job.result _ c.delivered_job.ensures.unwritten

pub returns-in-SendOn-clause-started : goal.returns-in-SendOn-clause-started
returns-in-SendOn-clause-started g c = rw c.in-SendOn.is c.ledger_send_job.ensures.started

pub returns-in-SendOn-clause-status : goal.returns-in-SendOn-clause-status
returns-in-SendOn-clause-status g c = rw c.in-SendOn.is c.ledger_send_job.ensures.status

pub returns-in-SendOn-clause-done : goal.returns-in-SendOn-clause-done
returns-in-SendOn-clause-done g c = rw c.in-SendOn.is (with_kind c.ledger_send_job.result _ _ c.ledger_send_job.ensures.kind c.ledger_send_job.ensures.sent)

pub returns-in-SendOn-clause-refused : goal.returns-in-SendOn-clause-refused
returns-in-SendOn-clause-refused g c =
    rw c.in-SendOn.is (in_phase c.ledger_send_job.result c.ledger_send_job.new.start.begun
    (λ begun fault. FailsSendOn (g.R.JournalFiles.makes c.args.rt.now) (g.R.JournalFiles.refuses c.args.rt.now) (g.R.JournalFiles.holds c.args.rt.now) (sees c.in-SendOn.order.refs (g.R.InputFiles.finds c.args.rt.now)) (g.R.Connects.tells c.args.rt.now) c.in-SendOn.kind (g.R.LedgerFiles.holds_ledger c.args.rt.now) (g.R.LedgerFiles.lacks_ledger c.args.rt.now)
    g.R.LedgerFile.HeldFile.errs g.R.LedgerFile.HeldFile.octets g.R.LedgerFile.HeldFile.stored g.R.LedgerFile.HeldFile.opening g.R.LedgerFile.HeldFile.is_closed (string_bytes c.in-SendOn.ledger) c.in-SendOn.order begun
    (g.W.Write.contents c.args.output.now) (g.W.Write.contents c.ledger_send_job.new.output) fault)
    c.ledger_send_job.ensures.phase c.ledger_send_job.ensures.refused)

pub returns-in-SendOn-clause-phase : goal.returns-in-SendOn-clause-phase
returns-in-SendOn-clause-phase g c = rw c.in-SendOn.is c.ledger_send_job.ensures.phase

pub returns-in-SendOn-clause-unwritten : goal.returns-in-SendOn-clause-unwritten
returns-in-SendOn-clause-unwritten g c = c.ledger_send_job.ensures.unwritten

pub returns-in-ResumeOn-clause-started : goal.returns-in-ResumeOn-clause-started
returns-in-ResumeOn-clause-started g c = rw c.in-ResumeOn.is c.ledger_resume_job.ensures.started

pub returns-in-ResumeOn-clause-status : goal.returns-in-ResumeOn-clause-status
returns-in-ResumeOn-clause-status g c = rw c.in-ResumeOn.is c.ledger_resume_job.ensures.status

pub returns-in-ResumeOn-clause-done : goal.returns-in-ResumeOn-clause-done
returns-in-ResumeOn-clause-done g c = rw c.in-ResumeOn.is c.ledger_resume_job.ensures.resumed

pub returns-in-ResumeOn-clause-refused : goal.returns-in-ResumeOn-clause-refused
returns-in-ResumeOn-clause-refused g c = rw c.in-ResumeOn.is c.ledger_resume_job.ensures.refused

pub returns-in-ResumeOn-clause-phase : goal.returns-in-ResumeOn-clause-phase
returns-in-ResumeOn-clause-phase g c = rw c.in-ResumeOn.is c.ledger_resume_job.ensures.phase

pub returns-in-ResumeOn-clause-unwritten : goal.returns-in-ResumeOn-clause-unwritten
returns-in-ResumeOn-clause-unwritten g c = c.ledger_resume_job.ensures.unwritten
