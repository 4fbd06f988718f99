-- What work that is sent in one round, or in as many as it takes, comes to.
use Rattle.std.proofs.Common.{ℕ, Some, None, Result, Ok, Err, IfErr, IfOk, subst, sym}
use Rattle.sms_files.specs.Inputs.{Told}
use Rattle.sms_files.specs.declared.input.Input.{Input}
use Rattle.sms_driver.specs.declared.start.StartPhase.{StartPhase}
use Rattle.sms_send.specs.Rounds.{IsRun}
use Rattle.sms_send.specs.Sent.{FailsDriving, FailsWork, IsWholeOf, IsWorkDone}
use Rattle.sms_send.specs.declared.args.send_args.Again.{Again}
use Rattle.sms_send.specs.declared.faults.fault.Fault.{Fault}
use Rattle.sms_send.specs.declared.sending.sender.Ended.{Ended}
use Rattle.sms_send.specs.declared.sending.work.SentWork.{SentWork}
use Rattle.sms_send.specs.declared.sending.work.Work.TheVariants.{All}
use Rattle.sms_send.proofs.Sendings.{of_the_first}

-- the work failed by what its only round failed by
pub fails_once : (refuses : ℕ → ℕ → Type 0) (tells : ℕ → ℕ → Told) (input : Input) (begun : StartPhase) (sent : Result Ended Fault) (result : Result SentWork Fault) → IsWholeOf sent result
    → IfErr sent (FailsDriving (refuses 1) (tells 1) input.config begun) → IfErr result (FailsWork refuses tells None (All input) begun)
fails_once refuses tells input begun (Ok ended) result is why = subst (λ (r : Result SentWork Fault). IfErr r (FailsWork refuses tells None (All input) begun)) (sym is) tt
fails_once refuses tells input begun (Err fault) result is why =
    subst (λ (r : Result SentWork Fault). IfErr r (FailsWork refuses tells None (All input) begun)) (sym is)
    (of_the_first None 0 (λ round. FailsDriving (refuses round) (tells round) input.config begun fault) why)

-- all was sent in rounds
pub sends_rounds : (tells : ℕ → ℕ → Told) (again : Again) (input : Input) (sent : Result Ended Fault) (result : Result SentWork Fault) → IsWholeOf sent result
    → IfOk sent (IsRun tells again input) → IfOk result (IsWorkDone tells (Some again) (All input))
sends_rounds tells again input (Ok ended) result is run = subst (λ (r : Result SentWork Fault). IfOk r (IsWorkDone tells (Some again) (All input))) (sym is) run
sends_rounds tells again input (Err fault) result is run = subst (λ (r : Result SentWork Fault). IfOk r (IsWorkDone tells (Some again) (All input))) (sym is) tt
