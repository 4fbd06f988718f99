use Rattle.std.proofs.Common.{◌<◌, ◌+◌, ℕ, subst, sym}
use Rattle.sms_book.specs.Openings.{credits_of}
use Rattle.sms_send.specs.Rounds.{most_rounds}
use Rattle.sms_send.proofs.RunCharges.{rest}
use Rattle.sms_send.proofs.laws.each_charge_of_a_resumed_run_rests_on_an_answer.Goals as goal

pub returns : goal.returns
returns c tells again run resumed is binds workers =
    rest tells is.settings (subst (λ (n : ℕ). 0 < n) (sym is.are.binds) binds) (subst (λ (n : ℕ). 0 < n) (sym is.are.workers) workers)
    run.rounds (run.rounds + most_rounds again + 1) (credits_of is.free) is.given is.come.0 is.came.ends.items is.came.statement is.come.2 is.come.1
