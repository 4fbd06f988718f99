use Rattle.std.proofs.Common.{◌<◌, ◌+◌, ℕ, subst, sym}
use Rattle.sms_book.specs.Openings.{credits_of}
use Rattle.sms_send.proofs.RunCharges.{rest}
use Rattle.sms_send.proofs.laws.each_charge_of_a_run_rests_on_an_answer.Goals as goal

pub returns : goal.returns
returns c tells again input ended run binds workers =
    rest tells run.settings (subst (λ (n : ℕ). 0 < n) (sym run.are.binds) binds) (subst (λ (n : ℕ). 0 < n) (sym run.are.workers) workers)
    0 (again.most + 2) (credits_of input.openings.items) input.messages.items run.rounds ended.ends.items ended.statement run.numbered run.come
