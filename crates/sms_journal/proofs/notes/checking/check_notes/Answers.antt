use Rattle.std.proofs.Common.{List, ℕ, subst}
use Rattle.std.specs.Prelude.{OnOk}
use Rattle.sms_journal.specs.Lawful.{IsFirstOff, IsRound}
use Rattle.sms_journal.proofs.notes.checking.check_notes.Goals as goal

pub returns-clause-lawful : goal.returns-clause-lawful
returns-clause-lawful c = subst (λ (given : List ℕ). OnOk c.check_round.result (IsRound c.args.rules.now c.args.size c.args.messages.now given c.args.notes.now)) c.in_ok-given.ensures.all c.check_round.ensures.lawful

pub returns-clause-faulty : goal.returns-clause-faulty
returns-clause-faulty c = λ k is. subst (λ (given : List ℕ). IsFirstOff c.args.rules.now c.args.size c.args.messages.now given c.args.notes.now k) c.in_ok-given.ensures.all (c.check_round.ensures.faulty k is)
