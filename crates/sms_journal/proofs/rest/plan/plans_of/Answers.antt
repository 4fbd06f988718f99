use Rattle.std.proofs.Common.{◌≡◌, ◌+◌, ◌++◌, ◌∷◌, List, [], take, subst, sym, arith, rules}
use Rattle.std.specs.List.{AllZip}
use Rattle.sms_journal.specs.Plans.{IsPlan}
use Rattle.sms_journal.specs.declared.rest.plan.Plan.{Plan}
use Rattle.sms_journal.proofs.Lists.{zip_more}
use Rattle.sms_journal.proofs.Plans.{zip_all}
use Rattle.sms_journal.proofs.rest.plan.plans_of.Goals as goal

pub loop-message-preserved : goal.loop-message-preserved
loop-message-preserved c =
    let is = IsPlan c.args.long c.args.tariff.now c.args.accounts in
    let messages = c.args.messages.now in
    let k = c.loop-message.message-index in
    let grows : c.push.new.list.items ≡ c.loop-message.plans.items ++ c.in_ok-plan.plan ∷ [] = search rules in
    subst (λ (plans : List Plan). AllZip is (take (k + 1) messages) plans) (sym grows)
    (zip_more is messages c.loop-message.plans.items k c.message-item.result c.in_ok-plan.plan (omega arith) c.message-item.is c.loop-message.invariant c.in_ok-plan.ensures)

pub returns : goal.returns
returns c = zip_all (IsPlan c.args.long c.args.tariff.now c.args.accounts) c.args.messages.now c.loop-message.plans.items c.loop-message.message-index (omega arith) c.loop-message.invariant
