use Rattle.std.proofs.Common.{rules, ◌≡◌, ◌∙◌, ap, sym, Some, length, ◌-◌}
use Rattle.std.specs.Prelude.{Option, slice_get, if◌then◌else◌}
use Rattle.sms_core.specs.Replies.{outcome_of_last}
use Rattle.sms_core.specs.declared.request.Phase.TheVariants.{Charged, Refused}
use Rattle.sms_pdu.specs.declared.reply.Reply.{Reply}
use Rattle.sms_message.specs.Results.{read_reply}
use Rattle.sms_journal.proofs.Outcomes.{outcome_last}
use Rattle.sms_journal.proofs.notes.ends.outcome.Goals as goal

pub returns-in-None-reply : goal.returns-in-None-reply
returns-in-None-reply c =
    let there : slice_get c.args.attempts.now (length c.args.attempts.now - 1) ≡ Some c.in-Some.last.now = search rules in
    outcome_last c.args.attempts.now c.in-Some.last.now there ∙ ap (λ (r : Option Reply). outcome_of_last (read_reply r)) c.in-None-reply.is

pub returns-then-is_charge : goal.returns-then-is_charge
returns-then-is_charge c =
    let there : slice_get c.args.attempts.now (length c.args.attempts.now - 1) ≡ Some c.in-Some.last.now = search rules in
    outcome_last c.args.attempts.now c.in-Some.last.now there ∙ ap (λ (r : Option Reply). outcome_of_last (read_reply r)) c.in-Some-reply.is
    ∙ ap (λ b. if b then Charged else Refused) (sym c.is_charge.ensures ∙ c.if-is_charge.true)

pub returns-else-is_charge : goal.returns-else-is_charge
returns-else-is_charge c =
    let there : slice_get c.args.attempts.now (length c.args.attempts.now - 1) ≡ Some c.in-Some.last.now = search rules in
    outcome_last c.args.attempts.now c.in-Some.last.now there ∙ ap (λ (r : Option Reply). outcome_of_last (read_reply r)) c.in-Some-reply.is
    ∙ ap (λ b. if b then Charged else Refused) (sym c.is_charge.ensures ∙ c.if-is_charge.false)
