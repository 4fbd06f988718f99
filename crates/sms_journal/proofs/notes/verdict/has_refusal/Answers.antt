use Rattle.std.proofs.Common.{◌∙◌, sym}
use Rattle.sms_journal.proofs.Verdicts.{no_refusal, refusal_yes, yes_refusal}
use Rattle.sms_journal.proofs.notes.verdict.has_refusal.Goals as goal

pub returns-in-Some : goal.returns-in-Some
returns-in-Some c =
    let at = c.in-Some.is in (
      (λ yes. refusal_yes c.args.rules.now c.args.size c.args.messages.now c.args.index c.args.refusal c.in_ok-found.found c.in-Some.verdict c.in_ok-found.ensures at (sym c.allows.ensures ∙ yes)),
      (λ has. c.allows.ensures ∙ yes_refusal c.args.rules.now c.args.size c.args.messages.now c.args.index c.args.refusal c.in_ok-found.found c.in-Some.verdict c.in_ok-found.ensures at has),
    )

pub returns-in-None : goal.returns-in-None
returns-in-None c = (
  (λ yes. absurd (cc)),
  (λ has. absurd (no_refusal c.args.rules.now c.args.size c.args.messages.now c.args.index c.args.refusal c.in_ok-found.found c.in_ok-found.ensures c.in-None.is has)),
)
