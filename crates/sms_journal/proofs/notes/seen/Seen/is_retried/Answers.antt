use Rattle.std.proofs.Common.{◌≡◌, ℕ, Some, None, sym, ap, ◌∙◌, subst}
use Rattle.sms_journal.specs.DenseMap.{value_in}
use Rattle.sms_journal.specs.Lawful.{IsRetried}
use Rattle.sms_journal.specs.Recovered.{fate_of}
use Rattle.sms_journal.proofs.notes.seen.Seen.is_retried.Goals as goal

-- it is open, or was not sent
pub returns-in-None : goal.returns-in-None
returns-in-None c = λ rs size ms notes sees.
    let request = c.args.request in
    let fate : c.get_in.result ≡ fate_of notes request.worker request.number = c.get_in.ensures ∙ ap (λ (k : ℕ). value_in c.args.self.now.fates request.worker k) c.from.ensures ∙ sees.fates request.worker request.number in
    let is : fate_of notes request.worker request.number ≡ None = sym fate ∙ c.in-None.is in (
      (λ yes. absurd (cc)),
      (λ retried. absurd (subst IsRetried is retried)),
    )

pub returns-in-Some-None : goal.returns-in-Some-None
returns-in-Some-None c = λ rs size ms notes sees.
    let request = c.args.request in
    let fate : c.get_in.result ≡ fate_of notes request.worker request.number = c.get_in.ensures ∙ ap (λ (k : ℕ). value_in c.args.self.now.fates request.worker k) c.from.ensures ∙ sees.fates request.worker request.number in
    let is : fate_of notes request.worker request.number ≡ Some None = sym fate ∙ c.in-Some-None.is ∙ ap Some c.in-Some-None.field-0-is in (
      (λ yes. absurd (cc)),
      (λ retried. absurd (subst IsRetried is retried)),
    )

-- it was answered
pub returns-in-Some-Some : goal.returns-in-Some-Some
returns-in-Some-Some c = λ rs size ms notes sees.
    let request = c.args.request in
    let fate : c.get_in.result ≡ fate_of notes request.worker request.number = c.get_in.ensures ∙ ap (λ (k : ℕ). value_in c.args.self.now.fates request.worker k) c.from.ensures ∙ sees.fates request.worker request.number in
    let is : fate_of notes request.worker request.number ≡ Some (Some c.in-Some-Some.reply) = sym fate ∙ c.in-Some-Some.is ∙ ap Some c.in-Some-Some.field-0-is in (
      (λ yes. subst IsRetried (sym is) (sym c.is_retry.ensures ∙ yes)),
      (λ retried. c.is_retry.ensures ∙ subst IsRetried is retried),
    )
