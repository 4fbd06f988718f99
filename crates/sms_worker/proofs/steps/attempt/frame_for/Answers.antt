use Rattle.std.proofs.Common.{Result, Ok, Err, List, ℕ, refl, subst}
use Rattle.std.specs.Prelude.{IfOk}
use Rattle.sms_bind.proofs.Responses.{spelled_request}
use Rattle.sms_message.specs.Addresses.{IsDestination, IsSource, owned}
use Rattle.sms_message.specs.Submits.{submit_sm}
use Rattle.sms_pdu.specs.Grammar.{Spells}
use Rattle.sms_pdu.specs.declared.body.Sm.{Sm}
use Rattle.sms_pdu.specs.declared.body.Body.TheVariants.{Submit}
use Rattle.sms_worker.proofs.steps.attempt.frame_for.Goals as goal

-- what follows from what holds of a value
follows : {A E : Type 0} {P Q : A → Type 0} (r : Result A E) → ((a : A) → P a → Q a) → IfOk r P → IfOk r Q
follows (Ok a) f h = f a h
follows (Err e) f h = tt

pub returns-clause-request : goal.returns-clause-request
returns-clause-request c = follows c.frame_of.result (λ frame spelled. spelled_request _ frame spelled refl) c.frame_of.ensures.spelled

pub returns-clause-spelled : goal.returns-clause-spelled
returns-clause-spelled c = λ part content.
    let source = owned c.good_source-from.result in
    let dest = owned c.good_destination-to.result in
    let from = subst (λ (t : List ℕ). IsSource t source) c.as_str.ensures.value c.good_source-from.ensures in
    let to = subst (λ (t : List ℕ). IsDestination t dest) c.as_str-2.ensures.value c.good_destination-to.ensures in
    follows c.frame_of.result
    (λ frame spelled. (
      submit_sm c.args.rules.now source dest part c.args.number,
      record { source = source; dest = dest; from = from; to = to; is = refl },
      subst (λ (sm : Sm). Spells (record { status = 0; number = c.args.number; body = Submit sm }) frame) (c.submit_of-sm.ensures part content) spelled,
    ))
    c.frame_of.ensures.spelled
