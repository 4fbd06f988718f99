use Rattle.std.proofs.Common.{◌≡◌, ◌↔◌, IsNone, subst, rules}
use Rattle.sms_alphabet.specs.declared.coded.Coded.{Coded}
use Rattle.sms_segment.specs.declared.place.Reference.{Reference}
use Rattle.sms_segment.specs.Message.{IsTooLong}
use Rattle.sms_message.specs.Submits.{coded_text}
use Rattle.sms_message.proofs.admission.part_count.Goals as goal

pub returns-clause-none : goal.returns-clause-none
returns-clause-none c =
    let text : c.in_ok-text.text ≡ coded_text c.args.message.now = search rules in
    subst (λ (r : Reference). IsNone c.parts_in.result ↔ IsTooLong (coded_text c.args.message.now) r) c.reference_for.ensures
    (subst (λ (t : Coded). IsNone c.parts_in.result ↔ IsTooLong t c.reference_for.result) text c.parts_in.ensures.none)
