use Rattle.std.proofs.Common.{◌≡◌, ◌∙◌, Ok, Err, sym, subst, rules}
use Rattle.sms_alphabet.specs.declared.coded.Coded.{Coded}
use Rattle.sms_segment.specs.Message.{IsTooLong, parts_of}
use Rattle.sms_segment.specs.declared.place.Reference.{Reference}
use Rattle.sms_segment.specs.declared.cutting.CutError.TheVariants.{TooLong}
use Rattle.sms_message.specs.Submits.{coded_text}
use Rattle.sms_message.proofs.admission.cut_message.Goals as goal

pub returns-in-Err-TooLong-clause-refused : goal.returns-in-Err-TooLong-clause-refused
returns-in-Err-TooLong-clause-refused c =
    let is : c.cut.result ≡ Err TooLong = cc in
    let text : c.in-Ok.text ≡ coded_text c.args.message.now = search rules in
    subst (λ (r : Reference). IsTooLong (coded_text c.args.message.now) r) c.reference_for.ensures
    (subst (λ (t : Coded). IsTooLong t c.reference_for.result) text (c.cut.ensures.too_long.0 is))

pub returns-in-Ok-cut-clause-parts : goal.returns-in-Ok-cut-clause-parts
returns-in-Ok-cut-clause-parts c =
    let text : c.in-Ok.text ≡ coded_text c.args.message.now = search rules in
    c.in-Ok-cut.ensures.exact ∙ (λ i. parts_of (text i) (c.reference_for.ensures i))

pub returns-in-Ok-cut-clause-septets : goal.returns-in-Ok-cut-clause-septets
returns-in-Ok-cut-clause-septets c = c.the_parts_have_septets.ensures c.in-Ok.text c.reference_for.result c.in-Ok-cut.parts.items c.in-Ok.ensures.lawful c.in-Ok-cut.ensures.full

pub returns-in-Ok-cut-clause-short : goal.returns-in-Ok-cut-clause-short
returns-in-Ok-cut-clause-short c long =
    let is : c.cut.result ≡ Ok c.in-Ok-cut.parts = cc in
    let text : c.in-Ok.text ≡ coded_text c.args.message.now = search rules in
    let here : IsTooLong (coded_text c.args.message.now) c.reference_for.result = subst (λ (r : Reference). IsTooLong (coded_text c.args.message.now) r) (sym c.reference_for.ensures) long in
    let refused = c.cut.ensures.too_long.1 (subst (λ (t : Coded). IsTooLong t c.reference_for.result) (sym text) here) in
    absurd (cc)
