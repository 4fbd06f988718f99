use Rattle.std.proofs.Common.{◌≡◌, ◌∷◌, [], List, ℕ, IfSome, chars, subst}
use Rattle.sms_alphabet.specs.Spelling.{chosen}
use Rattle.sms_segment.specs.declared.place.Reference.{Reference}
use Rattle.sms_segment.specs.Message.{parts_of, whole}
use Rattle.sms_message.specs.Submits.{coded_text}
use Rattle.sms_worker.proofs.Pending.{one_is_short}
use Rattle.sms_worker.proofs.steps.parts.pending_at_once.Goals as goal

pub returns-in-Ok-clause-short : goal.returns-in-Ok-clause-short
returns-in-Ok-clause-short c reference =
    let one : parts_of (coded_text c.args.message.now) reference ≡ whole (coded_text c.args.message.now) ∷ [] = subst (λ (octets : List ℕ). parts_of (chosen (chars octets)) reference ≡ whole (chosen (chars octets)) ∷ []) c.as_str.ensures.value (subst (λ found. IfSome found (λ s. (r : Reference) → parts_of (chosen (chars c.as_str.result.now)) r ≡ whole (chosen (chars c.as_str.result.now)) ∷ [])) c.in-Ok-Some.field-0-is c.in-Ok-Some.ensures.part reference) in
    one_is_short (coded_text c.args.message.now) reference c.the_parts_tell_what_is_too_long.ensures one
