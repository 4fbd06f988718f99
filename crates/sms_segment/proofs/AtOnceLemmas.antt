-- The short message of a text that needs no more than one, and the parts of that text.
use Rattle.std.proofs.Common.{◌≡◌, ℕ, ◌<◌, ◌≤◌, ◌↔◌, List, [], ◌∷◌, length, Option, Some, None, IsSome, IfSome, refl, sym, ap, ◌∙◌, subst, arith, append-nil}
use Rattle.std.proofs.lemmas.Bool.{false≢true}
use Rattle.std.proofs.lemmas.List.Elements.{All-head}
use Rattle.std.specs.List.{concat}
use Rattle.sms_alphabet.specs.declared.coded.Coding.{Coding}
use Rattle.sms_alphabet.specs.declared.coded.Coding.TheVariants.{Gsm, Ucs2}
use Rattle.sms_alphabet.specs.declared.coded.Coded.{Coded}
use Rattle.sms_segment.specs.declared.at_once.ShortMessage.{ShortMessage}
use Rattle.sms_segment.specs.declared.place.Reference.{Reference}
use Rattle.sms_segment.specs.declared.place.Reference.TheVariants.{Short, Long}
use Rattle.sms_segment.specs.AtOnce.{IsShortMessageOf}
use Rattle.sms_segment.specs.Cutting.{IsCutting, size, full_cutting}
use Rattle.sms_segment.specs.Group.{groups}
use Rattle.sms_segment.specs.Limits.{single_limit, part_limit}
use Rattle.sms_segment.specs.Message.{parts_of, whole}
use Rattle.sms_segment.proofs.Filling.{Group}
use Rattle.sms_segment.proofs.Grouping.{concat-groups, short-groups}
use Rattle.sms_segment.proofs.Least.{cutting-full_cutting}
use Rattle.sms_segment.proofs.TextLemmas.{pair_fits, parts_of-short, text_parts-long, length-parts_of}

part_is_shorter : (reference : Reference) (coding : Coding) → part_limit reference coding ≤ single_limit coding
part_is_shorter (Short number) Gsm = omega arith
part_is_shorter (Short number) Ucs2 = omega arith
part_is_shorter (Long number) Gsm = omega arith
part_is_shorter (Long number) Ucs2 = omega arith

-- what is cut into one part is within the limit
one_part : (limit : ℕ) (all : List Group) (parts : List (List Group)) → IsCutting limit all parts → length parts ≤ 1 → length (concat all) ≤ limit
one_part limit all [] cut few = subst (λ (l : List Group). length (concat l) ≤ limit) cut.whole (omega arith)
one_part limit all (part ∷ []) cut few =
    subst (λ (l : List Group). length (concat l) ≤ limit) (sym (append-nil part) ∙ cut.whole)
    (All-head (λ p. size p ≤ limit) part [] cut.within)
one_part limit all (part ∷ next ∷ parts) cut few = absurd (omega (arith, few))

-- so a text that is too long for one part has several
several : (text : Coded) (reference : Reference) → single_limit text.coding < length text.units → length (parts_of text reference) ≡ 1 → ⊥
several text reference long one =
    let limit = part_limit reference text.coding in
    let parts = full_cutting limit (groups text.coding text.units) in
    let few : length parts ≤ 1 =
    (let count = length-parts_of text reference in let same = ap length (text_parts-long text reference long) in omega (arith, one)) in
    let cut = cutting-full_cutting _ _ (short-groups text.coding limit (pair_fits reference text.coding) text.units) in
    let within = one_part limit (groups text.coding text.units) parts cut few in
    let whole = ap length (concat-groups text.coding text.units) in
    let shorter = part_is_shorter reference text.coding in
    absurd (omega (arith, long))

pub one_exactly : (text : Coded) (found : Option ShortMessage) (reference : Reference) → IsShortMessageOf text found → IsSome found ↔ (length (parts_of text reference) ≡ 1)
one_exactly text None reference long = (λ some. absurd (false≢true some), λ one. absurd (several text reference long one))
one_exactly text (Some s) reference carries = (λ some. ap length (parts_of-short text reference carries.short), λ one. refl)

pub whole_exactly : (text : Coded) (found : Option ShortMessage) → IsShortMessageOf text found → IfSome found (λ s. (reference : Reference) → parts_of text reference ≡ whole text ∷ [])
whole_exactly text None long = tt
whole_exactly text (Some s) carries = λ reference. parts_of-short text reference carries.short
