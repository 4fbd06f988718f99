-- The laws of coded texts, by coding.
use Rattle.std.proofs.Common.{◌≡◌, ℕ, ◌<◌, ◌^◌, List, Option, None, Some, refl, sym, ap, subst, ◌∙◌, chars, encode_utf8_all, IsUtf8}
use Rattle.std.proofs.lemmas.Str.{scalars-chars, encodes-chars}
use Rattle.std.specs.List.{All}
use Rattle.sms_alphabet.specs.declared.coded.Coding.{Coding}
use Rattle.sms_alphabet.specs.declared.coded.Coding.TheVariants.{Gsm, Ucs2}
use Rattle.sms_alphabet.specs.declared.coded.Coded.{Coded}
use Rattle.sms_alphabet.specs.Spelling.{IsText, Spells, IsLawful, spelling, chosen, chosen_from, gsm_spelling, ucs2_spelling}
use Rattle.sms_alphabet.proofs.Codes.{same_gsm_text}
use Rattle.sms_alphabet.proofs.Surrogates.{same_ucs2_text}
use Rattle.sms_alphabet.proofs.Ranges.{gsm_units_fit, ucs2_units_fit}

one_text_in : (coding : Coding) (units text other : List ℕ) → IsText text → IsText other → spelling coding text ≡ Some units
    → spelling coding other ≡ Some units → text ≡ other
one_text_in Gsm units text other is is_too spelled spelled_too = same_gsm_text text other units spelled spelled_too
one_text_in Ucs2 units text other is is_too spelled spelled_too =
    let same : ucs2_spelling text ≡ ucs2_spelling other = cc in
    same_ucs2_text text other is is_too same

pub one_text : (coded : Coded) (text other : List ℕ) → IsText text → IsText other → Spells coded text → Spells coded other → text ≡ other
one_text coded text other is is_too spelled spelled_too = one_text_in coded.coding coded.units text other is is_too spelled spelled_too

chosen_spells_from : (text : List ℕ) (found : Option (List ℕ)) → gsm_spelling text ≡ found → Spells (chosen_from found text) text
chosen_spells_from text (Some codes) is = is
chosen_spells_from text None is = refl

pub chosen_spells : (text : List ℕ) → Spells (chosen text) text
chosen_spells text = chosen_spells_from text (gsm_spelling text) refl

pub comes_back : (text back : List ℕ) → IsUtf8 text → IsUtf8 back → Spells (chosen (chars text)) (chars back) → back ≡ text
comes_back text back utf8 back_utf8 spelled =
    let same = one_text (chosen (chars text)) (chars back) (chars text) (scalars-chars back back_utf8) (scalars-chars text utf8)
    spelled (chosen_spells (chars text)) in
    sym (encodes-chars back back_utf8) ∙ ap encode_utf8_all same ∙ encodes-chars text utf8

units_fit_in : (coding : Coding) (units text : List ℕ) → IsText text → spelling coding text ≡ Some units
    → (coding ≡ Gsm → All (λ unit. unit < 128) units) × (coding ≡ Ucs2 → All (λ unit. unit < 2 ^ 16) units)
units_fit_in Gsm units text is spelled = (λ _. gsm_units_fit text units spelled, λ other. cc)
units_fit_in Ucs2 units text is spelled =
    let same : ucs2_spelling text ≡ units = cc in
    (λ other. cc, λ _. subst (λ (l : List ℕ). All (λ unit. unit < 2 ^ 16) l) same (ucs2_units_fit text is))

pub units_fit : (coded : Coded) → IsLawful coded
    → (coded.coding ≡ Gsm → All (λ unit. unit < 128) coded.units) × (coded.coding ≡ Ucs2 → All (λ unit. unit < 2 ^ 16) coded.units)
units_fit coded lawful = units_fit_in coded.coding coded.units lawful.text lawful.is_text lawful.spells
