use Rattle.std.proofs.Common.{◌≡◌, ◌<◌, ◌∙◌, [], ap, arith, get_or, length, map, refl, string_bytes, sym}
use Rattle.std.proofs.lemmas.List.{get_or-map, length-map}
use Rattle.sms_files.specs.SubmitFields.{few_parameters}
use Rattle.std.specs.Prelude.{option_and_then}
use Rattle.sms_files.proofs.ParameterTexts.{bad_there}
use Rattle.sms_files.proofs.fields.parameters.bad_text.Goals as goal

pub returns : goal.returns
returns c =
    let xs = c.args.texts.now in
    let i = c.args.place in
    let low : i < length xs = omega (arith, c.requires.there, length-map xs string_bytes) in
    let at : get_or (map string_bytes xs) i [] ≡ string_bytes c.index-texts-place.result = get_or-map string_bytes xs i c.index-texts-place.result [] low ∙ ap string_bytes (sym c.index-texts-place.is) in (
      ap (λ o. option_and_then few_parameters o) (bad_there (map string_bytes xs) i c.requires.there c.requires.bad),
      (i, refl, c.requires, c.in_ok-text.ensures.ok ∙ c.as_str.ensures.value ∙ sym at),
    )
