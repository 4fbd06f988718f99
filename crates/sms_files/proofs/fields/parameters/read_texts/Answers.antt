use Rattle.std.proofs.Common.{◌≡◌, ◌<◌, ◌++◌, ◌∷◌, ◌+◌, ◌∙◌, [], List, Some, ap, arith, get_or, length, map, rules, string_bytes, subst, sym, take}
use Rattle.std.proofs.lemmas.List.{get_or-map, length-map}
use Rattle.sms_pdu.specs.declared.parameter.Parameter.{Parameter}
use Rattle.sms_files.specs.Parameters.{parameter_of, parameters_of}
use Rattle.sms_files.proofs.ParameterTexts.{next_text}
use Rattle.sms_files.proofs.fields.parameters.read_texts.Goals as goal

pub loop-place-preserved : goal.loop-place-preserved
loop-place-preserved c =
    let xs = c.args.texts.now in
    let i = c.loop-place.place in
    let p = c.in-Some.parameter in
    let low : i < length xs = search rules in
    let at : get_or (map string_bytes xs) i [] ≡ string_bytes c.index-texts-place.result = get_or-map string_bytes xs i c.index-texts-place.result [] low ∙ ap string_bytes (sym c.index-texts-place.is) in
    let says : parameter_of (string_bytes c.index-texts-place.result) ≡ Some p = search rules in
    let items : c.push.new.list.items ≡ c.loop-place.parameters.items ++ p ∷ [] = search rules in
    subst (λ (l : List Parameter). parameters_of (take (i + 1) (map string_bytes xs)) ≡ Some l) (sym items)
    (next_text (map string_bytes xs) i c.loop-place.parameters.items p (omega (arith, low, length-map xs string_bytes)) c.loop-place.invariant (ap parameter_of at ∙ says))
