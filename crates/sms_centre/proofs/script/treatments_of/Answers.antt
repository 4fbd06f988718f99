use Rattle.std.proofs.Common.{◌≡◌, ◌<◌, ◌++◌, ◌∷◌, [], List, length, map, take, ◌+◌, get_or, Some, sym, ap, ◌∙◌, subst, rules, string_bytes}
use Rattle.std.proofs.lemmas.List.{get_or-map}
use Rattle.sms_centre.specs.declared.treatment.Treatment.{Treatment}
use Rattle.sms_centre.specs.Texts.{SayAll, treatment_of}
use Rattle.sms_centre.proofs.SaidTexts.{say_more, texts_long}
use Rattle.sms_centre.proofs.script.treatments_of.Goals as goal

pub loop-place-preserved : goal.loop-place-preserved
loop-place-preserved c =
    let xs = c.args.answers.now in
    let i = c.loop-place.place in
    let t = c.in-Some.treatment in
    let low : i < length xs = search rules in
    let low_too : i < length (map string_bytes xs) = texts_long string_bytes xs i low in
    let says : Some t ≡ treatment_of (string_bytes c.index-answers-place.result) = search rules in
    let at : get_or (map string_bytes xs) i [] ≡ string_bytes c.index-answers-place.result = get_or-map string_bytes xs i c.index-answers-place.result [] low ∙ ap string_bytes (sym c.index-answers-place.is) in
    let items : c.push.new.self.items ≡ c.loop-place.treatments.items ++ t ∷ [] = search rules in
    subst (λ (l : List Treatment). SayAll (take (i + 1) (map string_bytes xs)) l) (sym items) (say_more (map string_bytes xs) c.loop-place.treatments.items i t low_too c.loop-place.invariant (says ∙ ap treatment_of (sym at)))
