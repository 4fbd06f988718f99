use Rattle.std.proofs.Common.{◌≡◌, ◌≢◌, List, ℕ, [], true, map, string_bytes, codes, Some, sym, ap, ◌∙◌, rules}
use Rattle.toml.specs.Data.{Members, get_member}
use Rattle.toml.specs.View.{table_view}
use Rattle.sms_centre.specs.Keys.{AreKeys, all_known, texts_in, status_in}
use Rattle.sms_centre.proofs.SaidTexts.{map_none, key_or_answer}
use Rattle.sms_centre.proofs.script.Script.read.Goals as goal

pub returns-clause-answer : goal.returns-clause-answer
returns-clause-answer c = λ place e.
    let t : Members = table_view c.in-Ok.table in
    let texts : List (List ℕ) = map string_bytes c.as_slice.result.now in
    let known : all_known t ≡ true = sym c.knows_all.ensures ∙ c.if-not-knows_all.false in
    let found : texts_in (get_member (codes "answers") t) ≡ Some (map string_bytes c.in-Ok-Some.answers.items) = search rules in
    let answers : texts_in (get_member (codes "answers") t) ≡ Some texts = found ∙ ap (λ l. Some (map string_bytes l)) (sym c.as_slice.ensures.value) in
    let some : texts ≢ [] = λ none. key_or_answer (c.of.ensures.empty.1 (map_none string_bytes c.as_slice.result.now none)) e in
    let status : status_in (get_member (codes "bind_status") t) ≡ Some c.in-Some.bind_status = search rules in
    let keys : AreKeys t c.in-Some.bind_status texts = record { bind_status = status; answers = answers; known = known; some = some } in
    (t, search rules, c.in-Some.bind_status, texts, keys, c.of.ensures.answer place e)
