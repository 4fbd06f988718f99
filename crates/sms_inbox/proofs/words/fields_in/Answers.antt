use Rattle.std.proofs.Common.{◌≡◌, ◌∷◌, [], ◌∙◌, rules}
use Rattle.sms_inbox.specs.Words.{words}
use Rattle.sms_inbox.proofs.Splits.{said_behind}
use Rattle.sms_inbox.proofs.words.fields_in.Goals as goal

pub returns-in_default-rest-clause-err : goal.returns-in_default-rest-clause-err
returns-in_default-rest-clause-err c =
    let cut : words c.loop-seen.left.now ≡ c.cut_word.result.0.now ∷ [] = search rules in
    let said = said_behind c.loop-seen.found c.in-Some.seen c.cut_word.result.0.now c.args.text.now _ _ c.loop-seen.invariant cut c.in-Some.ensures in
    c.fields-in_default-rest.ensures.err ∙ said.err

pub loop-seen-preserved : goal.loop-seen-preserved
loop-seen-preserved c =
    let cut : words c.loop-seen.left.now ≡ c.cut_word.result.0.now ∷ words c.in-Some-rest.behind.now = search rules in
    said_behind c.loop-seen.found c.in-Some.seen c.cut_word.result.0.now c.args.text.now _ _ c.loop-seen.invariant cut c.in-Some.ensures
