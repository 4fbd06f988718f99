use Rattle.std.proofs.Common.{◌≡◌, map, string_bytes, rules, true}
use Rattle.sms_files.specs.Config.{are_answers}
use Rattle.sms_files.proofs.GoodTexts.{none_bad}
use Rattle.sms_files.proofs.config.config_value.texts_value.Goals as goal

pub returns-in-None : goal.returns-in-None
returns-in-None c =
    let good : are_answers (map string_bytes c.args.texts.now) ≡ true = search rules in
    λ place. none_bad (map string_bytes c.args.texts.now) good place
