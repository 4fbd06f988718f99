use Rattle.std.proofs.Common.{map, string_bytes}
use Rattle.sms_centre.specs.Texts.{IsFirstBad}
use Rattle.sms_files.proofs.GoodTexts.{answers_bad}
use Rattle.sms_files.proofs.config.script.are_answers.Goals as goal

pub returns-in-Some : goal.returns-in-Some
returns-in-Some c =
    let bad : IsFirstBad (map string_bytes c.args.texts.now) c.in-Some._place = rw c.in-Some.is at c.in_ok-_place.ensures.some in
    answers_bad (map string_bytes c.args.texts.now) c.in-Some._place bad
