use Rattle.std.proofs.Common.{Some, ap, ◌∙◌, chars}
use Rattle.sms_alphabet.specs.Spelling.{gsm_spelling}
use Rattle.sms_alphabet.proofs.Texts.{codable_as_found}
use Rattle.sms_alphabet.proofs.spelling.septets.Goals as goal

pub returns-in-Ok-clause-codable : goal.returns-in-Ok-clause-codable
returns-in-Ok-clause-codable c =
    codable_as_found (chars c.args.text.now) (Some c.in-Ok.codes.items) (c.in-Ok.ensures ∙ ap (λ l. gsm_spelling (chars l)) c.as_bytes-2.ensures.value)
