use Rattle.std.proofs.Common.{rules, chars}
use Rattle.std.proofs.lemmas.Str.{scalars-chars}
use Rattle.sms_alphabet.proofs.spelling.choose.Goals as goal

pub returns-in_ok-units_of-in-Some-clause-lawful : goal.returns-in_ok-units_of-in-Some-clause-lawful
returns-in_ok-units_of-in-Some-clause-lawful c = record { text = chars c.args.text.now; is_text = scalars-chars _ c.utf8.text; spells = search rules }

pub returns-in_ok-ucs2-in-None-clause-lawful : goal.returns-in_ok-ucs2-in-None-clause-lawful
returns-in_ok-ucs2-in-None-clause-lawful c = record { text = chars c.args.text.now; is_text = scalars-chars _ c.utf8.text; spells = search rules }
