use Rattle.std.proofs.Common.{sym, ◌∙◌}
use Rattle.sms_alphabet.proofs.Readings.{begins_not_empty, begins_basic, begins_escape, begins_escaped, empty_rest}
use Rattle.sms_alphabet.proofs.reading.first_character.Goals as goal

pub returns-in_err-first-clause-none : goal.returns-in_err-first-clause-none
returns-in_err-first-clause-none c = rw c.from_residual.ensures (begins_not_empty c.args.codes.now c.in_err-first.ensures.cases)

pub returns-in_err-basic_character-clause-none : goal.returns-in_err-basic_character-clause-none
returns-in_err-basic_character-clause-none c =
    rw (c.from_residual-in_err-basic_character.ensures, c.in_ok-first.ensures.cases.0)
    (begins_basic c.in_ok-first.first.now c.in_ok-first.rest.now (λ same. c.if-first-from.true (same ∙ sym c.from.ensures)) c.in_err-basic_character.ensures)

pub returns-in_err-second-clause-none : goal.returns-in_err-second-clause-none
returns-in_err-second-clause-none c =
    let first = c.if-first-from.false ∙ c.from.ensures in
    let none = empty_rest c.in_ok-first.rest.now c.in_err-second.ensures.cases in
    rw (c.from_residual-in_err-second.ensures, c.in_ok-first.ensures.cases.0, first, none) begins_escape

pub returns-in_err-extension_character-clause-none : goal.returns-in_err-extension_character-clause-none
returns-in_err-extension_character-clause-none c =
    let first = c.if-first-from.false ∙ c.from.ensures in
    rw (c.from_residual-in_err-extension_character.ensures, c.in_ok-first.ensures.cases.0, first, c.in_ok-second.ensures.cases.0)
    (begins_escaped c.in_ok-second.second.now c.in_ok-second.rest.now c.in_err-extension_character.ensures)
