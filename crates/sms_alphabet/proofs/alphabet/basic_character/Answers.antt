use Rattle.std.proofs.Common.{arith}
use Rattle.sms_alphabet.proofs.Table.{single_code}
use Rattle.sms_alphabet.proofs.Lookups.{basic_code}
use Rattle.sms_alphabet.proofs.alphabet.basic_character.Goals as goal
use Rattle.sms_alphabet.proofs.alphabet.basic_character.Goals.{then-code-ge128-via-then-code-ge128, then-code-ge128-via-else-code-ge128+then-code}

pub returns-then-code-ge128 : goal.returns-then-code-ge128
returns-then-code-ge128 c = λ character is.
    let single = single_code character c.args.code is in
    elim c.then-code-ge128.branch [
      | then-code-ge128-via-then-code-ge128 w ↦ absurd (omega arith)
      | then-code-ge128-via-else-code-ge128+then-code w ↦ single.1 w.if-code.true
    ]

pub returns : goal.returns
returns c = basic_code c.args.code c.if-code-ge128.false c.if-code.false
