use Rattle.std.proofs.Common.{◌≡◌, ◌∙◌, sym, refl, ap, Some, None}
use Rattle.std.specs.Prelude.{option_map}
use Rattle.clap.specs.Words.{found_of}
use Rattle.clap.proofs.WalkLemmas.{first_value-rows}
use Rattle.sms_send.specs.Numbers.{number_of}
use Rattle.sms_send.proofs.args.values.number_given.Goals as goal

pub returns-in-Some : goal.returns-in-Some
returns-in-Some c =
    let some : option_map (λ s. s.now) c.get_str.result ≡ Some c.in-Some.text.now = rw c.in-Some.is refl in
    c.number_in.ensures ∙ ap (number_of c.args.most) (sym some ∙ c.get_str.ensures ∙ first_value-rows (found_of c.args.matches.now) c.args.word.now)

pub returns-in-None : goal.returns-in-None
returns-in-None c =
    let none : option_map (λ s. s.now) c.get_str.result ≡ None = rw c.in-None.is refl in
    ap (number_of c.args.most) (sym none ∙ c.get_str.ensures ∙ first_value-rows (found_of c.args.matches.now) c.args.word.now)
