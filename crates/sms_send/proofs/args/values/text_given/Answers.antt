use Rattle.std.proofs.Common.{rules, inr, refl, sym, ◌≡◌, ◌∙◌, None, Some}
use Rattle.std.specs.Prelude.{option_map, string_bytes}
use Rattle.clap.specs.Words.{found_of}
use Rattle.clap.proofs.WalkLemmas.{first_value-rows}
use Rattle.sms_send.proofs.args.values.text_given.Goals as goal

pub returns-in_ok-from_str-in-Some-clause-given : goal.returns-in_ok-from_str-in-Some-clause-given
returns-in_ok-from_str-in-Some-clause-given c =
    let some : option_map (λ s. s.now) c.get_str.result ≡ Some (string_bytes c.in_ok-from_str-in-Some.field-0) = search rules in
    sym (c.get_str.ensures ∙ first_value-rows (found_of c.args.matches.now) c.args.word.now) ∙ some

pub returns-in-None-clause-missing : goal.returns-in-None-clause-missing
returns-in-None-clause-missing c =
    let none : option_map (λ s. s.now) c.get_str.result ≡ None = rw c.in-None.is refl in
    inr ((_, refl), sym (c.get_str.ensures ∙ first_value-rows (found_of c.args.matches.now) c.args.word.now) ∙ none)
