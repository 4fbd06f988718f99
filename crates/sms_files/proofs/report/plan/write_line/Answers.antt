use Rattle.std.proofs.Common.{ap, List, ℕ, ◌++◌, ◌∙◌}
use Rattle.std.specs.Prelude.{string_bytes}
use Rattle.std.specs.Str.{chars}
use Rattle.std.proofs.lemmas.Result.{on_ok_weaker}
use Rattle.sms_alphabet.specs.Spelling.{chosen}
use Rattle.sms_alphabet.specs.declared.coded.Coded.{Coded}
use Rattle.sms_files.specs.PlanText.{coded_line, text_line}
use Rattle.sms_files.proofs.report.plan.write_line.Goals as goal

pub returns : goal.returns
unfolding text_line
returns c =
    let same = c.in_ok-coded.ensures.chosen ∙ ap (λ (t : List ℕ). chosen (chars t)) c.as_str.ensures.value in
    on_ok_weaker c.write_coded.result (λ h. h ∙ ap (λ (k : Coded). string_bytes c.args.text.now ++ coded_line c.args.reference c.args.index k) same) c.write_coded.ensures
