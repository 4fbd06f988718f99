use Rattle.std.proofs.Common.{ap, sym, List, ℕ, ◌++◌, ◌∙◌, rules}
use Rattle.std.specs.Prelude.{string_bytes}
use Rattle.std.proofs.lemmas.List.{append-nil}
use Rattle.sms_files.proofs.RowTexts.{rows_end}
use Rattle.sms_files.proofs.report.report.write_rows.Goals as goal

pub returns : goal.returns
returns c =
    let ended = rows_end c.args.openings.now c.args.rows.now c.loop-place.place (search rules) in
    sym (append-nil (string_bytes c.loop-place.text)) ∙ ap (λ (t : List ℕ). string_bytes c.loop-place.text ++ t) (sym ended) ∙ c.loop-place.invariant
