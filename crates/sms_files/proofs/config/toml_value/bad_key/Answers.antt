use Rattle.std.proofs.Common.{ap, sym, subst, ℕ, List, Some}
use Rattle.toml.specs.View.{table_view}
use Rattle.sms_files.specs.ConfigValues.{IsValueAt}
use Rattle.sms_files.proofs.config.toml_value.bad_key.Goals as goal

pub returns-in-Ok-text_of : goal.returns-in-Ok-text_of
returns-in-Ok-text_of c =
    let same = c.in-Ok-text_of.ensures.ok in
    (ap Some (sym same), subst (λ (k : List ℕ). IsValueAt k (table_view c.args.table.now) c.in-Ok.value) (sym same) c.in-Ok.ensures)
