use Rattle.std.proofs.Common.{◌∙◌, Option, sym, subst, ℕ, IfErr}
use Rattle.std.proofs.lemmas.Result.{IfOk-weaker}
use Rattle.std.specs.Prelude.{codes, is_some}
use Rattle.toml.specs.Data.{get_member}
use Rattle.toml.specs.View.{table_view}
use Rattle.sms_files.specs.Config.{fault_at}
use Rattle.sms_files.specs.ConfigFaults.{TellsKey}
use Rattle.sms_files.proofs.FieldKeys.{seconds_both, seconds_one}
use Rattle.sms_files.proofs.Keys.{told}
use Rattle.sms_files.proofs.fields.reading.seconds_at.Goals as goal

pub returns-then-has_both-clause-refused : goal.returns-then-has_both-clause-refused
returns-then-has_both-clause-refused c =
    let t = table_view c.args.table.now in
    told t (codes "validity_s") _ c.bad_key.result (seconds_both _ (get_member (codes "validity_s") t) (sym c.has_both.ensures ∙ c.if-has_both.true)) c.bad_key.ensures

pub returns-clause-seconds : goal.returns-clause-seconds
returns-clause-seconds c =
    let t = table_view c.args.table.now in
    let one = seconds_one (is_some (get_member (codes "validity") t)) (get_member (codes "validity_s") t) (sym c.has_both.ensures ∙ c.if-has_both.false) in
    IfOk-weaker c.number_if_at.result _ _ (λ seconds h. one ∙ h) c.number_if_at.ensures.number

pub returns-clause-refused : goal.returns-clause-refused
returns-clause-refused c =
    let t = table_view c.args.table.now in
    let one = seconds_one (is_some (get_member (codes "validity") t)) (get_member (codes "validity_s") t) (sym c.has_both.ensures ∙ c.if-has_both.false) in
    subst (λ (o : Option (Option ℕ)). IfErr c.number_if_at.result (TellsKey t (fault_at (codes "validity_s") o))) (sym one) c.number_if_at.ensures.refused
