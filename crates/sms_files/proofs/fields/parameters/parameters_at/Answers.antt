use Rattle.std.proofs.Common.{Some, ap, subst, sym}
use Rattle.std.specs.Prelude.{codes}
use Rattle.toml.specs.View.{table_view, view}
use Rattle.toml.proofs.Views.{table_get}
use Rattle.sms_files.specs.SubmitFields.{AreParametersAt, IsFoundFor, parameters_in}
use Rattle.sms_files.specs.declared.fields.parameters.Found.{Found}
use Rattle.sms_files.proofs.FieldKeys.{bad_tells}
use Rattle.sms_files.proofs.fields.parameters.parameters_at.Goals as goal

pub returns-in-None-clause-params : goal.returns-in-None-clause-params
returns-in-None-clause-params c =
    let found = table_get c.get.result (codes "parameters") c.args.table.now.entries c.get.ensures.value in
    rw (← rw c.in-None.is at found) (ap Some (sym c.none.ensures))

pub returns-in-Good-clause-params : goal.returns-in-Good-clause-params
returns-in-Good-clause-params c =
    let found = table_get c.get.result (codes "parameters") c.args.table.now.entries c.get.ensures.value in
    let d = view c.in-Some.value.now in
    let is = subst (λ (f : Found). IsFoundFor (parameters_in (Some d)) (AreParametersAt (Some d)) f) c.in-Good.is c.in_ok-params-in-Some.ensures in
    rw (← rw c.in-Some.is at found) is

pub returns-in-Bad-clause-refused : goal.returns-in-Bad-clause-refused
returns-in-Bad-clause-refused c =
    let found = table_get c.get.result (codes "parameters") c.args.table.now.entries c.get.ensures.value in
    let d = view c.in-Some.value.now in
    let is = subst (λ (f : Found). IsFoundFor (parameters_in (Some d)) (AreParametersAt (Some d)) f) c.in-Bad.is c.in_ok-params-in-Some.ensures in
    bad_tells (table_view c.args.table.now) (Some d) c.in-Bad.value c.bad_parameters.result (sym (rw c.in-Some.is at found)) is.0 is.1 c.bad_parameters.ensures
