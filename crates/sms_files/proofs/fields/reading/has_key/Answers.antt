use Rattle.std.proofs.Common.{ap, ◌∙◌, Option, Some, None, ◌≡◌, refl}
use Rattle.std.specs.Prelude.{is_some, option_map}
use Rattle.toml.proofs.Views.{table_get}
use Rattle.sms_files.proofs.fields.reading.has_key.Goals as goal

mapped : {A B : Type 0} (f : A → B) (o : Option A) → is_some o ≡ is_some (option_map f o)
mapped f None = refl
mapped f (Some x) = refl

pub returns : goal.returns
returns c =
    let found = table_get c.get.result c.args.key.now c.args.table.now.entries c.get.ensures.value in
    c.is_some.ensures ∙ mapped _ c.get.result ∙ ap is_some found
