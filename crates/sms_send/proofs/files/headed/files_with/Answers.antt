use Rattle.std.proofs.Common.{inl, inr, subst, ℕ, List}
use Rattle.sms_files.specs.declared.fault.Source.TheVariants.{Messages, Tariff}
use Rattle.sms_send.specs.Headed.{FailsOne}
use Rattle.sms_send.proofs.files.headed.files_with.Goals as goal

pub returns-in-Err-clause-refused : goal.returns-in-Err-clause-refused
returns-in-Err-clause-refused g c = inl (subst (λ (name : List ℕ). FailsOne (g.R.InputFiles.finds c.args.rt.now) name Messages c.in-Err.fault) c.as_str.ensures.value c.in-Err.ensures.refused)

pub returns-in-Err-tariff_in-clause-refused : goal.returns-in-Err-tariff_in-clause-refused
returns-in-Err-tariff_in-clause-refused g c = inr (subst (λ (name : List ℕ). FailsOne (g.R.InputFiles.finds c.args.rt.now) name Tariff c.in-Err-tariff_in.fault) c.as_str-2.ensures.value c.in-Err-tariff_in.ensures.refused)
