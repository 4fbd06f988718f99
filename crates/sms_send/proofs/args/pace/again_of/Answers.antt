use Rattle.std.proofs.Common.{◌∙◌, inl, sym}
use Rattle.sms_send.specs.declared.faults.argument_error.NumberOption.TheVariants.{Again, AgainMs}
use Rattle.sms_send.proofs.args.pace.again_of.Goals as goal

pub returns-in_default-clause-refused : goal.returns-in_default-clause-refused
returns-in_default-clause-refused c = λ fails. inl (Again, sym c.number_given.ensures ∙ c.in_default.is)

pub returns-in_default-number_given-clause-refused : goal.returns-in_default-number_given-clause-refused
returns-in_default-number_given-clause-refused c = λ fails. inl (AgainMs, sym c.number_given-2.ensures ∙ c.in_default-number_given.is)
