-- The rules of single arguments, as the parser knows them.
use Rattle.std.specs.Prelude.{Some, true}
use Rattle.clap.specs.Words.{Rule, Text, new_rule}
use Rattle.clap.specs.declared.builder.action.ArgAction.TheVariants.{SetTrue}

-- a word that has to be given, an option that has to be given a file, one that may be given a value, and one that is given
-- or not
abbrev pub name_rule : Text → Rule
name_rule name = record (new_rule name) { required = true }

abbrev pub file_rule : Text → Rule
file_rule name = record (new_rule name) { long = Some name; value_names = 1; required = true }

abbrev pub value_rule : Text → Rule
value_rule name = record (new_rule name) { long = Some name; value_names = 1 }

abbrev pub flag_rule : Text → Rule
flag_rule name = record (new_rule name) { long = Some name; action = Some SetTrue }
