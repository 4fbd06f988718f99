-- From what the parser gives to the job.
use Rattle.std.proofs.Common.{◌≡◌, ◌∙◌, ap, ap₂, false, inl, inr, refl, List, Option, None, Some, Result, Ok, Err}
use Rattle.std.specs.Prelude.{Box, ◌||◌, option_map, IfOk, IsOkAnd}
use Rattle.std.specs.Box.{box_value}
use Rattle.clap.specs.Words.{AddsArg, AddsSubcommand, App, Row, Rule, Text, app_of, rule_of, subcommand_rows, with_rule, with_subcommand}
use Rattle.clap.specs.declared.builder.Arg.{Arg}
use Rattle.clap.specs.declared.builder.Command.{Command}
use Rattle.clap.specs.declared.parser.matches.ArgMatches.TheViews.{out-SubCommand}
use Rattle.clap.specs.declared.parser.matches.SubCommand.{SubCommand}
use Rattle.sms_send.specs.CommandLine.{IsLine, RefusesFor}
use Rattle.sms_send.specs.declared.faults.fault.Fault.{Fault}

-- the name that stands with a subcommand's matches is the subcommand's
pub name-of-rows : {Z : Type 0} → (o : Option (Box SubCommand Z)) → option_map (λ p. p.0) (subcommand_rows o) ≡ option_map (λ b. (out-SubCommand (box_value b)).name.now) o
name-of-rows None = refl
name-of-rows (Some b) = refl

-- the subcommand that the parser met, from its name and its matches
pub met : (o : Option (Text × List Row)) (name : Text) (rows : List Row) → option_map (λ p. p.0) o ≡ Some name → option_map (λ p. p.1) o ≡ Some rows
    → o ≡ Some (name, rows)
met None name rows n r = let bad = n in cc
met (Some found) name rows n r =
    let named : found.0 ≡ name = cc in
    let same : found.1 ≡ rows = cc in
    ap₂ (λ (a : Text) (b : List Row). Some (a, b)) named same

-- a program with one subcommand more, of this line
pub subcommand-added : {E : Type 0} (command joined : Command) (program line : App) (r : Result Command E) → IsOkAnd r (λ s. AddsSubcommand command s joined)
    → IfOk r (IsLine line) → app_of command ≡ program → app_of joined ≡ with_subcommand program line.top
subcommand-added command joined program line (Ok s) adds is was = adds.shape is.1 ∙ ap₂ with_subcommand was (ap (λ (a : App). a.top) is.0)
subcommand-added command joined program line (Err e) adds is was = absurd adds

-- a command with one argument more
pub argument-added : (command joined : Command) (a : Arg) (line : App) (rule : Rule) → AddsArg command a joined → a.global ≡ false → rule_of a ≡ rule → IsLine line command
    → IsLine (with_rule line rule) joined
argument-added command joined a line rule adds local is was =
    (adds.shape local ∙ ap₂ with_rule was.0 is, adds.globals ∙ ap₂ (λ x y. x || y) was.1 local)

-- a fault that refuses words for one reason refuses them for each that it gives
pub tells-weaker : {A B : Type 0} (fault : Fault) → (A → B) → RefusesFor A fault → RefusesFor B fault
tells-weaker fault gives (inl memory) = inl memory
tells-weaker fault gives (inr tells) = inr (tells.0, gives tells.1)
