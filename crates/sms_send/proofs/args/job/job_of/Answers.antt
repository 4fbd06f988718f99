use Rattle.std.proofs.Common.{ap, sym, subst, inl, inr, List, Option, [], map, ◌≡◌, ◌∙◌, IfOk}
use Rattle.std.specs.Prelude.{string_bytes}
use Rattle.std.proofs.lemmas.Result.{IfErr-weaker, IfOk-weaker}
use Rattle.clap.specs.Words.{App, HasKind, Row, Text, app_of, fault_of, is_simple, is_simple_and_free, subcommand_of, subcommand_rows_of}
use Rattle.sms_send.specs.CommandLine.{IsJob, RefusesMatch, command_line, refusals_of, subcommand_in}
use Rattle.sms_send.proofs.Lines.{line-free, line-simple}
use Rattle.sms_send.proofs.args.job.job_of.Goals as goal

pub returns-in-Ok-clause-job : goal.returns-in-Ok-clause-job
returns-in-Ok-clause-job c =
    let line : app_of c.in_ok-command_line.field-0 ≡ command_line = c.in_ok-command_line.ensures in
    let met : subcommand_rows_of c.in-Ok.matches ≡ subcommand_in (map string_bytes c.args.words.now) =
    (c.in-Ok.ensures.matches (ap is_simple line ∙ line-simple)).1 ∙ ap (λ (a : App). subcommand_of a (map string_bytes c.args.words.now)) line in
    subst (λ (o : Option (Text × List Row)). IfOk c.job_in.result (IsJob o)) met c.job_in.ensures.job

pub returns-in-Ok-clause-taken : goal.returns-in-Ok-clause-taken
returns-in-Ok-clause-taken c =
    let line : app_of c.in_ok-command_line.field-0 ≡ command_line = c.in_ok-command_line.ensures in
    let taken : refusals_of (map string_bytes c.args.words.now) ≡ [] =
    sym (ap (λ (a : App). fault_of a (map string_bytes c.args.words.now)) line) ∙ c.in-Ok.ensures.kinds (ap is_simple_and_free line ∙ line-free) in
    IfOk-weaker c.job_in.result _ _ (λ job h. taken) c.job_in.ensures.job

pub returns-in-Ok-clause-refused : goal.returns-in-Ok-clause-refused
returns-in-Ok-clause-refused c =
    let line : app_of c.in_ok-command_line.field-0 ≡ command_line = c.in_ok-command_line.ensures in
    let taken : refusals_of (map string_bytes c.args.words.now) ≡ [] =
    sym (ap (λ (a : App). fault_of a (map string_bytes c.args.words.now)) line) ∙ c.in-Ok.ensures.kinds (ap is_simple_and_free line ∙ line-free) in
    let met : subcommand_rows_of c.in-Ok.matches ≡ subcommand_in (map string_bytes c.args.words.now) =
    (c.in-Ok.ensures.matches (ap is_simple line ∙ line-simple)).1 ∙ ap (λ (a : App). subcommand_of a (map string_bytes c.args.words.now)) line in
    IfErr-weaker c.job_in.result _ _ (λ fault h. inr (taken, subst (λ (o : Option (Text × List Row)). RefusesMatch o fault) met h)) c.job_in.ensures.refused

pub returns-in-Err-clause-refused : goal.returns-in-Err-clause-refused
returns-in-Err-clause-refused c =
    let line : app_of c.in_ok-command_line.field-0 ≡ command_line = c.in_ok-command_line.ensures in
    inl (c.fault_of.ensures.refused (refusals_of (map string_bytes c.args.words.now))
    (subst (λ (a : App). HasKind (fault_of a (map string_bytes c.args.words.now)) c.in-Err.error) line (c.in-Err.ensures.kinds (ap is_simple_and_free line ∙ line-free))))
