use Rattle.std.proofs.Common.{sym, subst, ◌∙◌, Option, List, IfOk, IfErr}
use Rattle.clap.specs.Words.{Row, Text, found_of, rows_of, subcommand_rows_of}
use Rattle.clap.specs.declared.parser.matches.ArgMatches.TheViews.{out-ArgMatches}
use Rattle.sms_send.specs.CommandLine.{IsJob, RefusesMatch}
use Rattle.sms_send.proofs.JobsDone.{met, name-of-rows}
use Rattle.sms_send.proofs.args.job.job_in.Goals as goal

pub returns-clause-job : goal.returns-clause-job
returns-clause-job c =
    let rows = rows_of (found_of c.in-Some.found.now) in
    let is = met (subcommand_rows_of c.args.matches.now) c.in-Some.name.now rows
    (name-of-rows (out-ArgMatches c.args.matches.now).subcommand ∙ sym c.in-Some.ensures.name) (sym c.in-Some.ensures.rows) in
    subst (λ (o : Option (Text × List Row)). IfOk c.job_named.result (IsJob o)) (sym is) c.job_named.ensures.job

pub returns-clause-refused : goal.returns-clause-refused
returns-clause-refused c =
    let rows = rows_of (found_of c.in-Some.found.now) in
    let is = met (subcommand_rows_of c.args.matches.now) c.in-Some.name.now rows
    (name-of-rows (out-ArgMatches c.args.matches.now).subcommand ∙ sym c.in-Some.ensures.name) (sym c.in-Some.ensures.rows) in
    subst (λ (o : Option (Text × List Row)). IfErr c.job_named.result (RefusesMatch o)) (sym is) c.job_named.ensures.refused
