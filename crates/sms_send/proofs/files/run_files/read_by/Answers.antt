use Rattle.std.proofs.Common.{subst}
use Rattle.std.proofs.lemmas.Result.{IfErr-weaker, IfOk-weaker}
use Rattle.std.specs.Prelude.{string_bytes}
use Rattle.sms_send.specs.Headed.{SplitsWritten}
use Rattle.sms_send.proofs.Runs.{headed, headed_fails, unheaded, unheaded_fails}
use Rattle.sms_send.proofs.files.run_files.read_by.Goals as goal

pub returns-in-Ok-Some-clause-read : goal.returns-in-Ok-Some-clause-read
returns-in-Ok-Some-clause-read g c =
    IfOk-weaker c.read_headed.result _ _
    (λ run is. headed (g.R.InputFiles.finds c.args.rt.now) c.args.read (string_bytes c.args.written) c.octets_of-written.result c.in-Ok-Some.parts run c.octets_of-written.ensures.octets (subst (SplitsWritten c.octets_of-written.result) c.in-Ok-Some.field-0-is c.in-Ok-Some.ensures.parts) is) c.read_headed.ensures.read

pub returns-in-Ok-Some-clause-refused : goal.returns-in-Ok-Some-clause-refused
returns-in-Ok-Some-clause-refused g c =
    IfErr-weaker c.read_headed.result _ _
    (λ fault fails. headed_fails (g.R.InputFiles.finds c.args.rt.now) c.args.read.config.files c.args.written c.octets_of-written.result c.in-Ok-Some.parts fault c.octets_of-written.ensures.octets (subst (SplitsWritten c.octets_of-written.result) c.in-Ok-Some.field-0-is c.in-Ok-Some.ensures.parts) fails) c.read_headed.ensures.refused

pub returns-in-Ok-None-clause-read : goal.returns-in-Ok-None-clause-read
returns-in-Ok-None-clause-read g c =
    IfOk-weaker c.read_unheaded.result _ _
    (λ run is. unheaded (g.R.InputFiles.finds c.args.rt.now) c.args.read (string_bytes c.args.written) c.octets_of-written.result run c.octets_of-written.ensures.octets (subst (SplitsWritten c.octets_of-written.result) c.in-Ok-None.field-0-is c.in-Ok-None.ensures.parts) is) c.read_unheaded.ensures.read

pub returns-in-Ok-None-clause-refused : goal.returns-in-Ok-None-clause-refused
returns-in-Ok-None-clause-refused g c =
    IfErr-weaker c.read_unheaded.result _ _
    (λ fault fails. unheaded_fails (g.R.InputFiles.finds c.args.rt.now) c.args.read.config.files c.args.written c.octets_of-written.result fault c.octets_of-written.ensures.refused fails) c.read_unheaded.ensures.refused
