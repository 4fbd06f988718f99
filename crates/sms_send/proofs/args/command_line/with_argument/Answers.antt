use Rattle.std.proofs.Common.{subst, IfOk, Result}
use Rattle.std.proofs.lemmas.Result.{IfOk-weaker}
use Rattle.std.specs.declared.alloc.AllocError.{AllocError}
use Rattle.clap.specs.declared.builder.Command.{Command}
use Rattle.sms_send.specs.CommandLine.{IsLine}
use Rattle.sms_send.proofs.JobsDone.{argument-added}
use Rattle.sms_send.proofs.args.command_line.with_argument.Goals as goal

pub returns-in-Ok : goal.returns-in-Ok
returns-in-Ok c = λ line rule is was.
    let is_line : IsLine line c.in-Ok.command = subst (λ (r : Result Command AllocError). IfOk r (IsLine line)) c.in-Ok.is was in
    IfOk-weaker c.arg.result _ _ (λ m adds. argument-added _ m _ line rule adds c.requires.local is is_line) c.arg.ensures
