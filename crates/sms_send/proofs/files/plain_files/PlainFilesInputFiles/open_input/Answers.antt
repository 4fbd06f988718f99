use Rattle.std.proofs.Common.{refl}
use Rattle.sms_send.proofs.PlainFiles.{as_given, as_left, not_found}
use Rattle.sms_send.proofs.files.plain_files.PlainFilesInputFiles.open_input.Goals as goal

pub returns-then-self-clause-found : goal.returns-then-self-clause-found
returns-then-self-clause-found g c =
    as_left c.args.self.now.refs (g.R.InputFiles.finds c.args.self.now.rt.now) c.args.name.now (g.R.InputFile.Read.remaining c.in-Ok.file) _ c.if-self.true c.in-Ok.ensures.found c.left_of.ensures

pub returns-else-self-clause-found : goal.returns-else-self-clause-found
returns-else-self-clause-found g c = as_given c.args.self.now.refs (g.R.InputFiles.finds c.args.self.now.rt.now) c.args.name.now (g.R.InputFile.Read.remaining c.in-Ok.file) c.if-self.false c.in-Ok.ensures.found

pub returns-in-Err-clause-lost : goal.returns-in-Err-clause-lost
returns-in-Err-clause-lost g c = λ lost. not_found c.args.self.now.refs (g.R.InputFiles.finds c.args.self.now.rt.now) c.args.name.now (c.in-Err.ensures.lost refl)
