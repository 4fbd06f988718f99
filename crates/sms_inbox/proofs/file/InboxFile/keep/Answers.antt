use Rattle.sms_inbox.proofs.Walks.{nothing_kept}
use Rattle.sms_inbox.proofs.file.InboxFile.keep.Goals as goal

pub returns-then-is_some-clause-partly : goal.returns-then-is_some-clause-partly
returns-then-is_some-clause-partly g c = nothing_kept g.F.Write.contents c.args.time c.args.bind c.args.stream.now c.args.self.now.file

pub returns-in_default-clause-partly : goal.returns-in_default-clause-partly
returns-in_default-clause-partly g c = nothing_kept g.F.Write.contents c.args.time c.args.bind c.args.stream.now c.args.self.now.file
