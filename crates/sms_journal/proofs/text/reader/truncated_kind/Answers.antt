use Rattle.std.proofs.Common.{false, rules}
use Rattle.sms_journal.specs.declared.text.header.JournalKind.TheVariants.{Run, Trial}
use Rattle.sms_journal.specs.Lines.{IsTruncated, TruncatesHeader}
use Rattle.sms_journal.proofs.Records.{unbegun_trial}
use Rattle.sms_journal.proofs.text.reader.truncated_kind.Goals as goal

pub returns-then-branch-2 : goal.returns-then-branch-2
returns-then-branch-2 c =
    let files = c.args.files.now in
    let text = c.args.text.now in
    let other : IsTruncated Run files text false = search rules in
    let is : TruncatesHeader Trial files text = search rules in
    unbegun_trial files text other is
