use Rattle.sms_files.proofs.Quotes.{marked, unmarked}
use Rattle.sms_files.proofs.tables.quoting.without_mark.Goals as goal

pub returns-then-starts_with : goal.returns-then-starts_with
returns-then-starts_with c = marked c.args.octets.now c.starts_with.result c.starts_with.ensures.value c.if-starts_with.true

pub returns : goal.returns
returns c = unmarked c.args.octets.now c.starts_with.result c.starts_with.ensures.value c.if-starts_with.false
