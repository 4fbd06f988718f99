use Rattle.std.proofs.Common.{refl}
use Rattle.sms_send.proofs.Planning.{unmade_head}
use Rattle.sms_send.proofs.jobs.ledger_send.headed_journal.Goals as goal

pub returns-in-Err-clause-refused : goal.returns-in-Err-clause-refused
returns-in-Err-clause-refused g c =
    unmade_head (g.R.JournalFiles.makes c.args.rt.now) (g.R.JournalFiles.refuses c.args.rt.now) (g.R.JournalFiles.holds c.args.rt.now) c.args.wanted.now _ c.in-Err.why _ c.as_str.ensures.value c.unmade_for.ensures (c.in-Err.ensures.refused refl) c.in-Err.ensures.held
