use Rattle.std.proofs.Common.{◌∙◌, sym, ap, subst, rules}
use Rattle.sms_message.specs.Submits.{message_parts}
use Rattle.sms_worker.specs.PendingState.{AreUnlinked, data_in}
use Rattle.sms_worker.proofs.Beginnings.{refused_so, refused_otherwise}
use Rattle.sms_worker.proofs.Pending.{data_of, unlinked_of}
use Rattle.sms_worker.proofs.steps.begin.prepare.Goals as goal

pub returns-in-Err-clause-refused : goal.returns-in-Err-clause-refused
returns-in-Err-clause-refused c = (refused_so c.args.rules.now c.args.accounts c.args.message.now c.in-Err.no c.refusal_of.result.0 c.refusal_of.result.1 (c.is_known.ensures.0 (search rules)) (c.has_addresses.ensures.0 (search rules)) c.in-Err.ensures.none c.refusal_of.ensures).0

pub returns-in-Err-clause-memory : goal.returns-in-Err-clause-memory
returns-in-Err-clause-memory c = (refused_so c.args.rules.now c.args.accounts c.args.message.now c.in-Err.no c.refusal_of.result.0 c.refusal_of.result.1 (c.is_known.ensures.0 (search rules)) (c.has_addresses.ensures.0 (search rules)) c.in-Err.ensures.none c.refusal_of.ensures).1

pub returns-in-Err-clause-closed : goal.returns-in-Err-clause-closed
returns-in-Err-clause-closed c is = absurd ((refused_otherwise c.in-Err.no c.refusal_of.result.0 c.refusal_of.result.1 c.refusal_of.ensures).1 is)

pub returns-in-Err-clause-credit : goal.returns-in-Err-clause-credit
returns-in-Err-clause-credit c is = (refused_otherwise c.in-Err.no c.refusal_of.result.0 c.refusal_of.result.1 c.refusal_of.ensures).0 is

pub returns-in-Ok-ends_for-clause-known : goal.returns-in-Ok-ends_for-clause-known
returns-in-Ok-ends_for-clause-known c = (c.is_known.ensures.0 (search rules), c.has_addresses.ensures.0 (search rules))

pub returns-in-Ok-ends_for-clause-short : goal.returns-in-Ok-ends_for-clause-short
returns-in-Ok-ends_for-clause-short c = c.in-Ok.ensures.short

pub returns-in-Ok-ends_for-clause-pending : goal.returns-in-Ok-ends_for-clause-pending
returns-in-Ok-ends_for-clause-pending c = ap data_in c.in-Ok.ensures.pending ∙ data_of (message_parts c.args.rules.now c.args.message.now)

pub returns-in-Ok-ends_for-clause-unlinked : goal.returns-in-Ok-ends_for-clause-unlinked
returns-in-Ok-ends_for-clause-unlinked c = subst AreUnlinked (sym c.in-Ok.ensures.pending) (unlinked_of (message_parts c.args.rules.now c.args.message.now))
