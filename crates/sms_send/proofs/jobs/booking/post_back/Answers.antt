use Rattle.std.proofs.Common.{◌≡◌, ◌∙◌, subst, List, IfErr, IfOk}
use Rattle.std.specs.Prelude.{string_bytes}
use Rattle.sms_ledger.specs.InMemory.{state_in}
use Rattle.sms_ledger.specs.Posting.{ArePosted, returns_of}
use Rattle.sms_ledger.specs.declared.entry.Entry.{Entry}
use Rattle.sms_send.specs.LedgerRuns.{RefusesAt}
use Rattle.sms_send.proofs.jobs.booking.post_back.Goals as goal

pub returns-in-Ok-clause-posted : goal.returns-in-Ok-clause-posted
returns-in-Ok-clause-posted c =
    let are : c.as_slice.result.now ≡ returns_of c.args.run.now (state_in c.args.ledger.now) c.args.names.now c.args.rows.now = c.as_slice.ensures.value ∙ c.in-Ok.ensures in
    subst (λ (entries : List Entry). IfOk c.post_lines.result (λ lines. ArePosted c.args.time entries (state_in c.args.ledger.now) (state_in c.post_lines.new.ledger) (string_bytes lines))) are c.post_lines.ensures.posted

pub returns-in-Ok-clause-refused : goal.returns-in-Ok-clause-refused
returns-in-Ok-clause-refused c =
    let are : c.as_slice.result.now ≡ returns_of c.args.run.now (state_in c.args.ledger.now) c.args.names.now c.args.rows.now = c.as_slice.ensures.value ∙ c.in-Ok.ensures in
    subst (λ (entries : List Entry). IfErr c.post_lines.result (RefusesAt entries (state_in c.args.ledger.now))) are c.post_lines.ensures.refused
