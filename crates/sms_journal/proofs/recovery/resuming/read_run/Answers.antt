use Rattle.std.proofs.Common.{inl, inr, subst, true}
use Rattle.std.specs.Prelude.{option_copied}
use Rattle.sms_journal.specs.declared.text.digests.FileTies.{FileTies}
use Rattle.sms_journal.specs.Recovering.{IsFaultOfText}
use Rattle.sms_journal.proofs.NoteLists.{fault_of_run, on_ok_as_ever, run_of_journal}
use Rattle.sms_journal.proofs.recovery.resuming.read_run.Goals as goal

pub returns-in-Err-check_closed-clause-refused : goal.returns-in-Err-check_closed-clause-refused
returns-in-Err-check_closed-clause-refused g c = inr (c.in-Ok.run'.input, c.in-Ok.ensures.read, inl c.in-Err-check_closed.ensures.refused)

pub returns-in-Err-notes_in-clause-refused : goal.returns-in-Err-notes_in-clause-refused
returns-in-Err-notes_in-clause-refused g c =
    inr (c.in-Ok.run'.input, c.in-Ok.ensures.read, inr (inl (subst (λ (f : FileTies). IsFaultOfText f true c.args.journal.now c.in-Err-notes_in.fault) c.in-Ok.ensures.ties c.in-Err-notes_in.ensures.refused)))

pub returns-clause-run : goal.returns-clause-run
returns-clause-run g c =
    let a = c.args in
    run_of_journal a.config.now a.accounts.now a.messages.now (option_copied a.tariff) a.journal.now a.strict c.in-Ok.run'.input c.in-Ok.run'.files c.in-Ok-notes_in.read c.keyed.result c.whole_of.result c.in-Ok.ensures.read
    c.in-Ok.ensures.ties c.in-Ok-notes_in.ensures.notes.0 c.keyed.ensures c.whole_of.ensures c.run_of.result c.run_of.ensures.run c.run_of.ensures.beside

pub returns-clause-closed : goal.returns-clause-closed
returns-clause-closed g c = on_ok_as_ever c.run_of.result c.in_default.ensures.closed

pub returns-clause-refused : goal.returns-clause-refused
returns-clause-refused g c =
    let a = c.args in
    fault_of_run a.config.now a.accounts.now a.messages.now (option_copied a.tariff) a.journal.now a.strict c.in-Ok.run'.input c.in-Ok.run'.files c.in-Ok-notes_in.read c.keyed.result c.whole_of.result c.in-Ok.ensures.read
    c.in-Ok.ensures.ties c.in-Ok-notes_in.ensures.notes.0 c.run_of.result c.run_of.ensures.refused
