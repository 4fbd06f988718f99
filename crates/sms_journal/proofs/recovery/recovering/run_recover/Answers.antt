use Rattle.std.proofs.Common.{inl, inr, subst}
use Rattle.std.specs.Prelude.{option_copied}
use Rattle.sms_journal.specs.declared.text.digests.FileTies.{FileTies}
use Rattle.sms_journal.specs.Recovering.{IsFaultOfText}
use Rattle.sms_journal.proofs.NoteLists.{recovers_journal, tells_journal}
use Rattle.sms_journal.proofs.recovery.recovering.run_recover.Goals as goal

pub returns-in-Ok-recover_input-clause-recovered : goal.returns-in-Ok-recover_input-clause-recovered
returns-in-Ok-recover_input-clause-recovered g c =
    let a = c.args in
    recovers_journal a.config.now a.accounts.now a.messages.now (option_copied a.tariff) a.journal.now a.trial (g.W.Write.contents a.output.now) (g.W.Write.contents c.recover_input.new.output) c.in-Ok.run'.input c.in-Ok.run'.files
    c.in-Ok-notes_in.read c.as_slice.result.now c.in-Ok.ensures.read c.in-Ok.ensures.ties c.in-Ok-notes_in.ensures.notes.0 c.in-Ok-notes_in.ensures.notes.1 c.as_slice.ensures.value c.in-Ok-recover_input.status
    c.in-Ok-recover_input.ensures.recovered

pub returns-clause-refused : goal.returns-clause-refused
returns-clause-refused g c =
    let a = c.args in
    tells_journal a.config.now a.accounts.now a.messages.now (option_copied a.tariff) a.journal.now a.trial (g.W.Write.contents a.output.now) (g.W.Write.contents c.recover_input.new.output) c.in-Ok.run'.input c.in-Ok.run'.files
    c.in-Ok-notes_in.read c.as_slice.result.now c.in-Ok.ensures.read c.in-Ok.ensures.ties c.in-Ok-notes_in.ensures.notes.0 c.in-Ok-notes_in.ensures.notes.1 c.as_slice.ensures.value c.in-Err-recover_input.fault
    c.in-Err-recover_input.ensures.refused

pub returns-in-Err-notes_in-clause-refused : goal.returns-in-Err-notes_in-clause-refused
returns-in-Err-notes_in-clause-refused g c =
    inr (inl (c.in-Ok.run'.input, c.in-Ok.ensures.read, subst (λ (f : FileTies). IsFaultOfText f c.args.trial c.args.journal.now c.in-Err-notes_in.fault) c.in-Ok.ensures.ties c.in-Err-notes_in.ensures.refused))
