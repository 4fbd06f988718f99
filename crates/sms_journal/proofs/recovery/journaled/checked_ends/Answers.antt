use Rattle.std.proofs.Common.{rules, ◌≡◌, ◌∙◌, ℕ, Err, ap}
use Rattle.std.specs.Prelude.{IsErrOf}
use Rattle.sms_journal.specs.declared.error.JournalError.{JournalError}
use Rattle.sms_journal.specs.declared.error.JournalError.TheVariants.{BadNote}
use Rattle.sms_journal.specs.Going.{IsCurrent}
use Rattle.sms_journal.specs.Rounds.{IsFirstRunFault}
use Rattle.sms_journal.proofs.recovery.journaled.checked_ends.Goals as goal

pub returns-in-Err-clause-faulty : goal.returns-in-Err-clause-faulty
returns-in-Err-clause-faulty g c = λ k is.
    let a = c.args in
    let same : c.in-Err.error ≡ BadNote k = search rules in
    let found : (k : ℕ) → IsErrOf c.join-front.result.0 (BadNote k) → IsFirstRunFault a.rules.now a.size a.messages.now a.notes.now k = search rules in
    found k (c.in-Err.is ∙ ap (λ (e : JournalError). Err e) same)

pub returns-clause-faulty : goal.returns-clause-faulty
returns-clause-faulty g c = λ k is.
    let a = c.args in
    let same : c.in-Err-check_last.error ≡ BadNote k = search rules in
    let current : IsCurrent a.rules.now a.size a.messages.now a.notes.now c.in-Ok.last.going = search rules in
    c.in-Err-check_last.ensures.faulty k (ap (λ (e : JournalError). Err e) same) a.size current
