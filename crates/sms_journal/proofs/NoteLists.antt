-- What is recovered from an input and a journal, by what is recovered from its notes.
use Rattle.std.proofs.Common.{◌≡◌, ◌∙◌, ap, inr, subst, sym, ℕ, Bool, List, Option, Ok, Err}
use Rattle.std.specs.Prelude.{Result, IfErr, IfOk, OnOk}
use Rattle.std.proofs.lemmas.Result.{IfErr-weaker}
use Rattle.sms_core.specs.declared.row.Row.{Row}
use Rattle.sms_book.specs.declared.opening.Opening.{Opening}
use Rattle.sms_message.specs.declared.message.Message.{Message}
use Rattle.sms_message.specs.declared.rules.Rules.{Rules}
use Rattle.sms_message.specs.declared.ends.MessageEnd.{MessageEnd}
use Rattle.sms_files.specs.declared.input.Input.{Input}
use Rattle.sms_journal.specs.declared.text.header.Digests.{Digests}
use Rattle.sms_journal.specs.declared.text.digests.FileTies.{FileTies}
use Rattle.sms_journal.specs.declared.text.header.JournalKind.{JournalKind}
use Rattle.sms_journal.specs.declared.text.reader.JournalNotes.{JournalNotes}
use Rattle.sms_journal.specs.declared.recovery.resuming.JournaledRun.{JournaledRun}
use Rattle.sms_journal.specs.declared.notes.note.Note.{Note}
use Rattle.sms_journal.specs.declared.notes.run_size.RunSize.{RunSize}
use Rattle.sms_journal.specs.Digests.{keyed}
use Rattle.sms_journal.specs.Lines.{IsJournalText}
use Rattle.sms_journal.specs.Files.{Reads}
use Rattle.sms_journal.specs.Recovering.{IsTaken, Recovers, RecoversInput, RecoversJournal, IsFaultOfInput, IsFaultOfJournal, IsFaultOfRecovery, IsFaultOfReport, IsRecovered, size_in, ties_in}
use Rattle.sms_journal.specs.Resuming.{AreWhole, IsFaultOfNotedRun, IsFaultOfRun, IsNotedRun, IsRunOfJournal}
use Rattle.sms_files.specs.RunRules.{IsRulesOf}
use Rattle.sms_journal.specs.declared.recovery.fault.RecoveryFault.{RecoveryFault}

module _ (input : Input) (first : Option (ℕ × ℕ)) (notes : List Note) (old new : Option (List ℕ)) (rules : Rules) (size : RunSize) (os : List Opening) (ms : List Message)
    (says : IsRulesOf input.config.retry input.config.limits input.config.flags input.tariff 0 rules) (os_are : os ≡ input.openings.items) (ms_are : ms ≡ input.messages.items) (sized : size ≡ size_in input first) where
  pub recovers_input : (status : ℕ) → Recovers rules size os ms notes old new status → RecoversInput input first notes old new status
  recovers_input status h = record {
    rules = rules;
    says = says;
    recovers = subst (λ (z : RunSize). Recovers rules z input.openings.items input.messages.items notes old new status) sized
        (subst (λ (o : List Opening). Recovers rules size o input.messages.items notes old new status) os_are (subst (λ (m : List Message). Recovers rules size os m notes old new status) ms_are h));
  }

  pub tells_input : (fault : RecoveryFault) → IsFaultOfRecovery rules size os ms notes old new fault → IsFaultOfInput input first notes old new fault
  tells_input fault h = record {
    rules = rules;
    says = says;
    tells = subst (λ (z : RunSize). IsFaultOfRecovery rules z input.openings.items input.messages.items notes old new fault) sized
        (subst (λ (o : List Opening). IsFaultOfRecovery rules size o input.messages.items notes old new fault) os_are (subst (λ (m : List Message). IsFaultOfRecovery rules size os m notes old new fault) ms_are h));
  }

module _ (config accounts messages : List ℕ) (tariff : Option (List ℕ)) (journal : List ℕ) (trial : Bool) (old new : Option (List ℕ)) (input : Input) (files : FileTies) (found : JournalNotes) (slice : List Note)
    (read : Reads config accounts messages tariff input) (files_are : files ≡ ties_in config accounts messages tariff input) (text : IsJournalText files journal found.kind found.first found.notes.items)
    (taken : IsTaken trial found.kind) (is : slice ≡ found.notes.items) where
  text_recovered : IsJournalText (ties_in config accounts messages tariff input) journal found.kind found.first found.notes.items
  text_recovered = subst (λ (f : FileTies). IsJournalText f journal found.kind found.first found.notes.items) files_are text

  pub recovers_journal : (status : ℕ) → RecoversInput input found.first slice old new status → RecoversJournal config accounts messages tariff journal trial old new (record { status = status; kind = found.kind })
  recovers_journal status h = record {
    input = input;
    read = read;
    first = found.first;
    notes = found.notes.items;
    text = text_recovered;
    taken = taken;
    recovers = subst (λ (n : List Note). RecoversInput input found.first n old new status) is h;
  }

  pub tells_journal : (fault : RecoveryFault) → IsFaultOfInput input found.first slice old new fault → IsFaultOfJournal config accounts messages tariff journal trial old new fault
  tells_journal fault h =
      inr (inr (input, read, found.kind, taken, found.first, found.notes.items, text_recovered, subst (λ (n : List Note). IsFaultOfInput input found.first n old new fault) is h))

-- what a run of this input, which goes on, came to
module _ (input : Input) (first : Option (ℕ × ℕ)) (notes slice : List Note) (rules : Rules) (size : RunSize) (os : List Opening) (ms : List Message)
    (says : IsRulesOf input.config.retry input.config.limits input.config.flags input.tariff 0 rules) (os_are : os ≡ input.openings.items) (ms_are : ms ≡ input.messages.items) (sized : size ≡ size_in input first) (same : slice ≡ notes) where
  pub recovered_of : (ends : List (MessageEnd (Unit {0}))) (rows : List Row) → IsRecovered rules size os ms slice ends rows → IsRecovered rules (size_in input first) input.openings.items input.messages.items notes ends rows
  recovered_of ends rows h =
      subst (λ (n : List Note). IsRecovered rules (size_in input first) input.openings.items input.messages.items n ends rows) same
      (subst (λ (z : RunSize). IsRecovered rules z input.openings.items input.messages.items slice ends rows) sized
      (subst (λ (o : List Opening). IsRecovered rules size o input.messages.items slice ends rows) os_are (subst (λ (m : List Message). IsRecovered rules size os m slice ends rows) ms_are h)))

  pub noted_fault : (fault : RecoveryFault) → IsFaultOfReport rules size os ms slice fault → IsFaultOfNotedRun input first notes fault
  noted_fault fault h = record {
    rules = rules;
    says = says;
    tells = subst (λ (n : List Note). IsFaultOfReport rules (size_in input first) input.openings.items input.messages.items n fault) same
        (subst (λ (z : RunSize). IsFaultOfReport rules z input.openings.items input.messages.items slice fault) sized
        (subst (λ (o : List Opening). IsFaultOfReport rules size o input.messages.items slice fault) os_are (subst (λ (m : List Message). IsFaultOfReport rules size os m slice fault) ms_are h)));
  }

module _ (config accounts messages : List ℕ) (tariff : Option (List ℕ)) (journal : List ℕ) (strict : Bool) (input : Input) (files : FileTies) (found : JournalNotes) (head : Digests) (whole : ℕ)
    (read : Reads config accounts messages tariff input) (files_are : files ≡ ties_in config accounts messages tariff input) (text : IsJournalText files journal found.kind found.first found.notes.items) where
  its_text : IsJournalText (ties_in config accounts messages tariff input) journal found.kind found.first found.notes.items
  its_text = subst (λ (f : FileTies). IsJournalText f journal found.kind found.first found.notes.items) files_are text

  one_run : head ≡ keyed files.keys files.digests → AreWhole journal whole → (run : JournaledRun) → IsNotedRun input found.first found.notes.items run
      → (run.kind ≡ found.kind) × (run.digests ≡ head) × (run.whole ≡ whole) → IsRunOfJournal config accounts messages tariff journal run
  one_run head_is lines run noted beside = record {
    input = input;
    read = read;
    first = found.first;
    notes = found.notes.items;
    text = subst (λ (k : JournalKind). IsJournalText (ties_in config accounts messages tariff input) journal k found.first found.notes.items) (sym beside.0) its_text;
    digests = beside.1 ∙ head_is ∙ ap (λ (f : FileTies). keyed f.keys f.digests) files_are;
    whole = subst (λ (w : ℕ). AreWhole journal w) (sym beside.2) lines;
    is = noted;
  }

  pub run_of_journal : head ≡ keyed files.keys files.digests → AreWhole journal whole → (r : Result JournaledRun RecoveryFault) → IfOk r (IsNotedRun input found.first found.notes.items)
      → IfOk r (λ run. (run.kind ≡ found.kind) × (run.digests ≡ head) × (run.whole ≡ whole)) → IfOk r (IsRunOfJournal config accounts messages tariff journal)
  run_of_journal head_is lines (Ok run) noted beside = one_run head_is lines run noted beside
  run_of_journal head_is lines (Err fault) noted beside = tt

  pub fault_of_run : (r : Result JournaledRun RecoveryFault) → IfErr r (IsFaultOfNotedRun input found.first found.notes.items) → IfErr r (IsFaultOfRun config accounts messages tariff journal strict)
  fault_of_run r h = IfErr-weaker r (IsFaultOfNotedRun input found.first found.notes.items) (IsFaultOfRun config accounts messages tariff journal strict)
      (λ fault f. inr (input, read, inr (inr (found.kind, found.first, found.notes.items, its_text, f)))) h

-- what holds whatever a call answers holds where it succeeds
pub on_ok_as_ever : {T E : Type 0} (r : Result T E) {P : Type 0} → P → OnOk r P
on_ok_as_ever (Ok x) p = p
on_ok_as_ever (Err y) p = tt
