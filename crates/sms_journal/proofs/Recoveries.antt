-- What a run of notes comes to, from what its steps come to.
use Rattle.std.proofs.Common.{◌≡◌, ◌⊎◌, ◌+◌, ◌<◌, length, refl, inl, inr, ℕ, List, Option, Some, None}
use Rattle.std.specs.Prelude.{option_copied, option_map}
use Rattle.std.proofs.lemmas.Option.{slice_get_within}
use Rattle.std.specs.Borrow.{Bor}
use Rattle.std.specs.Io.KnownBytes.{Appends}
use Rattle.std.specs.List.{AllZip}
use Rattle.sms_core.specs.declared.row.Row.{Row}
use Rattle.sms_book.specs.declared.opening.Opening.{Opening}
use Rattle.sms_message.specs.declared.message.Message.{Message}
use Rattle.sms_message.specs.declared.rules.Rules.{Rules}
use Rattle.sms_journal.specs.declared.notes.note.Note.{Note}
use Rattle.sms_journal.specs.declared.notes.run_size.RunSize.{RunSize}
use Rattle.sms_message.specs.declared.ends.MessageEnd.{MessageEnd}
use Rattle.sms_journal.specs.Rounds.{IsFirstRunFault, IsRunEnd, IsRunJournal}
use Rattle.sms_journal.specs.Sums.{AreCovered}
use Rattle.sms_journal.specs.Files.{IsCut, octets_read}
use Rattle.sms_journal.specs.Recovering.{IsRecovered, Recovers, IsFaultOfNotes, IsFaultOfRecovery, IsFaultOfReport}
use Rattle.sms_files.specs.Report.{report_of, ends_status}
use Rattle.sms_journal.specs.declared.recovery.fault.RecoveryFault.{RecoveryFault}
use Rattle.sms_journal.specs.Faults.{out_of_memory}
use Rattle.sms_journal.specs.declared.recovery.fault.RecoveryFault.TheVariants.{Journal, Overdrawn}

-- a file that there may be, as its reader tells it
pub tariff_read : (t : Option (Bor (List ℕ))) → option_map (λ x. Some x.now) t ≡ octets_read (option_copied t)
tariff_read None = refl
tariff_read (Some x) = refl

-- the fault of a note that may not follow
pub note_fault : (rules : Rules) (size : RunSize) (ms : List Message) (notes : List Note) (fault : RecoveryFault) (place : ℕ) → (place < length notes → fault ≡ Journal (place + 2)) → IsFirstRunFault rules size ms notes place
    → IsFaultOfNotes rules size ms notes fault
note_fault rules size ms notes fault place is h = inr (place, is (slice_get_within notes place h.note h.there), h)

module _ (rules : Rules) (size : RunSize) (os : List Opening) (ms : List Message) (notes : List Note) (ends : List (MessageEnd (Unit {0}))) (old new : Option (List ℕ)) where
  pub printed : (rows : List Row) → IsRecovered rules size os ms notes ends rows → (status : ℕ) → Appends old new (report_of os ends rows) × (status ≡ ends_status ends) → Recovers rules size os ms notes old new status
  printed rows is status h = record { ends = ends; rows = rows; is = is; written = h.0; status_is = h.1 }

  pub cut_off : (rows : List Row) → IsRecovered rules size os ms notes ends rows → (fault : RecoveryFault) → IsCut (report_of os ends rows) old new fault → IsFaultOfRecovery rules size os ms notes old new fault
  cut_off rows is fault (inl memory) = inl (inl memory)
  cut_off rows is fault (inr h) = inr (inr (h.0, record { ends = ends; rows = rows; is = is; front = h.1 }))

  pub overdrawn : IsRunJournal rules size ms notes → AllZip (IsRunEnd rules notes) ms ends → (fault : RecoveryFault) → (fault ≡ out_of_memory) ⊎ ((fault ≡ Overdrawn) × ¬ AreCovered os ms ends) → IsFaultOfReport rules size os ms notes fault
  overdrawn lawful tells fault (inl memory) = inl (inl memory)
  overdrawn lawful tells fault (inr h) = inr (h.0, record { lawful = lawful; ends = ends; tells = tells; overdrawn = h.1 })

  pub of_report : (fault : RecoveryFault) → IsFaultOfReport rules size os ms notes fault → IsFaultOfRecovery rules size os ms notes old new fault
  of_report fault (inl h) = inl h
  of_report fault (inr h) = inr (inl h)
