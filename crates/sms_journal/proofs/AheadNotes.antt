-- The notes of a journal of some files, by what was read of it ahead.
use Rattle.std.proofs.Common.{◌≡◌, ℕ, List, ◌++◌, inl, inr, refl, sym, ap, subst}
use Rattle.sms_journal.specs.declared.error.JournalError.{JournalError}
use Rattle.sms_journal.specs.declared.error.JournalError.TheVariants.{BadRecord, OtherFiles, BadNote, Overdrawn, OutOfMemory}
use Rattle.sms_journal.specs.declared.notes.note.Note.{Note}
use Rattle.sms_journal.specs.declared.text.digests.FileTies.{FileTies}
use Rattle.sms_journal.specs.declared.text.digests.RunFile.{RunFile}
use Rattle.sms_journal.specs.declared.text.header.Digests.{Digests}
use Rattle.sms_journal.specs.declared.text.reader.LinesRead.{LinesRead}
use Rattle.sms_journal.specs.Ahead.{IsAhead}
use Rattle.sms_journal.specs.Digests.{DiffersFirst, first_in_tie, tied_as}
use Rattle.sms_journal.specs.Lines.{AreFaultyLines, AreNotes, IsBegunSo, IsFaultyText, IsJournalText}
use Rattle.sms_journal.specs.Text.{header_text}

module _ (files : FileTies) (text : List ℕ) (read : LinesRead) (h : IsAhead text read) where
  -- it is of other files
  pub others_found : (what : RunFile) → DiffersFirst read.digests (tied_as read.digests.config files) what → IsFaultyText files text (OtherFiles what)
  others_found what differs = record { kind = read.kind; others = read.digests; behind = h.behind; are = h.are; begun = record { is = h.is }; differs = differs }

  -- it is of these
  module _ (same : read.digests ≡ tied_as read.digests.config files) where
    begun_so : IsBegunSo read.kind read.digests.config files text h.behind
    begun_so = record {
      tied = h.are.0;
      begun = record { is = subst (λ (d : Digests). text ≡ header_text read.kind d ++ h.behind) same h.is };
      same = ap (λ (d : Digests). d.config) (sym same);
    }

    pub notes_found : (notes : List Note) → AreNotes h.behind notes → IsJournalText files text read.kind (first_in_tie read.digests.config) notes
    notes_found notes are = inl (read.digests.config, h.behind, begun_so, refl, are)

    pub fault_found : (error : JournalError) → AreFaultyLines h.behind error → IsFaultyText files text error
    fault_found (BadRecord place) bad = inr (read.kind, read.digests.config, h.behind, begun_so, bad)
    fault_found (OtherFiles what) bad = absurd bad
    fault_found (BadNote place) bad = absurd bad
    fault_found Overdrawn bad = absurd bad
    fault_found (OutOfMemory refused) bad = tt
