-- Lines that are read one after another, with their times.
use Rattle.std.proofs.Common.{◌≡◌, ◌∙◌, ℕ, List, [], ◌∷◌, ◌++◌, length, length-append, Some, refl, sym, ap, subst, append-nil, arith}
use Rattle.std.specs.Prelude.{flat_map}
use Rattle.std.proofs.lemmas.Grind.{flat_map-append}
use Rattle.sms_journal.specs.declared.notes.note.Note.{Note}
use Rattle.sms_journal.specs.Lines.{AreU64, IsLineOf, IsU64, timed_text}
use Rattle.sms_journal.specs.Reading.{time_in}
use Rattle.sms_journal.specs.Text.{note_text}
use Rattle.sms_journal.specs.TimedLines.{AreTimedLines, timed_by}
use Rattle.sms_journal.proofs.Fields.{time_found}

pub no_timed : AreTimedLines [] [] []
no_timed = record { counted = refl; low = tt; is = refl }

by_more : (times : List ℕ) (notes : List Note) (time : ℕ) (note : Note) → length times ≡ length notes → timed_by (times ++ time ∷ []) (notes ++ note ∷ []) ≡ timed_by times notes ++ (time, note) ∷ []
by_more [] [] time note e = refl
by_more [] (n ∷ notes) time note e = absurd (omega (arith, e))
by_more (t ∷ times) [] time note e = absurd (omega (arith, e))
by_more (t ∷ times) (n ∷ notes) time note e = ap (λ (l : List (ℕ × Note)). (t, n) ∷ l) (by_more times notes time note (omega (arith, e)))

low_more : (es : List (ℕ × Note)) (e : ℕ × Note) → AreU64 es → IsU64 e.0 → AreU64 (es ++ e ∷ [])
low_more [] e all here = (here, tt)
low_more (x ∷ es) e all here = (all.0, low_more es e all.1 here)

one_more : (lines line times : List ℕ) (notes : List Note) (time : ℕ) (note : Note) → AreTimedLines lines times notes → IsU64 time → line ≡ note_text time note
    → AreTimedLines (lines ++ line) (times ++ time ∷ []) (notes ++ note ∷ [])
one_more lines line times notes time note so low here =
    let more = by_more times notes time note so.counted in
    let long_times = length-append times (time ∷ []) in
    let long_notes = length-append notes (note ∷ []) in
    let counted = so.counted in
    record {
      counted = omega (arith, long_times, long_notes, counted);
      low = subst AreU64 (sym more) (low_more (timed_by times notes) (time, note) so.low low);
      is = ap (λ (l : List ℕ). l ++ line) so.is ∙ ap (λ (l : List ℕ). flat_map timed_text (timed_by times notes) ++ l) (here ∙ sym (append-nil (note_text time note)))
          ∙ sym (flat_map-append timed_text (timed_by times notes) ((time, note) ∷ [])) ∙ ap (flat_map timed_text) (sym more);
    }

-- a line of this note, in which this time stands
pub timed_more : (lines line times : List ℕ) (notes : List Note) (time : ℕ) (note : Note) → AreTimedLines lines times notes → IsLineOf line note → ((t : ℕ) → time_in line ≡ Some t → time ≡ t)
    → AreTimedLines (lines ++ line) (times ++ time ∷ []) (notes ++ note ∷ [])
timed_more lines line times notes time note so here says =
    let same : time ≡ here.0 = says here.0 (ap time_in here.2 ∙ time_found here.0 note here.1) in
    one_more lines line times notes time note so (subst IsU64 (sym same) here.1) (here.2 ∙ ap (λ (t : ℕ). note_text t note) (sym same))
