-- Lines that are read one after another.
use Rattle.std.proofs.Common.{◌≡◌, ℕ, false, List, [], ◌∷◌, ◌++◌, length, take, Some, None, inl, refl, sym, ap, ◌∙◌, append-nil}
use Rattle.std.specs.Prelude.{flat_map}
use Rattle.std.proofs.Math.Seq.{take-append_seam}
use Rattle.std.proofs.lemmas.Grind.{flat_map-append}
use Rattle.std.proofs.lemmas.List.{map-append}
use Rattle.sms_journal.specs.declared.notes.note.Note.{Note}
use Rattle.sms_journal.specs.declared.text.digests.FileTies.{FileTies}
use Rattle.sms_journal.specs.declared.text.header.JournalKind.TheVariants.{Run, Trial}
use Rattle.sms_journal.specs.Text.{header_text, note_text}
use Rattle.sms_journal.specs.Lines.{AreLines, AreU64, IsLineOf, IsNote, IsTruncated, IsU64, IsUnbegun, TruncatesHeader, timed_text}
use Rattle.sms_journal.specs.Reading.{note_in, time_in}
use Rattle.sms_journal.proofs.Fields.{note_found, time_found}

-- a text that has no front doesn't begin with it
pub no_front : (text front start rest : List ℕ) → start ≡ take (length front) text → text ≡ front ++ rest → start ≡ front
no_front text front start rest is e = is ∙ ap (take (length front)) e ∙ take-append_seam front rest

-- a line of a note tells its time and it
pub no_time : (line : List ℕ) (time : ℕ) (note : Note) → IsU64 time → line ≡ note_text time note → time_in line ≡ None → ⊥
no_time line time note low is none = let e : Some time ≡ None = sym (time_found time note low) ∙ ap time_in (sym is) ∙ none in absurd (cc)

pub no_note : (line : List ℕ) (time : ℕ) (note : Note) → IsU64 time → IsNote note → line ≡ note_text time note → note_in line ≡ None → ⊥
no_note line time note low good is none = let e : Some note ≡ None = sym (note_found time note low good) ∙ ap note_in (sym is) ∙ none in absurd (cc)

-- so it is written as what was read
pub written_again : (line : List ℕ) (time : ℕ) (note : Note) (t : ℕ) (n : Note) → IsU64 time → IsNote note → line ≡ note_text time note → time_in line ≡ Some t → note_in line ≡ Some n → note_text t n ≡ line
written_again line time note t n low good is there recovered =
    let e : Some time ≡ Some t = sym (time_found time note low) ∙ ap time_in (sym is) ∙ there in
    let f : Some note ≡ Some n = sym (note_found time note low good) ∙ ap note_in (sym is) ∙ recovered in
    let same_time : time ≡ t = cc in
    let same_note : note ≡ n = cc in
    ap (λ (k : ℕ). note_text k n) (sym same_time) ∙ ap (note_text time) (sym same_note) ∙ sym is

-- so two notes don't have one line
pub line_once : (time other_time : ℕ) (note other : Note) → IsU64 time → IsU64 other_time → IsNote note → IsNote other → note_text time note ≡ note_text other_time other → (time ≡ other_time) × (note ≡ other)
line_once time other_time note other low other_low good other_good is =
    let e : Some time ≡ Some other_time = sym (time_found time note low) ∙ ap time_in is ∙ time_found other_time other other_low in
    let f : Some note ≡ Some other = sym (note_found time note low good) ∙ ap note_in is ∙ note_found other_time other other_low other_good in
    (cc, cc)

-- ---- lines

pub no_lines : AreLines [] []
no_lines = record { timed = []; times = tt; are = refl; is = refl }

times_more : (es : List (ℕ × Note)) (e : ℕ × Note) → AreU64 es → IsU64 e.0 → AreU64 (es ++ e ∷ [])
times_more [] e all here = (here, tt)
times_more (x ∷ es) e all here = (all.0, times_more es e all.1 here)

pub lines_more : (lines line : List ℕ) (notes : List Note) (note : Note) → AreLines lines notes → IsLineOf line note → AreLines (lines ++ line) (notes ++ note ∷ [])
lines_more lines line notes note so here =
    let e : ℕ × Note = (here.0, note) in
    record {
      timed = so.timed ++ e ∷ [];
      times = times_more so.timed e so.times here.1;
      are = map-append (λ (x : ℕ × Note). x.1) so.timed (e ∷ []) ∙ ap (λ (l : List Note). l ++ note ∷ []) so.are;
      is = ap (λ (l : List ℕ). l ++ line) so.is ∙ ap (λ (l : List ℕ). flat_map timed_text so.timed ++ l) (here.2 ∙ sym (append-nil (note_text here.0 note))) ∙ sym (flat_map-append timed_text so.timed (e ∷ []));
    }

-- ---- headers

-- a text without an octet is that of a run
pub unbegun_trial : (files : FileTies) (text : List ℕ) → IsTruncated Run files text false → TruncatesHeader Trial files text → IsUnbegun Trial files text
unbegun_trial files text other is = record { truncated = is; empty = λ none. absurd (other (inl (header_text Run files.digests, ap (λ (l : List ℕ). l ++ header_text Run files.digests) (sym none)))) }
