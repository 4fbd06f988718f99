-- What is read of the head of a run of a ledger.
use Rattle.std.proofs.Common.{◌≡◌, ℕ, Bool, true, false, List, [], ◌∷◌, ◌++◌, Some, None, inl, inr, refl, sym, ap, ◌∙◌, subst, arith, rules, append_assoc, length, ◌<◌}
use Rattle.std.specs.Prelude.{◌==◌, ◌≢◌, ◌||◌, codes, decimal, if◌then◌else◌}
use Rattle.std.specs.Bool.{Decides}
use Rattle.std.specs.List.{list_all}
use Rattle.std.proofs.lemmas.Bool.{and_parts}
use Rattle.std.proofs.lemmas.Bool.Decides.{nat_tests}
use Rattle.sms_ledger.specs.Names.{IsRun, is_hex, run_said as run_of}
use Rattle.sms_ledger.specs.Lines.{IsU64}
use Rattle.sms_journal.specs.Lines.{feed_at}
use Rattle.sms_journal.specs.OfLedger.{BeginsSo, IsCutHead, IsCutLine, IsRunText, run_head, run_line}
use Rattle.sms_journal.specs.Reading.{behind_field, field_in, is_end, u64_in}
use Rattle.sms_journal.specs.RunHeads.{IsOther, run_said, size_said}
use Rattle.sms_journal.specs.Text.{number_field}
use Rattle.sms_journal.proofs.Fields.{HasNoEnd, behind_is, comma, feed, field_is, number_field_is, u64_found}
use Rattle.sms_journal.proofs.DigestTexts.{none_some, same_some}

-- ---- names

hex_ends_none : (c : ℕ) → is_hex c ≡ true → is_end c ≡ false
hex_ends_none c h = grind (arith, nat_tests)

hexes_end_none : (text : List ℕ) → list_all is_hex text ≡ true → HasNoEnd text
hexes_end_none [] h = tt
hexes_end_none (c ∷ cs) h = let p = and_parts (is_hex c) (list_all is_hex cs) h in (hex_ends_none c p.0, hexes_end_none cs p.1)

pub run_ends_none : (run : List ℕ) → IsRun run → HasNoEnd run
run_ends_none run named = hexes_end_none run (and_parts (length run == 32) (list_all is_hex run) named).1

run_found : (run : List ℕ) → IsRun run → run_of run ≡ Some run
run_found run named = ap (λ (b : Bool). if b then Some run else None) named

-- ---- the first line

regroup : (a b c d e : List ℕ) → (((a ++ b) ++ c) ++ d) ++ e ≡ a ++ (b ++ (c ++ (d ++ e)))
regroup a b c d e = simp append_assoc

abbrev behind_run : ℕ → List ℕ → List ℕ
behind_run size rest = decimal size ++ 10 ∷ rest

abbrev behind_version : List ℕ → ℕ → List ℕ → List ℕ
behind_version run size rest = run ++ 44 ∷ behind_run size rest

line_is : (run : List ℕ) (size : ℕ) (rest : List ℕ) → run_line run size ++ rest ≡ codes "run" ++ 44 ∷ (codes "1" ++ 44 ∷ behind_version run size rest)
line_is run size rest = regroup (codes "run,1,") run (number_field size) (codes "\n") rest

module _ (run : List ℕ) (size : ℕ) (rest : List ℕ) (named : IsRun run) (small : IsU64 size) where
  behind_word : behind_field (run_line run size ++ rest) ≡ codes "1" ++ 44 ∷ behind_version run size rest
  behind_word = ap behind_field (line_is run size rest) ∙ behind_is (codes "run") 44 (codes "1" ++ 44 ∷ behind_version run size rest) (search rules) comma

  behind_two : behind_field (behind_field (run_line run size ++ rest)) ≡ behind_version run size rest
  behind_two = ap behind_field behind_word ∙ behind_is (codes "1") 44 (behind_version run size rest) (search rules) comma

  behind_three : behind_field (behind_field (behind_field (run_line run size ++ rest))) ≡ behind_run size rest
  behind_three = ap behind_field behind_two ∙ behind_is run 44 (behind_run size rest) (run_ends_none run named) comma

  pub run_is_said : run_said (run_line run size ++ rest) ≡ Some run
  run_is_said = ap run_of (ap field_in behind_two ∙ field_is run 44 (behind_run size rest) (run_ends_none run named) comma) ∙ run_found run named

  pub size_is_said : size_said (run_line run size ++ rest) ≡ Some size
  size_is_said = ap u64_in (ap field_in behind_three ∙ number_field_is size 10 rest small feed) ∙ u64_found size small

-- ---- texts

pub behind_head : (run accounts journal : List ℕ) → run_head run accounts ++ journal ≡ run_line run (length accounts) ++ (accounts ++ journal)
behind_head run accounts journal = append_assoc (run_line run (length accounts)) accounts journal

-- one that begins with no first line, and is no part of one, is neither
abbrev HasNoLine : List ℕ → Type 0
HasNoLine text = (run : List ℕ) (size : ℕ) (rest : List ℕ) → IsRun run → IsU64 size → text ≢ run_line run size ++ rest

is_other : (text : List ℕ) → (IsCutLine text → ⊥) → HasNoLine text → IsOther text
is_other text whole other = (λ run accounts journal is. other run (length accounts) (accounts ++ journal) is.named is.small (is.is ∙ behind_head run accounts journal), no_cut)
  where
    no_cut : IsCutHead text → ⊥
    no_cut (inl cut) = whole cut
    no_cut (inr cut) = other cut.run cut.size cut.accounts cut.named cut.small cut.is

pub without_size : (text : List ℕ) → (IsCutLine text → ⊥) → size_said text ≡ None → IsOther text
without_size text whole none = is_other text whole (λ run size rest named small is. none_some size (sym none ∙ ap size_said is ∙ size_is_said run size rest named small))

pub without_run : (text : List ℕ) → (IsCutLine text → ⊥) → run_said text ≡ None → IsOther text
without_run text whole none = is_other text whole (λ run size rest named small is. none_some run (sym none ∙ ap run_said is ∙ run_is_said run size rest named small))

-- so is one that is written otherwise
pub written_otherwise : (text run : List ℕ) (size : ℕ) → (IsCutLine text → ⊥) → run_said text ≡ Some run → size_said text ≡ Some size → ((rest : List ℕ) → text ≢ run_line run size ++ rest) → IsOther text
written_otherwise text run size whole said sized other = is_other text whole (λ name n rest named small is.
    let same_run : name ≡ run = same_some name run (sym (ap run_said is ∙ run_is_said name n rest named small) ∙ said) in
    let same_size : n ≡ size = same_some n size (sym (ap size_said is ∙ size_is_said name n rest named small) ∙ sized) in
    other rest (is ∙ ap (λ (k : ℕ). run_line name k ++ rest) same_size ∙ ap (λ (l : List ℕ). run_line l size ++ rest) same_run))

-- what stands behind the first line, where it is long enough, and where it isn't
pub whole_text : (run : List ℕ) (size : ℕ) (accounts journal rest : List ℕ) → IsRun run → IsU64 size → rest ≡ accounts ++ journal → length accounts ≡ size → IsRunText run accounts journal (run_line run size ++ rest)
whole_text run size accounts journal rest named small parts long = record {
  named = named;
  small = subst IsU64 (sym long) small;
  is = ap (λ (l : List ℕ). run_line run size ++ l) parts ∙ ap (λ (n : ℕ). run_line run n ++ (accounts ++ journal)) (sym long) ∙ sym (behind_head run accounts journal);
}

pub short_text : (run : List ℕ) (size : ℕ) (rest : List ℕ) → IsRun run → IsU64 size → length rest < size → IsCutHead (run_line run size ++ rest)
short_text run size rest named small short = inr (record { run = run; size = size; accounts = rest; named = named; small = small; is = refl; short = short })

-- ---- less than a first line

pub cut_decided : (text : List ℕ) (longer shorter : Bool) → feed_at text ≡ None → Decides longer (BeginsSo (codes "run,1,") text) → Decides shorter (BeginsSo text (codes "run,1,")) → Decides (longer || shorter) (IsCutLine text)
cut_decided text true shorter none l s = (λ e. (none, inr (l.0 refl)), λ cut. refl)
cut_decided text false true none l s = (λ e. (none, inl (s.0 refl)), λ cut. refl)
cut_decided text false false none l s = (λ e. absurd (cc), refused)
  where
    refused : IsCutLine text → false ≡ true
    refused (feed, inl h) = s.1 h
    refused (feed, inr h) = l.1 h

pub has_feed : (text : List ℕ) (at : ℕ) → feed_at text ≡ Some at → Decides false (IsCutLine text)
has_feed text at some = (λ e. absurd (cc), λ cut. absurd (none_some at (sym cut.0 ∙ some)))

pub not_so : {P : Type 0} (b : Bool) → Decides b P → b ≡ false → P → ⊥
not_so true so is p = absurd (cc)
not_so false so is p = absurd (false_true (so.1 p))
  where
    false_true : false ≡ true → ⊥
    false_true e = absurd (cc)
