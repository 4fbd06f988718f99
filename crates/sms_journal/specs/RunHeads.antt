-- The head of a run of a ledger, read from its text: what its fields say. A text that only resembles one is read as one too: writing it again and comparing
-- shows the difference.
use Rattle.std.specs.Prelude.{◌≡◌, ◌≢◌, ◌++◌, ℕ, List, [], length, Option}
use Rattle.sms_ledger.specs.Lines.{IsU64}
use Rattle.sms_ledger.specs.Names.{IsRun, run_said as run_of}
use Rattle.sms_journal.specs.OfLedger.{IsCutHead, IsNoRunText, IsRunText, run_head}
use Rattle.sms_journal.specs.Reading.{behind_field, field_in, u64_in}
use Rattle.sms_journal.specs.declared.of_ledger.head.RunText.{RunText}
use Rattle.sms_journal.specs.declared.of_ledger.head.RunText.TheVariants.{Cut, Other, Whole}

-- the name and the number, behind the word and the version
abbrev pub run_said : List ℕ → Option (List ℕ)
run_said text = run_of (field_in (behind_field (behind_field text)))

abbrev pub size_said : List ℕ → Option ℕ
size_said text = u64_in (field_in (behind_field (behind_field (behind_field text))))

-- neither the journal of a run nor a truncated head of one
abbrev pub IsOther : List ℕ → Type 0
IsOther text = IsNoRunText text × ¬ IsCutHead text

-- what octets are as those of a run's journal
abbrev pub IsReadRun : List ℕ → RunText → Type 0
IsReadRun text (Whole head) = IsRunText head.run head.accounts.now head.journal.now text
IsReadRun text Cut = IsCutHead text
IsReadRun text Other = IsOther text

-- ---- laws

-- a text is the journal of one run, with one accounts file
abbrev pub RunTextsAreUnique : Type 0
RunTextsAreUnique =
    (text run accounts journal other others rest : List ℕ) → IsRunText run accounts journal text → IsRunText other others rest text → (other ≡ run) × (others ≡ accounts) × (rest ≡ journal)

-- and no truncated head
abbrev pub NoRunTextIsCut : Type 0
NoRunTextIsCut = (run accounts journal text : List ℕ) → IsRunText run accounts journal text → ¬ IsCutHead text

-- wherever a head is truncated, a truncated head is left
abbrev pub TruncatedHeadsAreCut : Type 0
TruncatedHeadsAreCut = (run accounts text rest : List ℕ) → IsRun run → IsU64 (length accounts) → run_head run accounts ≡ text ++ rest → rest ≢ [] → IsCutHead text
