use Rattle.std.proofs.Common.{◌≡◌, ◌+◌, drop, ℕ}
use Rattle.std.specs.Prelude.{option_map}
use Rattle.sms_book.specs.Openings.{names_of}
use Rattle.sms_files.specs.MessageRows.{place_of}
use Rattle.sms_files.proofs.tables.message_rows.place_of.Given as goal

abbrev pub invariant-loop-place : goal.invariant-loop-place
invariant-loop-place l =
    place_of l.name (names_of l.openings) ≡ option_map (λ (k : ℕ). l.place + k) (place_of l.name (names_of (drop l.place l.openings)))
