use Rattle.std.proofs.Common.{◌≡◌, ℕ, take}
use Rattle.sms_journal.specs.Index.{AreInTurn, requests_about, requests_kept}
use Rattle.sms_journal.proofs.notes.grouping.groups.Given as goal

abbrev pub invariant-loop-note : goal.invariant-loop-note
invariant-loop-note l = record {
  turn : AreInTurn l.groups;
  kept : (q : ℕ) → requests_kept l.groups q ≡ requests_about (take l.note-index l.notes) q;
}
