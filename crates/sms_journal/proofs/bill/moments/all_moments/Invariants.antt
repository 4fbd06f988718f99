use Rattle.std.proofs.Common.{◌≤◌, drop, length}
use Rattle.sms_journal.specs.Moments.{AreAnswers, AreMoments}
use Rattle.sms_journal.proofs.bill.moments.all_moments.Given as goal

abbrev pub invariant-loop-place : goal.invariant-loop-place
invariant-loop-place l = record {
  low : l.place ≤ length l.times;
  lower : l.place ≤ length l.notes;
  answers : AreAnswers (drop l.place l.times) (drop l.place l.notes) l.answers;
  moments : AreMoments (drop l.place l.times) (drop l.place l.notes) l.moments;
}

abbrev pub decreases-loop-place : goal.decreases-loop-place
decreases-loop-place l = l.place
