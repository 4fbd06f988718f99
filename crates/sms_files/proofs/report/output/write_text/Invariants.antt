-- What was taken so far is a front of the text, and the rest is to come.
use Rattle.std.proofs.Common.{◌≡◌, ℕ, List, ◌++◌, length}
use Rattle.std.specs.Io.KnownBytes.{Appends}
use Rattle.sms_files.proofs.report.output.write_text.Given as goal

abbrev pub invariant-loop-rest : goal.invariant-loop-rest
invariant-loop-rest g l = record {
  front : List ℕ;
  whole : l.text ≡ front ++ l.rest;
  out : Appends (g.W.Write.contents l.initial.output) (g.W.Write.contents l.output) front;
}

abbrev pub decreases-loop-rest : goal.decreases-loop-rest
decreases-loop-rest g l = length l.rest
