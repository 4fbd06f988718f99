-- Nothing was taken so far.
use Rattle.std.proofs.Common.{[]}
use Rattle.std.specs.Io.KnownBytes.{Appends}
use Rattle.sms_files.proofs.report.output.write_some.Given as goal

abbrev pub invariant-loop-taken : goal.invariant-loop-taken
invariant-loop-taken g l = record {
  none : Appends (g.W.Write.contents l.initial.output) (g.W.Write.contents l.output) [];
}

abbrev pub decreases-loop-taken : goal.decreases-loop-taken
decreases-loop-taken g l = l.tries
