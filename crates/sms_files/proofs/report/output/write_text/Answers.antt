use Rattle.std.proofs.Common.{◌++◌, take}
use Rattle.sms_files.proofs.Writing.{appends-more, front-grows}
use Rattle.sms_files.proofs.report.output.write_text.Goals as goal

pub loop-rest-preserved : goal.loop-rest-preserved
loop-rest-preserved g c = record {
  front = c.loop-rest.invariant.front ++ take c.in_ok-taken.taken c.loop-rest.rest.now;
  whole = front-grows c.args.text.now c.loop-rest.invariant.front c.loop-rest.rest.now c.in_ok-taken.taken c.loop-rest.invariant.whole;
  out = appends-more (g.W.Write.contents c.args.output.now) (g.W.Write.contents c.loop-rest.output) (g.W.Write.contents c.write_some.new.output) c.loop-rest.invariant.front (take c.in_ok-taken.taken c.loop-rest.rest.now) c.loop-rest.invariant.out c.in_ok-taken.ensures.taken;
}
