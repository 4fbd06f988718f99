use Rattle.std.proofs.Common.{◌≡◌, ◌++◌, ◌∷◌, [], length, ap, ◌∙◌, rules, arith}
use Rattle.sms_worker.proofs.Replies.{one_applied}
use Rattle.sms_worker.proofs.Tries.{length-snoc}
use Rattle.sms_worker.proofs.Turning.{some_then}
use Rattle.sms_worker.proofs.state.worker_state.WorkerState.take_replies.Goals as goal

pub loop-pop-preserved : goal.loop-pop-preserved
loop-pop-preserved g c = record {
  replies = c.take_reply.ensures.replies;
  ring = search rules;
  each = one_applied g.C.WorkerStart.start.rules c.in-Ok.reply c.take_reply.result c.loop-pop.pop _ _ _ c.loop-pop.invariant.each (search rules) c.take_reply.ensures.applied;
  some = some_then c.loop-pop.pop;
  many =
      let next : c.take_reply.new.self.replies ≡ c.loop-pop.self.replies ++ c.in-Ok.reply ∷ [] = search rules in
      let one = ap length next ∙ length-snoc c.loop-pop.self.replies c.in-Ok.reply in
      let before = c.loop-pop.invariant.many in
      omega arith;
  closed = c.take_reply.ensures.closed ∙ c.loop-pop.invariant.closed;
}
