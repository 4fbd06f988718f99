use Rattle.std.proofs.Common.{◌∙◌, arith, subst, sym}
use Rattle.std.specs.Prelude.{IsTrue}
use Rattle.sms_worker.proofs.Sweeping.{settled_next, settled_message}
use Rattle.sms_worker.proofs.state.worker_state.WorkerState.sweep_message.Goals as goal

pub give_up-requires : goal.give_up-requires
give_up-requires g c = record { why = λ none. subst IsTrue (sym c.loop-part.invariant.closed) (c.requires.why (c.reason_at_end.ensures none)) }

pub loop-part-preserved : goal.loop-part-preserved
loop-part-preserved g c =
    let i = c.loop-part.invariant in
    record {
      replies = c.give_up.ensures.replies ∙ i.replies;
      long = c.give_up.ensures.length ∙ i.long;
      closed = c.give_up.ensures.closed ∙ i.closed;
      settled = settled_next _ c.args.message c.loop-part.part c.loop-part.self.ends c.give_up.new.self.ends i.settled c.give_up.ensures.swept;
      inside = λ q s got. let old = c.give_up.ensures.in_place c.args.message q s got in i.inside q old.0 old.1;
    }

pub returns-clause-after : goal.returns-clause-after
returns-clause-after g c =
    let i = c.loop-part.invariant in
    settled_message _ c.args.message c.loop-part.part c.loop-part.self.ends i.settled (λ q s got. let h = i.inside q s got in omega arith)
