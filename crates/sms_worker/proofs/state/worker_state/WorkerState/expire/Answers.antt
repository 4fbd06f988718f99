use Rattle.std.proofs.Common.{◌≡◌, ◌<◌, ◌≤◌, ◌-◌, ◌⊎◌, inl, inr, length, Some, sym, ap, ◌∙◌, subst, rules, arith}
use Rattle.std.specs.Prelude.{IsTrue, slice_get}
use Rattle.std.proofs.lemmas.Option.{slice_get-get_or}
use Rattle.sms_worker.specs.Expiry.{IsToExpire}
use Rattle.sms_worker.specs.RunState.{RunState}
use Rattle.sms_worker.proofs.Expiring.{expired_more, left_more}
use Rattle.sms_worker.proofs.state.worker_state.WorkerState.expire.Goals.{else-not-down-via-then-not-down+else-not-is_overdue, else-not-down-via-else-not-down, then-expire_at, else-expire_at}
use Rattle.sms_worker.proofs.state.worker_state.WorkerState.expire.Goals as goal

pub loop-look-preserved : goal.loop-look-preserved
loop-look-preserved g c =
    let opened = c.self.inside.opened.items in
    let i = c.count-i.result in
    let low : i < length opened = search rules in
    let at : slice_get opened i ≡ Some c.index-open.result.now = slice_get-get_or opened i c.index-open.result.now low ∙ ap Some (sym c.index-open.ensures) in
    let there : slice_get c.loop-look.self.opened c.loop-look.answered.count ≡ Some c.index-open.result.now =
    subst (λ n. slice_get c.loop-look.self.opened n ≡ Some c.index-open.result.now) c.count-i.ensures (subst (λ (x : RunState). slice_get x.opened i ≡ Some c.index-open.result.now) c.self.view_is at) in
    let due : IsTrue c.args.down ⊎ (g.C.WorkerStart.start.rules.answer_ms ≤ c.args.now.at_ms - c.index-open.result.now.since.at_ms) = elim c.else-not-down.branch [
      | else-not-down-via-then-not-down+else-not-is_overdue w ↦ inr (search rules)
      | else-not-down-via-else-not-down w ↦ inl (search rules)
    ] in
    let to_expire : IsToExpire c.args.down g.C.WorkerStart.start.rules.answer_ms c.args.now.at_ms c.loop-look.answered.count c.loop-look.self = record { request = c.index-open.result.now; there = there; due = due } in
    let before = c.loop-look.invariant.few in
    record {
      replies = c.expire_at.ensures.replies ∙ c.loop-look.invariant.replies;
      looks = elim c.if-expire_at.branch [
        | then-expire_at w ↦ expired_more c.args.down _ _ _ _ c.expire_at.new.answered.count c.loop-look.any _ _ _ _ c.loop-look.invariant.looks to_expire (c.expire_at.ensures.expired (search rules)) w.any-is
        | else-expire_at w ↦ left_more c.args.down _ _ _ _ c.expire_at.new.answered.count c.loop-look.any _ _ _ _ c.loop-look.invariant.looks to_expire (c.expire_at.ensures.left (search rules)) w.any-is
      ];
      few = elim c.if-expire_at.branch [
        | then-expire_at w ↦ (let e = (c.expire_at.ensures.expired (search rules)).1 in omega arith)
        | else-expire_at w ↦ (let e = (c.expire_at.ensures.left (search rules)).1 in omega arith)
      ];
    }
