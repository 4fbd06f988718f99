use Rattle.std.proofs.Common.{inl, ap, sym, subst}
use Rattle.std.specs.Prelude.{map, string_bytes}
use Rattle.sms_send.specs.Reached.{centre_of}
use Rattle.sms_send.specs.Sent.{IsDeaf, FailsOver, SendingEnd, SendsWork, unknown}
use Rattle.sms_send.specs.declared.sending.target.Target.{Target}
use Rattle.sms_send.proofs.Keeping.{kept_reasoned}
use Rattle.sms_send.proofs.Noting.{ended_early}
use Rattle.sms_send.proofs.Reasons.{reasoned_end}
use Rattle.sms_send.proofs.Starts.{deaf_at}
use Rattle.sms_send.proofs.Reaching.{over_loopback, over_remote}
use Rattle.sms_send.proofs.sending.Sending.run.Goals as goal

pub returns-in-Remote-clause-ended : goal.returns-in-Remote-clause-ended
returns-in-Remote-clause-ended g c =
    reasoned_end c.reasoned.result c.send_over-sent.result _ _ _ _ _ _ _ _ _ _ c.reasoned.ensures.sent c.reasoned.ensures.told
    (over_remote (g.R.Connects.tells c.args.self.now.rt.now) c.args.self.now.target
    (λ tells. SendingEnd c.args.self.now.strict (SendsWork tells c.args.self.now.again c.args.self.now.strict c.args.work (g.W.Write.contents c.args.output.now) (g.W.Write.contents c.send_over-sent.new.output))
    (FailsOver unknown tells c.args.self.now.again c.args.work (g.W.Write.contents c.args.output.now) (g.W.Write.contents c.send_over-sent.new.output)) c.send_over-sent.new.start.begun c.args.output.now c.send_over-sent.new.output c.send_over-sent.result)
    _ _ _ _ _ c.in-Remote.is c.as_str.ensures.value c.new-outboxes.ensures.journal c.send_over-sent.ensures.ended)

pub returns-in_err-listener-in-Loopback-clause-ended : goal.returns-in_err-listener-in-Loopback-clause-ended
returns-in_err-listener-in-Loopback-clause-ended g c =
    ended_early c.from_residual.result _ _ _ _ _ _ c.from_residual.ensures.1
    (inl (subst (λ (t : Target). IsDeaf (centre_of t) c.in_err-listener-in-Loopback.field-0.0) (sym c.in-Loopback.is) c.in_err-listener-in-Loopback.ensures.refused))
    (deaf_at _ _ c.requires.not_started c.in_err-listener-in-Loopback.ensures.refused)

pub returns-clause-ended : goal.returns-clause-ended
returns-clause-ended g c =
    reasoned_end c.reasoned-in-Loopback.result c.send_over-sent-in-Loopback.result _ _ _ _ _ _ _ _ _ _ c.reasoned-in-Loopback.ensures.sent c.reasoned-in-Loopback.ensures.told
    (over_loopback (g.R.Connects.tells c.args.self.now.rt.now) c.args.self.now.target
    (λ tells. SendingEnd c.args.self.now.strict (SendsWork tells c.args.self.now.again c.args.self.now.strict c.args.work (g.W.Write.contents c.args.output.now) (g.W.Write.contents c.send_over-sent-in-Loopback.new.output))
    (FailsOver unknown tells c.args.self.now.again c.args.work (g.W.Write.contents c.args.output.now) (g.W.Write.contents c.send_over-sent-in-Loopback.new.output)) c.send_over-sent-in-Loopback.new.start.begun c.args.output.now c.send_over-sent-in-Loopback.new.output c.send_over-sent-in-Loopback.result)
    _ _ _ _ _ c.in-Loopback.is (ap (map string_bytes) c.as_slice.ensures.value) c.new-outboxes.ensures.journal c.send_over-sent-in-Loopback.ensures.ended)

pub returns-in-Remote-clause-kept : goal.returns-in-Remote-clause-kept
returns-in-Remote-clause-kept g c = λ none. kept_reasoned c.reasoned.result c.send_over-sent.result _ _ _ c.reasoned.ensures.sent c.reasoned.ensures.told c.send_over-sent.ensures.kept

pub returns-clause-kept : goal.returns-clause-kept
returns-clause-kept g c =
    λ none. kept_reasoned c.reasoned-in-Loopback.result c.send_over-sent-in-Loopback.result _ _ _ c.reasoned-in-Loopback.ensures.sent c.reasoned-in-Loopback.ensures.told c.send_over-sent-in-Loopback.ensures.kept
