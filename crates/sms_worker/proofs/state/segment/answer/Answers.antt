use Rattle.std.proofs.Common.{◌≡◌, ◌∷◌, ◌++◌, [], length, Some, ap, rules, arith, refl, ◌∙◌}
use Rattle.sms_worker.proofs.Tries.{decided_state, length-snoc, silent_last}
use Rattle.sms_worker.proofs.state.segment.answer.Goals as goal

pub overflow_cast-len : goal.overflow_cast-len
overflow_cast-len c =
    let h = c.record_reply.ensures.recorded (search rules) in
    let before : c.args.segment.attempts ≡ h.front ++ h.last ∷ [] = search rules in
    let l = silent_last c.args.policy.now.attempts c.args.segment h.front h.last before h.silent c.requires.state in
    let few = l.few in
    let long = ap length h.after ∙ length-snoc h.front (record h.last { reply = Some c.args.reply }) in
    let n = c.len.ensures in
    omega arith

pub returns-clause-answered : goal.returns-clause-answered
returns-clause-answered c =
    let h = c.record_reply.ensures.recorded (search rules) in
    let before : c.args.segment.attempts ≡ h.front ++ h.last ∷ [] = search rules in
    let l = silent_last c.args.policy.now.attempts c.args.segment h.front h.last before h.silent c.requires.state in
    let all : c.new-attempts-2.result ≡ h.front ++ record h.last { reply = Some c.args.reply } ∷ [] = c.new-attempts-2.ensures ∙ h.after in
    let long = ap length h.after ∙ length-snoc h.front (record h.last { reply = Some c.args.reply }) in
    record {
      hears = record {
        front = h.front;
        last = h.last;
        before = before;
        number = h.number;
        silent = h.silent;
        open_yet = l.last;
        after = ap (λ l. record c.args.segment { attempts = l }) all;
      };
      state = decided_state c.args.policy.now.attempts c.args.policy.now.base_ms h.front (record h.last { reply = Some c.args.reply }) c.args.reply c.decide-decision.result (record { cost = c.args.segment.cost; attempts = c.new-attempts-2.result; outcome = c.args.segment.outcome }) l.few l.retried refl all (search rules);
    }

pub returns-clause-decided : goal.returns-clause-decided
returns-clause-decided c = search rules
