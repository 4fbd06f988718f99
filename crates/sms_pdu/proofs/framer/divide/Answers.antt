use Rattle.std.proofs.Common.{◌∙◌, inl, inr}
use Rattle.std.proofs.lemmas.Result.{IfOk-weaker}
use Rattle.sms_pdu.proofs.Fronts.{found_short, found_bad, found_cut}
use Rattle.sms_pdu.proofs.Streams.{went_whole, went_divides}
use Rattle.sms_pdu.proofs.framer.divide.Goals as goal

pub taking-preserved : goal.taking-preserved
taking-preserved c =
    let copied = c.new.ensures ∙ c.in_ok-from_slice-in-Whole.ensures.items ∙ c.split_at.ensures.front in
    went_whole c.args.stream.now c.taking.left.now c.taking.frames.items c.push.new.self.items c.in-Whole.length c.new.result c.split_at.result.1.now c.taking.invariant c.in-Whole.ensures copied c.split_at.ensures.back c.in_ok-push-in-Whole.ensures.items

pub returns-in-Short-clause-divided : goal.returns-in-Short-clause-divided
returns-in-Short-clause-divided c =
    let left = c.taking.left.now in
    IfOk-weaker c.with_rest.result _ _ (λ d h. went_divides c.args.stream.now left d.rest.items c.taking.frames.items d.frames.items c.taking.invariant h.0 h.1 (inl (found_short left c.in-Short.ensures))) c.with_rest.ensures

pub returns-in-Bad-clause-divided : goal.returns-in-Bad-clause-divided
returns-in-Bad-clause-divided c =
    let left = c.taking.left.now in
    IfOk-weaker c.with_rest-in-Bad.result _ _ (λ d h. went_divides c.args.stream.now left d.rest.items c.taking.frames.items d.frames.items c.taking.invariant h.0 h.1 (inr (inr (found_bad left c.in-Bad.ensures)))) c.with_rest-in-Bad.ensures

pub returns-in-Cut-clause-divided : goal.returns-in-Cut-clause-divided
returns-in-Cut-clause-divided c =
    let left = c.taking.left.now in
    IfOk-weaker c.with_rest-in-Cut.result _ _ (λ d h. went_divides c.args.stream.now left d.rest.items c.taking.frames.items d.frames.items c.taking.invariant h.0 h.1 (inr (inl (found_cut left c.in-Cut.length c.in-Cut.ensures).0))) c.with_rest-in-Cut.ensures
