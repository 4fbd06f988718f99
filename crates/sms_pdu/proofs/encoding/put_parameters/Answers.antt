use Rattle.std.proofs.Common.{◌+◌, ◌++◌, ◌∙◌, sym, ap, subst, append_assoc, List, ℕ, arith}
use Rattle.sms_pdu.specs.declared.parameter.Parameter.{Parameter}
use Rattle.sms_pdu.specs.Layout.{parameter_spelling, parameters_spelling, ParametersFit}
use Rattle.sms_pdu.proofs.Lengths.{sized-take-more, sized-take-le}
use Rattle.sms_pdu.proofs.Writings.{spelling-take-more, fit-take-more, take-all, value_fits_at}
use Rattle.sms_pdu.proofs.encoding.put_parameters.Goals as goal

pub put_parameter-requires : goal.put_parameter-requires
put_parameter-requires c =
    let ps = c.args.params.now in
    let i = c.loop-p.p-index in
    let p = c.p-item.result in
    let more = sized-take-more ps i p c.loop-p-test.true c.p-item.is in
    let within = sized-take-le ps (i + 1) in
    record {
      value = value_fits_at ps i p c.requires.fit c.loop-p-test.true c.p-item.is;
      room = omega (arith, more, within, c.loop-p.invariant.len, c.loop-p.invariant.room, c.requires.room);
    }

pub loop-p-preserved : goal.loop-p-preserved
loop-p-preserved c =
    let ps = c.args.params.now in
    let i = c.loop-p.p-index in
    let p = c.p-item.result in
    let out = c.args.out.now.items in
    let more = spelling-take-more ps i p c.loop-p-test.true c.p-item.is in
    let longer = sized-take-more ps i p c.loop-p-test.true c.p-item.is in
    let value = value_fits_at ps i p c.requires.fit c.loop-p-test.true c.p-item.is in
    record {
      put = c.put_parameter.ensures.put ∙ ap (λ (x : List ℕ). x ++ parameter_spelling p) c.loop-p.invariant.put ∙ append_assoc out _ (parameter_spelling p) ∙ ap (λ (x : List ℕ). out ++ x) (sym more);
      fit = fit-take-more ps i p c.loop-p-test.true c.p-item.is c.loop-p.invariant.fit (record { tag = c.put_parameter.ensures.tag; value = value });
      len = omega (arith, longer, c.loop-p.invariant.len, c.put_parameter.ensures.len);
      room = omega (arith, c.loop-p.invariant.room, c.put_parameter.ensures.room);
    }

pub returns-clause-put : goal.returns-clause-put
returns-clause-put c = c.loop-p.invariant.put ∙ ap (λ (x : List Parameter). c.args.out.now.items ++ parameters_spelling x) (take-all c.args.params.now c.loop-p.p-index c.loop-p-test.false)

pub returns-clause-fit : goal.returns-clause-fit
returns-clause-fit c = subst ParametersFit (take-all c.args.params.now c.loop-p.p-index c.loop-p-test.false) c.loop-p.invariant.fit
