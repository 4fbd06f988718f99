use Rattle.std.proofs.Common.{refl}
use Rattle.sms_pdu.specs.Layout.{sm_fields}
use Rattle.sms_pdu.specs.Grammar.{sm_values}
use Rattle.sms_pdu.specs.Borrowed.{owned_sm}
use Rattle.sms_pdu.proofs.FieldSizes.{Measures, Misfits, no_more, and_measures, here_misfits, and_misfits, sm_misfits, sm_measures}
use Rattle.sms_pdu.proofs.sizes.sm.Goals as goal

pub returns-in_err-size : goal.returns-in_err-size
returns-in_err-size c =
    let sm = owned_sm c.args.sm.now in
    let fault : Misfits sm_fields (sm_values sm) 16 c.in_err-size.field-0.0 = here_misfits c.in_err-size.ensures in
    sm_misfits sm c.from_residual.result c.from_residual.ensures.1 fault

pub returns-in_err-size-2 : goal.returns-in_err-size-2
returns-in_err-size-2 c =
    let sm = owned_sm c.args.sm.now in
    let fault : Misfits sm_fields (sm_values sm) 16 c.in_err-size-2.field-0.0 = and_misfits c.in_ok-size.ensures (and_misfits refl (and_misfits refl (here_misfits c.in_err-size-2.ensures))) in
    sm_misfits sm c.from_residual-in_err-size-2.result c.from_residual-in_err-size-2.ensures.1 fault

pub returns-in_err-size-3 : goal.returns-in_err-size-3
returns-in_err-size-3 c =
    let sm = owned_sm c.args.sm.now in
    let fault : Misfits sm_fields (sm_values sm) 16 c.in_err-size-3.field-0.0 = and_misfits c.in_ok-size.ensures (and_misfits refl (and_misfits refl (and_misfits c.in_ok-size-2.ensures (and_misfits refl (and_misfits refl (here_misfits c.in_err-size-3.ensures)))))) in
    sm_misfits sm c.from_residual-in_err-size-3.result c.from_residual-in_err-size-3.ensures.1 fault

pub returns-in_err-size-4 : goal.returns-in_err-size-4
returns-in_err-size-4 c =
    let sm = owned_sm c.args.sm.now in
    let fault : Misfits sm_fields (sm_values sm) 16 c.in_err-size-4.field-0.0 = and_misfits c.in_ok-size.ensures (and_misfits refl (and_misfits refl (and_misfits c.in_ok-size-2.ensures (and_misfits refl (and_misfits refl (and_misfits c.in_ok-size-3.ensures (and_misfits refl (and_misfits refl (and_misfits refl (here_misfits c.in_err-size-4.ensures)))))))))) in
    sm_misfits sm c.from_residual-in_err-size-4.result c.from_residual-in_err-size-4.ensures.1 fault

pub returns-in_err-size-5 : goal.returns-in_err-size-5
returns-in_err-size-5 c =
    let sm = owned_sm c.args.sm.now in
    let fault : Misfits sm_fields (sm_values sm) 16 c.in_err-size-5.field-0.0 = and_misfits c.in_ok-size.ensures (and_misfits refl (and_misfits refl (and_misfits c.in_ok-size-2.ensures (and_misfits refl (and_misfits refl (and_misfits c.in_ok-size-3.ensures (and_misfits refl (and_misfits refl (and_misfits refl (and_misfits c.in_ok-size-4.ensures (here_misfits c.in_err-size-5.ensures))))))))))) in
    sm_misfits sm c.from_residual-in_err-size-5.result c.from_residual-in_err-size-5.ensures.1 fault

pub returns-in_err-size-6 : goal.returns-in_err-size-6
returns-in_err-size-6 c =
    let sm = owned_sm c.args.sm.now in
    let fault : Misfits sm_fields (sm_values sm) 16 c.in_err-size-6.field-0.0 = and_misfits c.in_ok-size.ensures (and_misfits refl (and_misfits refl (and_misfits c.in_ok-size-2.ensures (and_misfits refl (and_misfits refl (and_misfits c.in_ok-size-3.ensures (and_misfits refl (and_misfits refl (and_misfits refl (and_misfits c.in_ok-size-4.ensures (and_misfits c.in_ok-size-5.ensures (and_misfits refl (and_misfits refl (and_misfits refl (and_misfits refl (here_misfits c.in_err-size-6.ensures)))))))))))))))) in
    sm_misfits sm c.from_residual-in_err-size-6.result c.from_residual-in_err-size-6.ensures.1 fault

pub returns : goal.returns
returns c =
    let sm = owned_sm c.args.sm.now in
    let sized : Measures sm_fields (sm_values sm) 16 _ = and_measures c.in_ok-size.ensures (and_measures refl (and_measures refl (and_measures c.in_ok-size-2.ensures (and_measures refl (and_measures refl (and_measures c.in_ok-size-3.ensures (and_measures refl (and_measures refl (and_measures refl (and_measures c.in_ok-size-4.ensures (and_measures c.in_ok-size-5.ensures (and_measures refl (and_measures refl (and_measures refl (and_measures refl (and_measures c.in_ok-size-6.ensures no_more)))))))))))))))) in
    sm_measures sm sized c.tail.ensures
