use Rattle.std.proofs.Common.{length, ◌∙◌}
use Rattle.sms_pdu.specs.Layout.{parameters_spelling}
use Rattle.sms_pdu.proofs.Writings.{and_put, sm_runs}
use Rattle.sms_pdu.proofs.encoding.put_sm.Goals as goal

pub returns-clause-put : goal.returns-clause-put
returns-clause-put c =
    let sm = c.args.sm.now in
    let runs = sm_runs c.args.out.now.items sm.service_type.now sm.source_addr.now sm.dest_addr.now sm.schedule.now sm.validity.now sm.short_message.now (parameters_spelling sm.params.now) sm.source_ton sm.source_npi sm.dest_ton sm.dest_npi sm.esm_class sm.protocol_id sm.priority sm.registered sm.replace sm.data_coding sm.default_msg (length sm.short_message.now) in
    and_put _ c.put_parameters.ensures.put (and_put _ c.put-11.ensures.put (and_put _ c.put-10.ensures.put (and_put _ c.put-9.ensures.put (and_put _ c.put-8.ensures.put (and_put _ c.put-7.ensures.put (and_put _ c.put-6.ensures.put (and_put _ c.put-5.ensures.put (and_put _ c.put-4.ensures.put (and_put _ c.put-3.ensures.put (and_put _ c.put-2.ensures.put c.put.ensures.put)))))))))) ∙ runs
