use Rattle.std.proofs.Common.{◌≡◌, ◌++◌, ap, drop, sym, subst, string_bytes}
use Rattle.std.specs.Prelude.{OnOk, Result}
use Rattle.sms_pdu.specs.Reading.{reading}
use Rattle.sms_pdu.specs.declared.body.Pdu.{Pdu}
use Rattle.sms_pdu.specs.declared.error.PduError.{PduError}
use Rattle.sms_inbox.specs.Arrivals.{record_by}
use Rattle.sms_inbox.specs.Record.{record_text}
use Rattle.sms_inbox.specs.declared.record.Record.{Record}
use Rattle.sms_inbox.proofs.Walks.{faulty_written}
use Rattle.sms_inbox.proofs.arrivals.write_arrival.Goals as goal

pub returns-in-Ok : goal.returns-in-Ok
returns-in-Ok c =
    let body = drop 16 c.args.frame.now in
    let is = ap (λ (r : Result Pdu PduError). record_by c.args.time c.args.bind r body) c.in-Ok.ensures.exact in
    subst (λ (r : Record). OnOk c.write_body-written.result (string_bytes c.write_body-written.new.text ≡ string_bytes c.args.text.now ++ record_text r)) (sym is) c.write_body-written.ensures

pub returns-in-Err : goal.returns-in-Err
returns-in-Err c =
    faulty_written c.write_faulty.result c.args.time c.args.bind c.in-Err.fault (reading c.args.frame.now) (drop 16 c.args.frame.now) (string_bytes c.args.text.now) (string_bytes c.write_faulty.new.text) c.in-Err.ensures.exact
    c.write_faulty.ensures
