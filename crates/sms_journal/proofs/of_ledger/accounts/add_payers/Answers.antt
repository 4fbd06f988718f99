use Rattle.std.proofs.Common.{◌≡◌, ◌+◌, arith, rules}
use Rattle.std.specs.Prelude.{is_some}
use Rattle.std.specs.HashMap.{get_by_text}
use Rattle.csv.specs.Records.{fields_of}
use Rattle.sms_files.specs.Accounts.{name_in}
use Rattle.sms_ledger.proofs.Postings.{item_left}
use Rattle.sms_ledger.specs.InMemory.{state_in}
use Rattle.sms_journal.proofs.Payers.{step}
use Rattle.sms_journal.proofs.of_ledger.accounts.add_payers.Goals as goal

pub loop-record-preserved : goal.loop-record-preserved
loop-record-preserved c =
    let k = c.loop-record.record-index in
    let records = c.args.records.now in
    let x = c.record-item.result in
    let payer_is : c.payer_in.result.now ≡ name_in (fields_of x) = search rules in
    step (state_in c.args.ledger.now) fields_of records k (k + 1) x c.payer_in.result.now (λ q. is_some (get_by_text c.loop-record.seen q)) (λ q. is_some (get_by_text c.add_payer.new.seen q)) c.loop-record.text.items c.add_payer.new.text.items _ (omega arith)
    (item_left records k x c.loop-record-test.true c.record-item.is) payer_is c.in_ok-add_payer.ensures c.loop-record.invariant
