use Rattle.std.proofs.Common.{◌≡◌, ◌++◌, ◌∷◌, List, [], Some, None, inr, subst, rules}
use Rattle.csv.specs.Records.{fields_of}
use Rattle.sms_files.specs.Fields.{Record}
use Rattle.sms_journal.specs.Decided.{AreDecisionsBehind, decision_said}
use Rattle.sms_journal.proofs.InDoubt.{got_mapped, mapped_more, take_map}
use Rattle.sms_journal.proofs.decisions.reading.decisions_behind.Goals as goal

pub returns-in_default-clause-refused : goal.returns-in_default-clause-refused
returns-in_default-clause-refused c =
    let k = c.loop-record.record-index in
    let records = c.args.records.now in
    let x = c.record-item.result in
    let got = got_mapped fields_of records k x c.loop-record-test.true c.record-item.is in
    let none : decision_said c.args.run.now c.args.name.now (fields_of x) ≡ None = search rules in
    inr (
      k,
      search rules,
      record {
        front = c.loop-record.decisions.items;
        said = subst (λ (rs : List Record). AreDecisionsBehind c.args.run.now c.args.name.now rs c.loop-record.decisions.items) (take_map fields_of records k) c.loop-record.invariant.said;
        bad = fields_of x;
        there = got.2;
        none = none;
      },
    )

pub loop-record-preserved : goal.loop-record-preserved
loop-record-preserved c =
    let k = c.loop-record.record-index in
    let x = c.record-item.result in
    let d = c.in-Some.decision in
    let here : decision_said c.args.run.now c.args.name.now (fields_of x) ≡ Some d = search rules in
    let grows : c.push.new.list.items ≡ c.loop-record.decisions.items ++ d ∷ [] = search rules in
    record {
      said = mapped_more fields_of (λ r e. decision_said c.args.run.now c.args.name.now r ≡ Some e) c.args.records.now c.loop-record.decisions.items c.push.new.list.items k x d c.loop-record-test.true c.record-item.is c.loop-record.invariant.said here grows;
      count = search rules;
    }
