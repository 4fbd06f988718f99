use Rattle.std.proofs.Common.{◌≡◌, map, rules}
use Rattle.csv.specs.Records.{fields_of}
use Rattle.sms_files.specs.Records.{reader_left}
use Rattle.sms_files.proofs.Runs.{if_known}
use Rattle.sms_journal.proofs.Taken.{no-more, one-more}
use Rattle.sms_journal.proofs.rest.records.records_of_all.Goals as goal

pub loop-preserved : goal.loop-preserved
loop-preserved g c = record {
  reads = c.in_ok-next_of.ensures.reads;
  count = search rules;
  rest = λ left known.
      one-more fields_of left c.loop.records.items c.push.new.list.items c.next_of.new.record (reader_left g.R.Read.remaining c.loop.reader) (reader_left g.R.Read.remaining c.next_of.new.reader)
      c.in_ok-next_of.field-0 (c.loop.invariant.rest left known) c.in_ok-next_of.ensures.first c.if-not-branch.false c.in_ok-push.ensures.items;
}

pub returns-then-not-branch : goal.returns-then-not-branch
returns-then-not-branch g c =
    if_known (reader_left g.R.Read.remaining c.args.reader.now) (λ left. map fields_of c.loop.records.items ≡ left) (λ left known.
    no-more fields_of left c.loop.records.items (reader_left g.R.Read.remaining c.loop.reader) (reader_left g.R.Read.remaining c.next_of.new.reader)
    c.in_ok-next_of.field-0 (fields_of c.next_of.new.record) (c.loop.invariant.rest left known) c.in_ok-next_of.ensures.first c.if-not-branch.true)
