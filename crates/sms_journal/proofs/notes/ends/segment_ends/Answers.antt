use Rattle.std.proofs.Common.{ℕ, ◌+◌, rules}
use Rattle.sms_message.specs.declared.ends.SegmentEnd.{SegmentEnd}
use Rattle.sms_journal.specs.Recovered.{IsRecoveredSegment}
use Rattle.sms_journal.proofs.Lists.{each_more}
use Rattle.sms_journal.proofs.notes.ends.segment_ends.Goals as goal

pub loop-place-preserved : goal.loop-place-preserved
loop-place-preserved c = record {
  count = search rules;
  each = each_more (λ (p : ℕ) (s : SegmentEnd (Unit {0})). IsRecoveredSegment c.args.evidence.now.rules.now c.args.evidence.now.notes.now c.args.evidence.now.message.now (p + 1) s) c.loop-place.parts.items c.loop-place.place c.in_ok-segment_end.field-0 c.push.new.list.items
      c.loop-place.invariant.count c.loop-place.invariant.each c.in_ok-segment_end.ensures (search rules);
}
