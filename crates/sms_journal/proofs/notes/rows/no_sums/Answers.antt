use Rattle.std.proofs.Common.{◌≡◌, ℕ, refl, rules}
use Rattle.sms_journal.specs.declared.notes.rows.Sums.{Sums}
use Rattle.sms_journal.specs.Sums.{no_sums}
use Rattle.sms_journal.proofs.Lists.{each_more}
use Rattle.sms_journal.proofs.notes.rows.no_sums.Goals as goal

pub loop-preserved : goal.loop-preserved
loop-preserved c = record {
  length = search rules;
  each = each_more (λ (i : ℕ) (s : Sums). s ≡ no_sums) c.loop.sums.items c.loop.counter no_sums c.push.new.list.items c.loop.invariant.length c.loop.invariant.each refl (search rules);
}
