use Rattle.std.proofs.Common.{◌≡◌, refl, rules}
use Rattle.sms_files.specs.declared.report.quote.total.Total.{Total}
use Rattle.sms_files.specs.Totals.{nothing}
use Rattle.sms_files.proofs.Lists.{all_more}
use Rattle.sms_files.proofs.report.quote.total.no_totals.Goals as goal

pub loop-preserved : goal.loop-preserved
loop-preserved c = record {
  length = search rules;
  each = all_more (λ (t : Total). t ≡ nothing) c.loop.totals.items nothing c.push.new.list.items c.loop.invariant.each refl (search rules);
}
