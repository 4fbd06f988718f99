use Rattle.std.proofs.Common.{◌≡◌, ◌-◌, ◌≤◌, drop, length}
use Rattle.sms_ledger.specs.Names.{is_escaped}
use Rattle.sms_ledger.specs.declared.escape.Escape.TheVariants.{Plain}
use Rattle.sms_ledger.proofs.escape.plain_front.Given as goal

abbrev pub invariant-loop-at : goal.invariant-loop-at
invariant-loop-at l = record {
  rest : is_escaped Plain (drop l.at l.text) ≡ is_escaped Plain l.text;
  within : l.at ≤ length l.text;
}

abbrev pub decreases-loop-at : goal.decreases-loop-at
decreases-loop-at l = length l.text - l.at
