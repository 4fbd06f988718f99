use Rattle.std.proofs.Common.{◌≡◌, ◌+◌, ◌∷◌, ◌∙◌, ◌<◌, ◌≤◌, add-one, ap, drop, get_or, length, refl, sym, arith, rules}
use Rattle.std.proofs.Math.Seq.{drop-cons}
use Rattle.sms_ledger.specs.Names.{is_escaped}
use Rattle.sms_ledger.specs.declared.escape.Escape.TheVariants.{Plain}
use Rattle.sms_ledger.proofs.Escapes.{plain_step}
use Rattle.sms_ledger.proofs.escape.plain_front.Goals as goal

pub loop-at-preserved : goal.loop-at-preserved
loop-at-preserved c =
    let text = c.args.text.now in
    let i = c.loop-at.at in
    let low : i < length text = search rules in
    let cut : drop i text ≡ get_or text i 0 ∷ drop (i + 1) text = rw (add-one, drop-cons text i 0 low) refl in
    let above : 44 < get_or text i 0 = search rules in
    let below : get_or text i 0 ≤ 126 = search rules in
    record {
      rest = sym (plain_step (get_or text i 0) (drop (i + 1) text) above below) ∙ sym (ap (is_escaped Plain) cut) ∙ c.loop-at.invariant.rest;
      within = omega arith;
    }
