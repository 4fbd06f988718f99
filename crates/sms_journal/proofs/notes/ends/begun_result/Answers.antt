use Rattle.std.proofs.Common.{◌∙◌, ap, length}
use Rattle.sms_journal.proofs.notes.ends.begun_result.Goals as goal

pub returns : goal.returns
returns c = record {
  begun = c.requires.begun;
  short = c.requires.short;
  count = ap length c.new.ensures ∙ c.in_ok-parts.ensures.count ∙ c.requires.count;
  each = λ p s there. c.in_ok-parts.ensures.each p s (rw c.new.ensures at there);
}
