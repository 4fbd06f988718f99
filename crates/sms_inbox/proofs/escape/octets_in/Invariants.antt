use Rattle.std.proofs.Common.{◌≡◌, ◌++◌, drop}
use Rattle.sms_inbox.specs.Escape.{octets_in}
use Rattle.sms_inbox.specs.declared.escape.Escape.TheVariants.{Plain}
use Rattle.sms_inbox.proofs.escape.octets_in.Given as goal

abbrev pub invariant-loop-c : goal.invariant-loop-c
invariant-loop-c l = l.octets.items ++ octets_in l.escape (drop l.c-index l.text) ≡ octets_in Plain l.text
