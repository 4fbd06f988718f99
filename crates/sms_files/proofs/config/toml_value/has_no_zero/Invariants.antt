use Rattle.std.proofs.Common.{◌≡◌, drop}
use Rattle.sms_files.specs.Config.{has_no_zero}
use Rattle.sms_files.proofs.config.toml_value.has_no_zero.Given as goal

abbrev pub invariant-loop-octet : goal.invariant-loop-octet
invariant-loop-octet l = has_no_zero l.text ≡ has_no_zero (drop l.octet-index l.text)
