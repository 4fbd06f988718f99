use Rattle.std.proofs.Common.{◌≡◌, drop, map}
use Rattle.sms_files.specs.Config.{is_among}
use Rattle.sms_files.proofs.config.reading.is_one_of.Given as goal

abbrev pub invariant-loop-name : goal.invariant-loop-name
invariant-loop-name l = is_among l.key (map (λ name. name.now) l.names) ≡ is_among l.key (map (λ name. name.now) (drop l.name-index l.names))
