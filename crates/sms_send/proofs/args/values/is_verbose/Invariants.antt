use Rattle.std.proofs.Common.{◌≡◌, drop, map}
use Rattle.std.specs.Prelude.{string_bytes}
use Rattle.sms_send.specs.Words.{asks_for_more}
use Rattle.sms_send.proofs.args.values.is_verbose.Given as goal

abbrev pub invariant-loop-word : goal.invariant-loop-word
invariant-loop-word l = asks_for_more (map string_bytes l.words) ≡ asks_for_more (map string_bytes (drop l.word-index l.words))
