-- The rules by which a config and a tariff have messages sent.
use Rattle.std.specs.Prelude.{◌≡◌, ℕ, List}
use Rattle.sms_book.specs.Tariffs.{Price}
use Rattle.sms_files.specs.declared.config.Flags.{Flags}
use Rattle.sms_files.specs.declared.config.Retry.{Retry}
use Rattle.sms_files.specs.declared.config.limits.Limits.{Limits}
use Rattle.sms_message.specs.declared.rules.Rules.{Rules}

-- they say what the config and the tariff say, and at most how many turns are taken
pub record IsRulesOf (retry : Retry) (limits : Limits) (flags : Flags) (tariff : List Price) (most : ℕ) (rules : Rules) : Type 0 where
  pub policy : rules.policy ≡ retry.policy
  pub depth : rules.depth ≡ limits.depth
  pub answer_ms : rules.answer_ms ≡ retry.answer_ms
  pub turns : rules.turns ≡ most
  pub receipts : rules.receipts ≡ flags.receipts
  pub long_reference : rules.long_reference ≡ flags.long_reference
  pub tariff_is : rules.tariff ≡ tariff
