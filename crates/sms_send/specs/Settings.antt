-- How messages are sent by a config.
use Rattle.std.specs.Prelude.{◌≡◌, List}
use Rattle.sms_book.specs.Tariffs.{Price}
use Rattle.sms_driver.specs.declared.binding.BindSettings.{BindSettings}
use Rattle.sms_driver.specs.declared.settings.RunSettings.{RunSettings}
use Rattle.sms_files.specs.RunRules.{IsRulesOf}
use Rattle.sms_files.specs.declared.config.Config.{Config}
use Rattle.sms_files.specs.declared.config.Connection.{Connection}
use Rattle.sms_files.specs.declared.config.Flags.{Flags}
use Rattle.sms_files.specs.declared.config.limits.Limits.{Limits}
use Rattle.sms_message.specs.Limits.{most_turns}

-- all binds have the config's window, follow as it says, and are asked for with what it says (SMPP 3.4 4.1)
pub record AreSettingsOf (connection : Connection) (limits : Limits) (flags : Flags) (all : BindSettings) : Type 0 where
  pub settings : all.settings ≡ connection.settings
  pub limit : all.limit ≡ limits.window
  pub follow : all.follow ≡ flags.follow

-- a sending has as many binds and workers as the config says, and the rules of config and tariff, with its fields
pub record AreRunSettings (config : Config) (tariff : List Price) (run : RunSettings) : Type 0 where
  pub binds : run.binds ≡ config.limits.binds
  pub workers : run.workers ≡ config.limits.workers
  pub asks : AreSettingsOf config.connection config.limits config.flags run.bind_settings
  pub says : IsRulesOf config.retry config.limits config.flags tariff most_turns run.rules
  pub fields : run.rules.fields ≡ config.fields
