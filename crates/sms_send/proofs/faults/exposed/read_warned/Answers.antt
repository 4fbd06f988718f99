use Rattle.std.specs.Prelude.{string_bytes}
use Rattle.sms_driver.specs.declared.start.StartPhase.TheVariants.{Idle}
use Rattle.std.proofs.Common.{refl}
use Rattle.sms_files.specs.ConfigFaults.{TellsConfig}
use Rattle.sms_send.proofs.ConfigFiles.{config_file, no_config}
use Rattle.sms_send.proofs.Sendings.{of_two}
use Rattle.sms_send.proofs.Starts.{octets_at, read_at}
use Rattle.sms_send.proofs.faults.exposed.read_warned.Goals as goal

pub returns-in-Err-clause-refused : goal.returns-in-Err-clause-refused
returns-in-Err-clause-refused g c = of_two c.in-Err.ensures.refused

pub returns-in-Err-clause-early : goal.returns-in-Err-clause-early
returns-in-Err-clause-early g c = octets_at (g.R.InputFiles.finds c.args.rt.now) Idle c.args.name _ refl c.in-Err.ensures.refused

pub returns-in-Ok-parse_warned-clause-read : goal.returns-in-Ok-parse_warned-clause-read
returns-in-Ok-parse_warned-clause-read g c =
    config_file (g.R.InputFiles.finds c.args.rt.now) (string_bytes c.args.name) _ _ c.in-Ok.ensures.octets c.as_slice.ensures.value c.in-Ok-parse_warned.ensures.config

pub returns-in-Err-parse_warned-clause-refused : goal.returns-in-Err-parse_warned-clause-refused
returns-in-Err-parse_warned-clause-refused g c =
    no_config (g.R.InputFiles.finds c.args.rt.now) c.args.name _ _ _ c.in-Ok.ensures.octets c.as_slice.ensures.value (c.in-Err-parse_warned.fault, c.in-Err-parse_warned.ensures.refused, c.from.ensures)

pub returns-in-Err-parse_warned-clause-early : goal.returns-in-Err-parse_warned-clause-early
returns-in-Err-parse_warned-clause-early g c = read_at Idle (TellsConfig c.as_slice.result.now) _ refl (c.in-Err-parse_warned.fault, c.in-Err-parse_warned.ensures.refused, c.from.ensures)
