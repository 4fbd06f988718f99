-- The input of files that were read to their ends.
use Rattle.std.proofs.Common.{◌≡◌, Bool, true, Option, Result, Ok, Err, IfOk}
use Rattle.sms_files.specs.Inputs.{Told}
use Rattle.sms_files.specs.Quoting.{EndsQuoted}
use Rattle.sms_files.specs.declared.config.Config.{Config}
use Rattle.sms_files.specs.declared.input.Input.{Input}
use Rattle.sms_send.specs.Reading.{IsInputOf, IsReadWhole}
use Rattle.sms_send.specs.Runs.{AreOpened}
use Rattle.sms_send.specs.declared.faults.fault.Fault.{Fault}
use Rattle.sms_send.specs.declared.files.named_files.NamedFiles.{NamedFiles}

pub read_whole : (r : Result Input Fault) (strict : Bool) (config : Config) (accounts messages : Told) (tariff : Option Told) (named : NamedFiles) → AreOpened accounts messages tariff named
    → IfOk r (IsInputOf config named) → IfOk r (λ input. strict ≡ true → ¬ EndsQuoted named.messages.items) → IfOk r (IsReadWhole strict config accounts messages tariff)
read_whole (Ok input) strict config accounts messages tariff named are read closed = record { named = named; are = are; read = read; closed = closed }
read_whole (Err fault) strict config accounts messages tariff named are read closed = tt
