-- What the groups of a fields file's keys say.
use Rattle.std.specs.Prelude.{◌≡◌, ℕ, List, Option, Some}
use Rattle.toml.specs.Data.{Members}
use Rattle.sms_files.specs.SubmitFields.{dest_npi_of, dest_ton_of, priority_of, protocol_id_of, registered_of, replace_of, schedule_of, seconds_of, service_type_of, source_npi_of, source_ton_of, validity_by, validity_of}
use Rattle.sms_files.specs.declared.fields.reading.Addressing.{Addressing}
use Rattle.sms_files.specs.declared.fields.reading.Handling.{Handling}
use Rattle.sms_files.specs.declared.fields.reading.Times.{Times}

pub record SaysAddressing (t : Members) (a : Addressing) : Type 0 where
  pub service_type : service_type_of t ≡ Some a.service_type
  pub source_ton : source_ton_of t ≡ Some a.source_ton
  pub source_npi : source_npi_of t ≡ Some a.source_npi
  pub dest_ton : dest_ton_of t ≡ Some a.dest_ton
  pub dest_npi : dest_npi_of t ≡ Some a.dest_npi

pub record SaysHandling (t : Members) (h : Handling) : Type 0 where
  pub protocol_id : protocol_id_of t ≡ Some h.protocol_id
  pub priority : priority_of t ≡ Some h.priority
  pub registered : registered_of t ≡ Some h.registered
  pub replace : replace_of t ≡ Some h.replace

pub record SaysTimes (t : Members) (times : Times) : Type 0 where
  pub schedule : schedule_of t ≡ Some times.schedule
  pub text : List ℕ
  pub text_is : validity_of t ≡ Some text
  pub seconds : Option ℕ
  pub seconds_is : seconds_of t ≡ Some seconds
  pub validity : times.validity ≡ validity_by text seconds
