use Rattle.csv.specs.Records.{fields_of}
use Rattle.sms_pdu.specs.Devices.{device}
use Rattle.sms_files.proofs.Left.{first-left}
use Rattle.sms_files.proofs.ReadErrors.{only-device}
use Rattle.sms_files.proofs.memory.reading.next_record.Goals as goal

pub fault_of-requires : goal.fault_of-requires
fault_of-requires g c =
    only-device (λ file. g.R.Read.remaining (device file.tap)) c.args.reader.now c.read_byte_record.new.self c.in-Err.error.kind c.requires.flexible (c.in-Err.ensures.why c.requires.ready)

pub returns-in-Ok-clause-first : goal.returns-in-Ok-clause-first
returns-in-Ok-clause-first g c =
    first-left (λ file. g.R.Read.remaining (device file.tap)) c.args.reader.now c.read_byte_record.new.self c.in-Ok.found (fields_of c.read_byte_record.new.row) c.requires.config
    (c.in-Ok.ensures.reads c.requires.untrimmed c.requires.ready)
