use Rattle.csv.specs.Records.{fields_of}
use Rattle.sms_files.proofs.Left.{first-left}
use Rattle.sms_files.proofs.memory.reading.next_of.Goals as goal

pub returns-clause-first : goal.returns-clause-first
returns-clause-first g c =
    first-left g.R.Read.remaining c.args.reader.now c.read_byte_record.new.self c.in-Ok.found (fields_of c.read_byte_record.new.row) c.requires.config
    (c.in-Ok.ensures.reads c.requires.untrimmed c.requires.ready)
