use Rattle.std.proofs.Common.{inr, ◌∙◌}
use Rattle.sms_files.proofs.tables.records.read_all.Goals as goal

pub returns-clause-reads : goal.returns-clause-reads
returns-clause-reads g c =
    let fr = c.from_reader.ensures in
    let e = c.flexible.ensures in
    let h = c.has_headers.ensures in
    record {
      config = rw (e, h) at fr.config ∙ c.new.ensures.config;
      untrimmed = rw (e, h) at fr.trim ∙ c.new.ensures.trim;
      ready = inr (inr (rw (e, h) at fr.has_headers, fr.headers));
      flexible = rw e at fr.flexible;
    }
