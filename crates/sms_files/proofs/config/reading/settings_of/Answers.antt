use Rattle.sms_files.proofs.BindTexts.{has_size}
use Rattle.sms_files.proofs.config.reading.settings_of.Goals as goal

pub unreachable-requires : goal.unreachable-requires
unreachable-requires c =
    let r = c.requires in
    let err = rw c.in-Err.is at c.new.ensures.err in
    has_size c.args.mode c.args.system_id c.args.password c.args.system_type _ r.system_id r.password r.system_type err
