use Rattle.sms_inbox.specs.Files.{count_of}
use Rattle.sms_devices.proofs.Keeping.{kept_once, none_once}
use Rattle.sms_devices.proofs.inbox.Inbox.keep.Goals as goal

pub returns-in-Some-clause-once : goal.returns-in-Some-clause-once
returns-in-Some-clause-once g c = none_once c.args.octets.now (count_of c.in-Some.none) c.in-Some.ensures.count

pub returns-clause-once : goal.returns-clause-once
returns-clause-once g c = kept_once g.F.Write.contents c.unix_ms-time.result c.args.bind c.args.octets.now _ _ c.keep.result c.keep.ensures.kept
