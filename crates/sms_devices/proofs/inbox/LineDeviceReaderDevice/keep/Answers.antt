use Rattle.std.proofs.Common.{ℕ, ◌≤◌, ◌+◌, List, subst, arith}
use Rattle.sms_inbox.specs.Files.{count_of}
use Rattle.sms_bind.specs.Devices.{KeptOnce, octets_of}
use Rattle.sms_devices.proofs.Keeping.{more_once, none_more}
use Rattle.sms_devices.proofs.inbox.LineDeviceReaderDevice.keep.Goals as goal

pub returns-in_default-clause-once : goal.returns-in_default-clause-once
returns-in_default-clause-once g c = none_more (octets_of c.args.arrived) c.args.self.now.kept

pub returns-in-Err-clause-once : goal.returns-in-Err-clause-once
returns-in-Err-clause-once g c = none_more (octets_of c.args.arrived) c.args.self.now.kept

pub returns-in-Ok-clause-once : goal.returns-in-Ok-clause-once
returns-in-Ok-clause-once g c =
    let count = count_of c.in-Ok.kept in
    let sum = c.saturating_add-self.ensures in
    let of_kept = c.count.ensures in
    let least : c.saturating_add-self.result ≤ c.args.self.now.kept + count = omega (arith, sum, of_kept) in
    more_once (octets_of c.args.arrived) c.args.self.now.kept c.saturating_add-self.result count least (subst (λ (s : List ℕ). KeptOnce s 0 count) c.octets.ensures c.in-Ok.ensures.once)
