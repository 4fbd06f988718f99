use Rattle.sms_bind.proofs.Responses.{response_unclaimed}
use Rattle.sms_bind.proofs.logged.LoggedWire.acknowledge.Goals as goal

pub give-requires : goal.give-requires
give-requires g c = record { unclaimed = response_unclaimed c.args.frame c.requires.response }
