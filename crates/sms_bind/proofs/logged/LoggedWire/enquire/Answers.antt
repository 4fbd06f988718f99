use Rattle.sms_bind.proofs.Responses.{enquiry_unclaimed}
use Rattle.sms_bind.proofs.logged.LoggedWire.enquire.Goals as goal

pub give-requires : goal.give-requires
give-requires g c = record { unclaimed = enquiry_unclaimed c.args.frame c.requires.enquiry }
