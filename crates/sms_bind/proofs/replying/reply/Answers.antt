use Rattle.std.proofs.Common.{rules}
use Rattle.sms_pdu.specs.Grammar.{Spells}
use Rattle.sms_bind.specs.Deeds.{pdu_for}
use Rattle.sms_bind.proofs.Responses.{spelled_other, spelled_response}
use Rattle.sms_bind.proofs.replying.reply.Goals as goal

pub write_frame-requires-clause-response : goal.write_frame-requires-clause-response
write_frame-requires-clause-response g c = let spelled : Spells (pdu_for c.args.response.now) c.in-Ok.frame = search rules in spelled_response c.args.response.now c.in-Ok.frame spelled

pub write_frame-requires-clause-other : goal.write_frame-requires-clause-other
write_frame-requires-clause-other g c = let spelled : Spells (pdu_for c.args.response.now) c.in-Ok.frame = search rules in spelled_other c.args.response.now c.in-Ok.frame spelled c.requires.other
