use Rattle.std.proofs.Common.{arith}
use Rattle.sms_inbox.proofs.Escapes.{are_octets}
use Rattle.sms_inbox.proofs.escape.are_octets.Goals as goal

pub returns : goal.returns
returns c = are_octets c.args.octets.now (λ k low. let fits = (c.type_inv.octets k).fits in omega (arith, fits))
