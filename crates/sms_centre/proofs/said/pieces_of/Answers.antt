use Rattle.std.proofs.Common.{◌≡◌, ◌<◌, ◌++◌, ◌∷◌, [], length, rules}
use Rattle.sms_pdu.specs.declared.command.Mode.TheVariants.{Transmitter}
use Rattle.sms_centre.specs.declared.said.Said.TheVariants.{BindResp}
use Rattle.sms_centre.proofs.Putting.{said_next}
use Rattle.sms_centre.proofs.said.pieces_of.Goals as goal

pub loop-said-preserved : goal.loop-said-preserved
loop-said-preserved c =
    let i = c.loop-said.said-index in
    let ss = c.args.saids.now in
    let low : i < length ss = search rules in
    let items : c.push.new.self.items ≡ c.loop-said.pieces.items ++ c.in_ok-piece.piece ∷ [] = search rules in
    said_next ss i (BindResp Transmitter 0 0) c.loop-said.pieces.items c.push.new.self.items c.in_ok-piece.piece low c.loop-said.invariant c.in_ok-piece.ensures items
