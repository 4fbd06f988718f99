use Rattle.std.proofs.Common.{◌<◌, length, rules}
use Rattle.sms_pdu.specs.declared.command.Mode.TheVariants.{Transmitter}
use Rattle.sms_centre.specs.declared.said.Said.TheVariants.{BindResp}
use Rattle.sms_centre.proofs.Putting.{put_next}
use Rattle.sms_centre.proofs.said.put_all.Goals as goal

pub loop-said-preserved : goal.loop-said-preserved
loop-said-preserved c =
    let i = c.loop-said.said-index in
    let ss = c.args.saids.now in
    let low : i < length ss = search rules in
    put_next ss i (BindResp Transmitter 0 0) c.args.out.now.items c.loop-said.out.items c.put.new.out.items low c.loop-said.invariant c.in_ok-put.ensures.answers
