use Rattle.std.proofs.Common.{◌≡◌, length, sym, subst, ◌∙◌, rules, arith}
use Rattle.std.specs.Io.KnownBytes.{Appends}
use Rattle.std.proofs.Math.Seq.{take-length}
use Rattle.sms_pdu.specs.Grammar.{Spells}
use Rattle.sms_session.specs.Settings.{bind_pdu}
use Rattle.sms_bind.specs.Wires.{writer}
use Rattle.sms_bind.proofs.Binds.{same_text}
use Rattle.sms_bind.proofs.binding.write_bind.Goals as goal

-- the frame is the only spelling of the bind
pub returns-in-Ok-send-clause-sent : goal.returns-in-Ok-send-clause-sent
returns-in-Ok-send-clause-sent g c = λ octets spells.
    let old = g.W.Write.contents (writer c.args.wire.now) in
    let new = g.W.Write.contents (writer c.send.new.self) in
    let spelled : Spells (bind_pdu c.args.settings.now c.args.number) c.in-Ok.frame = search rules in
    let same : c.in-Ok.frame ≡ octets = same_text (bind_pdu c.args.settings.now c.args.number) c.in-Ok.frame octets spelled spells in
    subst (Appends old new) same c.in-Ok-send.ensures.whole

-- the whole is a prefix too
pub returns-in-Ok-send-clause-prefix : goal.returns-in-Ok-send-clause-prefix
returns-in-Ok-send-clause-prefix g c = λ octets spells.
    let old = g.W.Write.contents (writer c.args.wire.now) in
    let new = g.W.Write.contents (writer c.send.new.self) in
    let spelled : Spells (bind_pdu c.args.settings.now c.args.number) c.in-Ok.frame = search rules in
    let same : c.in-Ok.frame ≡ octets = same_text (bind_pdu c.args.settings.now c.args.number) c.in-Ok.frame octets spelled spells in
    (length octets, omega arith, subst (Appends old new) (same ∙ sym (take-length octets)) c.in-Ok-send.ensures.whole)
