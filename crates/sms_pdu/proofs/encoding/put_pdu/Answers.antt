use Rattle.std.proofs.Common.{◌≡◌, ◌++◌, List, ℕ, sym, ap, subst, ◌∙◌, append_assoc, arith}
use Rattle.std.specs.Int.{w32, to_be_bytes}
use Rattle.sms_pdu.specs.Command.{id_of}
use Rattle.sms_pdu.specs.Grammar.{command_in, body_spelling, Spells}
use Rattle.sms_pdu.specs.Borrowed.{owned_pdu}
use Rattle.sms_pdu.proofs.SizeLaws.{body_sized}
use Rattle.sms_pdu.proofs.Writings.{encoded}
use Rattle.sms_pdu.proofs.encoding.put_pdu.Goals as goal

pub overflow_cast-size : goal.overflow_cast-size
overflow_cast-size c =
    let p = owned_pdu c.args.pdu.now in
    let sized = body_sized p.status p.body c.args.size c.requires.measured in
    omega (arith, sized.most)

pub put-requires : goal.put-requires
put-requires c =
    let p = owned_pdu c.args.pdu.now in
    let sized = body_sized p.status p.body c.args.size c.requires.measured in
    omega (arith, sized.len, c.requires.room)

pub put_body-requires : goal.put_body-requires
put_body-requires c =
    let p = owned_pdu c.args.pdu.now in
    let sized = body_sized p.status p.body c.args.size c.requires.measured in
    record { writable = sized.writable; room = omega (arith, sized.len, c.requires.room, c.put.ensures.len, c.put.ensures.room) }

pub returns : goal.returns
returns c =
    let p = owned_pdu c.args.pdu.now in
    let out = c.args.out.now.items in
    let header : List ℕ = c.header-header.result in
    let command : c.id-command.result ≡ id_of (command_in p.body) = c.id-command.ensures ∙ ap id_of c.command_of.ensures in
    let head : header ≡ to_be_bytes w32 c.args.size ++ to_be_bytes w32 (id_of (command_in p.body)) ++ to_be_bytes w32 p.status ++ to_be_bytes w32 p.number = c.header-header.ensures.octets ∙ ap (λ (i : ℕ). to_be_bytes w32 c.args.size ++ to_be_bytes w32 i ++ to_be_bytes w32 p.status ++ to_be_bytes w32 p.number) command in
    let spelled = encoded p c.args.size c.requires.measured c.put_body.ensures.fit c.header-header.ensures.status c.header-header.ensures.number in
    record {
      octets = header ++ body_spelling p.body;
      spelled = subst (λ (x : List ℕ). Spells p x) (sym (ap (λ (x : List ℕ). x ++ body_spelling p.body) head)) spelled;
      behind = c.put_body.ensures.put ∙ ap (λ (x : List ℕ). x ++ body_spelling p.body) c.put.ensures.put ∙ append_assoc out header (body_spelling p.body);
    }
