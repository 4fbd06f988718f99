use Rattle.std.proofs.Common.{◌≡◌, Ok, Err, sym, subst, rules}
use Rattle.sms_pdu.specs.Header.{header_at_front}
use Rattle.sms_session.specs.Session.{opening}
use Rattle.sms_bind.specs.Answers.{Refuses}
use Rattle.sms_bind.proofs.Binds.{first_refuses}
use Rattle.sms_bind.proofs.binding.read_answer.Goals as goal

pub returns-clause-answer : goal.returns-clause-answer
returns-clause-answer g c =
    let (got, consumed, divided, none) = c.in-Ok.ensures.answer in
    let first = c.in-Ok.read.0 in
    let e : opening c.args.mode (header_at_front first) ≡ Err (c.in-Err-bound._opened, c.in-Err-bound.why) = search rules in
    (got, consumed, subst (Refuses c.args.mode got) (sym c.refusal.ensures) (first_refuses c.args.mode c.in-Err-bound._opened got first c.in-Ok.read.2 c.in-Ok.read.1 c.in-Err-bound.why divided e))

pub returns-in-Ok-bound-clause-answer : goal.returns-in-Ok-bound-clause-answer
returns-in-Ok-bound-clause-answer g c =
    let (got, consumed, divided, none) = c.in-Ok.ensures.answer in
    let first = c.in-Ok.read.0 in
    let e : opening c.args.mode (header_at_front first) ≡ Ok c.in-Ok-bound.session = search rules in
    (got, consumed, (first, divided, e))
