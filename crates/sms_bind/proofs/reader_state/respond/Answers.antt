use Rattle.std.proofs.Common.{◌≡◌, ◌∙◌, true, false, ap, rules}
use Rattle.sms_bind.specs.Keepings.{acknowledges, allows}
use Rattle.sms_bind.proofs.Responses.{answer_allowed, answer_other, answer_refused, refused_other}
use Rattle.sms_bind.proofs.reader_state.respond.Goals as goal

pub returns-then-not-acknowledges-clause-response : goal.returns-then-not-acknowledges-clause-response
returns-then-not-acknowledges-clause-response g c =
    let other : acknowledges c.args.response ≡ false = search rules in
    answer_other c.args.keeping.now c.args.response other

pub returns-then-permits-clause-response : goal.returns-then-permits-clause-response
returns-then-permits-clause-response g c =
    let allowed : allows c.args.keeping.now ≡ true = search rules in
    answer_allowed c.args.keeping.now c.args.response allowed

pub reply-written-requires-2 : goal.reply-written-requires-2
reply-written-requires-2 g c = record { other = ap acknowledges c.refusal_of-refusal.ensures ∙ refused_other c.args.response }

pub returns-clause-response : goal.returns-clause-response
returns-clause-response g c =
    let is : acknowledges c.args.response ≡ true = search rules in
    let unkept : allows c.args.keeping.now ≡ false = search rules in
    c.refusal_of-refusal.ensures ∙ answer_refused c.args.keeping.now c.args.response is unkept
