use Rattle.std.proofs.Common.{◌∙◌, [], ◌∷◌, ◌++◌, refl, sym, subst}
use Rattle.sms_bind.specs.Frames.{IsRequest}
use Rattle.sms_bind.specs.LogRule.{seat, wire_seat, joined}
use Rattle.sms_bind.proofs.LogMoves.{claims, both_lists}
use Rattle.sms_bind.proofs.log.steps.claim.Goals as goal

pub split_off-requires-clause-allowed : goal.split_off-requires-clause-allowed
split_off-requires-clause-allowed g c =
    let (first, given, is) = c.requires.wire in
    let (theirs, there) = c.requires.pass in
    let both = joined (wire_seat first given) (seat 1 [] theirs) in
    (both, c.take_in.ensures.joined _ _ is there, claims _ both g.F.Given.frame refl (subst IsRequest c.requires.picked c.requires.request))

pub returns-clause-given : goal.returns-clause-given
returns-clause-given g c first given is =
    let (theirs, there) = c.requires.pass in
    let both = both_lists given theirs in
    c.split_off.ensures.left _ (c.take_in.ensures.joined _ _ is there) ∙ (λ i. wire_seat first (both.0 i ++ sym c.requires.picked i ∷ []) ∷ [])

pub returns-clause-claims : goal.returns-clause-claims
returns-clause-claims g c theirs there =
    let (first, given, is) = c.requires.wire in
    c.split_off.ensures.right _ (c.take_in.ensures.joined _ _ is there) ∙ (λ i. seat 1 [] (theirs ++ sym c.requires.picked i ∷ []) ∷ [])
