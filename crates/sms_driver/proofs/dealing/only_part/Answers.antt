use Rattle.std.proofs.Common.{◌∙◌}
use Rattle.sms_driver.proofs.Dealt.{dealt_to_one}
use Rattle.sms_driver.proofs.Takes.{only_taken}
use Rattle.sms_driver.proofs.dealing.only_part.Goals as goal

pub returns : goal.returns
returns g c es is =
    let i = rw c.in-Some.is at c.pop.ensures.items in
    c.from.ensures.0 ∙ only_taken (λ p. p.items) c.args.parts.items c.pop.new.self.items c.in-Some.part es c.requires.one i (is ∙ dealt_to_one es)
