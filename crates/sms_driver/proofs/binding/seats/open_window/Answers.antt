use Rattle.std.proofs.Common.{[], inl, inr, refl, subst, arith}
use Rattle.sms_worker.specs.declared.steps.attempt.Number.{Number}
use Rattle.sms_worker.specs.Steps.{Draws}
use Rattle.sms_driver.proofs.Firsts.{none_seen}
use Rattle.sms_driver.proofs.binding.seats.open_window.Goals as goal

pub unreachable-requires : goal.unreachable-requires
unreachable-requires c =
    let before = c.in-Ok.keeper.view in
    let after = c.draw.new.seat.view in
    elim c.in-UsedUp.is [
      | inl used ↦
          let draws = subst (λ (n : Number). Draws before n after) used c.draw.ensures.drawn in
          let few = none_seen c.args.limit before after c.in-Ok.ensures.made.opened [] draws _ _ refl c.close-closed.ensures.end in
          let seen = c.draw.ensures.used_up used in
          omega arith
      | inr met ↦
          let draws = subst (λ (n : Number). Draws before n after) met c.draw.ensures.drawn in
          let few = none_seen c.args.limit before after c.in-Ok.ensures.made.opened [] draws _ _ refl c.close-closed.ensures.end in
          let seen = c.draw.ensures.contended met in
          omega arith
    ]
