-- From what run_worker says of places to what is said of each message and its end.
use Rattle.std.proofs.Common.{◌≡◌, ℕ, suc, List, [], ◌∷◌, length, refl, arith}
use Rattle.std.specs.List.{AllByRecursion, AllZip}
use Rattle.sms_pdu.specs.declared.reply.Reply.{Reply}
use Rattle.sms_message.specs.declared.message.Message.{Message}
use Rattle.sms_message.specs.declared.rules.Rules.{Rules}
use Rattle.sms_worker.specs.Types.{Attempt, MessageEnd}
use Rattle.sms_worker.specs.Told.{AllTold, IsAnswered}
use Rattle.sms_message.specs.Results.{AreEnds}
use Rattle.sms_worker.specs.Sweeps.{AllSettled}
use Rattle.sms_message.specs.EndOf.{HasItsNumber}
use Rattle.sms_worker.specs.EndOf.{IsEndOf}

own_numbers : (before : ℕ) (received : List Reply) (attempts : List Attempt) → AllByRecursion (IsAnswered before received) attempts → AllByRecursion HasItsNumber attempts
own_numbers before received [] all = tt
own_numbers before received (a ∷ attempts) all = (λ r is. (all.0 r is).0, own_numbers before received attempts all.1)

pub ends_of : (rules : Rules) (accounts before : ℕ) (received : List Reply) (ms : List Message) (es : List MessageEnd)
    → length es ≡ length ms → AreEnds rules accounts ms es → AllTold rules before received ms es → AllSettled rules.policy.attempts es → AllZip (IsEndOf rules accounts) ms es
ends_of rules accounts before received [] [] long ends told settled = tt
ends_of rules accounts before received [] (e ∷ es) long ends told settled = absurd (omega arith)
ends_of rules accounts before received (m ∷ ms) [] long ends told settled = absurd (omega arith)
ends_of rules accounts before received (m ∷ ms) (e ∷ es) long ends told settled =
    let here = ends.each 0 m e refl refl in (
      record {
        index = here.0;
        result = here.1;
        segments = λ p s at.
            let t = told 0 p m s refl at in
            record { cost = t.cost; sent = t.sent; answered = own_numbers before received s.attempts t.answered; settled = settled 0 p s at };
      },
      ends_of rules accounts before received ms es (omega arith)
          (record { within = omega arith; each = λ k x y. ends.each (suc k) x y })
          (λ k p x s at there. told (suc k) p x s at there)
          (λ k p s there. settled (suc k) p s there),
    )
