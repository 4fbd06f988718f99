use Rattle.std.proofs.Common.{◌≡◌, ℕ, Option, Some, None, IfErr, IfOk, subst, sym}
use Rattle.sms_send.proofs.OneRound.{fails_once, sends_rounds}
use Rattle.sms_send.proofs.sending.work.send_work.Goals as goal
use Rattle.sms_send.specs.Sent.{FailsDriving, FailsWork, IsWorkDone}
use Rattle.sms_send.specs.declared.args.send_args.Again.{Again}
use Rattle.sms_send.specs.declared.sending.work.Work.{Work}
use Rattle.sms_send.specs.declared.sending.work.Work.TheVariants.{All}

pub returns-in-None-clause-refused : goal.returns-in-None-clause-refused
returns-in-None-clause-refused g c =
    let refuses = λ (round : ℕ). g.D.Dial.refuses (g.D.RoundDial.of_round c.args.devices.now.dial.now round) in
    let tells = λ (round : ℕ). g.D.Dial.told (g.D.RoundDial.of_round c.args.devices.now.dial.now round) in
    let input = c.in-All.input in
    let begun = c.send_all.new.start.begun in
    let all : c.args.work ≡ All input = cc in
    let once : c.args.again ≡ None = cc in
    let why = subst (λ d. IfErr c.send_all.result (FailsDriving (g.D.Dial.refuses d) (g.D.Dial.told d) input.config begun)) c.in_round-first.ensures c.send_all.ensures.refused in
    subst (λ (w : Work). IfErr c.whole.result (FailsWork refuses tells c.args.again w begun)) (sym all)
    (subst (λ (a : Option Again). IfErr c.whole.result (FailsWork refuses tells a (All input) begun)) (sym once)
    (fails_once refuses tells input begun c.send_all.result c.whole.result c.whole.ensures why))

pub returns-in-Some-clause-sent : goal.returns-in-Some-clause-sent
returns-in-Some-clause-sent g c =
    let tells = λ (round : ℕ). g.D.Dial.told (g.D.RoundDial.of_round c.args.devices.now.dial.now round) in
    let input = c.in-All.input in
    let all : c.args.work ≡ All input = cc in
    let more : c.args.again ≡ Some c.in-Some.again = cc in
    subst (λ (w : Work). IfOk c.whole-in-Some.result (IsWorkDone tells c.args.again w)) (sym all)
    (subst (λ (a : Option Again). IfOk c.whole-in-Some.result (IsWorkDone tells a (All input))) (sym more)
    (sends_rounds tells c.in-Some.again input c.send_in_rounds.result c.whole-in-Some.result c.whole-in-Some.ensures c.send_in_rounds.ensures.sent))
