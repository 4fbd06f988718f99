use Rattle.std.proofs.Common.{◌≡◌, List, Option, length, rules, subst, sym}
use Rattle.std.specs.Prelude.{IfOk}
use Rattle.std.specs.List.{AllZip}
use Rattle.sms_book.specs.Openings.{credits_of, names_of}
use Rattle.sms_book.specs.declared.opening.Opening.{Opening}
use Rattle.sms_driver.specs.declared.ending.Sending.{Sending}
use Rattle.sms_journal.specs.Left.{SaysSame, free_in, left_in}
use Rattle.sms_send.specs.Rounds.{IsNextRound, IsSentFrom}
use Rattle.sms_send.proofs.NextRounds.{next_of_left}
use Rattle.sms_send.proofs.sending.rounds.next_round.Goals as goal

pub returns-in_ok-free-in-Some-clause-sent : goal.returns-in_ok-free-in-Some-clause-sent
returns-in_ok-free-in-Some-clause-sent g c =
    let told = g.D.Dial.told (g.D.RoundDial.of_round c.args.devices.now.dial.now c.args.round) in
    let settings = c.args.part.settings.now in
    let openings = c.args.part.openings.now in
    let ms = c.args.part.messages.now in
    let free = c.in_ok-free-in-Some.free.items in
    let left = c.in_ok-left-in-Some.left.items in
    let came = c.in-Some.came in
    let result = c.dial_round-in-Some.result in
    let names : names_of free ≡ names_of openings = c.in_ok-free-in-Some.ensures.names in
    let credits : credits_of free ≡ free_in came.statement = search rules in
    let same : AllZip SaysSame (left_in ms came.ends.items) left = search rules in
    let sent : IfOk result (IsSentFrom told settings (length free) (credits_of free) left) =
    subst (λ (os : List Opening). IfOk result (IsSentFrom told settings (length os) (credits_of os) left)) c.as_slice-openings.ensures.value c.dial_round-in-Some.ensures.sent in
    subst (λ (o : Option Sending). IfOk result (IsNextRound told settings openings ms o)) (sym c.in-Some.is) (next_of_left told settings openings free ms left came result names credits same sent)
