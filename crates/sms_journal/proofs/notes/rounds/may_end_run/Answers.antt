use Rattle.std.proofs.Common.{rules, ◌≡◌, List, subst, sym, true, false}
use Rattle.std.specs.Borrow.{Bor}
use Rattle.std.specs.Prelude.{IfSome, Option, option_copied}
use Rattle.std.specs.List.{AllZip}
use Rattle.sms_message.specs.declared.ends.MessageEnd.{MessageEnd}
use Rattle.sms_journal.specs.Rounds.{IsRunEnd}
use Rattle.sms_journal.proofs.Passing.{its_status, may_end}
use Rattle.sms_journal.proofs.notes.rounds.may_end_run.Goals as goal

pub returns-then-not-has_started : goal.returns-then-not-has_started
returns-then-not-has_started c = (
  (λ yes. absurd (cc)),
  (λ may.
      let yes : c.has_started.result ≡ true = (c.has_started.ensures c.in_ok-starts.ensures).1 may.started in
      let no : c.has_started.result ≡ false = search rules in
      absurd (cc)),
)

pub returns-in-Some : goal.returns-in-Some
returns-in-Some c =
    let started : c.has_started.result ≡ true = search rules in
    let ends = c.in-Some.ends.now in
    let are : AllZip (IsRunEnd c.args.rules.now c.args.before.now) c.args.messages.now ends =
    subst (λ (o : Option (Bor (List (MessageEnd (Unit {0}))))). IfSome (option_copied o) (AllZip (IsRunEnd c.args.rules.now c.args.before.now) c.args.messages.now)) c.in-Some.is c.requires.known in (
      (λ yes. may_end c.args.rules.now c.args.messages.now c.args.before.now c.args.round.now c.args.going.now ends c.args.status c.requires.free are ((c.has_started.ensures c.in_ok-starts.ensures).0 started) (c.is_status_of.ensures.0 yes)),
      (λ may. c.is_status_of.ensures.1 (its_status c.args.rules.now c.args.messages.now c.args.before.now c.args.round.now c.args.going.now ends c.args.status c.requires.free are may)),
    )

pub returns : goal.returns
returns c =
    let started : c.has_started.result ≡ true = search rules in
    let ends = c.as_slice.result.now in
    let are : AllZip (IsRunEnd c.args.rules.now c.args.before.now) c.args.messages.now ends =
    subst (λ (l : List (MessageEnd (Unit {0}))). AllZip (IsRunEnd c.args.rules.now c.args.before.now) c.args.messages.now l) (sym c.as_slice.ensures.value) c.in_ok-ends.ensures in (
      (λ yes. may_end c.args.rules.now c.args.messages.now c.args.before.now c.args.round.now c.args.going.now ends c.args.status c.requires.free are ((c.has_started.ensures c.in_ok-starts.ensures).0 started) (c.is_status_of-2.ensures.0 yes)),
      (λ may. c.is_status_of-2.ensures.1 (its_status c.args.rules.now c.args.messages.now c.args.before.now c.args.round.now c.args.going.now ends c.args.status c.requires.free are may)),
    )
