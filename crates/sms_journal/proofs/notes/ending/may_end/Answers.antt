use Rattle.std.proofs.Common.{rules, ◌≡◌, ℕ, List, subst, sym, true, false}
use Rattle.std.specs.List.{AllZip}
use Rattle.sms_message.specs.declared.ends.MessageEnd.{MessageEnd}
use Rattle.sms_journal.specs.Lawful.{AreStarted}
use Rattle.sms_journal.specs.Recovered.{IsRecoveredEnd}
use Rattle.sms_journal.proofs.Endings.{status_once}
use Rattle.sms_journal.proofs.notes.ending.may_end.Goals as goal

pub returns-then-not-all_started : goal.returns-then-not-all_started
returns-then-not-all_started c = λ size sees. (
  (λ yes. absurd (cc)),
  (λ may.
      let all = subst (λ (given : List ℕ). AreStarted given c.args.before.now) (sym c.as_slice-indexes.ensures.value) may.started in
      let yes : c.all_started.result ≡ true = (c.all_started.ensures c.args.before.now sees.starts).1 all in
      let no : c.all_started.result ≡ false = search rules in
      absurd (cc)),
)

pub returns : goal.returns
returns c = λ size sees.
    let started : c.all_started.result ≡ true = search rules in
    let ends = c.as_slice.result.now in
    let are : AllZip (IsRecoveredEnd c.args.rules.now c.args.before.now) c.args.messages.now ends =
    subst (λ (l : List (MessageEnd (Unit {0}))). AllZip (IsRecoveredEnd c.args.rules.now c.args.before.now) c.args.messages.now l) (sym c.as_slice.ensures.value) c.in_ok-ends.ensures in (
      (λ yes. record {
        started = subst (λ (given : List ℕ). AreStarted given c.args.before.now) c.as_slice-indexes.ensures.value ((c.all_started.ensures c.args.before.now sees.starts).0 started);
        ends = ends;
        are = are;
        status_is = c.is_status_of.ensures.0 yes;
      }),
      (λ may. c.is_status_of.ensures.1 (status_once c.args.rules.now c.args.messages.now c.args.given.now.indexes.items c.args.before.now ends c.args.status are may)),
    )
