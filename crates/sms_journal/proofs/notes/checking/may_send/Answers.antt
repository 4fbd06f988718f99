use Rattle.std.proofs.Common.{rules, ◌≡◌, ◌≤◌, Some, None, sym, ◌∙◌, true, false}
use Rattle.sms_journal.specs.DenseMap.{value_at}
use Rattle.sms_journal.specs.Lawful.{place_of}
use Rattle.sms_journal.specs.Recovered.{start_of}
use Rattle.sms_journal.proofs.Admitting.{counted, dealt_there, no_place}
use Rattle.sms_journal.proofs.notes.checking.may_send.Goals as goal

pub returns-in_default-get-2 : goal.returns-in_default-get-2
returns-in_default-get-2 c = λ ms notes sees. (
  (λ yes. absurd (cc)),
  (λ h.
      let none : value_at c.args.given.now.order c.args.index ≡ None = search rules in
      absurd (no_place c.args.size c.args.given.now.indexes.items c.args.index c.args.request.worker (sym (c.requires c.args.index) ∙ none) h.dealt)),
)

pub returns-then-not-is_dealt : goal.returns-then-not-is_dealt
returns-then-not-is_dealt c = λ ms notes sees. (
  (λ yes. absurd (cc)),
  (λ h.
      let at : value_at c.args.given.now.order c.args.index ≡ Some c.in-Some-get.place = search rules in
      let there : place_of c.args.given.now.indexes.items c.args.index ≡ Some c.in-Some-get.place = sym (c.requires c.args.index) ∙ at in
      let yes : c.is_dealt.result ≡ true = c.is_dealt.ensures.1 (dealt_there c.args.size c.args.given.now.indexes.items c.args.index c.args.request.worker c.in-Some-get.place there h.dealt) in
      let no : c.is_dealt.result ≡ false = search rules in
      absurd (cc)),
)

pub returns-then-not-is_new : goal.returns-then-not-is_new
returns-then-not-is_new c = λ ms notes sees. (
  (λ yes. absurd (cc)),
  (λ h.
      let yes : c.is_new.result ≡ true = (c.is_new.ensures c.args.rules.now ms notes sees).1 h.number in
      let no : c.is_new.result ≡ false = search rules in
      absurd (cc)),
)

pub returns : goal.returns
returns c = λ ms notes sees.
    let at : value_at c.args.seen.now.starts c.args.index ≡ Some None = search rules in
    let cut : value_at c.args.seen.now.counts c.args.index ≡ Some c.in-Some.count = search rules in
    let begun : start_of notes c.args.index ≡ Some None = sym (sees.starts c.args.index) ∙ at in
    let from : 1 ≤ c.args.part = search rules in
    let to : c.args.part ≤ c.in-Some.count = search rules in
    let dealt : c.is_dealt.result ≡ true = search rules in
    let placed : value_at c.args.given.now.order c.args.index ≡ Some c.in-Some-get.place = search rules in
    let there : place_of c.args.given.now.indexes.items c.args.index ≡ Some c.in-Some-get.place = sym (c.requires c.args.index) ∙ placed in
    let new : c.is_new.result ≡ true = search rules in (
      (λ yes. record {
        begun = begun;
        dealt = record { place = c.in-Some-get.place; there = there; its = c.is_dealt.ensures.0 dealt };
        count = c.in-Some.count;
        parts = counted c.args.rules.now c.args.size ms c.args.index (value_at c.args.seen.now.counts c.args.index) c.in-Some.count (sees.counts c.args.index begun) cut;
        from = from;
        to = to;
        number = (c.is_new.ensures c.args.rules.now ms notes sees).0 new;
        again = (c.may_try.ensures c.args.size ms notes sees).0 yes;
      }),
      (λ h. (c.may_try.ensures c.args.size ms notes sees).1 h.again),
    )
