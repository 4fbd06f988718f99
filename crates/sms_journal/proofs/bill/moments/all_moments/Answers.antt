use Rattle.std.proofs.Common.{◌≡◌, ◌∙◌, ◌+◌, ◌-◌, ◌*◌, ◌<◌, ℕ, None, drop, get_or, length, nat_eq, sym, ap, arith, rules}
use Rattle.std.specs.Prelude.{Option}
use Rattle.std.specs.HashMap.{get}
use Rattle.std.proofs.lemmas.List.{get_or_default}
use Rattle.sms_journal.specs.Moments.{AreAnswers, answer_by, answer_in, last_moments, moments_in}
use Rattle.sms_journal.specs.Recovered.{or_else}
use Rattle.sms_journal.specs.declared.bill.moments.Moments.{Moments}
use Rattle.sms_journal.proofs.Timed.{answer_before, last_before, no_answer, no_last}
use Rattle.sms_journal.proofs.bill.moments.all_moments.Goals as goal

pub loop-place-init : goal.loop-place-init
loop-place-init c =
    let least = c.min-place.ensures in
    let times = c.args.times.now in
    let notes = c.args.notes.now in
    record {
      low = omega (arith, least);
      lower = omega (arith, least);
      answers = λ worker number low.
          let none : get nat_eq c.new-answers.result (worker * 4294967296 + number) ≡ None = search rules in
          none ∙ sym (no_answer worker number times notes c.min-place.result (omega (arith, least)));
      moments = λ m p low.
          let none : get nat_eq c.new-moments.result (m * 18446744073709551616 + p) ≡ None = search rules in
          none ∙ sym (no_last m p times notes c.min-place.result (omega (arith, least)));
    }

pub loop-place-preserved : goal.loop-place-preserved
loop-place-preserved c =
    let times = c.args.times.now in
    let notes = c.args.notes.now in
    let i = c.loop-place.place - 1 in
    let test = c.loop-place-test.true in
    let held = c.loop-place.invariant in
    let high = held.low in
    let higher = held.lower in
    let next : c.loop-place.place ≡ i + 1 = omega (arith, test) in
    let low : i < length times = omega (arith, test, high) in
    let lower : i < length notes = omega (arith, test, higher) in
    let time = get_or times i 0 in
    let note = c.index-notes-place.result in
    let is : time ≡ get_or times i time = get_or_default times i 0 time low in
    let answers : AreAnswers (drop (i + 1) times) (drop (i + 1) notes) c.loop-place.answers =
    λ worker number small. held.answers worker number small ∙ ap (λ (k : ℕ). answer_in worker number (drop k times) (drop k notes)) next in
    let answer = c.answer_to-answer.ensures (drop (i + 1) times) (drop (i + 1) notes) answers in
    record {
      low = omega (arith, test, high);
      lower = omega (arith, test, higher);
      answers = λ worker number small.
          c.in_ok-keep_answer.ensures worker number small ∙ ap (answer_by worker number time note) (answers worker number small)
          ∙ sym (answer_before worker number times notes i time note low lower is c.index-notes-place.is);
      moments = λ m p small.
          c.in_ok-keep_moments.ensures m p small
          ∙ ap (λ (o : Option Moments). or_else o (moments_in c.answer_to-answer.result m p time note)) (held.moments m p small ∙ ap (λ (k : ℕ). last_moments m p (drop k times) (drop k notes)) next)
          ∙ ap (λ (a : Option (Option ℕ)). or_else (last_moments m p (drop (i + 1) times) (drop (i + 1) notes)) (moments_in a m p time note)) answer
          ∙ sym (last_before m p times notes i time note low lower is c.index-notes-place.is);
    }
