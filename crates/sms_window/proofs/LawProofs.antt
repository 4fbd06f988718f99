-- The laws that are no steps.
use Rattle.std.proofs.Common.{◌≡◌, ℕ, ◌≢◌, ◌+◌, ◌^◌, ◌<◌, ◌≤◌, sym, ap, ◌∙◌, arith}
use Rattle.std.specs.Int.{bit_at}
use Rattle.std.proofs.lemmas.Nat.Bits.{bit_at-pow_other}
use Rattle.sms_core.proofs.Bits.{bit_at_more, bit_at_less}
use Rattle.sms_core.proofs.Pairs.{bits_of_lawful}
use Rattle.sms_window.specs.Seats.{other_names, name_to_give}
use Rattle.sms_window.specs.Rule.{pairs_of, IsWindow, keeper}
use Rattle.sms_window.specs.Moves.{new_window}
use Rattle.sms_window.specs.Laws.{RuleIsOrderly, OpeningMeetsRule, RunIsOrderly, GivesGreatest}
use Rattle.sms_window.proofs.Seats.{name_apart, top_bit}
use Rattle.sms_window.proofs.Joins.{families_apart, slots_apart}
use Rattle.sms_window.proofs.Ends.{opens}
use Rattle.sms_window.proofs.Calls.{live}
use Rattle.sms_window.proofs.Runs.{run_keeps_rule}

pub rule_is_orderly : RuleIsOrderly IsWindow
rule_is_orderly o s r = record {
  lawful = r.lawful;
  word = r.word;
  bits = λ slot. ap (λ (m : ℕ). bit_at m slot) (sym r.word) ∙ bits_of_lawful (pairs_of s.views) r.lawful slot;
  slots_apart = λ id other slot v w ne at there mine theirs. let e = slots_apart o s r id other v w ne at there slot in let a = mine.1 in let b = theirs.1 in omega arith;
  drawn = r.drawn;
  next = r.next;
  seen = λ id v at. let t = r.seats id v at in (t.seen, t.below);
  rising = λ id v at. (r.seats id v at).rising;
  families_apart = λ id other name v w ne at there is. let e = families_apart o s r id other v w ne at there name in omega arith;
  named = λ id v at. (r.seats id v at).whole.named;
  spent = λ id v at. (r.seats id v at).spent;
}

pub opening_meets_rule : OpeningMeetsRule IsWindow keeper
opening_meets_rule o limit first = let a = first.1 in opens o (let b = limit.0 in omega arith) limit.1 (omega arith)

pub run_is_orderly : RunIsOrderly
run_is_orderly o ms t limit first run = rule_is_orderly o t (run_keeps_rule o (new_window o) ms t (opening_meets_rule o limit first) run)

pub gives_greatest : GivesGreatest
gives_greatest o s id v r at some_name =
    let seat = r.seats id v at in
    let own_name = seat.whole.named some_name in
    let small : v.family < 2 ^ 64 = seat.whole.family in
    let less = bit_at_less v.family v.name own_name.0 small own_name.1 in
    let y : ℕ = less.rest in
    let sum : v.family ≡ y + 2 ^ v.name = less.sum in
    let rest : other_names v ≡ y = omega arith in
    let others : (n : ℕ) → n ≢ v.name → bit_at v.family n ≡ bit_at (other_names v) n = λ n ne.
    let m = bit_at_more y v.name less.clear n in
    let e : bit_at v.family n ≡ bit_at (y + 2 ^ v.name) n = ap (λ (w : ℕ). bit_at w n) sum in
    let p = bit_at-pow_other v.name n ne in
    let q : bit_at (other_names v) n ≡ bit_at y n = ap (λ (w : ℕ). bit_at w n) rest in
    omega arith in (
      ((λ can. let n = name_apart v small own_name.0 own_name.1 can in (name_to_give v, n.other, n.there)), (λ t. let (n, ne, there) = t in live_word (other_names v) n (sym (others n ne) ∙ there))),
      λ can.
          let n = name_apart v small own_name.0 own_name.1 can in
          let top = top_bit (other_names v) can (omega arith) in
          record { there = n.there; other = n.other; greatest = λ k has ne. not_above k (name_to_give v) (λ lt. let z = top.none_above k lt in let o = others k ne in omega arith) },
    )
  where
    live_word : (w k : ℕ) → bit_at w k ≡ 1 → 0 < w
    live_word w k e = live w k e

    not_above : (k n : ℕ) → (n < k → ⊥) → k ≤ n
    not_above k n never = omega arith
