use Rattle.std.proofs.Common.{◌≡◌, ◌≤◌, map, replicate, vec_len, vec_capacity}
use Rattle.sms_book.specs.Portions.{no_amounts}
use Rattle.sms_book.proofs.room.amounts_for.Given as goal

abbrev pub invariant-loop : goal.invariant-loop
invariant-loop l = record {
  blank : map (λ a. a.items) l.all.items ≡ replicate l.counter (replicate l.accounts no_amounts);
  count : vec_len l.all ≡ l.counter;
  room : l.workers ≤ vec_capacity l.all;
}
