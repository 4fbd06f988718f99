use Rattle.std.proofs.Common.{◌≡◌, ◌++◌, ◌≤◌, List, [], ◌∷◌, map, replicate, vec_len, vec_capacity}
use Rattle.std.specs.Vec.Iter.{into_iter_items}
use Rattle.sms_book.specs.declared.rule.Portion.{Portion}
use Rattle.sms_book.specs.declared.rule.Entry.{Entry}
use Rattle.sms_book.specs.declared.rule.View.TheVariants.{Book}
use Rattle.sms_book.specs.Portions.{no_amounts, nothing}
use Rattle.sms_book.specs.Rule.{at_home}
use Rattle.sms_book.specs.Shares.{opening_shares}
use Rattle.sms_book.proofs.Dealing.{dealt}
use Rattle.sms_book.proofs.blank.deal_shares.Given as goal

abbrev pub ghosts-deal : goal.ghosts-deal
ghosts-deal g a = record { number = a.number }

abbrev pub invariant-loop-amounts : goal.invariant-loop-amounts
invariant-loop-amounts g l =
    let name = g.N.BookName.book in
    let home = replicate name.workers (at_home (replicate name.accounts nothing)) in
    let blank = replicate name.accounts no_amounts in
    record {
      table : l.seat.table_id ≡ name.table;
      seat : (e : Entry) (ts : List Portion) → l.fn.seat.views ≡ Book (e ∷ home) ts ∷ [] → l.seat.views ≡ Book (e ∷ dealt l.number home) ts ∷ [];
      count : vec_len l.shares ≡ l.number;
      shares : l.shares.items ≡ opening_shares name.accounts l.number;
      rest : replicate l.number blank ++ map (λ a. a.items) (into_iter_items l.amounts-iterator) ≡ replicate name.workers blank;
      room : name.workers ≤ vec_capacity l.shares;
    }
