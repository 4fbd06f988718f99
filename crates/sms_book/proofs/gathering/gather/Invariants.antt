use Rattle.std.proofs.Common.{◌≡◌, ◌+◌, ◌++◌, List, [], ◌∷◌, map}
use Rattle.std.specs.Vec.Iter.{into_iter_items}
use Rattle.sms_book.specs.declared.rule.Entry.{Entry}
use Rattle.sms_book.specs.declared.rule.View.TheVariants.{Book}
use Rattle.sms_book.specs.Portions.{of_row}
use Rattle.sms_book.specs.Shares.{Share}
use Rattle.sms_book.proofs.Returned.{AreBack}
use Rattle.sms_book.proofs.Sums.{Gathered, back}
use Rattle.sms_book.proofs.gathering.gather.Given as goal

abbrev pub invariant-loop-share : goal.invariant-loop-share
invariant-loop-share g l =
    let totals = map of_row l.rows.items in
    record {
      entries : List Entry;
      done : List Share;
      seat : l.seat.views ≡ Book entries totals ∷ [];
      table : l.seat.table_id ≡ g.N.BookName.book.table;
      all : done ++ into_iter_items l.share-iterator ≡ l.fn.shares.items;
      gathered : Gathered totals (g.N.BookName.book.workers + 1) entries (back l.fn.till done);
      numbers : AreBack entries (0 ∷ map (λ s. s.number) done);
    }
