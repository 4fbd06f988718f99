use Rattle.std.proofs.Common.{subst, suc, take, drop, string_bytes, rules}
use Rattle.sms_ledger.specs.Kept.{state_of}
use Rattle.sms_ledger.specs.Posting.{ArePosted}
use Rattle.sms_ledger.proofs.Postings.{item_split, item_taken, one_posted, stopped}
use Rattle.sms_ledger.proofs.ledger.Ledger.post.Goals as goal

pub returns-in-Err-clause-err : goal.returns-in-Err-clause-err
returns-in-Err-clause-err c =
    let k = c.loop-entry.entry-index in
    let es = c.args.entries.now in
    stopped c.args.time es (take k es) (drop (suc k) es) c.entry-item.result (state_of c.args.self.now.books) (state_of c.loop-entry.self.books) (state_of c.book.new.self.books) (string_bytes c.loop-entry.text) c.in-Err.refusal
    (item_split es k c.entry-item.result c.loop-entry-test.true c.entry-item.is) c.loop-entry.invariant (search rules)

pub loop-entry-preserved : goal.loop-entry-preserved
loop-entry-preserved c =
    let k = c.loop-entry.entry-index in
    let es = c.args.entries.now in
    let a = state_of c.args.self.now.books in
    let new = state_of c.book.new.self.books in
    subst (λ l. ArePosted c.args.time l a new (string_bytes c.write_entry.new.text)) (item_taken es k c.entry-item.result c.loop-entry-test.true c.entry-item.is)
    (one_posted c.args.time (take k es) c.entry-item.result a (state_of c.loop-entry.self.books) new (string_bytes c.loop-entry.text) (string_bytes c.write_entry.new.text) c.loop-entry.invariant (search rules) (search rules))
