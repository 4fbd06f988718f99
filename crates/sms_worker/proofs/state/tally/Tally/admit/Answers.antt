use Rattle.std.proofs.Common.{◌≡◌, ◌↔◌, ◌<◌, ◌≤◌, ◌*◌, ◌++◌, ◌∷◌, [], length, Some, true, false, ap, sym, subst, rules, ◌∙◌}
use Rattle.std.specs.Prelude.{IsTrue, slice_get, slice_set}
use Rattle.sms_book.specs.Alone.{opening_at}
use Rattle.sms_book.specs.Money.{reserved_more}
use Rattle.sms_book.specs.Portions.{row_at}
use Rattle.sms_book.specs.Shares.{changed}
use Rattle.sms_core.specs.RowMoves.{row_reserved}
use Rattle.sms_worker.specs.Begins.{end_sent}
use Rattle.sms_worker.specs.Credit.{CanReserve}
use Rattle.sms_worker.specs.Tally.{TallyState}
use Rattle.sms_worker.proofs.Tallying.{sums_sent}
use Rattle.sms_worker.proofs.state.tally.Tally.admit.Goals as goal

pub invariant_of-self : goal.invariant_of-self
invariant_of-self g c = rw (c.reserve_all.ensures.refused (search rules)).1 c.self.invariant

pub invariant_of-self-2 : goal.invariant_of-self-2
invariant_of-self-2 g c =
    let start = g.C.WorkerStart.start in
    let there = subst (λ (t : TallyState). slice_get start.messages (length t.ends) ≡ Some c.args.message.now) (sym c.self.view_is) c.requires.next in
    let low = subst (λ (t : TallyState). c.args.account < length t.share.amounts) (sym c.self.view_is) c.requires.account.1 in
    let parts : c.len.result ≡ length c.args.segments.items = search rules in
    sums_sent start c.self.inside.shares c.reserve_all.new.shares c.self.inside.ends.items c.push_reserved.new.self.items c.args.message.now c.args.account c.args.cost c.args.segments.items c.self.invariant there c.requires.account.0 low c.requires.ready (c.reserve_all.ensures.share (search rules) ∙ ap (λ k. changed c.self.inside.shares c.args.account (reserved_more (k * c.args.cost))) parts) (c.push_reserved.ensures.items ∙ ap (λ l. c.self.inside.ends.items ++ end_sent c.args.message.now l ∷ []) c.new.ensures)

pub returns-then-not-reserve_all-clause-exact : goal.returns-then-not-reserve_all-clause-exact
returns-then-not-reserve_all-clause-exact g c =
    let parts : c.len.result ≡ length c.args.segments.items = search rules in
    let is : c.reserve_all.result ≡ false = search rules in
    subst (λ b. IsTrue b ↔ CanReserve c.args.book.now c.args.account (length c.args.segments.items * c.args.cost)) is
    (subst (λ k. IsTrue c.reserve_all.result ↔ CanReserve c.args.book.now c.args.account (k * c.args.cost)) parts c.reserve_all.ensures.exact)

pub returns-clause-exact : goal.returns-clause-exact
returns-clause-exact g c =
    let parts : c.len.result ≡ length c.args.segments.items = search rules in
    let is : c.reserve_all.result ≡ true = search rules in
    subst (λ b. IsTrue b ↔ CanReserve c.args.book.now c.args.account (length c.args.segments.items * c.args.cost)) is
    (subst (λ k. IsTrue c.reserve_all.result ↔ CanReserve c.args.book.now c.args.account (k * c.args.cost)) parts c.reserve_all.ensures.exact)

pub returns-clause-book : goal.returns-clause-book
returns-clause-book g c on =
    let parts : c.len.result ≡ length c.args.segments.items = search rules in
    c.reserve_all.ensures.book (search rules) ∙ ap (λ k. slice_set c.args.book.now c.args.account (row_reserved (k * c.args.cost) (row_at c.args.book.now c.args.account))) parts

pub returns-clause-covered : goal.returns-clause-covered
returns-clause-covered g c on sealed =
    let parts : c.len.result ≡ length c.args.segments.items = search rules in
    subst (λ k. k * c.args.cost ≤ opening_at g.N.BookName.book c.args.account) parts (c.reserve_all.ensures.covered (search rules) sealed)
