use Rattle.std.proofs.Common.{◌≡◌, ◌∙◌, ◌+◌, ap, sym, subst, refl, Some, rules}
use Rattle.std.specs.Prelude.{position}
use Rattle.std.specs.HashMap.{get_by_text}
use Rattle.sms_ledger.specs.declared.entry.Entry.TheVariants.{Returned}
use Rattle.sms_ledger.specs.declared.entry.Stand.TheVariants.{Out}
use Rattle.sms_ledger.specs.Books.{AreBalanced, back_refusal, bring_back, is_of, moved, stand_of}
use Rattle.sms_ledger.specs.Kept.{ArePlaces, state_of}
use Rattle.sms_ledger.proofs.Balancing.{balanced_after}
use Rattle.sms_ledger.proofs.Causes.{back_fits, moved_is, same_state, stands_not}
use Rattle.sms_ledger.proofs.Places.{places_kept}
use Rattle.sms_ledger.proofs.booking.returning.give_back.Goals as goal

pub returns-in_default-clause-err : goal.returns-in_default-clause-err
returns-in_default-clause-err c =
    let b = c.args.b.now in
    let s = state_of c.args.books.now in
    let place : c.in_ok-place.field-0 ≡ position (is_of b.of.run b.of.account) s.stakes = c.in_ok-place.ensures.place ∙ c.requires.found b.of.run b.of.account c.in_ok-place.ensures.long in
    (ap (back_refusal (b.free + b.doubt + b.spent)) (stands_not b.of.run b.of.account s c.in_ok-place.field-0 place (search rules)), refl)

pub returns-clause-ok : goal.returns-clause-ok
returns-clause-ok c =
    let b = c.args.b.now in
    let s = state_of c.args.books.now in
    let stand : stand_of b.of.run b.of.account s ≡ Some (Out c.in-Out.taken) = search rules in
    let whole : b.free + b.doubt + b.spent ≡ c.in-Out.taken = search rules in (
      ap (back_refusal (b.free + b.doubt + b.spent)) stand ∙ back_fits (b.free + b.doubt + b.spent) c.in-Out.taken whole,
      same_state (λ q. get_by_text c.change_row.new.rows q) (moved b.of.account (bring_back b.free b.doubt b.spent) s.accounts) _ _ _ _ (λ q. get_by_text c.args.books.now.payments q) (λ q. get_by_text c.args.books.now.payments q) (λ q. get_by_text c.args.books.now.parts q) (λ q. get_by_text c.args.books.now.parts q)
          (λ q. c.change_row.ensures.row q ∙ moved_is b.of.account q s.accounts _ (bring_back b.free b.doubt b.spent) (rw (sym whole) (ap (bring_back b.free b.doubt b.spent) c.covered_row-row.ensures.row)))
          refl c.set_stand.ensures (λ q. refl) (λ q. refl),
    )

pub returns-clause-sound : goal.returns-clause-sound
returns-clause-sound c =
    let b = c.args.b.now in
    let s = state_of c.args.books.now in
    let ok = returns-clause-ok c in
    record {
      found = subst (ArePlaces (λ k. get_by_text c.args.books.now.places k)) (sym c.set_stand.ensures) (places_kept (λ k. get_by_text c.args.books.now.places k) s.stakes b.of.run b.of.account _ c.requires.found);
      balanced = subst AreBalanced (sym ok.1) (balanced_after (Returned b) s ok.0 c.requires.balanced);
    }
