use Rattle.std.proofs.Common.{◌≡◌, ◌∙◌, ◌≤◌, ap, sym, subst, refl, None, Some, rules}
use Rattle.std.specs.Prelude.{position}
use Rattle.std.specs.HashMap.{get_by_text}
use Rattle.sms_ledger.specs.declared.entry.Entry.TheVariants.{Decided}
use Rattle.sms_ledger.specs.declared.entry.Stand.TheVariants.{Back}
use Rattle.sms_ledger.specs.Books.{AreBalanced, is_of, less, moved, part_name, settle, stand_of, with_fate, with_stand}
use Rattle.sms_ledger.specs.Kept.{ArePlaces, state_of}
use Rattle.sms_ledger.proofs.Balancing.{balanced_after}
use Rattle.sms_ledger.proofs.Causes.{decided_fits, decided_unless, moved_is, same_state, stands_not}
use Rattle.sms_ledger.proofs.Places.{places_kept}
use Rattle.sms_ledger.proofs.booking.deciding.decide.Goals as goal

pub returns-in_default-clause-err : goal.returns-in_default-clause-err
returns-in_default-clause-err c =
    let d = c.args.d.now in
    let s = state_of c.args.books.now in
    let place : c.in_ok-place.field-0 ≡ position (is_of d.of.run d.of.account) s.stakes = c.in_ok-place.ensures.place ∙ c.requires.found d.of.run d.of.account c.in_ok-place.ensures.long in
    let first : s.decided (part_name d.of.run d.message d.part) ≡ None = search rules in
    (decided_unless (s.decided (part_name d.of.run d.message d.part)) d.cost (stand_of d.of.run d.of.account s) None first (stands_not d.of.run d.of.account s c.in_ok-place.field-0 place (search rules)), refl)

pub returns-clause-ok : goal.returns-clause-ok
returns-clause-ok c =
    let d = c.args.d.now in
    let s = state_of c.args.books.now in
    let part = part_name d.of.run d.message d.part in
    let first : s.decided part ≡ None = search rules in
    let stand : stand_of d.of.run d.of.account s ≡ Some (Back c.in-Back.doubt) = search rules in
    let few : d.cost ≤ c.in-Back.doubt = search rules in (
      decided_fits (s.decided part) d.cost c.in-Back.doubt (stand_of d.of.run d.of.account s) few first stand,
      same_state (λ q. get_by_text c.change_row.new.rows q) (moved d.of.account (settle d.fate d.cost) s.accounts) _ _ _ _ (λ q. get_by_text c.args.books.now.payments q) (λ q. get_by_text c.args.books.now.payments q)
          (λ q. get_by_text c.keep_fate.new.parts q) (with_fate part d.fate s.decided)
          (λ q. c.change_row.ensures.row q ∙ moved_is d.of.account q s.accounts _ (settle d.fate d.cost) (c.settled-row.ensures ∙ ap (settle d.fate d.cost) c.covered_row.ensures.row)) refl
          (c.set_stand.ensures ∙ ap (λ x. with_stand d.of.run d.of.account x s.stakes) (sym (ap (less d.cost) stand))) (λ q. refl) (λ q. search rules),
    )

pub returns-clause-sound : goal.returns-clause-sound
returns-clause-sound c =
    let d = c.args.d.now in
    let s = state_of c.args.books.now in
    let ok = returns-clause-ok c in
    record {
      found = subst (ArePlaces (λ k. get_by_text c.args.books.now.places k)) (sym c.set_stand.ensures) (places_kept (λ k. get_by_text c.args.books.now.places k) s.stakes d.of.run d.of.account _ c.requires.found);
      balanced = subst AreBalanced (sym ok.1) (balanced_after (Decided d) s ok.0 c.requires.balanced);
    }
