use Rattle.std.proofs.Common.{◌≡◌, ◌∙◌, ap, sym, subst, refl, Some, unwrap_or, rules}
use Rattle.std.specs.Prelude.{position}
use Rattle.std.specs.HashMap.{get_by_text}
use Rattle.sms_ledger.specs.declared.entry.Entry.TheVariants.{Taken}
use Rattle.sms_ledger.specs.Books.{AreBalanced, is_of, moved, no_row, stand_of, take_out}
use Rattle.sms_ledger.specs.Kept.{state_of}
use Rattle.sms_ledger.proofs.Balancing.{balanced_after}
use Rattle.sms_ledger.proofs.Causes.{moved_is, none_is, same_state, some_is, stands_at, stands_not, take_fits, take_short, take_twice}
use Rattle.sms_ledger.proofs.booking.taking.take.Goals as goal

pub returns-then-is_some-clause-err : goal.returns-then-is_some-clause-err
returns-then-is_some-clause-err c =
    let t = c.args.t.now in
    let s = state_of c.args.books.now in
    let row : s.accounts t.of.account ≡ Some c.in-Some.row = search rules in
    let place : c.in_ok-place_in.field-0 ≡ position (is_of t.of.run t.of.account) s.stakes = c.in_ok-place_in.ensures.place ∙ c.requires.found t.of.run t.of.account c.in_ok-place_in.ensures.long in
    let k = some_is c.in_ok-place_in.field-0 (search rules) in
    let f = stands_at t.of.run t.of.account s c.in_ok-place_in.field-0 k.0 place k.1 in
    (take_twice t.credits c.in-Some.row (s.accounts t.of.account) f.stand (stand_of t.of.run t.of.account s) row f.is, refl)

pub returns-then-t-row-clause-err : goal.returns-then-t-row-clause-err
returns-then-t-row-clause-err c =
    let t = c.args.t.now in
    let s = state_of c.args.books.now in
    let row : s.accounts t.of.account ≡ Some c.in-Some.row = search rules in
    let place : c.in_ok-place_in.field-0 ≡ position (is_of t.of.run t.of.account) s.stakes = c.in_ok-place_in.ensures.place ∙ c.requires.found t.of.run t.of.account c.in_ok-place_in.ensures.long in
    let none = stands_not t.of.run t.of.account s c.in_ok-place_in.field-0 place (none_is c.in_ok-place_in.field-0 (search rules)) in
    (take_short t.credits c.in-Some.row (s.accounts t.of.account) (stand_of t.of.run t.of.account s) (search rules) row none, refl)

pub returns-clause-ok : goal.returns-clause-ok
returns-clause-ok c =
    let t = c.args.t.now in
    let s = state_of c.args.books.now in
    let row : s.accounts t.of.account ≡ Some c.in-Some.row = search rules in
    let place : c.in_ok-place_in.field-0 ≡ position (is_of t.of.run t.of.account) s.stakes = c.in_ok-place_in.ensures.place ∙ c.requires.found t.of.run t.of.account c.in_ok-place_in.ensures.long in
    let none = stands_not t.of.run t.of.account s c.in_ok-place_in.field-0 place (none_is c.in_ok-place_in.field-0 (search rules)) in
    let items = c.in_ok-add_stake.ensures.ok in (
      take_fits t.credits c.in-Some.row (s.accounts t.of.account) (stand_of t.of.run t.of.account s) (search rules) row none,
      same_state (λ q. get_by_text c.change_row.new.rows q) (moved t.of.account (take_out t.credits) s.accounts) _ _ _ _ (λ q. get_by_text c.args.books.now.payments q) (λ q. get_by_text c.args.books.now.payments q) (λ q. get_by_text c.args.books.now.parts q) (λ q. get_by_text c.args.books.now.parts q)
          (λ q. c.change_row.ensures.row q ∙ moved_is t.of.account q s.accounts _ (take_out t.credits) (ap (λ o. take_out t.credits (unwrap_or o no_row)) (sym row))) refl items (λ q. refl) (λ q. refl),
    )

pub returns-clause-sound : goal.returns-clause-sound
returns-clause-sound c =
    let ok = returns-clause-ok c in
    record { found = c.add_stake.ensures.found; balanced = subst AreBalanced (sym ok.1) (balanced_after (Taken c.args.t.now) (state_of c.args.books.now) ok.0 c.requires.balanced) }
