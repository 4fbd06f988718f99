use Rattle.std.proofs.Common.{◌≡◌, ◌∙◌, ◌++◌, ◌∷◌, [], ℕ, List, true, None, Some, ap, sym, rules}
use Rattle.std.specs.Prelude.{Err, Ok, OnErr, OnOk, Option, Result, is_some, if◌then◌else◌}
use Rattle.std.specs.Str.{bytes_eq}
use Rattle.std.specs.HashMap.{get_by_text}
use Rattle.sms_ledger.specs.declared.entry.Row.{Row}
use Rattle.sms_ledger.specs.Books.{with_opened}
use Rattle.sms_ledger.proofs.Causes.{no_row_there, none_is, row_there, some_is}
use Rattle.sms_ledger.proofs.booking.paying.give_row.Goals as goal

on_ok : {A E P Q : Type 0} → (P → Q) → (r : Result A E) → OnOk r P → OnOk r Q
on_ok f (Ok x) h = f h
on_ok f (Err e) h = tt

on_err : {A E P Q : Type 0} → (P → Q) → (r : Result A E) → OnErr r P → OnErr r Q
on_err f (Ok x) h = tt
on_err f (Err e) h = f h

given : {A E P : Type 0} → P → (r : Result A E) → OnOk r P
given p (Ok x) = p
given p (Err e) = tt

pub returns-then-change_row : goal.returns-then-change_row
returns-then-change_row c =
    let name = c.args.name.now in
    let rows = c.args.rows.now in
    let found : is_some (get_by_text rows name) ≡ true = sym c.if-change_row.ensures.found in
    let there = some_is (get_by_text rows name) found in
    record {
      opened = sym (ap (λ o. with_opened name o c.args.opened.now.items) there.1);
      ok = λ q. c.if-change_row.ensures.row q ∙ row_there name q (λ p. get_by_text rows p) c.args.row found;
      err = tt;
    }

pub returns : goal.returns
returns c =
    let name = c.args.name.now in
    let rows = c.args.rows.now in
    let items = c.args.opened.now.items in
    let row = c.args.row in
    let none : get_by_text rows name ≡ None = none_is (get_by_text rows name) (sym c.if-change_row.ensures.found) in
    let same : (q : List ℕ) → get_by_text c.change_row.new.rows q ≡ get_by_text rows q = λ q. c.if-change_row.ensures.row q ∙ sym (no_row_there name q (λ p. get_by_text rows p) row none) in
    let pushed : c.push.new.list.items ≡ items ++ name ∷ [] = search rules in
    record {
      opened = given (pushed ∙ sym (ap (λ o. with_opened name o items) none)) c.put_row.result;
      ok = on_ok (λ h q. h q ∙ ap (λ (o : Option Row). if bytes_eq name q then Some row else o) (same q)) c.put_row.result c.put_row.ensures.ok;
      err = on_err (λ h q. h q ∙ same q) c.put_row.result c.put_row.ensures.err;
    }
