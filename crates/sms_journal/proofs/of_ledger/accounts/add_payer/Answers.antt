use Rattle.std.proofs.Common.{◌≡◌, ◌++◌, true, false, Some, None, rules}
use Rattle.std.specs.Prelude.{is_some}
use Rattle.std.specs.HashMap.{get_by_text}
use Rattle.std.proofs.lemmas.Result.{on_ok_weaker}
use Rattle.sms_ledger.specs.InMemory.{state_in}
use Rattle.sms_ledger.specs.Names.{name_said, octets_text}
use Rattle.sms_journal.specs.OfLedger.{free_line}
use Rattle.sms_journal.proofs.Payers.{added, not_named, not_there, seen_before}
use Rattle.sms_journal.proofs.of_ledger.accounts.add_payer.Goals as goal

pub returns-in_default : goal.returns-in_default
returns-in_default c = λ names.
    let said : name_said (octets_text c.args.name.now) ≡ None = search rules in
    not_named (state_in c.args.ledger.now) c.args.name.now (λ q. is_some (get_by_text c.args.seen.now q)) names c.args.text.now.items said

pub returns-then-contains_key : goal.returns-then-contains_key
returns-then-contains_key c = λ names.
    let there = c.in-Some.there in
    let said : name_said (octets_text c.args.name.now) ≡ Some there = search rules in
    let before : is_some (get_by_text c.args.seen.now there) ≡ true = search rules in
    seen_before (state_in c.args.ledger.now) c.args.name.now (λ q. is_some (get_by_text c.args.seen.now q)) names c.args.text.now.items there said before

pub returns-in_default-row : goal.returns-in_default-row
returns-in_default-row c = λ names.
    let there = c.in-Some.there in
    let said : name_said (octets_text c.args.name.now) ≡ Some there = search rules in
    let none : (state_in c.args.ledger.now).accounts there ≡ None = search rules in
    not_there (state_in c.args.ledger.now) c.args.name.now (λ q. is_some (get_by_text c.args.seen.now q)) names c.args.text.now.items there said none

pub returns : goal.returns
returns c =
    let s = state_in c.args.ledger.now in
    let there = c.in-Some.there in
    let row = c.in-Some-row.row in
    let said : name_said (octets_text c.args.name.now) ≡ Some there = search rules in
    let is : s.accounts there ≡ Some row = search rules in
    let fresh : is_some (get_by_text c.args.seen.now there) ≡ false = search rules in
    let written : c.push_account.new.text.items ≡ c.args.text.now.items ++ free_line c.args.name.now (Some row) = search rules in
    on_ok_weaker c.keep_seen.result
    (λ then_seen names. added s c.args.name.now (λ q. is_some (get_by_text c.args.seen.now q)) (λ q. is_some (get_by_text c.keep_seen.new.seen q)) names c.args.text.now.items c.push_account.new.text.items there row said is fresh then_seen written)
    c.keep_seen.ensures
