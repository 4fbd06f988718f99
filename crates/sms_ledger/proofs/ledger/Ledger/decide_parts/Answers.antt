use Rattle.std.proofs.Common.{◌≡◌, ◌+◌, false, suc, drop, subst, arith, rules}
use Rattle.std.specs.Prelude.{string_bytes}
use Rattle.sms_ledger.specs.declared.entry.Entry.TheVariants.{Decided}
use Rattle.sms_ledger.specs.Books.{IsBooked, IsRefused}
use Rattle.sms_ledger.specs.Decisions.{is_decided}
use Rattle.sms_ledger.specs.Kept.{state_of}
use Rattle.sms_ledger.proofs.DecidedOnce.{AreDecided, one_decided, one_refused}
use Rattle.sms_ledger.proofs.Postings.{item_left}
use Rattle.sms_ledger.proofs.ledger.Ledger.decide_parts.Goals as goal

pub returns-in-Err-clause-err : goal.returns-in-Err-clause-err
returns-in-Err-clause-err c =
    let k = c.loop-d.d-index in
    let ds = c.args.decisions.now in
    let d = c.d-item.result in
    let now = state_of c.loop-d.self.books in
    let new = state_of c.decide.new.books in
    let fresh : is_decided d now ≡ false = search rules in
    let bad : IsRefused (Decided d) now new c.in-Err.refusal = search rules in
    one_refused c.args.time ds (drop k ds) (drop (suc k) ds) d (state_of c.args.self.now.books) now new (string_bytes c.loop-d.text) c.in-Err.refusal (item_left ds k d c.loop-d-test.true c.d-item.is) fresh bad c.loop-d.invariant

pub loop-d-preserved : goal.loop-d-preserved
loop-d-preserved c =
    let k = c.loop-d.d-index in
    let ds = c.args.decisions.now in
    let d = c.d-item.result in
    let old = state_of c.args.self.now.books in
    let now = state_of c.loop-d.self.books in
    let new = state_of c.decide.new.books in
    let fresh : is_decided d now ≡ false = search rules in
    let booked : IsBooked (Decided d) now new = search rules in
    let next : suc k ≡ k + 1 = omega arith in
    subst (λ n. AreDecided c.args.time ds (drop n ds) old new (string_bytes c.write_decided.new.text)) next
    (one_decided c.args.time ds (drop k ds) (drop (suc k) ds) d old now new (string_bytes c.loop-d.text) (string_bytes c.write_decided.new.text) (item_left ds k d c.loop-d-test.true c.d-item.is) fresh booked (search rules) c.loop-d.invariant)
