use Rattle.std.proofs.Common.{◌≡◌, ◌∙◌, Some, ap, sym, string_bytes, rules}
use Rattle.std.specs.HashMap.{get_by_text}
use Rattle.std.proofs.lemmas.Map.Text.{hash_map_updates_text}
use Rattle.sms_ledger.specs.declared.entry.Deposit.{Deposit}
use Rattle.sms_ledger.specs.Books.{with_payment}
use Rattle.sms_ledger.proofs.rows.keep_payment.Goals as goal

pub returns : goal.returns
returns c = record {
  ok = λ q.
      let p = c.args.p in
      let d : Deposit = record { account = p.account; credits = p.credits } in
      let key : string_bytes c.into_text.result ≡ c.in-Some.reference = search rules in
      let is : p.reference ≡ Some c.in-Some.reference = search rules in
      let sets = hash_map_updates_text (string_bytes c.into_text.result) c.args.payments.now c.insert.new.map _ c.in_ok-insert.ensures.updates q in
      (rw key at sets) ∙ ap (λ o. with_payment o d (λ k. get_by_text c.args.payments.now k) q) (sym is);
}
