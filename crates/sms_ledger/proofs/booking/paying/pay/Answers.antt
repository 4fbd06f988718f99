use Rattle.std.proofs.Common.{◌≡◌, ◌∙◌, ◌+◌, ◌≤◌, false, None, ap, refl, rules}
use Rattle.std.specs.Prelude.{◌==◌}
use Rattle.std.specs.HashMap.{get_by_text}
use Rattle.sms_ledger.specs.Books.{pay_in, payment_in, row_at, with_paid, with_payment}
use Rattle.sms_ledger.specs.Kept.{state_of}
use Rattle.sms_ledger.proofs.Causes.{paid_is, pay_fits, same_state}
use Rattle.sms_ledger.proofs.booking.paying.pay.Goals as goal

pub returns-clause-ok : goal.returns-clause-ok
returns-clause-ok c =
    let p = c.args.p in
    let s = state_of c.args.books.now in
    let some : (p.credits == 0) ≡ false = search rules in
    let first : payment_in p.reference s.payments ≡ None = search rules in
    let few : (row_at p.account s).paid + p.credits ≤ 0x100_0000_0000 = search rules in (
      pay_fits p.credits (payment_in p.reference s.payments) ((row_at p.account s).paid + p.credits) some first few,
      same_state (λ q. get_by_text c.give_row.new.rows q) (with_paid p.account p.credits s.accounts) _ _ _ _ (λ q. get_by_text c.keep_payment.new.payments q) (with_payment p.reference (record { account = p.account; credits = p.credits }) s.payments)
          (λ q. get_by_text c.args.books.now.parts q) (λ q. get_by_text c.args.books.now.parts q)
          (λ q. c.in_ok-give_row.ensures.ok q ∙ paid_is p.account q s.accounts _ p.credits (ap (pay_in p.credits) c.row_or_none-row.ensures.row)) c.in_ok-give_row.ensures.opened refl (λ q. c.in_ok-keep_payment.ensures.ok q) (λ q. refl),
    )
