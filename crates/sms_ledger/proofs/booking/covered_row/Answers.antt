use Rattle.std.proofs.Common.{◌≡◌, Some, None, ap, refl, unwrap_or, rules, arith}
use Rattle.std.specs.HashMap.{get_by_text}
use Rattle.sms_ledger.specs.Books.{doubt_of, no_row, out_of}
use Rattle.sms_ledger.proofs.Causes.{covered}
use Rattle.sms_ledger.proofs.booking.covered_row.Goals as goal

pub returns-in-Some-clause-outs : goal.returns-in-Some-clause-outs
returns-in-Some-clause-outs c =
    let h = c.requires.sound.balanced c.args.of.now.account in
    let row : get_by_text c.args.books.now.rows c.args.of.now.account ≡ Some c.in-Some.row = search rules in
    let e = ap (λ o. (unwrap_or o no_row).out) row in
    omega (arith, e, h.outs, covered out_of c.args.of.now.run c.args.of.now.account c.args.stand c.args.books.now.taken.items refl c.requires.stands)

pub returns-in-Some-clause-doubts : goal.returns-in-Some-clause-doubts
returns-in-Some-clause-doubts c =
    let h = c.requires.sound.balanced c.args.of.now.account in
    let row : get_by_text c.args.books.now.rows c.args.of.now.account ≡ Some c.in-Some.row = search rules in
    let e = ap (λ o. (unwrap_or o no_row).doubt) row in
    omega (arith, e, h.doubts, covered doubt_of c.args.of.now.run c.args.of.now.account c.args.stand c.args.books.now.taken.items refl c.requires.stands)

pub returns-in-None-clause-outs : goal.returns-in-None-clause-outs
returns-in-None-clause-outs c =
    let h = c.requires.sound.balanced c.args.of.now.account in
    let row : get_by_text c.args.books.now.rows c.args.of.now.account ≡ None = search rules in
    let e = ap (λ o. (unwrap_or o no_row).out) row in
    omega (arith, e, h.outs, covered out_of c.args.of.now.run c.args.of.now.account c.args.stand c.args.books.now.taken.items refl c.requires.stands)

pub returns-in-None-clause-doubts : goal.returns-in-None-clause-doubts
returns-in-None-clause-doubts c =
    let h = c.requires.sound.balanced c.args.of.now.account in
    let row : get_by_text c.args.books.now.rows c.args.of.now.account ≡ None = search rules in
    let e = ap (λ o. (unwrap_or o no_row).doubt) row in
    omega (arith, e, h.doubts, covered doubt_of c.args.of.now.run c.args.of.now.account c.args.stand c.args.books.now.taken.items refl c.requires.stands)
