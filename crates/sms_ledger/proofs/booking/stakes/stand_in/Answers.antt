use Rattle.std.proofs.Common.{◌≡◌, ◌∙◌, sym, rules}
use Rattle.std.specs.Prelude.{position}
use Rattle.sms_ledger.specs.Books.{is_of}
use Rattle.sms_ledger.specs.Kept.{state_of}
use Rattle.sms_ledger.proofs.Causes.{stands_not}
use Rattle.sms_ledger.proofs.booking.stakes.stand_in.Goals as goal

pub returns-in-None : goal.returns-in-None
returns-in-None c =
    let of = c.args.of.now in
    let s = state_of c.args.books.now in
    let place : c.in_ok-place.field-0 ≡ position (is_of of.run of.account) s.stakes = c.in_ok-place.ensures.place ∙ c.requires.found of.run of.account c.in_ok-place.ensures.long in
    sym (stands_not of.run of.account s c.in_ok-place.field-0 place (search rules))
