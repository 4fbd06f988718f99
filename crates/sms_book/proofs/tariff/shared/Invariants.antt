use Rattle.std.proofs.Common.{◌≡◌, take}
use Rattle.sms_book.proofs.tariff.shared.Given as goal

abbrev pub invariant-loop-place : goal.invariant-loop-place
invariant-loop-place l = take l.place l.prefix ≡ take l.place l.digits
