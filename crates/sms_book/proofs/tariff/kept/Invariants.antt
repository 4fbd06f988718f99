use Rattle.std.proofs.Common.{◌≡◌, ◌≤◌, length, take, vec_capacity}
use Rattle.sms_book.specs.Tariffs.{prices_of}
use Rattle.sms_book.proofs.tariff.kept.Given as goal

abbrev pub invariant-loop-rate : goal.invariant-loop-rate
invariant-loop-rate l = (prices_of l.copies.items ≡ prices_of (take l.rate-index l.rates)) × (length l.rates ≤ vec_capacity l.copies)
