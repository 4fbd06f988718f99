use Rattle.sms_book.specs.Tariffs.{prices_of}
use Rattle.sms_book.specs.Indexes.{IsIndex}
use Rattle.sms_book.proofs.tariff.index_of.Given as goal

abbrev pub invariant-loop-place : goal.invariant-loop-place
invariant-loop-place l = IsIndex (prices_of l.rates) l.order.items l.place
