use Rattle.sms_book.specs.Tariffs.{prices_of}
use Rattle.sms_files.proofs.Tariffs.{refuses-other, refuses-so}
use Rattle.sms_files.proofs.memory.calls.make_tariff.Goals as goal

pub returns-in-Err-2-clause-refused : goal.returns-in-Err-2-clause-refused
returns-in-Err-2-clause-refused c =
    refuses-other (prices_of c.args.rates.now) c.in-Err.error (refuses-so c.args.rates.now c.new.result c.in-Err.error c.in-Err.is c.new.ensures.many c.new.ensures.prefix c.new.ensures.credits c.new.ensures.double)
    (λ memory. let yes = c.is_memory.ensures.1 memory in let other = c.if-is_memory.false in cc)
