use Rattle.std.specs.Prelude.{option_copied}
use Rattle.std.proofs.lemmas.Result.{IfErr-weaker, on_ok_weaker}
use Rattle.sms_journal.specs.Listings.{IsFaultOfPrinting, IsFaultOfRunListing}
use Rattle.sms_journal.proofs.Listed.{faults, lists}
use Rattle.sms_journal.proofs.bill.run.run_listing.Goals as goal

pub returns-clause-printed : goal.returns-clause-printed
returns-clause-printed g c =
    let a = c.args in
    on_ok_weaker c.print_listed-printed.result (lists a.config.now a.accounts.now a.messages.now (option_copied a.tariff) a.journal.now a.listing (g.W.Write.contents a.output.now) (g.W.Write.contents c.print_listed-printed.new.output) c.in-Ok.found c.in-Ok.ensures.run)
    c.print_listed-printed.ensures.printed

pub returns-clause-refused : goal.returns-clause-refused
returns-clause-refused g c =
    let a = c.args in
    let old = g.W.Write.contents a.output.now in
    let new = g.W.Write.contents c.print_listed-printed.new.output in
    let tariff = option_copied a.tariff in
    IfErr-weaker c.print_listed-printed.result (IsFaultOfPrinting c.in-Ok.found a.journal.now a.listing old new) (IsFaultOfRunListing a.config.now a.accounts.now a.messages.now tariff a.journal.now a.listing old new)
    (λ fault. faults a.config.now a.accounts.now a.messages.now tariff a.journal.now a.listing old new c.in-Ok.found fault c.in-Ok.ensures.run) c.print_listed-printed.ensures.refused
