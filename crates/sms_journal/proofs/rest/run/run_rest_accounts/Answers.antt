use Rattle.std.proofs.Common.{◌≡◌, ◌∙◌, ap, List, map}
use Rattle.std.specs.Prelude.{option_copied}
use Rattle.std.proofs.lemmas.Result.{IfErr-weaker, on_ok_weaker}
use Rattle.csv.specs.Records.{Row, fields_of}
use Rattle.sms_book.specs.declared.opening.Opening.{Opening}
use Rattle.sms_files.specs.Fields.{Record, records_of}
use Rattle.sms_journal.specs.Files.{IsCut}
use Rattle.sms_journal.specs.Rest.{rest_accounts_of}
use Rattle.sms_journal.specs.Resting.{IsFaultOfPrinting, accounts_by}
use Rattle.sms_journal.proofs.Printings.{cut, prints}
use Rattle.sms_journal.proofs.rest.run.run_rest_accounts.Goals as goal

pub returns-clause-printed : goal.returns-clause-printed
returns-clause-printed g c =
    let old = g.W.Write.contents c.args.output.now in
    let new = g.W.Write.contents c.print_accounts-printed.new.output in
    let input = c.in-Ok.reported.input in
    let records : map fields_of c.as_slice.result.now ≡ records_of c.args.report.now = ap (λ (rs : List Row). map fields_of rs) c.as_slice.ensures.value ∙ c.in-Ok.ensures.records in
    let text = ap (λ (os : List Opening). rest_accounts_of os (map fields_of c.as_slice.result.now)) c.openings-openings.ensures ∙ ap (λ (rs : List Record). rest_accounts_of input.openings.items rs) records in
    on_ok_weaker c.print_accounts-printed.result (prints c.args.config.now c.args.accounts.now c.args.messages.now (option_copied c.args.tariff) c.args.report.now (accounts_by c.args.report.now) old new input
    (rest_accounts_of c.openings-openings.result.now (map fields_of c.as_slice.result.now)) c.in-Ok.ensures.read c.in-Ok.ensures.report text) c.print_accounts-printed.ensures.written

pub returns-clause-refused : goal.returns-clause-refused
returns-clause-refused g c =
    let old = g.W.Write.contents c.args.output.now in
    let new = g.W.Write.contents c.print_accounts-printed.new.output in
    let input = c.in-Ok.reported.input in
    let records : map fields_of c.as_slice.result.now ≡ records_of c.args.report.now = ap (λ (rs : List Row). map fields_of rs) c.as_slice.ensures.value ∙ c.in-Ok.ensures.records in
    let printed = rest_accounts_of c.openings-openings.result.now (map fields_of c.as_slice.result.now) in
    let text = ap (λ (os : List Opening). rest_accounts_of os (map fields_of c.as_slice.result.now)) c.openings-openings.ensures ∙ ap (λ (rs : List Record). rest_accounts_of input.openings.items rs) records in
    IfErr-weaker c.print_accounts-printed.result (IsCut printed old new)
    (IsFaultOfPrinting c.args.config.now c.args.accounts.now c.args.messages.now (option_copied c.args.tariff) c.args.report.now (accounts_by c.args.report.now) old new)
    (cut c.args.config.now c.args.accounts.now c.args.messages.now (option_copied c.args.tariff) c.args.report.now (accounts_by c.args.report.now) old new input printed
    c.in-Ok.ensures.read c.in-Ok.ensures.report text) c.print_accounts-printed.ensures.refused
