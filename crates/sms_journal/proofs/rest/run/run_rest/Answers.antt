use Rattle.std.proofs.Common.{◌≡◌, ◌∙◌, ap, List, map}
use Rattle.std.specs.Prelude.{option_copied}
use Rattle.std.proofs.lemmas.Result.{IfErr-weaker, on_ok_weaker}
use Rattle.csv.specs.Records.{Row, fields_of}
use Rattle.sms_files.specs.Fields.{Record, records_of}
use Rattle.sms_journal.specs.Files.{IsCut}
use Rattle.sms_journal.specs.Rest.{rest_of}
use Rattle.sms_journal.specs.Resting.{IsFaultOfPrinting, rest_by}
use Rattle.sms_journal.proofs.Printings.{cut, prints}
use Rattle.sms_journal.proofs.rest.run.run_rest.Goals as goal

pub returns-clause-printed : goal.returns-clause-printed
returns-clause-printed g c =
    let old = g.W.Write.contents c.args.output.now in
    let new = g.W.Write.contents c.print_rest-printed.new.output in
    let messages = c.args.messages.now in
    let records : map fields_of c.as_slice.result.now ≡ records_of c.args.report.now = ap (λ (rs : List Row). map fields_of rs) c.as_slice.ensures.value ∙ c.in-Ok.ensures.records in
    let text = ap (λ (rs : List Record). rest_of (option_copied c.args.refs) rs (records_of messages)) records in
    on_ok_weaker c.print_rest-printed.result (prints c.args.config.now c.args.accounts.now messages (option_copied c.args.tariff) c.args.report.now (rest_by (option_copied c.args.refs) c.args.report.now messages) old new c.in-Ok.reported.input
    (rest_of (option_copied c.args.refs) (map fields_of c.as_slice.result.now) (records_of messages)) c.in-Ok.ensures.read c.in-Ok.ensures.report text) c.print_rest-printed.ensures.written

pub returns-clause-refused : goal.returns-clause-refused
returns-clause-refused g c =
    let old = g.W.Write.contents c.args.output.now in
    let new = g.W.Write.contents c.print_rest-printed.new.output in
    let messages = c.args.messages.now in
    let records : map fields_of c.as_slice.result.now ≡ records_of c.args.report.now = ap (λ (rs : List Row). map fields_of rs) c.as_slice.ensures.value ∙ c.in-Ok.ensures.records in
    let printed = rest_of (option_copied c.args.refs) (map fields_of c.as_slice.result.now) (records_of messages) in
    let text = ap (λ (rs : List Record). rest_of (option_copied c.args.refs) rs (records_of messages)) records in
    IfErr-weaker c.print_rest-printed.result (IsCut printed old new)
    (IsFaultOfPrinting c.args.config.now c.args.accounts.now messages (option_copied c.args.tariff) c.args.report.now (rest_by (option_copied c.args.refs) c.args.report.now messages) old new)
    (cut c.args.config.now c.args.accounts.now messages (option_copied c.args.tariff) c.args.report.now (rest_by (option_copied c.args.refs) c.args.report.now messages) old new c.in-Ok.reported.input printed
    c.in-Ok.ensures.read c.in-Ok.ensures.report text) c.print_rest-printed.ensures.refused
