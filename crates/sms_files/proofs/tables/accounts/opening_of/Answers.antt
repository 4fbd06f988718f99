use Rattle.std.proofs.Common.{◌∙◌, ap, sym, None, Some}
use Rattle.csv.specs.Records.{fields_of}
use Rattle.sms_book.specs.Openings.{names_of}
use Rattle.sms_files.proofs.NewAccounts.{beside, not_some}
use Rattle.sms_files.proofs.tables.accounts.opening_of.Goals as goal

pub returns-in-Some : goal.returns-in-Some
returns-in-Some c =
    let (good, name_is, credits_are) = c.in-Ok.ensures in
    beside (names_of c.args.before.now) (fields_of c.args.record.now) c.in-Ok.account.0.now (Some c.in-Some.flaw) good name_is (sym c.in-Some.ensures)

pub returns-in-Ok-text_of : goal.returns-in-Ok-text_of
returns-in-Ok-text_of c =
    let (good, name_is, credits_are) = c.in-Ok.ensures in
    let new = sym c.taken_by.ensures ∙ not_some c.taken_by.result c.in_default.not-Some in (
      beside (names_of c.args.before.now) (fields_of c.args.record.now) c.in-Ok.account.0.now None good name_is new,
      (name_is ∙ ap Some (sym c.in-Ok-text_of.ensures.ok), credits_are),
    )
