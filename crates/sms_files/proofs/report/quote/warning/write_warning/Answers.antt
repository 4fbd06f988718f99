use Rattle.std.proofs.Common.{◌≡◌, ◌∙◌, ap, sym, true}
use Rattle.std.specs.Prelude.{string_bytes}
use Rattle.sms_files.specs.Warnings.{looks_open, warning_line}
use Rattle.sms_files.proofs.WarningLines.{line_appended, open_line}
use Rattle.sms_files.proofs.report.quote.warning.write_warning.Goals as goal

pub returns : goal.returns
returns c =
    let looks : looks_open (string_bytes c.args.message.now.text) ≡ true = ap looks_open (sym c.as_bytes.ensures.value) ∙ sym c.looks_open.ensures ∙ c.if-not-looks_open.false in
    line_appended c.append.result (string_bytes c.append.new.text) (string_bytes c.args.text.now) (string_bytes c.append_number.new.text) _ _ _ (warning_line c.args.message.now)
    c.in_ok-append_number.ensures c.append.ensures.bytes (open_line c.args.message.now looks)
