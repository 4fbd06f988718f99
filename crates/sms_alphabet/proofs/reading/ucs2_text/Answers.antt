use Rattle.std.proofs.Common.{Some, ap, sym, string_bytes}
use Rattle.std.proofs.lemmas.Str.{IsUtf8-string_bytes}
use Rattle.sms_alphabet.proofs.Surrogates.{ucs2_read, ucs2_never}
use Rattle.sms_alphabet.proofs.reading.ucs2_text.Goals as goal

pub returns-in-Ok : goal.returns-in-Ok
returns-in-Ok c =
    let read = rw c.in-Ok.is at c.in_ok-text.ensures.ok in
    ap (λ l. Some l) (ucs2_read c.args.units.now (string_bytes c.in-Ok.text) read (IsUtf8-string_bytes c.in-Ok.text))

pub returns-in-Err : goal.returns-in-Err
returns-in-Err c = ucs2_never c.args.units.now (sym (rw c.in-Err.is at c.in_ok-text.ensures.unpaired))
