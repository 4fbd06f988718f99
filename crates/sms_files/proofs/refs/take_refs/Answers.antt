use Rattle.std.proofs.Common.{◌≡◌, ◌∙◌, ap, map}
use Rattle.sms_files.specs.Fields.{records_of}
use Rattle.sms_files.specs.Refs.{plain_text, record_of_row}
use Rattle.sms_files.proofs.RefRecords.{taken-are}
use Rattle.sms_files.proofs.refs.take_refs.Goals as goal

pub returns-clause-taken : goal.returns-clause-taken
returns-clause-taken c =
    let rows = c.in_ok-rows.rows.items in
    let slice : c.as_slice.result.now ≡ rows = c.as_slice.ensures.value in
    let plain : c.into_bytes.result.items ≡ plain_text (map record_of_row rows) =
    ap (λ v. v.items) c.into_bytes.ensures.value ∙ c.in_ok-plain.ensures ∙ ap (λ l. plain_text (map record_of_row l)) slice in
    taken-are (records_of c.args.octets.now) rows c.into_bytes.result.items _ c.in_ok-rows.ensures.rows plain c.in_ok-refs.ensures
