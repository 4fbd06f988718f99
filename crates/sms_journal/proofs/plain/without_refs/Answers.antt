use Rattle.std.proofs.Common.{◌≡◌, ◌∙◌, ◌++◌, ap, List, drop, map, rules}
use Rattle.std.specs.Prelude.{codes}
use Rattle.csv.specs.Records.{fields_of}
use Rattle.sms_files.specs.Fields.{Record, records_of}
use Rattle.sms_journal.specs.PlainFiles.{plain_lines}
use Rattle.sms_journal.proofs.PlainLines.{behind_is}
use Rattle.sms_journal.proofs.plain.without_refs.Goals as goal

pub returns : goal.returns
returns c =
    let rows : map fields_of c.behind_first-rows.result.now ≡ drop 1 (records_of c.args.octets.now) = search rules in
    let header : c.append_octets.new.list.items ≡ codes "account,source,destination,text\n" = search rules in (
      c.ends_quoted.result,
      c.ends_quoted.ensures,
      c.in_ok-push_lines.ensures ∙ behind_is c.ends_quoted.result _ _ (map fields_of c.behind_first-rows.result.now) (records_of c.args.octets.now) header rows,
    )
