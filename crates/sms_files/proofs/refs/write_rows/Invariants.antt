use Rattle.std.proofs.Common.{◌≡◌, ◌++◌, drop}
use Rattle.std.specs.Prelude.{flat_map, string_bytes}
use Rattle.sms_files.specs.Refs.{plain_line, record_of_row}
use Rattle.sms_files.proofs.refs.write_rows.Given as goal

abbrev pub invariant-loop-row : goal.invariant-loop-row
invariant-loop-row l =
    string_bytes l.text ++ flat_map (λ row. plain_line (record_of_row row)) (drop l.row-index l.rows)
    ≡ string_bytes l.initial.text ++ flat_map (λ row. plain_line (record_of_row row)) l.rows
