use Rattle.std.proofs.Common.{◌≡◌, string_bytes, rules}
use Rattle.std.proofs.lemmas.Map.Text.{hash_map_updates_text}
use Rattle.sms_ledger.proofs.rows.put_row.Goals as goal

pub returns-clause-ok : goal.returns-clause-ok
returns-clause-ok c = λ q.
    let key_is_name : string_bytes c.in_ok-key.key ≡ c.args.name.now = search rules in
    let sets = hash_map_updates_text (string_bytes c.in_ok-key.key) c.args.rows.now c.insert.new.map _ c.in_ok-insert.ensures.updates q in
    (rw key_is_name at sets)
