use Rattle.std.proofs.Common.{◌≡◌, ◌∙◌, string_bytes, ap, rules}
use Rattle.std.specs.Prelude.{is_some}
use Rattle.std.specs.Str.{bytes_eq}
use Rattle.std.specs.HashMap.{get_by_text}
use Rattle.std.proofs.lemmas.Map.Text.{hash_map_updates_text}
use Rattle.sms_journal.proofs.Payers.{some_kept}
use Rattle.sms_journal.proofs.of_ledger.accounts.keep_seen.Goals as goal

pub returns : goal.returns
returns c = λ q.
    let key_is_name : string_bytes c.in_ok-key.key ≡ c.args.name.now = search rules in
    let sets = hash_map_updates_text (string_bytes c.in_ok-key.key) c.args.seen.now c.insert.new.map _ c.in_ok-insert.ensures.updates q in
    ap is_some (rw key_is_name at sets) ∙ some_kept (bytes_eq c.args.name.now q) (get_by_text c.args.seen.now q)
