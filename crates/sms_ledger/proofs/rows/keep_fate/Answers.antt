use Rattle.std.proofs.Common.{string_bytes}
use Rattle.std.proofs.lemmas.Map.Text.{hash_map_updates_text}
use Rattle.sms_ledger.proofs.rows.keep_fate.Goals as goal

pub returns-clause-ok : goal.returns-clause-ok
returns-clause-ok c = λ q. hash_map_updates_text (string_bytes c.args.key) c.args.parts.now c.insert.new.map _ c.in_ok-insert.ensures.updates q
