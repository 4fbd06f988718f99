use Rattle.std.proofs.Common.{◌≡◌, ℕ, List, None, drop}
use Rattle.std.specs.HashMap.{get_by_text}
use Rattle.std.specs.Option.{option_copied}
use Rattle.sms_inbox.specs.Delivered.{HaveOctets, hear_all, is_keyed}
use Rattle.sms_inbox.specs.Ids.{receipt_key}
use Rattle.sms_inbox.proofs.delivered.hear_records.Given as goal

abbrev pub invariant-loop-record : goal.invariant-loop-record
invariant-loop-record l = record {
  heard : (q : List ℕ) → hear_all (λ r. is_keyed q (receipt_key l.ids r.id)) (option_copied (get_by_text l.heard q)) (drop l.record-index l.records) ≡ hear_all (λ r. is_keyed q (receipt_key l.ids r.id)) None l.records;
  octets : HaveOctets (drop l.record-index l.records) → HaveOctets l.records;
}
