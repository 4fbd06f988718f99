use Rattle.std.proofs.Common.{◌≡◌, ◌++◌, ◌*◌, ◌≤◌, drop, length, take}
use Rattle.sms_inbox.specs.Escape.{octets_text}
use Rattle.sms_inbox.proofs.escape.store_all.Given as goal

abbrev pub invariant-loop-octet : goal.invariant-loop-octet
invariant-loop-octet l = record {
  stored : take l.n l.buffer ++ octets_text (drop l.octet-index l.octets) ≡ octets_text l.octets;
  count : l.n ≤ 3 * l.octet-index;
  room : length l.buffer ≡ length l.fn.buffer;
}
