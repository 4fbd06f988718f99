use Rattle.std.proofs.Common.{◌≡◌, ◌<◌, length}
use Rattle.sms_core.specs.Links.{lead, link_at, names, rest_of}
use Rattle.sms_core.proofs.Seeking.{Passes}
use Rattle.sms_core.proofs.requests.seek.Given as goal

abbrev pub invariant-loop-turn : goal.invariant-loop-turn
invariant-loop-turn l = record {
  inside : l.link < length l.links;
  at : l.link ≡ link_at (lead l.links) l._turn l.id;
  left : l.rest ≡ rest_of l._turn l.id;
  passed : Passes (names l.list) l.links l.id l._turn;
}
