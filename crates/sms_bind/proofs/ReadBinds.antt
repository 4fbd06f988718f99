-- What a reading end did with its bind, from the contract of its call.
use Rattle.std.proofs.Common.{◌≡◌, ◌++◌, ℕ, Bool, List, Option, map, subst}
use Rattle.std.specs.List.{concat, AllZip}
use Rattle.rtrb.specs.Ring.{SameProducer, sent}
use Rattle.sms_pdu.specs.declared.tap.Tap.{Tap}
use Rattle.sms_pdu.specs.Devices.{device, faults_of}
use Rattle.sms_bind.specs.declared.ending.ReaderEnd.{ReaderEnd}
use Rattle.sms_bind.specs.declared.reader.ReaderBegin.{ReaderBegin}
use Rattle.sms_bind.specs.Ends.{HandsOn}
use Rattle.sms_bind.specs.Follows.{held_none, most_held}
use Rattle.sms_bind.specs.ReadBinds.{HasReadBind}
use Rattle.sms_bind.specs.Turns.{ReadUntil}

-- a device keeps where the reading end says so
pub read_by : {R : Type 0} (remaining : R → Option (List ℕ)) (kept keeps : Bool) (turns : ℕ) (reader : R) (begin : ReaderBegin) (end : ReaderEnd) (old new : Tap R) → device old ≡ reader → faults_of old ≡ 0 → kept ≡ keeps
    → AllZip SameProducer begin.producers.items end.producers.items
    → HandsOn kept begin.bound.session (concat begin.bound.frames ++ begin.bound.framer) (remaining (device old)) (remaining (device new)) (map sent begin.producers.items) (map sent end.producers.items) (held_none begin.seat (most_held begin.follow)) end
    → end.seat.window ≡ begin.seat.window → ReadUntil remaining turns end.errors end.cause old new → HasReadBind remaining keeps turns reader begin end
read_by remaining kept keeps turns reader begin end old new is none same rings hands window read = record {
  old = old;
  new = new;
  is = is;
  none = none;
  rings = rings;
  hands =
      subst
      (λ (k : Bool). HandsOn k begin.bound.session (concat begin.bound.frames ++ begin.bound.framer) (remaining (device old)) (remaining (device new)) (map sent begin.producers.items) (map sent end.producers.items) (held_none begin.seat (most_held begin.follow)) end)
      same hands;
  window = window;
  read = read;
}
