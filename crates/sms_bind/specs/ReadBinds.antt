-- What the reading end of a connection did with its bind.
use Rattle.std.specs.Prelude.{◌≡◌, ◌++◌, ℕ, Bool, List, Option, map}
use Rattle.std.specs.List.{concat, AllZip}
use Rattle.rtrb.specs.Ring.{SameProducer, sent}
use Rattle.sms_pdu.specs.declared.tap.Tap.{Tap}
use Rattle.sms_pdu.specs.Devices.{device, faults_of}
use Rattle.sms_bind.specs.declared.ending.ReaderEnd.{ReaderEnd}
use Rattle.sms_bind.specs.declared.reader.ReaderBegin.{ReaderBegin}
use Rattle.sms_bind.specs.Ends.{HandsOn}
use Rattle.sms_bind.specs.Follows.{held_none, most_held}
use Rattle.sms_bind.specs.Turns.{ReadUntil}

-- it was read as an input whose errors were counted from none on, in so many turns at most, and handed on what came; deliver_sm were kept or not
pub record HasReadBind {R : Type 0} (remaining : R → Option (List ℕ)) (keeps : Bool) (turns : ℕ) (reader : R) (begin : ReaderBegin) (end : ReaderEnd) : Type 0 where
  pub old : Tap R
  pub new : Tap R
  pub is : device old ≡ reader
  pub none : faults_of old ≡ 0
  pub rings : AllZip SameProducer begin.producers.items end.producers.items
  pub hands : HandsOn keeps begin.bound.session (concat begin.bound.frames ++ begin.bound.framer) (remaining (device old)) (remaining (device new)) (map sent begin.producers.items) (map sent end.producers.items) (held_none begin.seat (most_held begin.follow)) end
  pub window : end.seat.window ≡ begin.seat.window
  pub read : ReadUntil remaining turns end.errors end.cause old new
