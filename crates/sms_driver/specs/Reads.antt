-- What the binds' readers are given, and what they do with it.
use Rattle.std.specs.Prelude.{◌≡◌, ◌<◌, ◌++◌, ◌+◌, ◌*◌, ℕ, Bool, List, [], ◌∷◌, map, Option}
use Rattle.std.specs.Io.KnownBytes.{Consumes, IsAtEnd}
use Rattle.std.specs.List.{concat, AllZip}
use Rattle.std.specs.declared.alloc.Global.{Global}
use Rattle.rtrb.specs.declared.AnyItems.{AnyItems}
use Rattle.rtrb.specs.declared.producer.Producer.{Producer}
use Rattle.rtrb.specs.Ring.{SameProducer, sent}
use Rattle.sms_pdu.specs.declared.command.Mode.{Mode}
use Rattle.sms_pdu.specs.declared.reply.Reply.{Reply}
use Rattle.sms_bind.specs.declared.bound.Bound.{Bound}
use Rattle.sms_bind.specs.declared.line.StopSeen.{StopSeen}
use Rattle.sms_bind.specs.declared.ending.ReaderCause.TheVariants.{Ended, ReadFault, Stopped, Turns, Unstarted}
use Rattle.sms_bind.specs.declared.ending.ReaderEnd.{ReaderEnd}
use Rattle.sms_pdu.specs.declared.tap.Tap.{Tap}
use Rattle.sms_bind.specs.Answers.{Bounds}
use Rattle.sms_pdu.specs.Devices.{device}
use Rattle.sms_pdu.specs.Turn.{most_piece, GaveAtMost}
use Rattle.sms_bind.specs.Follows.{most_held}
use Rattle.sms_bind.specs.Turns.{Stops, TookTurns}
use Rattle.sms_bind.specs.Ends.{HandsOn}
use Rattle.sms_bind.specs.Held.{Held}
use Rattle.sms_window.specs.SeatState.{SeatState}
use Rattle.sms_driver.specs.declared.binding.following.Following.{Following}
use Rattle.sms_driver.specs.declared.binding.binds.BindParts.{BindParts}
use Rattle.sms_driver.specs.declared.threads.ReaderTask.{ReaderTask}
use Rattle.sms_driver.specs.declared.threads.ReaderPromise.{ReaderPromise}

-- a bind's reader with what was read of it before, the rings of the bind's workers, and the limit that it follows
pub record Reading (Rd : Type 0) : Type 0 where
  pub reader : Tap Rd
  pub bound : Bound
  pub rings : List (Producer Reply Global AnyItems)
  pub follow : Following

abbrev pub reading_in : {Rd : Type 0} → BindParts Rd → Reading Rd
reading_in parts = record { reader = parts.reader; bound = parts.bound; rings = parts.producers.items; follow = parts.follow }

abbrev pub reading_of : {N Rd W : Type 0} → ReaderTask N Rd W → Reading Rd
reading_of task = record { reader = task.reader; bound = task.bound; rings = task.producers.items; follow = task.follow }

abbrev pub reading_promised : {Rd : Type 0} → ReaderPromise Rd → Reading Rd
reading_promised promise = record { reader = promise.reader.value; bound = promise.bound.value; rings = promise.producers.value.items; follow = promise.follow }

-- what a reader is given: its seat, and what it reads from
abbrev pub listener_of : {N Rd W : Type 0} → ReaderTask N Rd W → SeatState × Reading Rd
listener_of task = (task.seat, reading_of task)

abbrev pub listener_promised : {Rd : Type 0} → ReaderPromise Rd → SeatState × Reading Rd
listener_promised promise = (promise.seat.value, reading_promised promise)

-- the reader never began, and has its seat and its rings as they were
pub record IsUnread (seat : SeatState) (rings : List (Producer Reply Global AnyItems)) (end : ReaderEnd) : Type 0 where
  pub same_seat : end.seat ≡ seat
  pub same_rings : end.producers.items ≡ rings
  pub unstarted : end.cause ≡ Unstarted

-- the answers in what was read were pushed into the rings that were given; `remaining` gives what there is to read. It was read in at most this many
-- turns: in exactly as many if the cause is that they were used up, to its end if that is the cause, and with an error if the cause is that a
-- read failed
pub record HasRead {Rd : Type 0} (turns : ℕ) (remaining : Rd → Option (List ℕ)) (given : Reading Rd) (end : ReaderEnd) : Type 0 where
  pub same : AllZip SameProducer given.rings end.producers.items
  pub left : Option (List ℕ)
  pub held : Held
  -- whether deliver_sm were to be kept
  pub keeps : Bool
  pub hands : HandsOn keeps given.bound.session (concat given.bound.frames ++ given.bound.framer) (remaining (device given.reader)) left (map sent given.rings) (map sent end.producers.items) held end
  -- it holds back slots as the limit says that it follows
  pub follows : held.most ≡ most_held given.follow.limit
  pub most : GaveAtMost (most_piece * turns) (remaining (device given.reader)) left
  pub took : end.cause ≡ Turns → TookTurns turns end.errors (remaining (device given.reader)) left
  pub stopped : (seen : StopSeen) → end.cause ≡ Stopped seen → Stops turns (remaining (device given.reader)) left
  pub ended : end.cause ≡ Ended → IsAtEnd left
  pub fault : end.cause ≡ ReadFault → 0 < end.errors

-- what was read until the bind was answered: the first octets of those in `told`, and what is left; the first frame bound the session, and the
-- bound session has what came after it
pub record IsOpened (mode : Mode) (told left : Option (List ℕ)) (bound : Bound) : Type 0 where
  pub octets : List ℕ
  pub read : Consumes told left octets
  pub bounds : Bounds mode octets bound.session bound.frames bound.framer

-- the same of each bind's parts, from this place on
abbrev pub AreOpened : {Rd : Type 0} → (Rd → Option (List ℕ)) → Mode → (ℕ → Option (List ℕ)) → ℕ → List (BindParts Rd) → Type 0
AreOpened remaining mode told bind [] = Unit {0}
AreOpened remaining mode told bind (parts ∷ others) = IsOpened mode (told bind) (remaining (device parts.reader)) parts.bound × AreOpened remaining mode told (bind + 1) others
