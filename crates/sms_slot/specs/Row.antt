-- What a row returns, whatever the states of its slots.
use Rattle.std.specs.Prelude.{◌≡◌, ◌<◌, List, length, map}
use Rattle.std.specs.List.{AllZip}
use Rattle.std.specs.declared.alloc.Global.{Global}
use Rattle.rtrb.specs.declared.AnyItems.{AnyItems}
use Rattle.rtrb.specs.declared.producer.Producer.{Producer}
use Rattle.rtrb.specs.Ring.{sent, known_free, SameProducer}
use Rattle.sms_core.specs.Limits.{most_slots}
use Rattle.sms_pdu.specs.declared.reply.Reply.{Reply}
use Rattle.sms_slot.specs.Rings.{pushed_to, place_of, HasRing, Room, slot_delivery}
use Rattle.sms_slot.specs.declared.row.Delivery.{Delivery}
use Rattle.sms_slot.specs.declared.row.Delivery.TheVariants.{Found, Overrun, Unknown}

-- the slot is one of the 64
abbrev pub IsInRow : Delivery → Type 0
IsInRow (Found slot worker) = slot < most_slots
IsInRow (Overrun slot worker) = slot < most_slots
IsInRow Unknown = Unit {0}

-- the answer went into the ring that the result names, and into no other
pub record IsDelivered (reply : Reply) (old new : List (Producer Reply Global AnyItems)) (result : Delivery) : Type 0 where
  pub slot : IsInRow result
  pub rings : AllZip SameProducer old new
  pub sent : map sent new ≡ pushed_to (map sent old) reply (place_of (slot_delivery result))
  pub ring : HasRing (slot_delivery result) (length old)
  pub room : Room (slot_delivery result) (map known_free old) (map known_free new)
  pub unknown : result ≡ Unknown → new ≡ old
