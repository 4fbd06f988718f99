-- What a run keeps, from its start to its end.
use Rattle.std.specs.Prelude.{◌≡◌, ℕ, List, ◌++◌, length, map}
use Rattle.sms_pdu.specs.declared.reply.Reply.{Reply}
use Rattle.sms_window.specs.OpenSlots.{IsOpen}
use Rattle.sms_window.specs.SeatState.{SeatState}
use Rattle.sms_book.specs.Shares.{Share}
use Rattle.sms_message.specs.declared.message.Message.{Message}
use Rattle.sms_worker.specs.Types.{MessageEnd}
use Rattle.sms_worker.specs.declared.state.open.Open.{Open}
use Rattle.sms_message.specs.declared.user_data.UserData.{UserData}
use Rattle.sms_worker.specs.Start.{Start}
use Rattle.sms_worker.specs.Told.{AllTold, ArePending, Drew, Grew}
use Rattle.sms_message.specs.Results.{AreEnds}

-- the slots of the open requests
abbrev pub slots_of : List Open → List ℕ
slots_of opened = map (λ o. o.slot) opened

pub record Keeps (start : Start) (ms : List Message) (es : List MessageEnd) (pending : List (List UserData)) (opened : List Open) (seat : SeatState) (share : Share) (replies : List Reply) : Type 0 where
  -- what it was given
  pub messages : ms ≡ start.messages
  pub window : seat.window ≡ start.seat.window
  pub number : share.number ≡ start.share.number
  pub accounts : length share.amounts ≡ length start.share.amounts
  pub replies_more : (rest : List Reply) × (replies ≡ start.received ++ rest)
  -- the seat
  pub slots : IsOpen start.seat.view.slots (slots_of opened) seat.view.slots
  pub numbers : Drew start.seat.view seat.view start.messages es
  -- the ends
  pub shape : AreEnds start.rules (length start.share.amounts) start.messages es
  pub ends : AllTold start.rules (length start.received) replies start.messages es
  pub money : Grew start.share.amounts share.amounts start.messages es
  -- what is kept of the messages that were begun
  pub pending_kept : ArePending start.rules start.messages pending
  pub pending_long : length pending ≡ length es
