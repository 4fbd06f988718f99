-- What one call of a worker did.
use Rattle.std.specs.Prelude.{◌≡◌, ◌++◌, List, length, Option, None, true}
use Rattle.std.specs.List.{AllZip}
use Rattle.rtrb.specs.Ring.{received}
use Rattle.sms_pdu.specs.declared.reply.Reply.{Reply}
use Rattle.sms_bind.specs.declared.down.Down.{Down}
use Rattle.sms_bind.specs.declared.down.DownMark.{DownMark}
use Rattle.sms_bind.specs.Frames.{AreSame}
use Rattle.sms_book.specs.Name.{BookId}
use Rattle.sms_message.specs.declared.message.Message.{Message}
use Rattle.sms_message.specs.declared.rules.Rules.{Rules}
use Rattle.sms_worker.specs.declared.entry.work.Worker.{Worker}
use Rattle.sms_worker.specs.declared.entry.work.WorkerEnd.{WorkerEnd}
use Rattle.sms_worker.specs.Apart.{NumbersApart, PlacesApart}
use Rattle.sms_worker.specs.Closing.{IsSeen, IsShut, NoneIsClosed, StaysClosed}
use Rattle.sms_worker.specs.Credit.{IsCovered, LackCredit}
use Rattle.sms_worker.specs.EndOf.{IsEndOf}
use Rattle.sms_worker.specs.ReasonsOf.{AllHaveReasons}
use Rattle.sms_worker.specs.Frames.{frames_in}
use Rattle.sms_worker.specs.Rising.{FirstsRise}
use Rattle.sms_worker.specs.Start.{Start}
use Rattle.sms_worker.specs.Told.{AllTold, Drew, Grew}

-- what a worker has when its call begins: these rules, itself, its messages, and the mark of its bind's line
abbrev pub start_of : {N : Type 0} → Rules → Worker N → List Message → DownMark → Start
start_of rules worker messages mark = record { rules = rules; messages = messages; seat = worker.seat; share = worker.shares; requests = worker.requests; received = received worker.consumer; mark = mark }

-- a call that began so gives this end back, and the evidence that the line was seen down, if it was
pub record HasWorked {N : Type 0} (book : BookId) (start : Start) (end : WorkerEnd N) (down : Option Down) : Type 0 where
  -- each message has its end, in order: its result, and of each of its parts the cost, the receipts and the outcome
  pub each : AllZip (IsEndOf start.rules (length start.share.amounts)) start.messages end.ends.items
  -- once the bind was closed for a message, it was closed for all behind it
  pub closed : StaysClosed end.ends.items
  -- it was closed for a cause: the line was seen down, which all see for that cause, or the turns were over, or the gate let no further message begin
  pub why : end.closed ≡ None → NoneIsClosed end.ends.items
  pub seen : IsSeen start.rules.turns start.mark start.messages end.closed down
  -- each part that was given up has its reason, or the bind was closed; for each message that is refused for lack of memory memory was refused
  pub reasons : AllHaveReasons start.rules.policy.attempts (IsShut end.closed) end.reasons end.ends.items
  -- segments are sent for the first time in the order in which they stand
  pub rising : FirstsRise end.ends.items
  -- each answer was received in this call
  pub answers : AllTold start.rules (length start.received) (received end.consumer) start.messages end.ends.items
  -- the numbers of the attempts were drawn by the seat, no two attempts have one number, and no reply answers two
  pub numbers : Drew start.seat.view end.seat.view start.messages end.ends.items
  pub apart : NumbersApart end.ends.items
  pub places : PlacesApart (received end.consumer) end.ends.items
  -- the requests that it gave to wires are those that it had before and the frames of the attempts, each as often
  pub handed : AreSame end.requests (start.requests ++ frames_in end.ends.items)
  -- the share grew by the sums over the ends
  pub credits : Grew start.share.amounts end.shares.amounts start.messages end.ends.items
  -- where the book has no other share, a message lacks credit only where its account has too little
  pub lacking : LackCredit book start.rules start.messages end.ends.items end.shares
  -- where the book is sealed, a message was begun only where its account was opened with what it costs
  pub covered : book.sealed ≡ true → AllZip (IsCovered book.opening start.rules) start.messages end.ends.items
  -- the seat holds the slots that it held, of the same window
  pub slots : (end.seat.view.slots ≡ start.seat.view.slots) × (end.seat.window ≡ start.seat.window)
  -- the share is the same one's
  pub number : end.shares.number ≡ start.share.number
  -- what the ring gave out is kept in order
  pub replies : (rest : List Reply) × (received end.consumer ≡ start.received ++ rest)
