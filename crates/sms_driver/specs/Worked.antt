-- What a worker gives back.
use Rattle.std.specs.Prelude.{◌≡◌, ◌++◌, List, length, Result, MatchResult, Vec, true}
use Rattle.std.specs.List.{AllZip}
use Rattle.std.specs.declared.alloc.Global.{Global}
use Rattle.rtrb.specs.Ring.{received, SameConsumer}
use Rattle.sms_pdu.specs.declared.reply.Reply.{Reply}
use Rattle.sms_book.specs.Name.{BookId}
use Rattle.sms_book.specs.declared.amounts.Amounts.{Amounts}
use Rattle.sms_message.specs.declared.message.Message.{Message}
use Rattle.sms_message.specs.declared.rules.Rules.{Rules}
use Rattle.sms_bind.specs.Frames.{AreSame}
use Rattle.sms_worker.specs.Frames.{frames_in}
use Rattle.sms_worker.specs.Types.{MessageEnd}
use Rattle.sms_worker.specs.declared.entry.work.Worker.{Worker}
use Rattle.sms_worker.specs.declared.entry.work.WorkerEnd.{WorkerEnd}
use Rattle.sms_worker.specs.Closing.{IsShut}
use Rattle.sms_worker.specs.Credit.{IsCovered}
use Rattle.sms_worker.specs.EndOf.{IsEndOf}
use Rattle.sms_worker.specs.Apart.{NumbersApart, PlacesApart}
use Rattle.sms_worker.specs.Told.{AllTold, Drew, Grew}
use Rattle.sms_worker.specs.ReadyState.{ReadyState}
use Rattle.sms_worker.specs.ReasonsOf.{AllHaveReasons}
use Rattle.sms_driver.specs.Closings.{SaysWhy}

-- the ends are those of the messages, and the share grew by them; in a sealed book no message was begun that its account could never have paid
pub record Worked (book : BookId) (rules : Rules) (old new : List Amounts) (ms : List Message) (es : List MessageEnd) : Type 0 where
  pub ends : AllZip (IsEndOf rules (length old)) ms es
  pub credits : Grew old new ms es
  pub covered : book.sealed ≡ true → AllZip (IsCovered book.opening rules) ms es

-- the work of an assignment, by the same worker: its share has the same number, its seat the same window, and it has the same
-- end of its ring
pub record IsWorkOf {N : Type 0} (book : BookId) (rules : Rules) (a : ReadyState N) (d : WorkerEnd N) : Type 0 where
  pub worked : Worked book rules a.worker.shares.amounts d.shares.amounts a.messages d.ends.items
  pub number : d.shares.number ≡ a.worker.shares.number
  pub window : d.seat.window ≡ a.worker.seat.window
  pub ring : SameConsumer a.worker.consumer d.consumer
  pub heard : (rest : List Reply) × (received d.consumer ≡ received a.worker.consumer ++ rest)
  -- each answer was received in this work, and no place of what was received answers two attempts
  pub answers : AllTold rules (length (received a.worker.consumer)) (received d.consumer) a.messages d.ends.items
  pub places : PlacesApart (received d.consumer) d.ends.items
  -- the numbers were drawn by the seat, each for one attempt
  pub numbers : Drew a.worker.seat.view d.seat.view a.messages d.ends.items
  pub apart : NumbersApart d.ends.items
  -- its requests are those that it had and the frames of its attempts, each as often
  pub handed : AreSame d.requests (a.worker.requests ++ frames_in d.ends.items)
  -- if it gives no cause, it refused no message as bind-closed
  pub says_why : SaysWhy d.closed d.ends.items
  -- what was given up has a reason
  pub reasons : AllHaveReasons rules.policy.attempts (IsShut d.closed) d.reasons d.ends.items

-- the result of an assignment that was let go: its work
abbrev pub IsResultOf : {N E M : Type 0} → BookId → Rules → ReadyState N → Result (WorkerEnd N) (E × Worker N × M) → Type 0
IsResultOf book rules a r = MatchResult r (IsWorkOf book rules a) (λ e. ⊥)

-- the result of an assignment that left: the worker and its messages, as they were given
abbrev pub IsHandedBack : {N E : Type 0} → ReadyState N → Result (WorkerEnd N) (E × Worker N × Vec Message Global) → Type 0
IsHandedBack a r = MatchResult r (λ d. ⊥) (λ e. (e.1 ≡ a.worker) × (e.2.items ≡ a.messages))
