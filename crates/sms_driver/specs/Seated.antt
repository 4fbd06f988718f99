-- Which worker and which reader has its place at which bind.
use Rattle.std.specs.Prelude.{◌≡◌, ◌+◌, ℕ, zero, suc, List, [], ◌∷◌, ◌++◌, length, map, replicate, take, drop}
use Rattle.std.specs.declared.alloc.Global.{Global}
use Rattle.atomic_table.specs.Seated.{TableId}
use Rattle.rtrb.specs.declared.AnyItems.{AnyItems}
use Rattle.rtrb.specs.declared.consumer.Consumer.{Consumer}
use Rattle.sms_pdu.specs.declared.reply.Reply.{Reply}
use Rattle.sms_bind.specs.declared.line.Line.{Line}
use Rattle.sms_window.specs.SeatState.{SeatState}
use Rattle.std.specs.List.{AllByRecursion, AllZip}
use Rattle.sms_driver.specs.Rings.{IsNewPair}
use Rattle.sms_driver.specs.declared.binding.binds.SharedBind.{SharedBind}
use Rattle.sms_driver.specs.declared.binding.binds.BindParts.{BindParts}
use Rattle.sms_driver.specs.declared.binding.binds.WorkerSeat.{WorkerSeat}
use Rattle.sms_driver.specs.declared.binding.following.Following.{Following}
use Rattle.sms_driver.specs.declared.threads.task.WorkerPlace.{WorkerPlace}
use Rattle.sms_driver.specs.declared.threads.task.WorkerTask.{WorkerTask}
use Rattle.sms_driver.specs.declared.threads.ReaderTask.{ReaderTask}

-- the workers' ends of a bind's rings, in order
abbrev pub consumers_of : {Rd : Type 0} → BindParts Rd → List (Consumer Reply Global AnyItems)
consumers_of parts = map (λ w. w.consumer) parts.workers.items

-- the parts are those of a bind with this many workers: each worker has a seat of the bind's window and a new ring, whose other end the reader
-- has in the same place; and the keeper's seat is of the window
pub record IsSeated {N W Rd : Type 0} (workers : ℕ) (shared : SharedBind N W) (parts : BindParts Rd) : Type 0 where
  pub keeper : parts.keeper.window ≡ shared.window
  pub seats : AllByRecursion (λ w. w.seat.window ≡ shared.window) parts.workers.items
  pub all : length parts.workers.items ≡ workers
  pub pairs : AllZip IsNewPair parts.producers.items (consumers_of parts)

-- the windows of all workers' seats, bind by bind
abbrev pub windows : {K : Type 0} → ℕ → List K → List K
windows workers [] = []
windows workers (w ∷ ws) = replicate workers w ++ windows workers ws

-- the items of the bind at this place, if each bind has this many
abbrev pub of_bind : {X : Type 0} → ℕ → ℕ → List X → List X
of_bind workers zero xs = take workers xs
of_bind workers (suc bind) xs = of_bind workers bind (drop workers xs)

-- a worker's placement: its seat, its place among the workers of its bind, its end of a ring, and the bind's line and window
pub record WorkerPlacement (N W : Type 0) : Type 0 where
  pub seat : SeatState
  pub place : ℕ
  pub ring : Consumer Reply Global AnyItems
  pub line : Line N W
  pub window : TableId

abbrev pub placement_at : {N W : Type 0} → WorkerPlace N W → WorkerPlacement N W
placement_at p = record { seat = p.seat; place = p.place; ring = p.consumer; line = p.line.now; window = p.window.now }

abbrev pub placement_of : {N W : Type 0} → WorkerTask N W → WorkerPlacement N W
placement_of t = record { seat = t.assignment.worker.seat; place = t.assignment.worker.place; ring = t.assignment.worker.consumer; line = t.line.now; window = t.window.now }

-- the workers of a bind from this place on, each with its seat and its ring
abbrev pub placements_from : {N W : Type 0} → SharedBind N W → ℕ → List WorkerSeat → List (WorkerPlacement N W)
placements_from shared place [] = []
placements_from shared place (w ∷ workers) = record { seat = w.seat; place = place; ring = w.consumer; line = shared.line; window = shared.window } ∷ placements_from shared (place + 1) workers

-- the workers of all binds, bind by bind
abbrev pub all_placements : {N W Rd : Type 0} → List (SharedBind N W) → List (BindParts Rd) → List (WorkerPlacement N W)
all_placements [] parts = []
all_placements (b ∷ bs) [] = []
all_placements (b ∷ bs) (p ∷ parts) = placements_from b 0 p.workers.items ++ all_placements bs parts

-- a reader's placement: the keeper's seat, the limit that it follows, and the bind's line and window
pub record ReaderPlacement (N W : Type 0) : Type 0 where
  pub seat : SeatState
  pub follow : Following
  pub line : Line N W
  pub window : TableId

abbrev pub reader_placement_of : {N Rd W : Type 0} → ReaderTask N Rd W → ReaderPlacement N W
reader_placement_of t = record { seat = t.seat; follow = t.follow; line = t.line.now; window = t.window.now }

abbrev pub all_reader_placements : {N W Rd : Type 0} → List (SharedBind N W) → List (BindParts Rd) → List (ReaderPlacement N W)
all_reader_placements [] parts = []
all_reader_placements (b ∷ bs) [] = []
all_reader_placements (b ∷ bs) (p ∷ parts) = record { seat = p.keeper; follow = p.follow; line = b.line; window = b.window } ∷ all_reader_placements bs parts

-- the numbers count up from this one
abbrev pub CountFrom : ℕ → List ℕ → Type 0
CountFrom n [] = Unit {0}
CountFrom n (x ∷ xs) = (x ≡ n) × CountFrom (n + 1) xs
