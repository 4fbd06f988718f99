-- What passes through a run: the job that it is given, its tasks, what its threads give back, and what is concluded from that.
use Rattle.std.specs.Prelude.{◌≡◌, ◌++◌, ◌<◌, ℕ, [], List, Option, length, map}
use Rattle.std.specs.List.{AllByRecursion, AllZip}
use Rattle.rtrb.specs.Ring.{received, IsPair}
use Rattle.sms_bind.specs.Frames.{requests, AreSame}
use Rattle.sms_book.specs.Name.{BookId}
use Rattle.sms_book.specs.Portions.{row_at}
use Rattle.sms_book.specs.Shares.{opening_shares}
use Rattle.sms_book.specs.Sums.{IsSumOf}
use Rattle.sms_message.specs.declared.message.Message.{Message}
use Rattle.sms_message.specs.declared.rules.Rules.{Rules}
use Rattle.sms_worker.specs.Closing.{IsShut}
use Rattle.sms_session.specs.Settings.{Setting}
use Rattle.sms_worker.specs.Frames.{frames_in}
use Rattle.sms_worker.specs.ReasonsOf.{AllHaveReasons}
use Rattle.sms_worker.specs.Rests.{HasReceived}
use Rattle.sms_driver.specs.Answered.{Hears}
use Rattle.sms_driver.specs.BindEnds.{outcome_of, AreBinds}
use Rattle.sms_driver.specs.Buffers.{IsFree}
use Rattle.sms_driver.specs.Closings.{HaveClosings, SaysWhy}
use Rattle.sms_driver.specs.Deals.{dealt}
use Rattle.sms_driver.specs.Handed.{AreWritten}
use Rattle.sms_driver.specs.Numbered.{AllDrewOnce, DrewBelow, HasNumbers}
use Rattle.sms_driver.specs.Reads.{reading_in, reading_of, HasRead}
use Rattle.sms_driver.specs.Rings.{flat}
use Rattle.sms_driver.specs.Seated.{all_placements, all_reader_placements, placement_of, reader_placement_of, CountFrom, consumers_of, windows}
use Rattle.sms_driver.specs.Settled.{AreSettled}
use Rattle.sms_driver.specs.Threads.{IsPrepared}
use Rattle.sms_driver.specs.Unbinds.{handed_in, AsksEach, HasHanded, HasTried}
use Rattle.sms_driver.specs.declared.binding.binds.BindParts.{BindParts}
use Rattle.sms_driver.specs.declared.binding.binds.DriverSeat.{DriverSeat}
use Rattle.sms_driver.specs.declared.binding.binds.SharedBind.{SharedBind}
use Rattle.sms_driver.specs.declared.ending.Sending.{Sending}
use Rattle.sms_driver.specs.declared.ending.RunOutput.{RunOutput}
use Rattle.sms_driver.specs.declared.run.Job.{Job}
use Rattle.sms_driver.specs.declared.run.RunTasks.{RunTasks}

-- the job is for all workers of a book: each has its opening share, no requests so far, and a batch of messages, and there is room for what it gives back
pub record IsJob {N : Type 0} (book : BookId) (job : Job N) : Type 0 where
  pub shares : job.shares.items ≡ opening_shares book.accounts book.workers
  pub batches : length job.batches.items ≡ book.workers
  pub requests : length job.requests.items ≡ book.workers
  pub none : AllByRecursion (λ r. r ≡ []) job.requests.items
  pub room : IsFree book.workers job.done_buffer

-- each worker has its share, its batch and a place at a bind, and each reader what it needs of its bind
pub record AreTasks {N Rd W : Type 0} (rules : Rules) (workers : ℕ) (job : Job N) (shared_binds : List (SharedBind N W)) (bind_parts : List (BindParts Rd)) (ready : RunTasks N Rd W) : Type 0 where
  -- in order, the shares and the batches that were given
  pub shares : map (λ t. t.assignment.worker.shares) ready.tasks.items ≡ job.shares.items
  pub requests : map (λ t. t.assignment.worker.requests) ready.tasks.items ≡ job.requests.items
  pub messages : map (λ t. t.assignment.messages) ready.tasks.items ≡ map (λ l. l.items) job.batches.items
  -- bind by bind, each worker's seat and each keeper's seat is of the bind's window
  pub seat_windows : map (λ t. t.assignment.worker.seat.window) ready.tasks.items ≡ windows workers (map (λ b. b.window) shared_binds)
  pub keepers : map (λ t. t.seat.window) ready.reader_tasks.items ≡ map (λ b. b.window) shared_binds
  -- each worker has its end of a ring, and each reader what was read while it was bound
  pub rings : map (λ t. t.assignment.worker.consumer) ready.tasks.items ≡ flat (map consumers_of bind_parts)
  pub readings : map reading_of ready.reader_tasks.items ≡ map reading_in bind_parts
  -- each has its place at its bind, with the line and the window of the bind
  pub placements : map placement_of ready.tasks.items ≡ all_placements shared_binds bind_parts
  pub reader_placements : map reader_placement_of ready.reader_tasks.items ≡ all_reader_placements shared_binds bind_parts
  -- the workers count from 0
  pub indexes : CountFrom 0 (map (λ t. t.assignment.worker.index) ready.tasks.items)
  -- each works at its seat's window, and has memory for its call
  pub same_window : AllByRecursion (IsPrepared rules) ready.tasks.items
  pub reader_tasks : AllByRecursion (λ t. t.seat.window ≡ t.window.now) ready.reader_tasks.items
  -- the buffer of the job
  pub buffer : ready.done_buffer ≡ job.done_buffer

-- what the workers and the readers of all binds give back, and the driver's seats
pub record IsOutput {N Rd W : Type 0} (rules : Rules) (book : BookId) (workers : ℕ) (remaining : Rd → Option (List ℕ)) (batches : List (List Message)) (shared_binds : List (SharedBind N W)) (bind_parts : List (BindParts Rd)) (old_seats : List (DriverSeat N)) (output : RunOutput N) : Type 0 where
  -- each worker gave back its end
  pub all : length output.done.items ≡ book.workers
  -- the ends are those of all messages, however these were dealt out, and the shares hold their sums
  pub settled : (ms : List Message) → batches ≡ dealt book.workers 0 ms → AreSettled book rules ms (map (λ d. d.shares) output.done.items) (map (λ d. d.ends.items) output.done.items)
  -- each worker's seat is of its bind's window
  pub seats : map (λ d. d.seat.window) output.done.items ≡ windows workers (map (λ b. b.window) shared_binds)
  -- each answered attempt of a worker rests on an answer that the worker received
  pub hears : AllByRecursion (λ d. Hears (received d.consumer) d.ends.items) output.done.items
  -- no two attempts of a worker have one number, and its seat drew them
  pub numbers : AllByRecursion (λ d. HasNumbers d.seat.view d.ends.items) output.done.items
  -- the requests of a worker are the frames of its attempts, each as often
  pub handed : AllByRecursion (λ d. AreSame d.requests (frames_in d.ends.items)) output.done.items
  -- a worker that refused a message as bind-closed says why
  pub causes : AllByRecursion (λ d. SaysWhy d.closed d.ends.items) output.done.items
  -- what a worker gave up has a reason
  pub reasons : AllByRecursion (λ d. AllHaveReasons rules.policy.attempts (IsShut d.closed) d.reasons d.ends.items) output.done.items
  -- what each reader did with what it read
  pub read : AllZip (HasRead rules.turns remaining) (map reading_in bind_parts) output.readers.items
  -- the readers' and the workers' ends of the rings are still pairs, in order
  pub rings : AllZip IsPair (flat (map (λ d. d.producers.items) output.readers.items)) (map (λ d. d.consumer) output.done.items)
  -- each reader's seat and each of the driver's seats is of its bind's window
  pub readers : map (λ d. d.seat.window) output.readers.items ≡ map (λ b. b.window) shared_binds
  pub driver_seats : map (λ s. s.seat.window) output.driver_seats.items ≡ map (λ b. b.window) shared_binds
  -- an unbind was asked for once at each bind
  pub asked : AsksEach old_seats output.driver_seats.items
  pub tried : AllByRecursion HasTried output.driver_seats.items

-- the output of a run over these binds: the seats are of the binds' windows, bind by bind; an unbind was tried at each bind; and the ends of the rings
-- are pairs
pub record IsOfBinds {N W : Type 0} (shared_binds : List (SharedBind N W)) (workers : ℕ) (output : RunOutput N) : Type 0 where
  pub readers : map (λ d. d.seat.window) output.readers.items ≡ map (λ b. b.window) shared_binds
  pub driver_seats : map (λ s. s.seat.window) output.driver_seats.items ≡ map (λ b. b.window) shared_binds
  pub tried : AllByRecursion HasTried output.driver_seats.items
  pub handed : AllByRecursion HasHanded output.driver_seats.items
  pub rings : AllZip IsPair (flat (map (λ d. d.producers.items) output.readers.items)) (map (λ d. d.consumer) output.done.items)
  pub seats : map (λ d. d.seat.window) output.done.items ≡ windows workers (map (λ b. b.window) shared_binds)

-- what a sending ends with, beside the messages' ends, by the output of a run over this many binds
pub record IsConcluded {N : Type 0} (book : BookId) (settings : Option Setting) (till : List ℕ) (binds workers : ℕ) (output : RunOutput N) (sending : Sending) : Type 0 where
  -- what each worker received is a beginning of what its reader put into its ring
  pub received : AllZip HasReceived (flat (map (λ d. d.producers.items) output.readers.items)) (map (λ d. d.consumer) output.done.items)
  -- the statement has a row for each account, with the sums over all shares
  pub accounts : length sending.statement ≡ book.accounts
  pub sums : (i : ℕ) → i < length sending.statement → IsSumOf (row_at sending.statement i) i till (map (λ d. d.shares) output.done.items)
  -- each bind ended, with what its reader counted
  pub ended : AreBinds binds workers sending.binds.items
  pub outcomes : map (λ b. b.reader) sending.binds.items ≡ map outcome_of output.readers.items
  -- the requests that the wires were given are those of the workers and the unbinds, each as often
  pub handed : AreSame (requests sending.log.given) (flat (map (λ d. d.requests) output.done.items) ++ flat (map (λ b. handed_in b.unbind_result) sending.binds.items))
  -- the frames that the wires were given are those of their logs, each of which began right behind a bind
  pub written : AreWritten settings binds [] sending.log.given
  -- each worker's reasons, in order
  pub reasons : sending.reasons.items ≡ map (λ d. d.reasons) output.done.items
  -- each bind was closed for the causes that its workers gave
  pub closings : HaveClosings workers (map (λ d. d.closed) output.done.items) (map (λ b. b.closing) sending.binds.items)
  -- no two workers of a bind drew one number, and all numbers are below the one that its window would have given next
  pub once : AllDrewOnce binds workers (map (λ d. d.seat.view) output.done.items)
  pub below : DrewBelow workers (map (λ d. d.seat.view) output.done.items) (map (λ b. b.window) sending.binds.items)
