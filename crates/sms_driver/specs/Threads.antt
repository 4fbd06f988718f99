-- What the threads of a sending are given, and what they give back.
use Rattle.std.specs.Prelude.{◌≡◌, ◌≤◌, ℕ, List, [], length, map, take, Option, Result, IsSomeAnd, MatchResult, vec_capacity}
use Rattle.std.specs.List.{AllByRecursion, AllZip}
use Rattle.std.specs.declared.thread.PromisedHandle.{PromisedHandle}
use Rattle.sms_book.specs.Name.{BookId}
use Rattle.sms_message.specs.declared.rules.Rules.{Rules}
use Rattle.sms_driver.specs.declared.start_gate.StartGate.{StartGate}
use Rattle.sms_driver.specs.declared.start_gate.ThreadResult.{ThreadResult}
use Rattle.sms_driver.specs.declared.start_gate.Command.TheVariants.{Go, Leave}
use Rattle.sms_driver.specs.declared.binding.binds.DriverSeat.{DriverSeat}
use Rattle.sms_driver.specs.declared.binding.binds.SharedBind.{SharedBind}
use Rattle.sms_driver.specs.declared.threads.task.WorkerTask.{WorkerTask}
use Rattle.sms_driver.specs.declared.threads.ReaderPromise.{ReaderPromise}
use Rattle.sms_driver.specs.declared.threads.ReaderTask.{ReaderTask}
use Rattle.sms_driver.specs.declared.threads.WorkerPromise.{WorkerPromise}
use Rattle.sms_driver.specs.declared.threads.scope.Crew.{Crew}
use Rattle.sms_driver.specs.declared.threads.scope.Returned.{Returned}
use Rattle.sms_driver.specs.declared.threads.scope.StartFailure.{StartFailure}
use Rattle.sms_driver.specs.SendFaults.{IsOfStart, StopsAt}
use Rattle.sms_driver.specs.StartGates.{IsFiredAt, command_of}
use Rattle.sms_driver.specs.Unbinds.{AsksEach, HasTried}
use Rattle.sms_driver.specs.Reads.{listener_of, listener_promised, reading_of, HasRead, IsUnread}
use Rattle.sms_driver.specs.Worked.{IsHandedBack, IsResultOf}

-- a worker's seat is of the window where it works, and the worker has room for as many open requests as the rules allow
abbrev pub IsPrepared : {N W : Type 0} → Rules → WorkerTask N W → Type 0
IsPrepared rules t = (t.assignment.worker.seat.window ≡ t.window.now) × (rules.depth ≤ t.assignment.room)

-- no thread was started yet
pub record IsNoCrew {N Rd : Type 0} (crew : Crew N Rd) : Type 0 where
  pub workers : crew.workers.items ≡ []
  pub readers : crew.readers.items ≡ []
  pub worker_results : crew.worker_results.items ≡ []
  pub reader_ends : crew.reader_ends.items ≡ []

-- there is room for this many workers and readers, and for what they give back
pub record HasRoom {N Rd : Type 0} (workers readers : ℕ) (crew : Crew N Rd) : Type 0 where
  pub workers_fit : workers ≤ vec_capacity crew.workers
  pub readers_fit : readers ≤ vec_capacity crew.readers
  pub results_fit : workers ≤ vec_capacity crew.worker_results
  pub ends_fit : readers ≤ vec_capacity crew.reader_ends

-- each worker is prepared, each reader's seat is of its window, and in order the driver's seats are of the binds' windows
pub record AreSeated {N Rd W : Type 0} (rules : Rules) (tasks : List (WorkerTask N W)) (reader_tasks : List (ReaderTask N Rd W)) (driver_seats : List (DriverSeat N)) (shared_binds : List (SharedBind N W)) : Type 0 where
  pub workers : AllByRecursion (IsPrepared rules) tasks
  pub readers : AllByRecursion (λ t. t.seat.window ≡ t.window.now) reader_tasks
  pub driver : map (λ s. s.seat.window) driver_seats ≡ map (λ b. b.window) shared_binds

-- the threads of the first workers: they wait at the gate, and have in order the assignments of the first tasks
pub record AreWorkers {N W T : Type 0} (rules : Rules) (latch : StartGate) (tasks : List (WorkerTask N W)) (handles : List (PromisedHandle (ThreadResult T) (WorkerPromise N))) : Type 0 where
  pub bound : length handles ≤ length tasks
  pub first : map (λ h. h.promise.assignment.value) handles ≡ take (length handles) (map (λ t. t.assignment) tasks)
  pub given : AllByRecursion (λ h. (h.promise.rules.value ≡ rules) × (h.promise.latch.value ≡ latch)) handles

-- the threads of the first readers: they wait at the gate, and have in order what the first tasks have
pub record AreReaders {N Rd W T : Type 0} (turns : ℕ) (latch : StartGate) (tasks : List (ReaderTask N Rd W)) (handles : List (PromisedHandle (ThreadResult T) (ReaderPromise Rd))) : Type 0 where
  pub bound : length handles ≤ length tasks
  pub first : map (λ h. listener_promised h.promise) handles ≡ take (length handles) (map listener_of tasks)
  pub given : AllByRecursion (λ h. (h.promise.latch.value ≡ latch) × (h.promise.turns ≡ turns)) handles

-- in order there is a result of each assignment, and each reader's end, which agrees with what it read; an unbind was tried once at
-- each bind
pub record HaveReturned {N Rd W : Type 0} (book : BookId) (rules : Rules) (remaining : Rd → Option (List ℕ)) (tasks : List (WorkerTask N W)) (reader_tasks : List (ReaderTask N Rd W)) (driver_seats : List (DriverSeat N)) (shared_binds : List (SharedBind N W)) (returned : Returned N) : Type 0 where
  pub results : AllZip (IsResultOf book rules) (map (λ t. t.assignment) tasks) returned.worker_results.items
  pub readers : map (λ d. d.seat.window) returned.readers.items ≡ map (λ t. t.seat.window) reader_tasks
  pub read : AllZip (HasRead rules.turns remaining) (map reading_of reader_tasks) returned.readers.items
  pub driver : map (λ s. s.seat.window) returned.driver_seats.items ≡ map (λ b. b.window) shared_binds
  pub asked : AsksEach driver_seats returned.driver_seats.items
  pub tried : AllByRecursion HasTried returned.driver_seats.items
  -- and that was behind the ends of all workers
  pub behind : IsSomeAnd returned.unbound (λ u. u.workers ≡ length tasks)

-- nothing was done: in order the first workers and readers, which were started, gave back what they were given; an unbind was tried once at each
-- bind
pub record WereHandedBack {N Rd W : Type 0} (tasks : List (WorkerTask N W)) (reader_tasks : List (ReaderTask N Rd W)) (driver_seats : List (DriverSeat N)) (shared_binds : List (SharedBind N W)) (left : Returned N) : Type 0 where
  pub workers : AllZip IsHandedBack (take (length left.worker_results.items) (map (λ t. t.assignment) tasks)) left.worker_results.items
  pub readers : AllZip (λ given end. IsUnread given.0 given.1.rings end) (take (length left.readers.items) (map listener_of reader_tasks)) left.readers.items
  pub driver : map (λ s. s.seat.window) left.driver_seats.items ≡ map (λ b. b.window) shared_binds
  pub asked : AsksEach driver_seats left.driver_seats.items
  pub tried : AllByRecursion HasTried left.driver_seats.items

-- nothing was sent: memory or a thread was refused, and each thread that was started gave back what it was given
pub record HaveLeft {N Rd W : Type 0} (tasks : List (WorkerTask N W)) (reader_tasks : List (ReaderTask N Rd W)) (driver_seats : List (DriverSeat N)) (shared_binds : List (SharedBind N W)) (failure : StartFailure N) : Type 0 where
  pub refused : IsOfStart failure.fault
  pub stopped : StopsAt failure.fault (length tasks) (length reader_tasks) (length failure.returned.worker_results.items) (length failure.returned.readers.items)
  pub handed_back : WereHandedBack tasks reader_tasks driver_seats shared_binds failure.returned

-- all threads were let go at this gate and gave back their results; or all left, and nothing was sent
pub record HaveDriven {N Rd W : Type 0} (book : BookId) (rules : Rules) (remaining : Rd → Option (List ℕ)) (latch : StartGate) (tasks : List (WorkerTask N W)) (reader_tasks : List (ReaderTask N Rd W)) (driver_seats : List (DriverSeat N)) (shared_binds : List (SharedBind N W)) (driven : ThreadResult (Result (Returned N) (StartFailure N))) : Type 0 where
  pub at : IsFiredAt latch driven.started
  pub value : MatchResult driven.value
      (λ returned. (command_of driven.started ≡ Go) × HaveReturned book rules remaining tasks reader_tasks driver_seats shared_binds returned)
      (λ failure. (command_of driven.started ≡ Leave) × HaveLeft tasks reader_tasks driver_seats shared_binds failure)
