use Rattle.std.proofs.Common.{◌≡◌, [], List, Vec, length, map, rules, sym, ap, ◌∙◌, subst}
use Rattle.std.specs.List.{AllByRecursion, AllZip}
use Rattle.std.specs.declared.alloc.Global.{Global}
use Rattle.atomic_table.specs.Seated.{TableId}
use denote.Param.Send.{sendable}
use Rattle.sms_driver.proofs.Sums.{length-opening}
use Rattle.sms_message.specs.declared.rules.Rules.{Rules}
use Rattle.sms_worker.specs.declared.entry.work.WorkerEnd.{WorkerEnd}
use Rattle.sms_worker.specs.ReadyState.{ReadyState}
use Rattle.sms_bind.specs.declared.ending.ReaderEnd.{ReaderEnd}
use Rattle.sms_driver.specs.declared.binding.binds.DriverSeat.{DriverSeat}
use Rattle.sms_driver.specs.declared.threads.task.WorkerTask.{WorkerTask}
use Rattle.rtrb.specs.Ring.{SameConsumer, SameProducer}
use Rattle.sms_driver.specs.Reads.{reading_in, HasRead}
use Rattle.sms_driver.specs.Rings.{flat}
use Rattle.sms_driver.specs.Buffers.{IsFree}
use Rattle.sms_driver.specs.Threads.{HaveDriven}
use Rattle.sms_driver.specs.Unbinds.{AsksEach, HasTried}
use Rattle.sms_driver.specs.Worked.{IsResultOf, IsWorkOf}
use Rattle.sms_driver.proofs.Answering.{all_hears}
use Rattle.sms_driver.proofs.Closings.{all_reasoned, all_say}
use Rattle.sms_driver.proofs.Handing.{all_handed_on}
use Rattle.sms_driver.proofs.Numbering.{all_numbers}
use Rattle.sms_driver.proofs.Grouping.{flat_zip, pairs_kept, seated_pairs, zip_length}
use Rattle.std.proofs.lemmas.List.{length-map}
use Rattle.sms_driver.proofs.Joins.{all_ok, each_ok}
use Rattle.sms_driver.proofs.Returning.{kept_windows}
use Rattle.sms_driver.proofs.Conclusions.{all_settled, all_back, map_map, zip_to, zip_map}
use Rattle.sms_driver.proofs.run.send_over.Goals as goal

pub scoped-started-requires : goal.scoped-started-requires
scoped-started-requires g c = record {
  at = λ a.
      let t = c.type_bounds in
      let made = c.in_ok-tasks.ensures.tasks in (
        record { workers = made.same_window; readers = made.reader_tasks; driver = ap (λ (v : Vec (DriverSeat g.row.N.Denot) Global). map (λ s. s.seat.window) v.items) c.in_ok-tasks.ensures.driver_seats ∙ c.requires.driver_seats },
        (search rules, (search sendable, search sendable, search sendable, search sendable, search sendable, search sendable, search sendable, search sendable)),
      );
}

pub returns-in-Ok-clause-output : goal.returns-in-Ok-clause-output
returns-in-Ok-clause-output g c =
    let book = g.N.BookName.book in
    let rules : Rules = c.args.context.now.rules.now in
    let w = g.N.BookName.book.workers in
    let accounts = g.N.BookName.book.accounts in
    let remaining = g.Rd.Read.remaining in
    let made = c.in_ok-tasks.ensures.tasks in
    let run = c.in_ok-tasks.field-0 in
    let driven : HaveDriven book rules remaining c.take_trigger-trigger.result.0.now run.tasks.items run.reader_tasks.items c.prepare_threads.new.driver_seats.items c.args.shared_binds.now c.scoped-started.result = search rules in
    let both = rw c.in-Ok.is at driven.value in
    let returned = both.1 in
    let out = c.output_of.ensures in
    let assignment = λ (t : WorkerTask g.row.N.Denot g.row.W.Denot). t.assignment in
    let tasks = run.tasks.items in
    let assignments = map assignment tasks in
    let parts = c.args.bind_parts.items in
    let ds = c.output_of.result.done.items in
    let rs = c.in-Ok.returned.readers.items in
    let results = c.in-Ok.returned.worker_results.items in
    -- each worker's end is the work of its assignment
    let works = all_ok (IsWorkOf book rules) (λ j e. ⊥) assignments ds (subst (AllZip (IsResultOf book rules) assignments) (sym out.done) returned.results) in
    let same_readers : c.output_of.result.readers.items ≡ rs = ap (λ (v : Vec ReaderEnd Global). v.items) out.readers in
    let same_seats : c.output_of.result.driver_seats.items ≡ c.in-Ok.returned.driver_seats.items = ap (λ (v : Vec (DriverSeat g.row.N.Denot) Global). v.items) out.driver_seats in
    let read = subst (λ l. AllZip (HasRead rules.turns remaining) l rs) made.readings returned.read in
    record {
      all =
          let shares : length c.args.job.shares.items ≡ w = ap length c.requires.job.shares ∙ length-opening accounts w in
          let each : length tasks ≡ w = sym (length-map tasks (λ (t : WorkerTask g.row.N.Denot g.row.W.Denot). t.assignment.worker.shares)) ∙ ap length made.shares ∙ shares in
          all_back assignment (IsWorkOf book rules) (λ j e. ⊥) tasks ds results returned.results out.done ∙ each;
      settled = λ ms batches.
          all_settled
          (λ (j : ReadyState g.row.N.Denot). j.worker.shares)
          (λ (j : ReadyState g.row.N.Denot). j.messages)
          (λ (d : WorkerEnd g.row.N.Denot). d.shares)
          (λ (d : WorkerEnd g.row.N.Denot). d.ends.items)
          book rules assignment (IsWorkOf book rules) (λ j e. ⊥) (λ t d w. (w.worked, w.number)) ms tasks ds results c.requires.some
          (made.messages ∙ batches) (made.shares ∙ c.requires.job.shares) returned.results out.done;
      seats =
          let given : ReadyState g.row.N.Denot → TableId = λ j. j.worker.seat.window in
          let back : WorkerEnd g.row.N.Denot → TableId = λ d. d.seat.window in
          kept_windows given back assignments ds (zip_to (IsWorkOf book rules) (λ j d. back d ≡ given j) (λ j d w. w.window) assignments ds works)
          ∙ map_map assignment given tasks
          ∙ made.seat_windows;
      hears = all_hears book rules assignments ds works;
      numbers = all_numbers book rules assignments ds works;
      handed = all_handed_on book rules assignments ds (subst (AllByRecursion (λ r. r ≡ [])) (sym (map_map assignment (λ (j : ReadyState g.row.N.Denot). j.worker.requests) tasks ∙ made.requests)) c.requires.job.none) works;
      causes = all_say book rules assignments ds works;
      reasons = all_reasoned book rules assignments ds works;
      read = subst (λ (l : List ReaderEnd). AllZip (HasRead rules.turns remaining) (map reading_in parts) l) (sym same_readers) read;
      rings =
          let consumers =
          subst (λ l. AllZip SameConsumer l (map (λ d. d.consumer) ds)) (map_map assignment (λ j. j.worker.consumer) tasks ∙ made.rings)
          (zip_map (λ j. j.worker.consumer) (λ d. d.consumer) (IsWorkOf book rules) SameConsumer (λ j d w. w.ring) assignments ds works)
          in
          let producers =
          subst (λ l. AllZip SameProducer (flat l) (flat (map (λ d. d.producers.items) rs))) (map_map reading_in (λ r. r.rings) parts)
          (flat_zip (λ r. r.rings) (λ d. d.producers.items) SameProducer (map reading_in parts) rs (zip_to (HasRead rules.turns remaining) (λ r d. AllZip SameProducer r.rings d.producers.items) (λ r d h. h.same) (map reading_in parts) rs read))
          in
          pairs_kept _ _ _ _ (seated_pairs c.args.workers c.args.shared_binds.now parts c.requires.bind_parts)
          (subst (λ (l : List ReaderEnd). AllZip SameProducer (flat (map (λ p. p.producers.items) parts)) (flat (map (λ (d : ReaderEnd). d.producers.items) l))) (sym same_readers) producers) consumers;
      readers = ap (map (λ (d : ReaderEnd). d.seat.window)) same_readers ∙ returned.readers ∙ made.keepers;
      driver_seats = ap (map (λ (s : DriverSeat g.row.N.Denot). s.seat.window)) same_seats ∙ returned.driver;
      asked =
          subst (λ (l : List (DriverSeat g.row.N.Denot)). AsksEach c.args.driver_seats.items l) (sym same_seats)
          (subst (λ (v : Vec (DriverSeat g.row.N.Denot) Global). AsksEach v.items c.in-Ok.returned.driver_seats.items) c.in_ok-tasks.ensures.driver_seats returned.asked);
      tried = subst (λ (l : List (DriverSeat g.row.N.Denot)). AllByRecursion HasTried l) (sym same_seats) returned.tried;
    }

pub output_of-requires-clause-worked : goal.output_of-requires-clause-worked
output_of-requires-clause-worked g c =
    let book = g.N.BookName.book in
    let rules : Rules = c.args.context.now.rules.now in
    let run = c.in_ok-tasks.field-0 in
    let driven : HaveDriven book rules g.Rd.Read.remaining c.take_trigger-trigger.result.0.now run.tasks.items run.reader_tasks.items c.prepare_threads.new.driver_seats.items c.args.shared_binds.now c.scoped-started.result = search rules in
    let both = rw c.in-Ok.is at driven.value in
    each_ok (IsWorkOf book rules) (map (λ t. t.assignment) run.tasks.items) c.in-Ok.returned.worker_results.items both.1.results

pub output_of-requires-clause-room : goal.output_of-requires-clause-room
output_of-requires-clause-room g c =
    let book = g.N.BookName.book in
    let rules : Rules = c.args.context.now.rules.now in
    let run = c.in_ok-tasks.field-0 in
    let driven : HaveDriven book rules g.Rd.Read.remaining c.take_trigger-trigger.result.0.now run.tasks.items run.reader_tasks.items c.prepare_threads.new.driver_seats.items c.args.shared_binds.now c.scoped-started.result = search rules in
    let both = rw c.in-Ok.is at driven.value in
    let w = g.N.BookName.book.workers in
    let made = c.in_ok-tasks.ensures.tasks in
    let shares : length c.args.job.shares.items ≡ w = ap length c.requires.job.shares ∙ length-opening g.N.BookName.book.accounts w in
    let tasks : length run.tasks.items ≡ w = sym (length-map run.tasks.items (λ (t : WorkerTask g.row.N.Denot g.row.W.Denot). t.assignment.worker.shares)) ∙ ap length made.shares ∙ shares in
    let long = zip_length (IsResultOf book rules) (map (λ t. t.assignment) run.tasks.items) c.in-Ok.returned.worker_results.items both.1.results ∙ length-map run.tasks.items (λ (t : WorkerTask g.row.N.Denot g.row.W.Denot). t.assignment) ∙ tasks in
    subst (IsFree (length c.in-Ok.returned.worker_results.items)) (sym made.buffer) (subst (λ n. IsFree n c.args.job.done_buffer) (sym long) c.requires.job.room)
