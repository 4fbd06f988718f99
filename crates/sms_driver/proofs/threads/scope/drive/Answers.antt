use Rattle.std.proofs.Common.{◌≡◌, ◌≤◌, ℕ, length, map, take, arith, refl, sym, ap, ◌∙◌, subst}
use Rattle.std.specs.List.{AllZip}
use Rattle.std.specs.Prelude.{IfErr, IsSomeAnd, vec_capacity}
use Rattle.std.proofs.lemmas.List.{length-map}
use Rattle.sms_message.specs.declared.rules.Rules.{Rules}
use Rattle.sms_driver.specs.declared.start_gate.StartGate.{StartGate}
use Rattle.sms_driver.specs.declared.start_gate.Command.TheVariants.{Go, Leave}
use Rattle.sms_driver.specs.SendFaults.{IsOfStart, StopsAt}
use Rattle.sms_driver.specs.StartGates.{IsFiredAt, command_of}
use Rattle.sms_driver.specs.Reads.{listener_of, listener_promised, reading_promised, HasRead, IsUnread}
use Rattle.sms_driver.specs.Worked.{IsHandedBack, IsResultOf}
use Rattle.sms_driver.proofs.Joins.{back_zip, one_latch, zip_given}
use Rattle.sms_driver.proofs.Conclusions.{map_map, zip_to}
use Rattle.sms_driver.proofs.Grouping.{zip_length}
use Rattle.sms_driver.proofs.Places.{same_length}
use Rattle.sms_driver.proofs.Returning.{kept_windows}
use Rattle.sms_driver.proofs.Refusals.{stops_so}
use Rattle.sms_driver.proofs.Starting.{fits_first, fits_second, from_ok, on_both, on_ok, stops_at}
use Rattle.sms_driver.proofs.threads.scope.drive.Goals as goal

pub start_readers-listening-requires-clause-room : goal.start_readers-listening-requires-clause-room
start_readers-listening-requires-clause-room g c κs within =
    on_ok c.reserve-reserved.result _ _ (λ h. let n = h.readers_fit in let e = c.len-2.ensures in omega arith) c.reserve-reserved.ensures.room

pub start_workers-start_result-requires-clause-room : goal.start_workers-start_result-requires-clause-room
start_workers-start_result-requires-clause-room g c κs within =
    on_both c.reserve-reserved.result c.start_readers-listening.result _ _ c.start_readers-listening.ensures.all
    (on_ok c.reserve-reserved.result _ _ (λ h. let n = h.workers_fit in let e = c.len.ensures in omega arith) c.reserve-reserved.ensures.room)

pub join_all-worker_results-requires : goal.join_all-worker_results-requires
join_all-worker_results-requires g c lives =
    let rules : Rules = c.args.context.now.rules.now in
    let latch : StartGate = c.args.latch.now in
    let ws = c.start_workers-start_result.new.handles.items in
    let started = c.start_workers-start_result.ensures.started in
    let room = on_ok c.reserve-reserved.result _ (length c.args.tasks.items ≤ vec_capacity c.reserve-reserved.new.self.worker_results) (λ h. let n = h.results_fit in let e = c.len.ensures in omega arith) c.reserve-reserved.ensures.room in
    let fits = fits_second c.reserve-reserved.result c.start_readers-listening.result ws (length c.args.tasks.items) _ _ _ c.start_workers-start_result.ensures.held c.start_readers-listening.ensures.all room started.bound in
    ((refl, tt), ((c.reserve-reserved.ensures.none.worker_results, fits), one_latch _ (λ p. (p.rules.value ≡ rules) × (p.latch.value ≡ latch)) latch c.fire-started.result (λ p thread_result f k. subst (λ (l : StartGate). IsFiredAt l thread_result.started) f.1 k.at) c.fire-started.ensures.at ws started.given))

pub join_all-requires : goal.join_all-requires
join_all-requires g c lives =
    let rules : Rules = c.args.context.now.rules.now in
    let latch : StartGate = c.args.latch.now in
    let rs = c.start_readers-listening.new.handles.items in
    let started = c.start_readers-listening.ensures.started in
    let room = on_ok c.reserve-reserved.result _ (length c.args.reader_tasks.items ≤ vec_capacity c.reserve-reserved.new.self.reader_ends) (λ h. let n = h.ends_fit in let e = c.len-2.ensures in omega arith) c.reserve-reserved.ensures.room in
    let fits = fits_first c.reserve-reserved.result rs (length c.args.reader_tasks.items) _ _ c.start_readers-listening.ensures.held room started.bound in
    ((refl, tt), ((c.reserve-reserved.ensures.none.reader_ends, fits), one_latch _ (λ p. (p.latch.value ≡ latch) × (p.turns ≡ rules.turns)) latch c.fire-started.result (λ p thread_result f k. subst (λ (l : StartGate). IsFiredAt l thread_result.started) f.0 k.at) c.fire-started.ensures.at rs started.given))

pub returns-in-Ok : goal.returns-in-Ok
returns-in-Ok g c =
    let book = g.N.BookName.book in
    let rules : Rules = c.args.context.now.rules.now in
    let latch : StartGate = c.args.latch.now in
    let remaining = g.Rd.Read.remaining in
    let all = rw c.in-Ok.is at c.start_workers-start_result.ensures.all in
    let listening = from_ok c.start_readers-listening.result _ all.0 c.start_readers-listening.ensures.all in
    let go : c.command_for-command.result ≡ Go = rw c.in-Ok.is at c.command_for-command.ensures in
    let command : command_of c.fire-started.result ≡ Go = c.fire-started.ensures.command ∙ go in
    let workers = c.start_workers-start_result.new.handles.items in
    let readers = c.start_readers-listening.new.handles.items in
    let results = c.join_all-worker_results.result.items in
    let ends = c.join_all.result.items in
    let done =
    subst (λ l. AllZip (IsResultOf book rules) l results) all.1
    (back_zip _ (command_of c.fire-started.result) (λ p. p.assignment.value) (λ p. (p.rules.value ≡ rules) × (p.latch.value ≡ latch)) (IsResultOf book rules)
    (λ p r f b. subst (λ (x : Rules). IsResultOf book x p.assignment.value r) f.0 (subst (λ x. IsResultOf book p.rules.value p.assignment.value x) b.is (b.keeps.on_go (b.command_is ∙ command))))
    workers results c.start_workers-start_result.ensures.started.given c.join_all-worker_results.ensures.each)
    in
    let long : length c.as_slice-results.result.now ≡ length c.args.tasks.items = ap length c.as_slice-results.ensures.value ∙ zip_length (IsResultOf book rules) (map (λ t. t.assignment) c.args.tasks.items) results done ∙ length-map c.args.tasks.items (λ t. t.assignment) in
    let heard =
    subst (λ l. AllZip (λ l d. (d.seat.window ≡ l.0.window) × HasRead rules.turns remaining l.1 d) l ends) listening.1
    (back_zip _ (command_of c.fire-started.result) (λ p. listener_promised p) (λ p. (p.latch.value ≡ latch) × (p.turns ≡ rules.turns)) (λ l d. (d.seat.window ≡ l.0.window) × HasRead rules.turns remaining l.1 d)
    (λ p r f b. subst (λ (n : ℕ). (r.seat.window ≡ p.seat.value.window) × HasRead n remaining (reading_promised p) r) f.1 (subst (λ d. (d.seat.window ≡ p.seat.value.window) × HasRead p.turns remaining (reading_promised p) d) b.is (b.keeps.on_go (b.command_is ∙ command))))
    readers ends c.start_readers-listening.ensures.started.given c.join_all.ensures.each)
    in
    record {
      driven = record {
        at = c.fire-started.ensures.at;
        value = (
          command,
          record {
            results = done;
            readers =
                kept_windows (λ l. l.0.window) (λ d. d.seat.window) (map listener_of c.args.reader_tasks.items) ends
                (zip_to (λ l d. (d.seat.window ≡ l.0.window) × HasRead rules.turns remaining l.1 d) (λ l d. d.seat.window ≡ l.0.window) (λ l d k. k.0) (map listener_of c.args.reader_tasks.items) ends heard)
                ∙ map_map listener_of (λ l. l.0.window) c.args.reader_tasks.items;
            read =
                subst (λ l. AllZip (HasRead rules.turns remaining) l ends) (map_map listener_of (λ l. l.1) c.args.reader_tasks.items)
                (zip_given (λ l. l.1) (λ l d. (d.seat.window ≡ l.0.window) × HasRead rules.turns remaining l.1 d) (HasRead rules.turns remaining) (λ l d k. k.1) (map listener_of c.args.reader_tasks.items) ends heard);
            driver = c.end_binds-unbound.ensures.driver_seats ∙ c.requires.seated.driver;
            asked = c.end_binds-unbound.ensures.asked;
            tried = c.end_binds-unbound.ensures.tried;
            behind = subst (λ (n : ℕ). IsSomeAnd c.end_binds-unbound.result (λ u. u.workers ≡ n)) long (c.end_binds-unbound.ensures.behind go);
          },
        );
      };
    }

pub returns-in-Err : goal.returns-in-Err
returns-in-Err g c =
    let rules : Rules = c.args.context.now.rules.now in
    let latch : StartGate = c.args.latch.now in
    let leave : c.command_for-command.result ≡ Leave = rw c.in-Err.is at c.command_for-command.ensures in
    let command : command_of c.fire-started.result ≡ Leave = c.fire-started.ensures.command ∙ leave in
    let workers = c.start_workers-start_result.new.handles.items in
    let readers = c.start_readers-listening.new.handles.items in
    let results = c.join_all-worker_results.result.items in
    let ends = c.join_all.result.items in
    let tasks = length c.args.tasks.items in
    let reader_tasks = length c.args.reader_tasks.items in
    let long = on_ok c.start_readers-listening.result _ (length readers ≡ reader_tasks) (λ h. same_length (λ h. listener_promised h.promise) listener_of readers c.args.reader_tasks.items h.1) c.start_readers-listening.ensures.all in
    let all_stops : IfErr c.start_workers-start_result.result (λ f. IsOfStart f × StopsAt f tasks reader_tasks (length workers) (length readers)) =
    stops_at c.reserve-reserved.result c.start_readers-listening.result c.start_workers-start_result.result readers workers reader_tasks tasks
    c.start_readers-listening.ensures.held c.start_readers-listening.ensures.refused long c.start_workers-start_result.ensures.held c.start_workers-start_result.ensures.refused
    in
    let stops = rw c.in-Err.is at all_stops in
    record {
      driven = record {
        at = c.fire-started.ensures.at;
        value = (
          command,
          record {
            refused = stops.0;
            stopped = stops_so c.in-Err.fault tasks reader_tasks (length workers) (length readers) (length results) (length ends)
                (zip_length _ workers results c.join_all-worker_results.ensures.each) (zip_length _ readers ends c.join_all.ensures.each) stops.1;
            handed_back = record {
              workers =
                  subst (λ l. AllZip IsHandedBack l results)
                  (c.start_workers-start_result.ensures.started.first ∙ ap (λ n. take n (map (λ t. t.assignment) c.args.tasks.items)) (sym (zip_length _ workers results c.join_all-worker_results.ensures.each)))
                  (back_zip _ (command_of c.fire-started.result) (λ p. p.assignment.value) (λ p. (p.rules.value ≡ rules) × (p.latch.value ≡ latch)) IsHandedBack
                  (λ p r f b. subst (λ x. IsHandedBack p.assignment.value x) b.is (b.keeps.on_leave (b.command_is ∙ command)))
                  workers results c.start_workers-start_result.ensures.started.given c.join_all-worker_results.ensures.each);
              readers =
                  subst (λ l. AllZip (λ given end. IsUnread given.0 given.1.rings end) l ends)
                  (c.start_readers-listening.ensures.started.first ∙ ap (λ n. take n (map listener_of c.args.reader_tasks.items)) (sym (zip_length _ readers ends c.join_all.ensures.each)))
                  (back_zip _ (command_of c.fire-started.result) (λ p. listener_promised p) (λ p. (p.latch.value ≡ latch) × (p.turns ≡ rules.turns)) (λ given end. IsUnread given.0 given.1.rings end)
                  (λ p r f b. subst (λ x. IsUnread p.seat.value p.producers.value.items x) b.is (b.keeps.on_leave (b.command_is ∙ command)))
                  readers ends c.start_readers-listening.ensures.started.given c.join_all.ensures.each);
              driver = c.end_binds-unbound.ensures.driver_seats ∙ c.requires.seated.driver;
              asked = c.end_binds-unbound.ensures.asked;
              tried = c.end_binds-unbound.ensures.tried;
            };
          },
        );
      };
    }
