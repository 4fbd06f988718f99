use Rattle.std.proofs.Common.{◌≡◌, ℕ, subst, length-append, append-nil, append_assoc, rules, arith, ◌∙◌, [], ◌∷◌, ◌++◌, ap, sym, refl, length, map}
use Rattle.std.proofs.lemmas.List.{length-map}
use Rattle.std.specs.Vec.Iter.{into_iter_items}
use Rattle.sms_driver.specs.BindEnds.{outcome_of, IsBindEnd}
use Rattle.sms_driver.specs.Handed.{AreWritten}
use Rattle.sms_driver.specs.Rings.{flat}
use Rattle.sms_driver.specs.Unbinds.{handed_in, HasHanded, HasTried}
use Rattle.sms_driver.proofs.Drawn.{all_closed, closed_more, first_once, none_closed}
use Rattle.sms_driver.specs.Closings.{HaveClosings}
use Rattle.sms_driver.specs.declared.bind_end.BindEnd.{BindEnd}
use Rattle.sms_driver.proofs.Closings.{all_told, none_told, told_more}
use Rattle.sms_driver.specs.Joined.{AreClosed}
use Rattle.sms_driver.proofs.Moves.{all_moved, flat_more, moved, none_moved}
use Rattle.sms_driver.proofs.Windows.{map_more}
use Rattle.sms_driver.proofs.Unbindings.{is_unbound}
use Rattle.sms_driver.proofs.Returning.{firsts, first_windows, first_holds, more_hold}
use Rattle.sms_driver.proofs.Places.{same_length}
use Rattle.sms_driver.proofs.Writing.{none_written, written_more}
use Rattle.sms_driver.proofs.ending.closing.close_all.Goals as goal

pub take_first-reader-requires : goal.take_first-reader-requires
take_first-reader-requires g c =
    let long = same_length (λ d. d.seat.window) (λ b. b.window) c.loop-shared.readers.items _ c.loop-shared.invariant.readers in
    let more = ap length c.in-Some.ensures.steps.0 in
    omega arith

pub take_first-driver_seat-requires : goal.take_first-driver_seat-requires
take_first-driver_seat-requires g c =
    let long = same_length (λ s. s.seat.window) (λ b. b.window) c.loop-shared.driver_seats.items _ c.loop-shared.invariant.driver_seats in
    let more = ap length c.in-Some.ensures.steps.0 in
    omega arith

pub loop-shared-init : goal.loop-shared-init
loop-shared-init g c = record {
  readers = search rules;
  driver_seats = search rules;
  tried = search rules;
  seats = search rules;
  each = search rules;
  outcomes = none_moved (λ b. b.reader) _ _ _ (search rules) (ap (map outcome_of) c.from-readers.ensures.0);
  closed = λ rest h. none_closed c.args.remains.workers _ _ _ _ _ _ _ rest (ap (map (λ d. d.seat.view)) c.from-readers.ensures.0) (ap (map (λ s. s.seat.view)) c.from-driver_seats.ensures.0) (ap (map (λ s. s.view)) c.from-seats.ensures.0) (search rules) h;
  once = λ all bind low.
      let binds = ap length c.into_iter-shared-iterator.ensures.into_iter_gives.0 in
      rw (sym c.from-seats.ensures.0) (all bind (omega (arith, low, binds)));
  closings = λ rest h. none_told c.args.remains.workers _ _ _ rest c.from-causes.ensures.0 (search rules) h;
  away = (let binds = ap length c.into_iter-shared-iterator.ensures.into_iter_gives.0 in omega arith);
  handed = search rules;
  requests = (let none : c.args.room.items ≡ [] = search rules in sym (append-nil c.args.log.now.requests) ∙ ap (λ l. c.args.log.now.requests ++ flat (map (λ (b : BindEnd). handed_in b.unbind_result) l)) (sym none));
  ended = search rules;
  written = (let none : 0 ≡ length c.args.room.items = search rules in subst (λ (n : ℕ). AreWritten g.N.LogName.settings n c.args.log.now.given c.args.log.now.given) none (none_written g.N.LogName.settings c.args.log.now.given));
  room = search rules;
}

pub loop-shared-preserved : goal.loop-shared-preserved
loop-shared-preserved g c =
    let i = c.loop-shared.invariant in
    let adds = c.push_reserved.ensures.items ∙ ap (λ (b : BindEnd). c.loop-shared.ends.items ++ b ∷ []) c.new.ensures in
    let steps = c.in-Some.ensures.steps.0 in
    let readers = firsts (λ d. d.seat.window) (λ b. b.window) c.loop-shared.readers.items c.take_first-reader.new.queue.items _ _ c.take_first-reader.result c.in-Some.shared c.take_first-reader.ensures steps i.readers in
    let driver_seats = firsts (λ s. s.seat.window) (λ b. b.window) c.loop-shared.driver_seats.items c.take_first-driver_seat.new.queue.items _ _ c.take_first-driver_seat.result c.in-Some.shared c.take_first-driver_seat.ensures steps i.driver_seats in
    let more = ap length steps in
    let own = first_holds HasHanded c.loop-shared.driver_seats.items c.take_first-driver_seat.new.queue.items c.take_first-driver_seat.result c.take_first-driver_seat.ensures i.handed in
    let tried = first_holds HasTried c.loop-shared.driver_seats.items c.take_first-driver_seat.new.queue.items c.take_first-driver_seat.result c.take_first-driver_seat.ensures i.tried in
    record {
      readers = readers.1;
      driver_seats = driver_seats.1;
      tried = tried.1;
      seats = c.close_one-window.ensures.rest _ (first_windows (λ s. s.window) (λ b. b.window) c.args.remains.workers c.loop-shared.seats.items _ _ c.in-Some.shared steps i.seats);
      each = search rules;
      outcomes = moved (λ b. b.reader) outcome_of c.loop-shared.ends.items _ c.loop-shared.readers.items _ _ _ _ adds c.take_first-reader.ensures c.outcome_in-outcome.ensures i.outcomes;
      closings = λ rest h. told_more c.args.remains.workers _ _ _ _ rest _ (HaveClosings c.args.remains.workers c.args.causes.items) (ap (map (λ b. b.closing)) adds ∙ map_more (λ b. b.closing) c.loop-shared.ends.items _) c.next_closing-closing.ensures.left c.next_closing-closing.ensures.closing h (i.closings (_ ∷ rest));
      closed = λ rest h. closed_more c.args.remains.workers _ _ _ _ _ _ _ _ _ _ rest _ (AreClosed c.args.remains.workers (map (λ d. d.seat.view) c.args.remains.readers.items) (map (λ s. s.seat.view) c.args.remains.driver_seats.items) (map (λ s. s.view) c.args.seats.items)) (ap (map (λ b. b.window)) adds ∙ map_more (λ b. b.window) c.loop-shared.ends.items _) (ap (map (λ d. d.seat.view)) c.take_first-reader.ensures) (ap (map (λ s. s.seat.view)) c.take_first-driver_seat.ensures) c.close_one-window.ensures.left c.close_one-window.ensures.closed h (i.closed (_ ∷ rest));
      once = λ rest. i.once (first_once c.args.remains.workers _ _ c.in-Some.shared (map (λ s. s.view) c.loop-shared.seats.items) _ steps c.close_one-window.ensures.left c.close_one-window.ensures.once rest);
      away = (let a = i.away in let back = c.take.ensures.away in let less = c.close_one-window.ensures.log.0.away in let some = c.requires.away.0 in omega arith);
      handed = own.1;
      requests = c.close_one-window.ensures.log.0.requests ∙ append-nil _ ∙ c.take.ensures.requests ∙ (λ j. i.requests j ++ own.0 j) ∙ append_assoc c.args.log.now.requests _ _ ∙ ap (λ l. c.args.log.now.requests ++ l) (sym (flat_more (λ (b : BindEnd). handed_in b.unbind_result) c.loop-shared.ends.items _ _ adds));
      ended = more_hold (IsBindEnd c.args.remains.workers) c.loop-shared.ends.items _ _ adds i.ended (record { workers_are = refl; unbound = is_unbound _ _ _ _ _ _ tried.0.1 c.close_one-window.ensures.closed });
      written =
          written_more g.N.LogName.settings (length c.loop-shared.ends.items) 1 _ _ _ _ (ap length adds ∙ length-append c.loop-shared.ends.items _)
          (subst (AreWritten g.N.LogName.settings (length c.loop-shared.ends.items) c.args.log.now.given) (sym c.take.ensures.given) i.written) c.close_one-window.ensures.log.1;
      room = search rules;
    }

pub returns-clause-once : goal.returns-clause-once
returns-clause-once g c =
    let none : length (into_iter_items c.loop-shared.shared-iterator) ≡ 0 = search rules in
    c.loop-shared.invariant.once (λ bind low. absurd (omega (arith, low, none)))

pub returns-clause-closings : goal.returns-clause-closings
returns-clause-closings g c = all_told _ _ _ (c.loop-shared.invariant.closings [] tt)

pub returns-clause-closed : goal.returns-clause-closed
returns-clause-closed g c = all_closed _ _ _ _ _ (c.loop-shared.invariant.closed [] tt)

pub returns-clause-outcomes : goal.returns-clause-outcomes
returns-clause-outcomes g c =
    let none : length (into_iter_items c.loop-shared.shared-iterator) ≡ 0 = search rules in
    let long = same_length (λ d. d.seat.window) (λ b. b.window) c.loop-shared.readers.items _ c.loop-shared.invariant.readers in
    all_moved (map (λ b. b.reader) c.loop-shared.ends.items) (map outcome_of c.loop-shared.readers.items) _ (length-map c.loop-shared.readers.items outcome_of ∙ long ∙ none) c.loop-shared.invariant.outcomes

pub take-requires : goal.take-requires
take-requires g c =
    let more = ap length c.in-Some.ensures.steps.0 in
    let a = c.loop-shared.invariant.away in
    let some = c.requires.away.0 in
    record { away = omega arith }

pub close_one-window-requires-clause-away : goal.close_one-window-requires-clause-away
close_one-window-requires-clause-away g c =
    let more = ap length c.in-Some.ensures.steps.0 in
    let a = c.loop-shared.invariant.away in
    let back = c.take.ensures.away in
    let some = c.requires.away.0 in
    omega arith

pub returns-clause-log : goal.returns-clause-log
returns-clause-log g c =
    let none : length (into_iter_items c.loop-shared.shared-iterator) ≡ 0 = search rules in
    let a = c.loop-shared.invariant.away in
    let all : length c.loop-shared.ends.items ≡ length c.args.remains.shared_binds.items = (let each = c.loop-shared.invariant.each in omega arith) in
    (record { away = omega arith; requests = c.loop-shared.invariant.requests }, subst (λ (n : ℕ). AreWritten g.N.LogName.settings n c.args.log.now.given c.loop-shared.log.given) all c.loop-shared.invariant.written)
