use Rattle.std.proofs.Common.{◌≡◌, refl, ◌+◌, ◌*◌, [], ◌∷◌, ◌++◌, length, map, rules, arith, sym, ap, ◌∙◌, subst}
use Rattle.std.specs.List.{AllByRecursion, AllZip}
use Rattle.sms_pdu.proofs.Fronts.{AllByRecursion-append}
use Rattle.sms_driver.specs.Reads.{reading_in, reading_of}
use Rattle.sms_driver.specs.Rings.{flat}
use Rattle.sms_driver.specs.Seated.{all_reader_placements, all_placements, consumers_of, reader_placement_of, placement_at, IsSeated}
use Rattle.sms_driver.proofs.Placements.{all_kept, all_sat, bind_keeps, bind_sits}
use Rattle.sms_driver.proofs.Heads.{first_seated, none_seated, none_left}
use Rattle.sms_driver.proofs.Moves.{moved, none_moved, all_moved, lists_moved}
use Rattle.sms_driver.proofs.Windows.{map_more}
use Rattle.sms_driver.proofs.Returning.{bound_seats, workers_more, keeper_more, workers_all, keepers_all}
use Rattle.sms_driver.proofs.threads.placement.seat_all.Goals as goal

pub loop-bind-init : goal.loop-bind-init
loop-bind-init g c = record {
  bind_parts = subst (AllZip (IsSeated c.args.workers) c.args.shared_binds.now) (sym c.from-bind_parts.ensures.0) c.requires.bind_parts;
  places = search rules;
  reader_tasks = search rules;
  windows = search rules;
  keepers = search rules;
  rings = none_moved (λ p. p.consumer) _ _ _ (search rules) (ap (λ l. flat (map consumers_of l)) c.from-bind_parts.ensures.0);
  readings = none_moved reading_of _ _ _ (search rules) (ap (map reading_in) c.from-bind_parts.ensures.0);
  placements = none_moved placement_at _ _ _ (search rules) (ap (all_placements c.args.shared_binds.now) c.from-bind_parts.ensures.0);
  reader_placements = none_moved reader_placement_of _ _ _ (search rules) (ap (all_reader_placements c.args.shared_binds.now) c.from-bind_parts.ensures.0);
  long = search rules;
  room = search rules;
}

pub unreachable-requires : goal.unreachable-requires
unreachable-requires g c = let e = rw c.in_default.is at c.pop_front.ensures.cases in none_seated c.args.workers c.loop-bind.bind c.args.shared_binds.now c.loop-bind.bind_parts.items (search rules) (grind rules) c.loop-bind.invariant.bind_parts

pub seat_workers-requires-clause-seats : goal.seat_workers-requires-clause-seats
seat_workers-requires-clause-seats g c =
    let f = first_seated c.args.workers c.loop-bind.bind c.args.shared_binds.now c.index-shared_binds-bind.result c.loop-bind.bind_parts.items c.in-Some.parts c.pop_front.new.self.items (search rules) c.in-Some.ensures.items c.index-shared_binds-bind.is c.loop-bind.invariant.bind_parts in
    f.0.seats

pub loop-bind-preserved : goal.loop-bind-preserved
loop-bind-preserved g c =
    let f = first_seated c.args.workers c.loop-bind.bind c.args.shared_binds.now c.index-shared_binds-bind.result c.loop-bind.bind_parts.items c.in-Some.parts c.pop_front.new.self.items (search rules) c.in-Some.ensures.items c.index-shared_binds-bind.is c.loop-bind.invariant.bind_parts in
    let i = c.loop-bind.invariant in
    record {
      bind_parts = f.1;
      places = search rules;
      reader_tasks = subst (AllByRecursion (λ t. t.seat.window ≡ t.window.now)) (sym c.push_reserved.ensures.items) (AllByRecursion-append (λ t. t.seat.window ≡ t.window.now) c.loop-bind.reader_tasks.items (_ ∷ []) i.reader_tasks (f.0.keeper, tt));
      windows = workers_more (λ b. b.window) c.args.workers c.loop-bind.bind c.args.shared_binds.now c.index-shared_binds-bind.result _ _ _ _ (search rules) c.index-shared_binds-bind.is c.in_ok-seat_workers.ensures.windows (bound_seats (λ w. w.seat.window) _ c.args.workers c.in-Some.parts.workers.items f.0.seats f.0.all) i.windows;
      keepers = keeper_more (λ b. b.window) c.args.workers c.loop-bind.bind c.args.shared_binds.now c.index-shared_binds-bind.result _ _ _ (search rules) c.index-shared_binds-bind.is
          (ap (map (λ t. t.seat.window)) c.push_reserved.ensures.items ∙ map_more (λ t. t.seat.window) c.loop-bind.reader_tasks.items _ ∙ ap (λ w. map (λ t. t.seat.window) c.loop-bind.reader_tasks.items ++ w ∷ []) f.0.keeper)
          i.keepers;
      rings = lists_moved consumers_of (map (λ p. p.consumer) c.loop-bind.places.items) _ c.loop-bind.bind_parts.items _ c.in-Some.parts _ c.in_ok-seat_workers.ensures.rings c.in-Some.ensures.items i.rings;
      readings = moved reading_of reading_in c.loop-bind.reader_tasks.items _ c.loop-bind.bind_parts.items _ _ _ _ c.push_reserved.ensures.items c.in-Some.ensures.items refl i.readings;
      placements = bind_sits c.args.shared_binds.now c.loop-bind.bind c.index-shared_binds-bind.result c.loop-bind.bind_parts.items _ c.in-Some.parts (map placement_at c.loop-bind.places.items) _ _ (search rules) c.index-shared_binds-bind.is c.in-Some.ensures.items c.in_ok-seat_workers.ensures.placements i.placements;
      reader_placements = bind_keeps c.args.shared_binds.now c.loop-bind.bind c.index-shared_binds-bind.result c.loop-bind.bind_parts.items _ c.in-Some.parts (map reader_placement_of c.loop-bind.reader_tasks.items) _ _ (search rules) c.index-shared_binds-bind.is c.in-Some.ensures.items (ap (map reader_placement_of) c.push_reserved.ensures.items ∙ map_more reader_placement_of c.loop-bind.reader_tasks.items _) i.reader_placements;
      long = let n = c.in_ok-seat_workers.ensures.length in let a = f.0.all in let l = i.long in n ∙ (λ j. l j + a j) ∙ (omega arith);
      room = search rules;
    }

pub returns-clause-length : goal.returns-clause-length
returns-clause-length g c =
    let e : c.loop-bind.bind ≡ length c.args.shared_binds.now = search rules in
    c.loop-bind.invariant.long ∙ ap (λ n. n * c.args.workers) e

pub returns-clause-windows : goal.returns-clause-windows
returns-clause-windows g c = workers_all (λ b. b.window) c.args.workers c.loop-bind.bind c.args.shared_binds.now _ _ (search rules) c.loop-bind.invariant.windows

pub returns-clause-keepers : goal.returns-clause-keepers
returns-clause-keepers g c = keepers_all (λ b. b.window) c.args.workers c.loop-bind.bind c.args.shared_binds.now _ _ (search rules) c.loop-bind.invariant.keepers

pub returns-clause-rings : goal.returns-clause-rings
returns-clause-rings g c =
    let none = none_left c.args.workers c.loop-bind.bind c.args.shared_binds.now c.loop-bind.bind_parts.items (search rules) c.loop-bind.invariant.bind_parts in
    all_moved _ (flat (map consumers_of c.loop-bind.bind_parts.items)) _ (ap (λ l. length (flat (map consumers_of l))) none) c.loop-bind.invariant.rings

pub returns-clause-readings : goal.returns-clause-readings
returns-clause-readings g c =
    let none = none_left c.args.workers c.loop-bind.bind c.args.shared_binds.now c.loop-bind.bind_parts.items (search rules) c.loop-bind.invariant.bind_parts in
    all_moved _ (map reading_in c.loop-bind.bind_parts.items) _ (ap (λ l. length (map reading_in l)) none) c.loop-bind.invariant.readings

pub returns-clause-placements : goal.returns-clause-placements
returns-clause-placements g c = all_sat c.loop-bind.bind c.args.shared_binds.now c.loop-bind.bind_parts.items _ _ (search rules) c.loop-bind.invariant.placements

pub returns-clause-reader_placements : goal.returns-clause-reader_placements
returns-clause-reader_placements g c = all_kept c.loop-bind.bind c.args.shared_binds.now c.loop-bind.bind_parts.items _ _ (search rules) c.loop-bind.invariant.reader_placements
