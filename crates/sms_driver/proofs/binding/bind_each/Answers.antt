use Rattle.std.proofs.Common.{◌≡◌, [], refl, rules, arith, ℕ, subst, ◌∙◌, sym, ap, map, length}
use Rattle.std.specs.Vec.Iter.{into_iter_items}
use Rattle.sms_driver.specs.SendFaults.{IsFaultOf}
use Rattle.sms_driver.specs.Seated.{IsSeated}
use Rattle.sms_pdu.specs.Devices.{device}
use Rattle.sms_driver.specs.BindEnds.{IsSetUp}
use Rattle.sms_driver.specs.Reads.{IsOpened}
use Rattle.sms_driver.proofs.Returning.{more_hold}
use Rattle.sms_driver.proofs.Openings.{one_opened}
use Rattle.sms_driver.proofs.Grouping.{zip_length}
use Rattle.sms_driver.proofs.Windows.{zip_more, both_more}
use Rattle.sms_driver.proofs.binding.bind_each.Goals as goal

pub overflow_add-place : goal.overflow_add-place
overflow_add-place g c =
    let place = c.loop-theirs.invariant.place in
    let long = c.loop-theirs.invariant.long in
    let few = c.requires.binds.0 in
    search rules

pub returns-in-Err-clause-refused : goal.returns-in-Err-clause-refused
returns-in-Err-clause-refused g c =
    let more = ap length c.in-Some.ensures.steps.0 in
    let long = c.loop-theirs.invariant.long in
    (omega arith, subst (λ (n : ℕ). IsFaultOf (g.D.Dial.refuses c.args.dial.now) (g.D.Dial.told c.args.dial.now) c.args.bind_settings.now.settings.mode n c.in-Err.fault) c.loop-theirs.invariant.place c.in-Err.ensures.refused)

pub loop-theirs-preserved : goal.loop-theirs-preserved
loop-theirs-preserved g c =
    let i = c.loop-theirs.invariant in
    let m = c.in-Ok.made in
    let remaining = g.D.Reader.Read.remaining in
    let mode = c.args.bind_settings.now.settings.mode in
    let told = g.D.Dial.told c.args.dial.now in
    let place = i.place ∙ sym (zip_length (IsSeated c.args.workers) c.loop-theirs.shared_binds.items c.loop-theirs.bind_parts.items i.seated) in
    record {
      rings = search rules;
      pairs = search rules;
      long = search rules;
      place = search rules;
      shared_binds = search rules;
      bind_parts = search rules;
      driver_seats = search rules;
      windows =
          ap (λ l. map (λ s. s.seat.window) l) c.push_reserved-in-Ok-2.ensures.items
          ∙ both_more (λ s. s.seat.window) (λ b. b.window) c.loop-theirs.driver_seats.items c.loop-theirs.shared_binds.items m.driver_seat m.shared i.windows c.in-Ok.ensures.driver_seat.0
          ∙ sym (ap (λ l. map (λ b. b.window) l) c.push_reserved.ensures.items);
      log = record { away = (let was = i.log.away in let more = c.in-Ok.ensures.log.away in omega arith); given = c.in-Ok.ensures.log.given ∙ i.log.given; requests = c.in-Ok.ensures.log.requests ∙ i.log.requests };
      none = more_hold (λ s. s.requests ≡ []) c.loop-theirs.driver_seats.items _ _ c.push_reserved-in-Ok-2.ensures.items i.none c.in-Ok.ensures.driver_seat.1;
      opened = rw c.push_reserved-in-Ok.ensures.items (one_opened remaining mode told c.loop-theirs.bind_parts.items m.parts i.opened (subst (λ (n : ℕ). IsOpened mode (told n) (remaining (device m.parts.reader)) m.parts.bound) place c.in-Ok.ensures.opened));
      set = more_hold (IsSetUp c.args.bind_settings.now) c.loop-theirs.bind_parts.items _ _ c.push_reserved-in-Ok.ensures.items i.set c.in-Ok.ensures.set;
      seated = rw c.push_reserved.ensures.items (rw c.push_reserved-in-Ok.ensures.items (zip_more (IsSeated c.args.workers) c.loop-theirs.shared_binds.items c.loop-theirs.bind_parts.items m.shared m.parts i.seated c.in-Ok.ensures.seated));
    }

pub make_bind-requires-clause-few : goal.make_bind-requires-clause-few
make_bind-requires-clause-few g c =
    let i = c.loop-theirs.invariant in
    let few = c.requires.binds.1 in
    let was = i.log.away in
    let more = ap length c.in-Some.ensures.steps.0 in
    let long = i.long in
    let place = i.place in
    omega arith

pub returns-clause-log : goal.returns-clause-log
returns-clause-log g c =
    let i = c.loop-theirs.invariant in
    let none : length (into_iter_items c.loop-theirs.theirs-iterator) ≡ 0 = search rules in
    let long = i.long in
    let place = i.place in
    (record { away = (let was = i.log.away in omega arith); given = i.log.given; requests = i.log.requests }, i.none)

pub returns-in-Err-clause-log : goal.returns-in-Err-clause-log
returns-in-Err-clause-log g c = (tt, c.loop-theirs.invariant.none)

pub loop-theirs-init : goal.loop-theirs-init
loop-theirs-init g c =
    let gives = c.into_iter-theirs-iterator.ensures.into_iter_gives.0 in
    record {
      rings = rw gives c.requires.rings.0;
      pairs = rw gives c.requires.rings.1;
      long = search rules;
      place = search rules;
      shared_binds = search rules;
      bind_parts = search rules;
      driver_seats = search rules;
      windows = search rules;
      log = record { away = omega arith; given = refl; requests = refl };
      none = search rules;
      opened = search rules;
      set = search rules;
      seated = search rules;
    }
