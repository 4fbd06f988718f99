use Rattle.std.proofs.Common.{◌∙◌, ◌++◌, arith, ℕ, List, Option, length, map, ap, sym, subst}
use Rattle.std.specs.List.{AllByRecursion, AllZip}
use Rattle.sms_book.specs.Portions.{row_at}
use Rattle.sms_book.specs.Shares.{Share, AreAll}
use Rattle.sms_book.specs.Sums.{IsSumOf}
use Rattle.sms_driver.specs.Deals.{dealt}
use Rattle.sms_window.specs.SeatState.{SeatState}
use Rattle.sms_window.specs.declared.view.View.{View}
use Rattle.sms_driver.specs.declared.bind_end.BindEnd.{BindEnd}
use Rattle.sms_driver.specs.BindEnds.{AreBinds}
use Rattle.sms_driver.specs.Closings.{HaveClosings}
use Rattle.sms_driver.specs.Numbered.{DrewBelow}
use Rattle.sms_worker.specs.declared.state.closing.ClosedBy.{ClosedBy}
use Rattle.std.proofs.lemmas.List.{length-map}
use Rattle.rtrb.specs.Ring.{IsPair}
use Rattle.sms_bind.specs.declared.ending.ReaderEnd.{ReaderEnd}
use Rattle.sms_worker.specs.declared.entry.work.WorkerEnd.{WorkerEnd}
use Rattle.sms_worker.specs.Rests.{HasReceived}
use Rattle.sms_driver.proofs.Places.{same_length}
use Rattle.sms_bind.specs.Frames.{requests, AreSame}
use Rattle.sms_driver.specs.Handed.{WireEnd}
use Rattle.sms_driver.specs.Rings.{flat}
use Rattle.sms_driver.specs.Unbinds.{handed_in, HasHanded}
use Rattle.sms_driver.specs.Buffers.{IsFree}
use Rattle.sms_driver.proofs.Grouping.{zip_length}
use Rattle.sms_driver.proofs.Drawn.{drew_below, once_as}
use Rattle.sms_driver.proofs.ending.conclude.Goals as goal

pub settle-statement-requires : goal.settle-statement-requires
settle-statement-requires g c = record { all = subst (AreAll g.N.BookName.book.workers) (sym c.take_apart-apart.ensures.shares) c.requires.shares }

pub returns-clause-ends : goal.returns-clause-ends
returns-clause-ends g c es long dealt_is =
    c.merged.ensures es long (c.take_apart-apart.ensures.ends ∙ dealt_is ∙ ap (λ n. dealt n 0 es) (sym c.take_apart-apart.ensures.length))

pub returns-clause-concluded : goal.returns-clause-concluded
returns-clause-concluded g c =
    let apart = c.take_apart-apart.ensures in
    let joined = c.join_ends-joined.ensures in
    let closed = c.close_all-binds.ensures in
    let binds = c.close_all-binds.result.items in
    let windows = map (λ (b : BindEnd). b.window) binds in
    let closings = map (λ (b : BindEnd). b.closing) binds in
    let rings = flat (map (λ (d : ReaderEnd). d.producers.items) c.args.output.readers.items) in
    record {
      received = subst (AllZip HasReceived rings) apart.consumers joined.received;
      accounts = c.settle-statement.ensures.accounts;
      sums = λ i low. subst (λ (shares : List Share). IsSumOf (row_at c.settle-statement.result i) i c.args.till shares) apart.shares (c.settle-statement.ensures.sums i low);
      ended =
          subst (λ (n : ℕ). AreBinds n c.args.workers binds) (ap (λ v. length v.items) joined.shared_binds)
          (subst (λ (w : ℕ). AreBinds (length c.join_ends-joined.result.shared_binds.items) w binds) joined.workers closed.binds);
      outcomes = closed.outcomes ∙ joined.outcomes;
      handed = (let back = apart.log.requests ∙ ap (λ l. l ++ flat (map (λ (d : WorkerEnd g.row.N.Denot). d.requests) c.args.output.done.items)) c.requires.log.1 in subst (AreSame (requests c.settle.result.given)) (closed.log.0.requests ∙ ap (λ l. l ++ flat (map (λ (b : BindEnd). handed_in b.unbind_result) binds)) back) (subst (λ l. AreSame (requests l) c.close_all-binds.new.log.requests) (sym c.settle.ensures.given) c.settle.ensures.settled));
      written =
          (let w = closed.log.1 in
          let none = apart.given ∙ c.requires.log.2 in
          record {
            wires = w.wires;
            all = w.all ∙ ap (λ v. length v.items) joined.shared_binds;
            each = w.each;
            given = c.settle.ensures.given ∙ w.given ∙ ap (λ l. l ++ flat (map (λ (e : WireEnd). e.log) w.wires)) none;
          });
      reasons = apart.reasons;
      closings =
          subst (λ (xs : List (Option ClosedBy)). HaveClosings c.args.workers xs closings) apart.causes
          (subst (λ (w : ℕ). HaveClosings w c.take_apart-apart.result.causes.items closings) joined.workers closed.closings);
      once = once_as _ _ _ _ _ _ (ap (λ v. length v.items) joined.shared_binds) joined.workers apart.views closed.once;
      below =
          subst (λ (vs : List View). DrewBelow c.args.workers vs windows) apart.views
          (subst (λ (w : ℕ). DrewBelow w (map (λ (s : SeatState). s.view) c.take_apart-apart.result.seats.items) windows) joined.workers (drew_below _ _ _ _ _ closed.closed));
    }

pub join_ends-joined-requires-clause-producers : goal.join_ends-joined-requires-clause-producers
join_ends-joined-requires-clause-producers g c =
    let rings = flat (map (λ (d : ReaderEnd). d.producers.items) c.args.output.readers.items) in
    let long = sym (zip_length IsPair rings (map (λ (d : WorkerEnd g.row.N.Denot). d.consumer) c.args.output.done.items) c.requires.output.rings) ∙ length-map c.args.output.done.items (λ (d : WorkerEnd g.row.N.Denot). d.consumer) in
    subst (λ (n : ℕ). IsFree n c.args.buffers.ring_ends.producers) (sym long) c.requires.buffers.producers

pub join_ends-joined-requires-clause-bare : goal.join_ends-joined-requires-clause-bare
join_ends-joined-requires-clause-bare g c =
    let long = same_length (λ d. d.seat.window) (λ b. b.window) c.args.output.readers.items c.args.shared_binds.items c.requires.output.readers in
    subst (λ (n : ℕ). IsFree n c.args.buffers.ring_ends.readers) (sym long) c.requires.buffers.readers

pub take_apart-apart-requires-clause-away : goal.take_apart-apart-requires-clause-away
take_apart-apart-requires-clause-away g c = (let all = c.requires.log.0 in omega arith)

pub close_all-binds-requires-clause-away : goal.close_all-binds-requires-clause-away
close_all-binds-requires-clause-away g c =
    let all = c.requires.log.0 in
    let back = c.take_apart-apart.ensures.log.away in
    let same = ap (λ v. length v.items) c.join_ends-joined.ensures.shared_binds in
    (omega arith, subst (λ v. AllByRecursion HasHanded v.items) (sym c.join_ends-joined.ensures.driver_seats) c.requires.output.handed)

pub settle-requires : goal.settle-requires
settle-requires g c =
    let all = c.requires.log.0 in
    let back = c.take_apart-apart.ensures.log.away in
    let same = ap (λ v. length v.items) c.join_ends-joined.ensures.shared_binds in
    let rest = c.close_all-binds.ensures.log.0.away in
    record { all = omega arith }
