use Rattle.std.proofs.Common.{◌≡◌, ap, arith, length, map, sym, ◌∙◌, rules}
use Rattle.std.proofs.lemmas.List.{length-map}
use Rattle.sms_driver.specs.Seated.{placement_at, placement_of}
use Rattle.sms_driver.proofs.Placements.{count_more}
use Rattle.sms_driver.proofs.Windows.{map_more}
use Rattle.std.specs.Vec.Iter.{into_iter_items}
use Rattle.sms_driver.proofs.Moves.{moved, moved_in}
use Rattle.sms_driver.proofs.Returning.{first_holds, more_hold}
use Rattle.sms_driver.specs.Threads.{IsPrepared}
use Rattle.sms_driver.proofs.threads.task.tasks.Goals as goal

pub loop-share-preserved : goal.loop-share-preserved
loop-share-preserved g c =
    let i = c.loop-share.invariant in
    let made = c.in_ok-task.ensures in
    let adds = c.push_reserved.ensures.items in
    let place = c.in-Some-Some-Some.ensures.items in
    let long : c.len-index.result ≡ length c.loop-share.tasks.items = omega (arith, c.len-index.ensures) in
    let first = first_holds (λ p. p.seat.window ≡ p.window.now) _ _ _ place i.rest in
    record {
      places = search rules;
      batches = search rules;
      each = search rules;
      requests = moved_in (λ t. t.assignment.worker.requests) c.loop-share.tasks.items _ c.loop-share.requests.items _ _ _ _ adds c.in-Some-Some-Some.ensures'.items made.requests i.requests;
      shares = moved_in (λ t. t.assignment.worker.shares) c.loop-share.tasks.items _ (into_iter_items c.loop-share.share-iterator) _ _ _ _ adds c.in-Some.ensures.steps.0 made.shares i.shares;
      messages = moved (λ t. t.assignment.messages) (λ l. l.items) c.loop-share.tasks.items _ c.loop-share.batches.items _ _ _ _ adds c.in-Some-Some-Some.ensures''.items made.messages i.messages;
      windows = moved (λ t. t.assignment.worker.seat.window) (λ p. p.seat.window) c.loop-share.tasks.items _ c.loop-share.places.items _ _ _ _ adds place (ap (λ s. s.window) made.seat) i.windows;
      rings = moved (λ t. t.assignment.worker.consumer) (λ p. p.consumer) c.loop-share.tasks.items _ c.loop-share.places.items _ _ _ _ adds place made.ring i.rings;
      placements = moved placement_of placement_at c.loop-share.tasks.items _ c.loop-share.places.items _ _ _ _ adds place made.placements i.placements;
      indexes = count_more (map (λ t. t.assignment.worker.index) c.loop-share.tasks.items) _ _ (ap (map (λ t. t.assignment.worker.index)) adds ∙ map_more (λ t. t.assignment.worker.index) c.loop-share.tasks.items _) (made.index ∙ long ∙ sym (length-map c.loop-share.tasks.items (λ t. t.assignment.worker.index))) i.indexes;
      rest = first.1;
      own = more_hold (IsPrepared c.args.rules.now) c.loop-share.tasks.items _ _ adds i.own (ap (λ s. s.window) made.seat ∙ first.0 ∙ sym made.window, made.room);
      room = search rules;
    }
