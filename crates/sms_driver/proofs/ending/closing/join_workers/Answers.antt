use Rattle.std.proofs.Common.{rules, arith, ◌≡◌, ◌++◌, ◌-◌, ◌∙◌, ℕ, List, map, sym, ap, subst, replicate}
use Rattle.std.specs.Prelude.{take, drop}
use Rattle.sms_window.specs.declared.view.View.{View}
use Rattle.sms_driver.specs.Joined.{HasJoined}
use Rattle.sms_driver.proofs.Drawn.{next_views, joined_first, all_joined, none_dropped}
use Rattle.sms_driver.proofs.Returning.{next_seat, no_seat}
use Rattle.sms_driver.proofs.ending.closing.join_workers.Goals as goal

pub loop-worker-init : goal.loop-worker-init
loop-worker-init c =
    let all : c.args.workers ≡ c.args.workers - 0 = omega arith in
    record { own = search rules; joined = λ v h. subst (λ (n : ℕ). HasJoined c.args.keeper.now.view (take n (map (λ s. s.view) c.args.seats.now.items)) v) (sym all) h; left = ap (λ n. drop n (map (λ s. s.view) c.args.seats.now.items)) (sym all); rest = λ rest e. e ∙ ap (λ n. replicate n c.args.window.now ++ rest) all }

pub unreachable-requires : goal.unreachable-requires
unreachable-requires c =
    let e = rw c.in_default.is at c.pop_front.ensures.cases in
    let r = c.requires.seats in
    no_seat (λ s. s.window) c.args.window.now c.args.workers c.loop-worker._worker c.loop-worker.seats.items r.0 (search rules) (grind rules) (c.loop-worker.invariant.rest r.0 r.1)

pub join-requires : goal.join-requires
join-requires c =
    let r = c.requires.seats in
    let n = next_seat (λ s. s.window) c.args.window.now c.args.workers c.loop-worker._worker c.loop-worker.seats.items c.pop_front.new.self.items c.in-Some.seat r.0 (search rules) c.in-Some.ensures.items (c.loop-worker.invariant.rest r.0 r.1) in
    record { same_window = (c.loop-worker.invariant.own ∙ c.requires.same_window, n.0) }

pub loop-worker-preserved : goal.loop-worker-preserved
loop-worker-preserved c =
    let i = c.loop-worker.invariant in
    let n = next_views (λ s. s.view) c.args.workers c.loop-worker._worker c.loop-worker.seats.items c.pop_front.new.self.items c.in-Some.seat (search rules) c.in-Some.ensures.items in
    record {
      own = c.join.ensures.window ∙ c.loop-worker.invariant.own;
      joined = λ v h. i.joined v (subst (λ (vs : List View). HasJoined c.loop-worker.keeper.view vs v) (sym n.0) (joined_first c.loop-worker.keeper.view _ v c.in-Some.seat.view _ _ c.join.ensures.joined h));
      left = sym n.1 ∙ i.left;
      rest = λ rest e. (next_seat (λ s. s.window) c.args.window.now c.args.workers c.loop-worker._worker c.loop-worker.seats.items c.pop_front.new.self.items c.in-Some.seat rest (search rules) c.in-Some.ensures.items (c.loop-worker.invariant.rest rest e)).1;
    }

pub returns-clause-rest : goal.returns-clause-rest
returns-clause-rest c rest e =
    let none : c.args.workers - c.loop-worker._worker ≡ 0 = search rules in
    c.loop-worker.invariant.rest rest e ∙ ap (λ n. replicate n c.args.window.now ++ rest) none

pub returns-clause-joined : goal.returns-clause-joined
returns-clause-joined c =
    let none : c.args.workers - c.loop-worker._worker ≡ 0 = search rules in
    c.loop-worker.invariant.joined _ (all_joined _ _ _ none)

pub returns-clause-left : goal.returns-clause-left
returns-clause-left c =
    let none : c.args.workers - c.loop-worker._worker ≡ 0 = search rules in
    none_dropped _ _ _ none c.loop-worker.invariant.left
