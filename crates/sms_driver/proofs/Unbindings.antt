-- The result of a bind's unbind, from the driver's seat as its window was closed with it.
use Rattle.std.proofs.Common.{◌≡◌, ◌+◌, ◌++◌, ◌≤◌, ◌<◌, ℕ, List, [], ◌∷◌, ap, subst, arith}
use Rattle.sms_core.specs.Numbers.{AllBelow}
use Rattle.sms_driver.specs.Unbinds.{HasAsked, IsUnbound}
use Rattle.sms_driver.specs.declared.ending.skipped.SkipReason.TheVariants.{Down, UsedUp, Contended, OutOfMemory, Broken}
use Rattle.sms_driver.specs.declared.ending.unbind_result.UnbindResult.{UnbindResult}
use Rattle.sms_driver.specs.declared.ending.unbind_result.UnbindResult.TheVariants.{Idle, Sent, Failed, Skipped}
use Rattle.sms_window.specs.Drawing.{HasDrawn}
use Rattle.sms_window.specs.Rule.{numbers_of}
use Rattle.sms_window.specs.Seats.{used_up}
use Rattle.sms_window.specs.declared.outcome.Closed.{Closed}
use Rattle.sms_window.specs.declared.view.View.{View}
use Rattle.sms_worker.specs.Limits.{most_draws}
use Rattle.sms_driver.specs.Joined.{IsClosed}
use Rattle.sms_driver.proofs.Drawn.{below_behind}

below_before : (top : ℕ) (xs ys : List ℕ) → AllBelow top (xs ++ ys) → AllBelow top xs
below_before top [] ys a = tt
below_before top (x ∷ xs) ys a = (a.0, below_before top xs ys a.1)

-- the number that a seat drew last is below the one that its window would have given next
drawn_below : (n : ℕ) (k before d : View) (others : List View) (c : Closed) → HasDrawn before (n ∷ []) d → IsClosed k (d ∷ others) c → n < c.next
drawn_below n k before d others c drew closed =
    let theirs = numbers_of others in
    let all = subst (AllBelow c.next) closed.joined.numbers closed.end.numbers in
    let mine = below_before c.next d.numbers theirs (below_behind c.next k.numbers (d.numbers ++ theirs) all) in
    let drawn : d.numbers ≡ before.numbers ++ n ∷ [] = ap (λ (x : View). x.numbers) drew.after in
    (below_behind c.next before.numbers (n ∷ []) (subst (AllBelow c.next) drawn mine)).0

-- a window gives no number below one that a seat has seen
seen_first : (k d : View) (others : List View) (c : Closed) → IsClosed k (d ∷ others) c → d.seen ≤ c.next
seen_first k d others c closed = let low = closed.joined.others_seen.0 in let end = closed.end.seen in omega arith

pub is_unbound : (u : UnbindResult) (k before d : View) (others : List View) (c : Closed) → HasAsked before u d → IsClosed k (d ∷ others) c → IsUnbound u c
is_unbound Idle k before d others c asked closed = absurd asked
is_unbound (Sent receipt) k before d others c asked closed = (asked.0, asked.1, drawn_below asked.0 k before d others c asked.2 closed)
is_unbound (Failed receipt) k before d others c asked closed = (asked.0, asked.1, drawn_below asked.0 k before d others c asked.2 closed)
is_unbound (Skipped (Down was)) k before d others c asked closed = tt
is_unbound (Skipped (UsedUp all)) k before d others c asked closed =
    let seen : d.seen ≡ used_up = asked.2 in
    let low : d.seen ≤ c.next = seen_first k d others c closed in
    let most : c.next ≤ used_up = closed.end.next.1 in
    omega arith
is_unbound (Skipped (Contended none)) k before d others c asked closed =
    let more : before.seen + most_draws ≤ d.seen = asked.1 in
    let low : d.seen ≤ c.next = seen_first k d others c closed in
    omega arith
is_unbound (Skipped (OutOfMemory unmade)) k before d others c asked closed = drawn_below unmade.number k before d others c asked closed
is_unbound (Skipped (Broken untaken)) k before d others c asked closed = drawn_below untaken.number k before d others c asked closed
