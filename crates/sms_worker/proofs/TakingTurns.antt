-- A turn, from what its steps promise.
use Rattle.std.proofs.Common.{◌≡◌, ℕ, suc, ◌+◌, Bool, true, false, length, inl, sym, ap, ◌∙◌, subst, arith}
use Rattle.std.specs.Prelude.{◌⊎◌, IsTrue}
use Rattle.sms_worker.specs.Expiry.{Expires}
use Rattle.sms_worker.specs.Replies.{AllApplied}
use Rattle.sms_worker.specs.RunState.{RunState, HasNothingToSend}
use Rattle.sms_worker.specs.Start.{Start}
use Rattle.sms_worker.specs.Sweeps.{SettledTo}
use Rattle.sms_worker.specs.Turn.{AreTurns, TakesTurn, TakesTurns}
use Rattle.sms_worker.specs.Turns.{Starts}

pub one_turn : (start : Start) (again replies down expired started : Bool) (now answered : ℕ) (a b c d e : RunState) → AllApplied start.rules replies a b → c ≡ record b { closed = c.closed } → down ≡ c.closed → (IsTrue b.closed → IsTrue c.closed) → Expires start.rules.answer_ms now down expired answered c d
    → (down ≡ false → Starts start started d e) → (IsTrue down → SettledTo start.rules.policy.attempts (length e.ends) 0 e.ends)
    → (again ≡ false → (replies ≡ false) × (expired ≡ false) × (started ≡ false)) → (again ≡ false → (length e.opened ≡ 0) × (IsTrue down ⊎ HasNothingToSend start.messages e)) → TakesTurn start again a e
one_turn start again replies down expired started now answered a b c d e applied look is stays expires starts sweeps idle done = record {
  any_reply = replies;
  replies = b;
  hears = applied;
  down = down;
  looked = c;
  looks = look ∙ ap (λ x. record b { closed = x }) (sym is);
  stays = λ h. subst IsTrue (sym is) (stays h);
  now = now;
  any_expired = expired;
  answered = answered;
  left = d;
  expires = expires;
  any_started = started;
  starts = starts;
  sweeps = sweeps;
  idle = idle;
  done = done;
}

-- a turn more, which another follows
pub turn_more : (start : Start) (n : ℕ) (a b c : RunState) → AreTurns start n a b → TakesTurn start true b c → AreTurns start (n + 1) a c
turn_more start n a b c turns turn =
    let next : suc n ≡ n + 1 = omega arith in
    subst (λ k. AreTurns start k a c) next (b, turns, turn)

-- the last turn
pub last_turn : (start : Start) (n : ℕ) (a b c : RunState) → AreTurns start n a b → TakesTurn start false b c → TakesTurns start a c
last_turn start n a b c turns turn = record { count = n; before = b; each = turns; rest = inl turn }
