-- The whole schedule.
use Rattle.std.proofs.Common.{◌≡◌, ℕ, ◌+◌, List, [], ◌∷◌, ◌++◌, map, length, get_or, Some, refl, sym, ap, ◌∙◌, arith, sum_by}
use Rattle.std.proofs.lemmas.Bool.{lt-ltb}
use Rattle.std.proofs.lemmas.List.{length-map}
use Rattle.std.proofs.lemmas.List.Sums.{sum_by-cons}
use Rattle.sms_core.specs.declared.event.Event.TheVariants.{Claim, Release}
use Rattle.sms_core.specs.declared.mark.Mark.TheVariants.{Empty}
use Rattle.sms_core.specs.declared.request.Phase.{Phase}
use Rattle.sms_core.specs.declared.request.Request.{Request}
use Rattle.sms_core.specs.Rows.{Entry, over, part, row_of, reserved_of, charged_of, returned_of}
use Rattle.sms_core.specs.State.{State, entry_of, new_world}
use Rattle.sms_core.proofs.AccountSums.{over-map}
use Rattle.sms_journal.specs.declared.audit.part.SentPart.{SentPart}
use Rattle.sms_journal.specs.Schedules.{NamedPart, entry_for, in_turn, parts_events, request_for, schedule_of, top_ups}
use Rattle.sms_journal.specs.ScheduleLaws.{CanBeSent, CanRun, PartsAreARun, attempts_in}
use Rattle.sms_journal.proofs.Chains.{AllDone, done_append, runs_of}
use Rattle.sms_journal.proofs.SlotMoves.{claim_done, idle, release_done, standing}
use Rattle.sms_journal.proofs.SeveralRuns.{AreApart, length_in, several_done}
use Rattle.sms_journal.proofs.TopUps.{topped_up}
use Rattle.sms_journal.proofs.Turns.{over_requests, part_sum, turn_all, turn_free, turn_names, turn_sum}
use Rattle.sms_journal.proofs.TurnRequests.{turn_found}

ones : {X : Type 0} (xs : List X) → sum_by (λ (x : X). 1) xs ≡ length xs
ones {X = X} [] = refl
ones {X = X} (x ∷ xs) = omega (arith, sum_by-cons (λ (x : X). 1) x xs, ones xs)

-- how many requests there are
turn_length : (ps : List SentPart) → length (in_turn ps) ≡ length ps
turn_length ps = sym (ones (in_turn ps)) ∙ turn_sum (λ n. 1) ps ∙ part_sum (λ p. 1) 0 ps ∙ ones ps

turn_over : (f : Phase → ℕ → ℕ) (i : ℕ) (ps : List SentPart) → over f i (map entry_of (map request_for (in_turn ps))) ≡ over f i (map entry_for ps)
turn_over f i ps =
    over_requests f i (in_turn ps) ∙ turn_sum (λ (n : NamedPart). part f i (entry_for n.part)) ps ∙ part_sum (λ (p : SentPart). part f i (entry_for p)) 0 ps ∙ sym (over-map f i entry_for ps)

same_row : (topped i : ℕ) (es fs : List Entry) → over reserved_of i es ≡ over reserved_of i fs → over charged_of i es ≡ over charged_of i fs → over returned_of i es ≡ over returned_of i fs
    → row_of topped i es ≡ row_of topped i fs
same_row topped i es fs a b c = rw (a, b, c) refl

module _ (most : ℕ) (credits : List ℕ) (parts : List SentPart) (can : CanRun most credits parts) where
  abbrev requests : List Request
  requests = map request_for (in_turn parts)

  abbrev after : ℕ
  after = attempts_in parts + 1

  abbrev first : State
  first = new_world (length credits) 1 most

  abbrev last : State
  last = idle most credits requests after

  attempts_are : sum_by length_in (in_turn parts) ≡ attempts_in parts
  attempts_are = turn_sum length_in parts ∙ part_sum (λ (p : SentPart). length p.attempts) 0 parts

  ups : AllDone first (top_ups 0 credits) (idle most credits [] 1)
  ups = topped_up most [] credits 0 refl can.topped

  apart : AreApart [] (in_turn parts)
  apart id = let few = turn_names id parts in omega arith

  all : AllDone (standing most credits [] 1 Empty) (parts_events most 1 (in_turn parts)) (standing most credits requests after Empty)
  all =
      several_done most credits [] (in_turn parts) 1 (attempts_in parts + 1) (let sums = attempts_are in omega arith) can.limits.an_attempt (turn_all (CanBeSent most credits) parts can.each) apart
      (turn_free most credits parts can.each can.used) (let few = can.numbers in omega arith)

  behind : AllDone (idle most credits [] 1) (Claim 0 0 ∷ (parts_events most 1 (in_turn parts) ++ (Release 0 0 ∷ []))) last
  behind = (
    standing most credits [] 1 Empty,
    claim_done most credits [] 1,
    done_append (standing most credits [] 1 Empty) (standing most credits requests after Empty) last (parts_events most 1 (in_turn parts)) (Release 0 0 ∷ []) all (last, release_done most credits requests after, refl),
  )

  done : AllDone first (schedule_of most credits parts) last
  done = done_append first (idle most credits [] 1) last (top_ups 0 credits) (Claim 0 0 ∷ (parts_events most 1 (in_turn parts) ++ (Release 0 0 ∷ []))) ups behind

pub parts_are_a_run : PartsAreARun
parts_are_a_run most credits parts can = record {
  world = last most credits parts can;
  runs = runs_of (first most credits parts can) (schedule_of most credits parts) (last most credits parts can) (done most credits parts can);
  topped = refl;
  rows_are = λ i inside.
      rw (lt-ltb i (length credits) inside) (ap Some (same_row (get_or credits i 0) i (map entry_of (map request_for (in_turn parts))) (map entry_for parts) (turn_over reserved_of i parts) (turn_over charged_of i parts) (turn_over returned_of i parts)));
  requests = λ i p there. turn_found parts i p there;
  each = length-map (in_turn parts) request_for ∙ turn_length parts;
  held = refl;
  next = refl;
}
