-- What a reader of a bind did with what it read, from the contract of its call.
use Rattle.std.proofs.Common.{Bool, ◌≡◌, ◌<◌, ◌≤◌, ◌-◌, ◌*◌, ◌^◌, ◌++◌, ◌∙◌, ℕ, List, Option, map, ap, refl, subst, arith}
use Rattle.std.specs.List.{concat, AllZip}
use Rattle.rtrb.specs.Ring.{SameProducer, sent}
use Rattle.sms_pdu.specs.declared.tap.Tap.{Tap}
use Rattle.sms_pdu.specs.Devices.{device, faults_of}
use Rattle.sms_pdu.specs.Turn.{most_piece, GaveAtMost}
use Rattle.sms_bind.specs.declared.ending.ReaderEnd.{ReaderEnd}
use Rattle.sms_bind.specs.Ends.{HandsOn}
use Rattle.sms_bind.specs.Follows.{most_held}
use Rattle.sms_bind.specs.Held.{Held}
use Rattle.sms_bind.specs.Turns.{ReadUntil, Stops, TookTurns}
use Rattle.sms_driver.specs.declared.start_gate.Command.{Command}
use Rattle.sms_driver.specs.declared.start_gate.Command.TheVariants.{Go, Leave}
use Rattle.sms_driver.specs.Reads.{HasRead, Reading}
use Rattle.sms_driver.proofs.Refusals.{some_counted}

-- of a device that had answered no error, over an input that had what the given reader had
pub has_read : {Rd In : Type 0} (turns : ℕ) (remaining : Rd → Option (List ℕ)) (left_in : In → Option (List ℕ)) (given : Reading Rd) (old new : Tap In) (held : Held) (end : ReaderEnd) (keeps : Bool) → left_in (device old) ≡ remaining (device given.reader) → faults_of old ≡ 0 → turns ≤ 2 ^ 40
    → AllZip SameProducer given.rings end.producers.items
    → HandsOn keeps given.bound.session (concat given.bound.frames ++ given.bound.framer) (left_in (device old)) (left_in (device new)) (map sent given.rings) (map sent end.producers.items) held end
    → held.most ≡ most_held given.follow.limit → ReadUntil left_in turns end.errors end.cause old new → (r : HasRead turns remaining given end) × (r.keeps ≡ keeps)
has_read turns remaining left_in given old new held end keeps there none few rings hands follows read =
    let left = left_in (device new) in (
      record {
        same = rings;
        left = left;
        held = held;
        keeps = keeps;
        hands = subst (λ (r : Option (List ℕ)). HandsOn keeps given.bound.session (concat given.bound.frames ++ given.bound.framer) r left (map sent given.rings) (map sent end.producers.items) held end) there hands;
        follows = follows;
        most = subst (λ (r : Option (List ℕ)). GaveAtMost (most_piece * turns) r left) there read.turned.most;
        took = λ e. subst (λ (r : Option (List ℕ)). TookTurns turns end.errors r left) there (read.took (omega (arith, none, few)) e);
        stopped = λ seen e. subst (λ (r : Option (List ℕ)). Stops turns r left) there (read.stopped seen e);
        ended = λ e. read.end e;
        fault = λ e. some_more (faults_of old) (faults_of new) end.errors none read.errors_counted (some_counted _ _ none (read.fault e));
      },
      refl,
    )
  where
    some_more : (a b n : ℕ) → a ≡ 0 → n ≡ b - a → 0 < b → 0 < n
    some_more a b n zero is more = omega arith

-- one command was given
pub not_leave : (command : Command) → Go ≡ command → command ≡ Leave → ⊥
not_leave command go leave = let both : Go ≡ Leave = go ∙ leave in absurd cc
