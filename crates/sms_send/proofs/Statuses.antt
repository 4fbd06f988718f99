-- Which exit status a sending may have.
use Rattle.std.proofs.Common.{◌≡◌, inl, inr, refl, ℕ, Bool, true, false, List}
use Rattle.std.specs.Prelude.{◌==◌, ◌&&◌, not, if◌then◌else◌}
use Rattle.sms_files.specs.Report.{ends_status, some_unanswered}
use Rattle.sms_files.specs.Whole.{are_whole}
use Rattle.sms_send.specs.Statuses.{IsStatusBy, status_by}
use Rattle.sms_message.specs.declared.ends.MessageEnd.{MessageEnd}

by_segments : (strict b : Bool) (status : ℕ) → status ≡ (if b then 4 else 0) → IsStatusBy strict status
by_segments strict true status is = inl (inr is)
by_segments strict false status is = inl (inl is)

of_parts : {S : Type 0} (strict b : Bool) (ends : List (MessageEnd S)) (status : ℕ) → status ≡ (if strict && b then 5 else ends_status ends) → IsStatusBy strict status
of_parts true true ends status is = inr (refl, is)
of_parts true false ends status is = by_segments true (some_unanswered ends) status is
of_parts false b ends status is = by_segments false (some_unanswered ends) status is

pub is_status : {S : Type 0} (strict : Bool) (ends : List (MessageEnd S)) (status : ℕ) → status ≡ status_by strict ends → IsStatusBy strict status
is_status strict ends status is = of_parts strict (ends_status ends == 0 && not (are_whole ends)) ends status is
