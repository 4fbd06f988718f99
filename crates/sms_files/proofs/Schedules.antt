-- The worlds that the records of a schedule stand for.
use Rattle.std.proofs.Common.{◌≡◌, ◌≤◌, refl, ℕ, inl, inr, Bool, true, false, List, Option, Some, None, IfSome}
use Rattle.std.specs.Prelude.{Result, Ok, Err, nat_le}
use Rattle.std.proofs.lemmas.Bool.{leb-true}
use Rattle.sms_core.specs.Limits.{most_accounts, most_attempts, most_slots}
use Rattle.sms_core.specs.State.{AreLimits, State, new_world}
use Rattle.sms_pdu.proofs.Bodies.{both_true}
use Rattle.sms_files.specs.Fields.{Record}
use Rattle.sms_files.specs.Records.{GivesFirst, IsRowFault, TellsRecords}
use Rattle.sms_files.specs.Schedule.{MakesWorld, event_flaw, limits_flaw, limits_of, most_events, schedule_fault, within, world_flaw, world_of}
use Rattle.sms_files.specs.declared.fault.InputFault.{InputFault}
use Rattle.sms_files.specs.declared.fault.Source.TheVariants.{Schedule}
use Rattle.sms_files.specs.declared.flaw.Flaw.{Flaw}
use Rattle.sms_files.specs.declared.flaw.Flaw.TheVariants.{NotNumber}
use Rattle.sms_files.specs.declared.tables.records.RowFault.{RowFault}
use Rattle.sms_files.specs.declared.tables.records.RowFault.TheVariants.{Flawed, OutOfMemory}
use Rattle.sms_files.proofs.Files.{bad-first}
use Rattle.sms_files.proofs.Runs.{if_known}

within-true : (most n : ℕ) → within most n ≡ true → (1 ≤ n) × (n ≤ most)
within-true most n h = let (low, high) = both_true (nat_le 1 n) (nat_le n most) h in (leb-true 1 n low, leb-true n most high)

-- limits without a flaw are in range
pub limits-good : (a l t : ℕ) → limits_flaw a l t ≡ None → AreLimits a l t
limits-good a l t h = by (within most_accounts a) (within most_slots l) (within most_attempts t) refl refl refl
  where
    by : (x y z : Bool) → within most_accounts a ≡ x → within most_slots l ≡ y → within most_attempts t ≡ z → AreLimits a l t
    by true true true p q r =
        let (an_account, few_accounts) = within-true most_accounts a p in
        let (a_slot, few_slots) = within-true most_slots l q in
        let (an_attempt, few_attempts) = within-true most_attempts t r in
        record { an_account = an_account; few_accounts = few_accounts; a_slot = a_slot; few_slots = few_slots; an_attempt = an_attempt; few_attempts = few_attempts }
    by true true false p q r = let bad : limits_flaw a l t ≡ Some (NotNumber 4) = rw (p, q, r) refl in cc
    by true false z p q r = let bad : limits_flaw a l t ≡ Some (NotNumber 3) = rw (p, q) refl in cc
    by false y z p q r = let bad : limits_flaw a l t ≡ Some (NotNumber 2) = rw p refl in cc

pub world-made : (r : Record) (a l t : ℕ) (w : State) → limits_of r ≡ Ok (a, l, t) → limits_flaw a l t ≡ None → w ≡ new_world a l t → world_of r ≡ Ok w
world-made r a l t w e good made = rw (e, good, made) refl

pub world-refused : (r : Record) (a l t : ℕ) (flaw : Flaw) → limits_of r ≡ Ok (a, l, t) → limits_flaw a l t ≡ Some flaw → world_of r ≡ Err flaw
world-refused r a l t flaw e bad = rw (e, bad) refl

pub no-limits : (r : Record) (flaw : Flaw) → limits_of r ≡ Err flaw → world_of r ≡ Err flaw
no-limits r flaw e = rw e refl

-- the flaw of a first record, by the world that it sets up
pub sets-up : (r : Record) (w : State) → world_of r ≡ Ok w → world_flaw r ≡ None
sets-up r w e = rw e refl

pub sets-none : (r : Record) (flaw : Flaw) → world_of r ≡ Err flaw → world_flaw r ≡ Some flaw
sets-none r flaw e = rw e refl

-- a first record that sets no world up is a fault of the schedule
pub bad-world : (left : Option (List Record)) (found : Bool) (r : Record) (after : Option (List Record)) (o : Result State RowFault) (fault : RowFault) (f : InputFault)
    → IfSome left (λ rs. GivesFirst rs found r after) → found ≡ true → MakesWorld r o → o ≡ Err fault → IsRowFault Schedule 1 fault f
    → IfSome left (λ rs. TellsRecords Schedule (schedule_fault rs) f)
bad-world left found r after o (Flawed flaw) f h e made is bad =
    bad-first Schedule world_flaw event_flaw most_events left found r after flaw f h e (sets-none r flaw (rw is at made)) bad
bad-world left found r after o (OutOfMemory _) f h e made is memory =
    if_known left (λ rs. TellsRecords Schedule (schedule_fault rs) f) (λ rs known. inl (inr memory))
