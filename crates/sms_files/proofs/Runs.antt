-- How the records of a file after its first are told from faulty ones, one at a time.
use Rattle.std.proofs.Common.{◌≡◌, ◌∙◌, sym, refl, ap, ℕ, ◌+◌, ◌<◌, ◌≤◌, inl, inr, Bool, true, false, List, [], ◌∷◌, ◌++◌, Option, Some, None, IfSome, arith, append_assoc, Result, Ok, Err, IfErr}
use Rattle.std.specs.List.{AllZip}
use Rattle.std.specs.Prelude.{nat_le}
use Rattle.std.specs.Result.{IsErrAnd}
use Rattle.std.proofs.lemmas.Bool.Decides.{nat_tests}
use Rattle.std.proofs.lemmas.List.{append-nil}
use Rattle.sms_files.specs.Faults.{IsDevice}
use Rattle.sms_files.specs.Fields.{Record}
use Rattle.sms_files.specs.Records.{GivesFirst, IsBadRecord, IsReadAs, IsRowFault, TellsRecords, Trouble, record_fault}
use Rattle.sms_files.specs.declared.fault.InputFault.{InputFault}
use Rattle.sms_files.specs.declared.fault.InputFault.TheVariants.{OutOfMemory}
use Rattle.sms_files.specs.declared.fault.Source.{Source}
use Rattle.sms_files.specs.declared.flaw.Flaw.{Flaw}
use Rattle.sms_files.specs.declared.flaw.Flaw.TheVariants.{OneTooMany}
use Rattle.sms_files.specs.declared.tables.records.RowFault.{RowFault}
use Rattle.sms_files.specs.declared.tables.records.RowFault.TheVariants.{Flawed}
use Rattle.sms_files.specs.declared.tables.records.RowFault.TheVariants.{OutOfMemory as RowMemory}

-- what holds of a told value, whichever it is
pub if_known : {A : Type 0} (o : Option A) (P : A → Type 0) → ((x : A) → o ≡ Some x → P x) → IfSome o P
if_known None P h = tt
if_known (Some x) P h = h x refl

pub at_known : {A : Type 0} (o : Option A) (P : A → Type 0) (x : A) → IfSome o P → o ≡ Some x → P x
at_known o P x h e = rw e at h

pub first-found : (left : List Record) (found : Bool) (r : Record) (after : Option (List Record)) → GivesFirst left found r after → found ≡ true
    → (rest : List Record) × (left ≡ r ∷ rest) × (after ≡ Some rest)
first-found [] found r after h e = cc
first-found (first ∷ rest) found r after (_, is_first, left_is) e = (rest, ap (λ (x : Record). x ∷ rest) (sym is_first), left_is)

pub none-found : (left : List Record) (found : Bool) (r : Record) (after : Option (List Record)) → GivesFirst left found r after → found ≡ false → left ≡ []
none-found [] found r after h e = refl
none-found (first ∷ rest) found r after h e = let bad : true ≡ false = cc in cc

-- a read that found a record, at records that are told
pub next-found : (o : Option (List Record)) (left : List Record) (found : Bool) (r : Record) (after : Option (List Record)) → o ≡ Some left
    → IfSome o (λ rs. GivesFirst rs found r after) → found ≡ true → (rest : List Record) × (left ≡ r ∷ rest) × (after ≡ Some rest)
next-found o left found r after known h e = first-found left found r after (rw known at h) e

-- the first faulty record, by the one that stands next

pub fault-bad : (flaw : Record → Option Flaw) (most before : ℕ) (r : Record) (rs : List Record) (is : Flaw) → before ≤ most → flaw r ≡ Some is
    → record_fault flaw most before (r ∷ rs) ≡ Some (before + 1, is)
fault-bad flaw most before r rs is low e = let h : nat_le before most ≡ true = grind (arith, nat_tests) in rw (h, e) refl

pub fault-good : (flaw : Record → Option Flaw) (most before : ℕ) (r : Record) (rs : List Record) → before ≤ most → flaw r ≡ None
    → record_fault flaw most before (r ∷ rs) ≡ record_fault flaw most (before + 1) rs
fault-good flaw most before r rs low e = let h : nat_le before most ≡ true = grind (arith, nat_tests) in rw (h, e) refl

pub fault-many : (flaw : Record → Option Flaw) (most before : ℕ) (r : Record) (rs : List Record) → most < before
    → record_fault flaw most before (r ∷ rs) ≡ Some (before + 1, OneTooMany)
fault-many flaw most before r rs high = let h : nat_le before most ≡ false = grind (arith, nat_tests) in rw h refl

-- one more of each of two lists
zip-push : {A B : Type 0} (R : A → B → Type 0) (xs : List A) (ys : List B) (x : A) (y : B) → AllZip R xs ys → R x y → AllZip R (xs ++ x ∷ []) (ys ++ y ∷ [])
zip-push R [] [] x y h p = (p, tt)
zip-push R [] (b ∷ bs) x y h p = absurd h
zip-push R (a ∷ more) [] x y h p = absurd h
zip-push R (a ∷ more) (b ∷ bs) x y h p = (h.0, zip-push R more bs x y h.1 p)

-- of the records that were left, some were read as these items, and others are left now; the first faulty one of all, if there is one, is
-- that of the others
pub record ReadSo {T : Type 0} (Says : Record → T → Type 0) (total : Option Trouble) (rest : List Record → Option Trouble) (left : List Record) (items : List T) (now : Option (List Record)) : Type 0 where
  pub front : List Record
  pub after : List Record
  pub known : now ≡ Some after
  pub whole : left ≡ front ++ after
  pub says : AllZip Says front items
  pub faulty : total ≡ rest after

-- the next record was read too
pub one-more : {T : Type 0} (Says : Record → T → Type 0) (total : Option Trouble) (rest next : List Record → Option Trouble) (left : List Record) (items pushed : List T) (x : T) (now after : Option (List Record)) (found : Bool) (r : Record)
    → ReadSo Says total rest left items now → IfSome now (λ rs. GivesFirst rs found r after) → found ≡ true → ((rs : List Record) → rest (r ∷ rs) ≡ next rs) → Says r x
    → pushed ≡ items ++ x ∷ [] → ReadSo Says total next left pushed after
one-more Says total rest next left items pushed x now after found r so h e goes says p =
    let (others, stood, left_are) = next-found now so.after found r after so.known h e in
    record {
      front = so.front ++ r ∷ [];
      after = others;
      known = left_are;
      whole = so.whole ∙ ap (λ (l : List Record). so.front ++ l) stood ∙ sym (append_assoc so.front (r ∷ []) others);
      says = rw p (zip-push Says so.front items r x so.says says);
      faulty = so.faulty ∙ ap rest stood ∙ goes others;
    }

-- no record is left
pub no-more : {T : Type 0} (Says : Record → T → Type 0) (total : Option Trouble) (rest : List Record → Option Trouble) (left : List Record) (items : List T) (now after : Option (List Record)) (found : Bool) (r : Record)
    → ReadSo Says total rest left items now → IfSome now (λ rs. GivesFirst rs found r after) → found ≡ false → rest [] ≡ None
    → AllZip Says left items × (total ≡ None)
no-more Says total rest left items now after found r so h e ends =
    let none = none-found so.after found r after (at_known now (λ rs. GivesFirst rs found r after) so.after h so.known) e in
    let all : left ≡ so.front = so.whole ∙ ap (λ (l : List Record). so.front ++ l) none ∙ append-nil so.front in
    (rw all so.says, so.faulty ∙ ap rest none ∙ ends)

-- the next record is the first faulty one
pub bad-next : {T : Type 0} (Says : Record → T → Type 0) (total : Option Trouble) (rest : List Record → Option Trouble) (trouble : Trouble) (left : List Record) (items : List T) (now after : Option (List Record)) (found : Bool) (r : Record)
    → ReadSo Says total rest left items now → IfSome now (λ rs. GivesFirst rs found r after) → found ≡ true → ((rs : List Record) → rest (r ∷ rs) ≡ Some trouble)
    → total ≡ Some trouble
bad-next Says total rest trouble left items now after found r so h e bad =
    let f = next-found now so.after found r after so.known h e in
    so.faulty ∙ ap rest f.1 ∙ bad f.0

-- a fault of the device tells nothing of the records
pub device-tells : (source : Source) (o : Option (List Record)) (faulty : List Record → Option Trouble) (f : InputFault) → IsDevice source f → IfSome o (λ left. TellsRecords source (faulty left) f)
device-tells source o faulty f h = if_known o (λ left. TellsRecords source (faulty left) f) (λ left known. inl h)

-- what holds of a fault holds of it when it is told
pub told_so : {T E : Type 0} (r : Result T E) (e : E) (P : E → Type 0) → IsErrAnd r (λ f. f ≡ e) → P e → IfErr r P
told_so (Ok x) e P h p = tt
told_so (Err f) e P h p = rw h p

-- so of memory that was refused
pub refused : {T : Type 0} (r : Result T InputFault) (P : InputFault → Type 0) → IsErrAnd r (λ f. f ≡ OutOfMemory tt) → P (OutOfMemory tt) → IfErr r P
refused r P h p = told_so r (OutOfMemory tt) P h p

-- what was read of a record, by cases
pub flaw-read : {T : Type 0} (flaw : Record → Option Flaw) (Says : Record → T → Type 0) (r : Record) (o : Result T RowFault) (fault : RowFault) (is : Flaw) → IsReadAs flaw Says r o → o ≡ Err fault → fault ≡ Flawed is
    → flaw r ≡ Some is
flaw-read flaw Says r o fault is h e f = rw (e, f) at h

pub was-read : {T : Type 0} (flaw : Record → Option Flaw) (Says : Record → T → Type 0) (r : Record) (o : Result T RowFault) (x : T) → IsReadAs flaw Says r o → o ≡ Ok x → (flaw r ≡ None) × Says r x
was-read flaw Says r o x h e = rw e at h

-- the fault of a record that is the first faulty one
pub names-record : (source : Source) (place : ℕ) (flaw : Flaw) (faulty : Option Trouble) (f : InputFault) → IsBadRecord source place flaw f → faulty ≡ Some (place, flaw) → TellsRecords source faulty f
names-record source place flaw faulty f bad is = inr (place, flaw, bad, is)

pub names-row : (source : Source) (place : ℕ) (fault : RowFault) (faulty : Option Trouble) (f : InputFault) → IsRowFault source place fault f
    → ((flaw : Flaw) → fault ≡ Flawed flaw → faulty ≡ Some (place, flaw)) → TellsRecords source faulty f
names-row source place (Flawed flaw) faulty f bad is = names-record source place flaw faulty f bad (is flaw refl)
names-row source place (RowMemory _) faulty f memory is = inl (inr memory)
