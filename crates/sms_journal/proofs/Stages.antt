-- How far the first records of a report are.
use Rattle.std.proofs.Common.{◌≡◌, ◌≢◌, ◌≤◌, ◌⊎◌, ◌∙◌, inr, refl, sym, ap, ℕ, zero, suc, ◌+◌, true, false, List, [], ◌∷◌, length, map, take, subst, Some, None, add-one, arith}
use Rattle.std.specs.Prelude.{Option, slice_get, string_bytes}
use Rattle.sms_book.specs.declared.opening.Opening.{Opening}
use Rattle.sms_core.specs.declared.row.Row.{Row}
use Rattle.sms_core.specs.Rows.{Entry, row_of}
use Rattle.sms_files.specs.Fields.{Record}
use Rattle.sms_files.proofs.Lists.{take_whole}
use Rattle.sms_journal.specs.declared.recovery.fault.RecoveryFault.{RecoveryFault}
use Rattle.sms_journal.specs.Faults.{out_of_memory}
use Rattle.sms_journal.specs.declared.recovery.fault.RecoveryFault.TheVariants.{Report}
use Rattle.sms_journal.specs.declared.rest.plan.Plan.{Plan}
use Rattle.sms_journal.specs.declared.rest.stage.Stage.{Stage}
use Rattle.sms_journal.specs.declared.rest.stage.Stage.TheVariants.{Rows, Start}
use Rattle.sms_journal.specs.RecordLines.{account_in}
use Rattle.sms_journal.specs.Stages.{AreRowsOf, IsAt, IsFirstFaulty, IsReport, Progress, after, start, step, step_by, with_row}

inside : {A : Type 0} (a b : A) → Some a ≡ Some b → a ≡ b
inside a b e = cc

-- ---- the row of an account

row_is : (openings : List Opening) (entries : List Entry) (rows : List Row) (done : ℕ) (o : Opening) (row : Row) → slice_get openings done ≡ Some o → slice_get rows done ≡ Some row → AreRowsOf openings entries rows
    → row ≡ row_of o.credits done entries
row_is openings entries rows done o row e f are = inside row (row_of o.credits done entries) (sym f ∙ are.each done o e)

pub row_missing : (openings : List Opening) (entries : List Entry) (rows : List Row) (done : ℕ) (o : Opening) → slice_get openings done ≡ Some o → slice_get rows done ≡ None → AreRowsOf openings entries rows → ⊥
row_missing openings entries rows done o e f are = let no : None ≡ Some (row_of o.credits done entries) = sym f ∙ are.each done o e in absurd (cc)

pub row_stands : (openings : List Opening) (entries : List Entry) (rows : List Row) (done : ℕ) (o : Opening) (row : Row) (r : Record) → slice_get openings done ≡ Some o → slice_get rows done ≡ Some row
    → account_in (string_bytes o.name) row r ≡ true → AreRowsOf openings entries rows → IsAt openings (with_row entries done (slice_get openings done) r) (Some (Rows (done + 1))) rows
row_stands openings entries rows done o row r e f is are =
    let good : account_in (string_bytes o.name) (row_of o.credits done entries) r ≡ true = subst (λ (it : Row). account_in (string_bytes o.name) it r ≡ true) (row_is openings entries rows done o row e f are) is in
    rw (e, good) (refl, are)

pub row_differs : (openings : List Opening) (entries : List Entry) (rows : List Row) (done : ℕ) (o : Opening) (row : Row) (r : Record) → slice_get openings done ≡ Some o → slice_get rows done ≡ Some row
    → account_in (string_bytes o.name) row r ≡ false → AreRowsOf openings entries rows → IsAt openings (with_row entries done (slice_get openings done) r) None rows
row_differs openings entries rows done o row r e f is are =
    let bad : account_in (string_bytes o.name) (row_of o.credits done entries) r ≡ false = subst (λ (it : Row). account_in (string_bytes o.name) it r ≡ false) (row_is openings entries rows done o row e f are) is in
    rw (e, bad) refl

-- ---- one record more

more : (most : ℕ) (plans : List Plan) (openings : List Opening) (from : Progress) (rs : List Record) (k : ℕ) (r : Record) (at next : Progress) → after most plans openings from (take k rs) ≡ Some at → slice_get rs k ≡ Some r
    → step most plans openings r at ≡ Some next → after most plans openings from (take (suc k) rs) ≡ Some next
more most plans openings from [] k r at next h e s = absurd (cc)
more most plans openings from (x ∷ xs) zero r at next h e s =
    let same : x ≡ r = inside x r e in
    let there : from ≡ at = inside from at h in
    let it : step most plans openings x from ≡ Some next = rw (same, there) s in
    rw it refl
more most plans openings from (x ∷ xs) (suc k) r at next h e s =
    by (step most plans openings x from) refl (λ mid first. more most plans openings mid xs k r at next first e s)
  where
    by : (o : Option Progress) → step most plans openings x from ≡ o
        → ((mid : Progress) → after most plans openings mid (take k xs) ≡ Some at → after most plans openings mid (take (suc k) xs) ≡ Some next)
        → after most plans openings from (take (suc (suc k)) (x ∷ xs)) ≡ Some next
    by None p rest = let none : None ≡ Some at = rw p at h in absurd (cc)
    by (Some mid) p rest = rw p (rest mid (rw p at h))

-- what the code has read so far
pub record HasRead (most : ℕ) (plans : List Plan) (openings : List Opening) (rs : List Record) (k : ℕ) (stage : Stage) (rows : List Row) : Type 0 where
  pub entries : List Entry
  pub front : after most plans openings start (take k rs) ≡ Some (record { stage = stage; entries = entries })
  pub are : AreRowsOf openings entries rows

pub nothing_read : (most : ℕ) (plans : List Plan) (openings : List Opening) (rs : List Record) (rows : List Row) → AreRowsOf openings [] rows → HasRead most plans openings rs 0 Start rows
nothing_read most plans openings [] rows are = record { entries = []; front = refl; are = are }
nothing_read most plans openings (r ∷ rs) rows are = record { entries = []; front = refl; are = are }

-- what a step of the code gives, whatever the entries are
abbrev pub Steps : ℕ → List Plan → List Opening → Record → Stage → List Row → Option Stage → List Row → Type 0
Steps most plans openings r stage rows result news = (entries : List Entry) → AreRowsOf openings entries rows → IsAt openings (step_by most plans openings r entries stage) result news

module _ {A : Type 0} (f : A → Record) where
  pub got : (xs : List A) (k : ℕ) (x : A) → slice_get xs k ≡ Some x → slice_get (map f xs) k ≡ Some (f x)
  got [] k x e = absurd (cc)
  got (y ∷ ys) zero x e = ap (λ (a : A). Some (f a)) (inside y x e)
  got (y ∷ ys) (suc k) x e = got ys k x e

  pub as_many : (xs : List A) → length (map f xs) ≡ length xs
  as_many [] = refl
  as_many (x ∷ xs) = ap suc (as_many xs)

  pub none_behind : (xs : List A) (k : ℕ) → length xs ≤ k → slice_get (map f xs) k ≡ None
  none_behind [] k h = refl
  none_behind (x ∷ xs) zero h = absurd (omega (arith, h))
  none_behind (x ∷ xs) (suc k) h = none_behind xs k (omega (arith, h))

  pub stage_more : (most : ℕ) (plans : List Plan) (openings : List Opening) (xs : List A) (k : ℕ) (x : A) (stage next : Stage) (rows news : List Row) (result : Option Stage)
      → HasRead most plans openings (map f xs) k stage rows → slice_get xs k ≡ Some x → Steps most plans openings (f x) stage rows result news → result ≡ Some next
      → HasRead most plans openings (map f xs) (k + 1) next news
  stage_more most plans openings xs k x stage next rows news result h e steps is = by (step_by most plans openings (f x) h.entries stage) refl (steps h.entries h.are)
    where
      by : (o : Option Progress) → step_by most plans openings (f x) h.entries stage ≡ o → IsAt openings o result news → HasRead most plans openings (map f xs) (k + 1) next news
      by None p it = let no : Some next ≡ None = sym is ∙ it in absurd (cc)
      by (Some at) p it =
          let same : at.stage ≡ next = inside at.stage next (sym it.0 ∙ is) in
          record {
            entries = at.entries;
            front = rw (add-one k) (more most plans openings start (map f xs) k (f x) (record { stage = stage; entries = h.entries }) (record { stage = next; entries = at.entries }) h.front (got xs k x e)
                (p ∙ ap (λ (s : Stage). Some (record { stage = s; entries = at.entries })) same));
            are = it.1;
          }

  pub faulty_at : (most : ℕ) (plans : List Plan) (openings : List Opening) (xs : List A) (k : ℕ) (x : A) (stage : Stage) (rows news : List Row) (result : Option Stage)
      → HasRead most plans openings (map f xs) k stage rows → slice_get xs k ≡ Some x → k ≤ length xs → Steps most plans openings (f x) stage rows result news → result ≡ None
      → IsFirstFaulty most plans openings (map f xs) (k + 1)
  faulty_at most plans openings xs k x stage rows news result h e low steps is = by (step_by most plans openings (f x) h.entries stage) refl (steps h.entries h.are)
    where
      by : (o : Option Progress) → step_by most plans openings (f x) h.entries stage ≡ o → IsAt openings o result news → IsFirstFaulty most plans openings (map f xs) (k + 1)
      by None p it = record {
        before = k;
        number = refl;
        within = let long = as_many xs in omega (arith, long, low);
        at = record { stage = stage; entries = h.entries };
        front = h.front;
        stops = rw (got xs k x e) p;
      }
      by (Some at) p it = let no : None ≡ Some at.stage = sym is ∙ it.0 in absurd (cc)

  all_read : (most : ℕ) (plans : List Plan) (openings : List Opening) (xs : List A) (k : ℕ) (at : Progress) → after most plans openings start (take k (map f xs)) ≡ Some at → length xs ≤ k
      → after most plans openings start (map f xs) ≡ Some at
  all_read most plans openings xs k at h high = let long = as_many xs in rw (← take_whole (map f xs) k (omega (arith, long, high))) h

  pub whole_report : (most : ℕ) (plans : List Plan) (openings : List Opening) (xs : List A) (k : ℕ) (stage : Stage) (rows : List Row) → HasRead most plans openings (map f xs) k stage rows → length xs ≤ k
      → stage ≡ Rows (length openings) → IsReport most plans openings (map f xs)
  whole_report most plans openings xs k stage rows h high is = record {
    end = record { stage = stage; entries = h.entries };
    read = all_read most plans openings xs k (record { stage = stage; entries = h.entries }) h.front high;
    whole = is;
  }

  pub missing_at : (most : ℕ) (plans : List Plan) (openings : List Opening) (xs : List A) (k : ℕ) (stage : Stage) (rows : List Row) → HasRead most plans openings (map f xs) k stage rows → length xs ≤ k
      → stage ≢ Rows (length openings) → IsFirstFaulty most plans openings (map f xs) (length xs + 1)
  missing_at most plans openings xs k stage rows h high other = record {
    before = length xs;
    number = refl;
    within = let long = as_many xs in omega (arith, long);
    at = record { stage = stage; entries = h.entries };
    front = let long = as_many xs in rw (take_whole (map f xs) (length xs) (omega (arith, long))) (all_read most plans openings xs k (record { stage = stage; entries = h.entries }) h.front high);
    stops = rw (none_behind xs (length xs) (omega arith)) other;
  }

-- the fault of a faulty record
pub at_fault : (most : ℕ) (plans : List Plan) (openings : List Opening) (rs : List Record) (fault : RecoveryFault) (before : ℕ) → fault ≡ Report (before + 1)
    → IsFirstFaulty most plans openings rs (before + 1) → (fault ≡ out_of_memory) ⊎ ((k : ℕ) × (fault ≡ Report k) × IsFirstFaulty most plans openings rs k)
at_fault most plans openings rs fault before is h = inr (before + 1, is, h)
