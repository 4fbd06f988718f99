-- The numbers of a bind's attempts, from those that its workers' seats drew.
use Rattle.std.proofs.Common.{◌≡◌, ◌+◌, ◌==◌, ◌++◌, ◌≤◌, ◌<◌, ℕ, zero, suc, Bool, true, false, List, [], ◌∷◌, length, map, Some, refl, sym, ap, ◌∙◌, subst, arith, eq-eqb, ne_eqb}
use Rattle.std.specs.Prelude.{slice_get, drop, if◌then◌else◌}
use mathlib.Core.Logic.{dite}
use native.Mathlib.Decide.{ℕ_discrete}
use Rattle.std.specs.List.{AllByRecursion, AllZip}
use Rattle.sms_core.specs.Numbers.{times, AllBelow}
use Rattle.sms_window.specs.declared.view.View.{View}
use Rattle.sms_window.specs.Rule.{numbers_of}
use Rattle.sms_worker.specs.Apart.{IsAttempt, NumbersApart}
use Rattle.sms_message.specs.Ends.{segments_in, segment_at, total, total_in, uses}
use Rattle.sms_worker.specs.Told.{Drew}
use Rattle.sms_worker.specs.Types.{Attempt, SegmentEnd, MessageEnd}
use Rattle.sms_book.specs.Name.{BookId}
use Rattle.sms_message.specs.declared.message.Message.{Message}
use Rattle.sms_message.specs.declared.rules.Rules.{Rules}
use Rattle.sms_worker.specs.declared.entry.work.WorkerEnd.{WorkerEnd}
use Rattle.sms_worker.specs.ReadyState.{ReadyState}
use Rattle.sms_driver.specs.declared.bind_end.BindEnd.{BindEnd}
use Rattle.sms_driver.specs.Answered.{ends_at}
use Rattle.sms_driver.specs.Seated.{of_bind}
use Rattle.sms_driver.specs.Numbered.{NumbersDiffer, AreBelow, AreNumbered, DrewBelow, HasNumbers, DrewOnce, AllDrewOnce}
use Rattle.sms_driver.specs.Worked.{IsWorkOf}
use Rattle.sms_driver.proofs.Answering.{ends_within}
use Rattle.sms_driver.proofs.Grouping.{zip_take, zip_drop}

pub times_both : (n : ℕ) (xs ys : List ℕ) → times n (xs ++ ys) ≡ times n xs + times n ys
times_both n [] ys = omega arith
times_both n (x ∷ xs) ys = omega (arith, times_both n xs ys)

-- a part's numbers are counted in the sum over all
in_part : (n : ℕ) (ss : List SegmentEnd) (p : ℕ) (s : SegmentEnd) → slice_get ss p ≡ Some s → uses n s ≤ total_in (uses n) ss
in_part n [] p s at = absurd (cc)
in_part n (x ∷ ss) zero s at = let same : x ≡ s = cc in let e : uses n x ≡ uses n s = ap (uses n) same in omega arith
in_part n (x ∷ ss) (suc p) s at = let h = in_part n ss p s at in omega arith

in_all : (n : ℕ) (ms : List Message) (es : List MessageEnd) (k p : ℕ) (s : SegmentEnd) → length es ≤ length ms → segment_at es k p ≡ Some s → uses n s ≤ total (λ m s. uses n s) ms es
in_all n ms [] k p s long at = absurd (cc)
in_all n [] (e ∷ es) k p s long at = absurd (omega arith)
in_all n (m ∷ ms) (e ∷ es) zero p s long at = let h = in_part n (segments_in e.result) p s at in omega arith
in_all n (m ∷ ms) (e ∷ es) (suc k) p s long at = let h = in_all n ms es k p s (omega arith) at in omega arith

counts_one : (x n : ℕ) → x ≡ n → times n (x ∷ []) ≡ 1
counts_one x n e = rw (eq-eqb x n e) (omega arith)

in_attempts : (xs : List Attempt) (i : ℕ) (a : Attempt) → slice_get xs i ≡ Some a → 1 ≤ times a.number (map (λ (y : Attempt). y.number) xs)
in_attempts [] i a at = absurd (cc)
in_attempts (x ∷ xs) zero a at = let same : x ≡ a = cc in let c = counts_one x.number a.number (ap (λ (y : Attempt). y.number) same) in omega arith
in_attempts (x ∷ xs) (suc i) a at = let h = in_attempts xs i a at in omega arith

has_numbers : (before v : View) (ms : List Message) (es : List MessageEnd) → length es ≤ length ms → Drew before v ms es → NumbersApart es → HasNumbers v es
has_numbers before v ms es long drew apart = record { apart = apart; drawn = one }
  where
    one : (k p i : ℕ) (a : Attempt) → IsAttempt es k p i a → 1 ≤ times a.number v.numbers
    one k p i a is =
        let n = a.number in
        let some = in_attempts is.segment.attempts i a is.has in
        let all = in_all n ms es k p is.segment long is.there in
        let used = drew.used n in
        let e : v.numbers ≡ before.numbers ++ drew.drawn = ap (λ (x : View). x.numbers) drew.has.after in
        let t : times n v.numbers ≡ times n before.numbers + times n drew.drawn = ap (times n) e ∙ times_both n before.numbers drew.drawn in
        omega arith

-- so each worker's seat has its attempts' numbers
pub all_numbers : {N : Type 0} (book : BookId) (rules : Rules) (js : List (ReadyState N)) (ds : List (WorkerEnd N)) → AllZip (IsWorkOf book rules) js ds → AllByRecursion (λ d. HasNumbers d.seat.view d.ends.items) ds
all_numbers book rules [] [] z = tt
all_numbers book rules [] (d ∷ ds) z = absurd z
all_numbers book rules (j ∷ js) [] z = absurd z
all_numbers book rules (j ∷ js) (d ∷ ds) z =
    let p = z.0 in
    (has_numbers _ d.seat.view j.messages d.ends.items (ends_within rules _ j.messages d.ends.items p.worked.ends) p.numbers p.apart, all_numbers book rules js ds z.1)

one_in : (x es : List MessageEnd) (k p i : ℕ) (a : Attempt) → Some x ≡ Some es → IsAttempt es k p i a → IsAttempt x k p i a
one_in x es k p i a at is = let e : x ≡ es = cc in subst (λ (l : List MessageEnd). IsAttempt l k p i a) (sym e) is

-- an attempt of any of the workers has its number from one of the seats
some_drew : (vs : List View) (ess : List (List MessageEnd)) → AllZip HasNumbers vs ess → (w : ℕ) (es : List MessageEnd) → slice_get ess w ≡ Some es → (k p i : ℕ) (a : Attempt) → IsAttempt es k p i a → 1 ≤ times a.number (numbers_of vs)
some_drew [] [] z w es at k p i a is = absurd (cc)
some_drew [] (x ∷ ess) z w es at k p i a is = absurd z
some_drew (v ∷ vs) [] z w es at k p i a is = absurd z
some_drew (v ∷ vs) (x ∷ ess) z zero es at k p i a is =
    let h = z.0.drawn k p i a (one_in x es k p i a at is) in
    let t = times_both a.number v.numbers (numbers_of vs) in
    omega arith
some_drew (v ∷ vs) (x ∷ ess) z (suc w) es at k p i a is =
    let h = some_drew vs ess z.1 w es at k p i a is in
    let t = times_both a.number v.numbers (numbers_of vs) in
    omega arith

-- one seat alone drew a number
apart_at : (vs : List View) (ess : List (List MessageEnd)) → AllZip HasNumbers vs ess → DrewOnce vs → (w w' : ℕ) (es es' : List MessageEnd) → slice_get ess w ≡ Some es → slice_get ess w' ≡ Some es' → (k p i k' p' i' : ℕ) (a b : Attempt)
    → IsAttempt es k p i a → IsAttempt es' k' p' i' b → a.number ≡ b.number → (w ≡ w') × (k ≡ k') × (p ≡ p') × (i ≡ i')
apart_at [] [] z once w w' es es' at at' k p i k' p' i' a b is is' same = absurd (cc)
apart_at [] (x ∷ ess) z once w w' es es' at at' k p i k' p' i' a b is is' same = absurd z
apart_at (v ∷ vs) [] z once w w' es es' at at' k p i k' p' i' a b is is' same = absurd z
apart_at (v ∷ vs) (x ∷ ess) z once zero zero es es' at at' k p i k' p' i' a b is is' same =
    let one = z.0.apart k p i k' p' i' a b (one_in x es k p i a at is) (one_in x es' k' p' i' b at' is') same in
    (refl, one.0, one.1, one.2)
apart_at (v ∷ vs) (x ∷ ess) z once zero (suc w') es es' at at' k p i k' p' i' a b is is' same =
    let first = z.0.drawn k p i a (one_in x es k p i a at is) in
    let later = subst (λ (n : ℕ). 1 ≤ times n (numbers_of vs)) (sym same) (some_drew vs ess z.1 w' es' at' k' p' i' b is') in
    let t = times_both a.number v.numbers (numbers_of vs) in
    let o = once a.number in
    absurd (omega arith)
apart_at (v ∷ vs) (x ∷ ess) z once (suc w) zero es es' at at' k p i k' p' i' a b is is' same =
    let first = z.0.drawn k' p' i' b (one_in x es' k' p' i' b at' is') in
    let later = subst (λ (n : ℕ). 1 ≤ times n (numbers_of vs)) same (some_drew vs ess z.1 w es at k p i a is) in
    let t = times_both b.number v.numbers (numbers_of vs) in
    let o = once b.number in
    absurd (omega arith)
apart_at (v ∷ vs) (x ∷ ess) z once (suc w) (suc w') es es' at at' k p i k' p' i' a b is is' same =
    let rest : DrewOnce vs = λ n. let t = times_both n v.numbers (numbers_of vs) in let o = once n in omega arith in
    let one = apart_at vs ess z.1 rest w w' es es' at at' k p i k' p' i' a b is is' same in
    (ap suc one.0, one.1, one.2, one.3)

differ : (vs : List View) (ess : List (List MessageEnd)) → AllZip HasNumbers vs ess → DrewOnce vs → NumbersDiffer ess
differ vs ess z once a b same = apart_at vs ess z once a.worker b.worker a.ends b.ends a.theirs b.theirs a.message a.part a.attempt b.message b.part b.attempt a.one b.one a.is b.is same

pub zip_of_bind : {A B : Type 0} (R : A → B → Type 0) (workers bind : ℕ) (xs : List A) (ys : List B) → AllZip R xs ys → AllZip R (of_bind workers bind xs) (of_bind workers bind ys)
zip_of_bind R workers zero xs ys z = zip_take R workers xs ys z
zip_of_bind R workers (suc bind) xs ys z = zip_of_bind R workers bind (drop workers xs) (drop workers ys) (zip_drop R workers xs ys z)

-- bind by bind
pub are_numbered : (binds workers : ℕ) (vs : List View) (ess : List (List MessageEnd)) → AllZip HasNumbers vs ess → AllDrewOnce binds workers vs → AreNumbered binds workers ess
are_numbered binds workers vs ess z once bind low = differ (of_bind workers bind vs) (ends_at workers bind ess) (zip_of_bind HasNumbers workers bind vs ess z) (once bind low)

passed : (b : Bool) (m : ℕ) → b ≡ false → 1 ≤ (if b then 1 else 0) + m → 1 ≤ m
passed true m e h = absurd (cc)
passed false m e h = omega arith

low_in : (n top : ℕ) (xs : List ℕ) → AllBelow top xs → 1 ≤ times n xs → n < top
low_in n top [] b h = absurd (omega arith)
low_in n top (x ∷ xs) b h = dite (ℕ_discrete x n)
    (λ e. let lt = b.0 in omega arith)
    (λ ne. low_in n top xs b.1 (passed (x == n) (times n xs) (ne_eqb x n ne) h))

pub get_mapped : {A B : Type 0} (f : A → B) (xs : List A) (i : ℕ) (x : A) → slice_get xs i ≡ Some x → slice_get (map f xs) i ≡ Some (f x)
get_mapped f [] i x at = absurd (cc)
get_mapped f (y ∷ xs) zero x at = let same : y ≡ x = cc in ap (λ z. Some (f z)) same
get_mapped f (y ∷ xs) (suc i) x at = get_mapped f xs i x at

-- the attempts' numbers are among those that the seats drew
pub are_below : (workers : ℕ) (vs : List View) (ess : List (List MessageEnd)) (bs : List BindEnd) → AllZip HasNumbers vs ess → DrewBelow workers vs (map (λ b. b.window) bs) → AreBelow workers bs ess
are_below workers vs ess bs z below bind b at a =
    let closed : slice_get (map (λ (y : BindEnd). y.window) bs) bind ≡ Some b.window = get_mapped (λ (y : BindEnd). y.window) bs bind b at in
    let theirs = of_bind workers bind vs in
    low_in a.one.number b.window.next (numbers_of theirs) (below bind b.window closed)
    (some_drew theirs (ends_at workers bind ess) (zip_of_bind HasNumbers workers bind vs ess z) a.worker a.ends a.theirs a.message a.part a.attempt a.one a.is)
