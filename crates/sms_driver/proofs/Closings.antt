-- Why binds were closed, from what their workers say.
use Rattle.std.proofs.Common.{◌≡◌, ◌+◌, ◌-◌, ◌++◌, ◌<◌, ℕ, zero, suc, List, [], ◌∷◌, length, map, Option, Some, None, refl, sym, ap, ◌∙◌, subst, arith, inl, inr, append_assoc, append-nil}
use Rattle.std.specs.Prelude.{take, drop, slice_get, IsSome}
use Rattle.std.specs.List.{AllByRecursion, AllZip}
use Rattle.sms_worker.specs.declared.state.closing.ClosedBy.{ClosedBy}
use Rattle.sms_worker.specs.declared.state.closing.ClosedBy.TheVariants.{Down, Stopped, Turns}
use Rattle.sms_worker.specs.Closing.{IsShut}
use Rattle.sms_worker.specs.Reasons.{ReasonState}
use Rattle.sms_worker.specs.ReasonsOf.{AllHaveReasons}
use Rattle.sms_worker.specs.Types.{MessageEnd}
use Rattle.sms_book.specs.Name.{BookId}
use Rattle.sms_message.specs.declared.rules.Rules.{Rules}
use Rattle.sms_worker.specs.declared.entry.work.WorkerEnd.{WorkerEnd}
use Rattle.sms_worker.specs.ReadyState.{ReadyState}
use Rattle.sms_driver.specs.declared.bind_end.BindEnd.{BindEnd}
use Rattle.sms_driver.specs.declared.bind_end.BindClosing.{BindClosing}
use Rattle.sms_driver.specs.declared.bind_end.DownBy.{DownBy}
use Rattle.sms_driver.specs.Answered.{ends_at}
use Rattle.sms_driver.specs.Closings.{first_of, no_closing, with_cause, with_all, closing_of, AreExplained, AreReasoned, BeginsNoMore, HaveClosings, HasCause, IsExplained, SaysWhy}
use Rattle.sms_driver.specs.Seated.{of_bind}
use Rattle.sms_driver.specs.Worked.{IsWorkOf}
use Rattle.sms_driver.proofs.Numbering.{get_mapped, zip_of_bind}

-- the first of those that are left is taken
pub next_cause : {A : Type 0} (n i : ℕ) (xs xs' : List A) (x : A) → i < n → xs ≡ x ∷ xs' → (take (n - i) xs ≡ x ∷ take (n - (i + 1)) xs') × (drop (n - i) xs ≡ drop (n - (i + 1)) xs')
next_cause n i xs xs' x low is =
    let e : n - i ≡ suc (n - (i + 1)) = omega arith in
    ((λ j. take (e j) (is j)), (λ j. drop (e j) (is j)))

nothing : {A : Type 0} (xs : List A) (n m : ℕ) → length xs ≡ 0 → (take n xs ≡ take m xs) × (drop n xs ≡ drop m xs)
nothing [] zero zero none = (refl, refl)
nothing [] zero (suc m) none = (refl, refl)
nothing [] (suc n) zero none = (refl, refl)
nothing [] (suc n) (suc m) none = (refl, refl)
nothing (x ∷ xs) n m none = absurd (omega arith)

-- where none is left, none is taken
pub no_cause : {A : Type 0} (n m : ℕ) (xs xs' : List A) → length xs ≡ 0 → xs ≡ xs' → (take n xs ≡ take m xs') × (drop n xs ≡ drop m xs')
no_cause {A} n m xs xs' none same = subst (λ (l : List A). (take n xs ≡ take m l) × (drop n xs ≡ drop m l)) same (nothing xs n m none)

-- one bind more
pub told_more : (workers : ℕ) (xs xs' : List (Option ClosedBy)) (made more rest : List BindClosing) (c : BindClosing) (All : List BindClosing → Type 0) → more ≡ made ++ c ∷ [] → xs' ≡ drop workers xs → c ≡ closing_of (take workers xs)
    → HaveClosings workers xs' rest → (HaveClosings workers xs (c ∷ rest) → All (made ++ (c ∷ rest))) → All (more ++ rest)
told_more workers xs xs' made more rest c All adds left one h goes =
    subst All (sym (ap (λ l. l ++ rest) adds ∙ append_assoc made (c ∷ []) rest)) (goes (one, subst (λ (l : List (Option ClosedBy)). HaveClosings workers l rest) left h))

-- before the first
pub none_told : (workers : ℕ) (xs xs' : List (Option ClosedBy)) (made rest : List BindClosing) → xs' ≡ xs → made ≡ [] → HaveClosings workers xs' rest → HaveClosings workers xs (made ++ rest)
none_told workers xs xs' made rest same none h = subst (λ (l : List BindClosing). HaveClosings workers xs (l ++ rest)) (sym none) (subst (λ (l : List (Option ClosedBy)). HaveClosings workers l rest) same h)

pub all_told : (workers : ℕ) (xs : List (Option ClosedBy)) (cs : List BindClosing) → HaveClosings workers xs (cs ++ []) → HaveClosings workers xs cs
all_told workers xs cs h = subst (HaveClosings workers xs) (append-nil cs) h

told_at : (workers : ℕ) (xs : List (Option ClosedBy)) (cs : List BindClosing) → HaveClosings workers xs cs → (bind : ℕ) (c : BindClosing) → slice_get cs bind ≡ Some c → c ≡ closing_of (of_bind workers bind xs)
told_at workers xs [] h bind c at = absurd (cc)
told_at workers xs (x ∷ cs) h zero c at = let same : x ≡ c = cc in sym same ∙ h.0
told_at workers xs (x ∷ cs) h (suc bind) c at = told_at workers (drop workers xs) cs h.1 bind c at

-- a cause stays
cause_stays : (c : BindClosing) (x : Option ClosedBy) → HasCause c → HasCause (with_cause c x)
cause_stays c None has = has
cause_stays c (Some (Turns taken)) has = inr refl
cause_stays c (Some (Stopped refusal)) has = has
cause_stays c (Some (Down why)) (inr over) = inr over
cause_stays c (Some (Down why)) (inl some) = inl (found c.down some)
  where
    found : (d : Option DownBy) → IsSome d → IsSome (first_of d why)
    found None some = refl
    found (Some d) some = refl

causes_stay : (c : BindClosing) (xs : List (Option ClosedBy)) → HasCause c → HasCause (with_all c xs)
causes_stay c [] has = has
causes_stay c (x ∷ xs) has = causes_stay (with_cause c x) xs (cause_stays c x has)

shut_cause : (c : BindClosing) (y : ClosedBy) → IsShut (Some y) → HasCause (with_cause c (Some y))
shut_cause c (Turns taken) shut = inr refl
shut_cause c (Stopped refusal) shut = absurd shut
shut_cause c (Down why) shut = inl (found c.down)
  where
    found : (d : Option DownBy) → IsSome (first_of d why)
    found None = refl
    found (Some d) = refl

-- so does a stop
end_stays : (c : BindClosing) (x : Option ClosedBy) → BeginsNoMore c → BeginsNoMore (with_cause c x)
end_stays c x (inl has) = inl (cause_stays c x has)
end_stays c None (inr stopped) = inr stopped
end_stays c (Some (Turns taken)) (inr stopped) = inr stopped
end_stays c (Some (Down why)) (inr stopped) = inr stopped
end_stays c (Some (Stopped refusal)) (inr stopped) = inr refl

ends_stay : (c : BindClosing) (xs : List (Option ClosedBy)) → BeginsNoMore c → BeginsNoMore (with_all c xs)
ends_stay c [] has = has
ends_stay c (x ∷ xs) has = ends_stay (with_cause c x) xs (end_stays c x has)

new_end : (c : BindClosing) (y : ClosedBy) → BeginsNoMore (with_cause c (Some y))
new_end c (Turns taken) = inl (shut_cause c (Turns taken) tt)
new_end c (Down why) = inl (shut_cause c (Down why) tt)
new_end c (Stopped refusal) = inr refl

explained : (c : BindClosing) (xs : List (Option ClosedBy)) (ess : List (List MessageEnd)) → AllZip SaysWhy xs ess → IsExplained (with_all c xs) ess
explained c [] [] z w k es e theirs at is = absurd (cc)
explained c [] (f ∷ ess) z w k es e theirs at is = absurd z
explained c (x ∷ xs) [] z w k es e theirs at is = absurd z
explained c (None ∷ xs) (f ∷ ess) z zero k es e theirs at is = let same : f ≡ es = cc in absurd (z.0 refl k e (ap (λ (l : List MessageEnd). slice_get l k) same ∙ at) is)
explained c (Some y ∷ xs) (f ∷ ess) z zero k es e theirs at is = ends_stay (with_cause c (Some y)) xs (new_end c y)
explained c (x ∷ xs) (f ∷ ess) z (suc w) k es e theirs at is = explained (with_cause c x) xs ess z.1 w k es e theirs at is

-- bind by bind
pub are_explained : (workers : ℕ) (xs : List (Option ClosedBy)) (ess : List (List MessageEnd)) (bs : List BindEnd) → AllZip SaysWhy xs ess → HaveClosings workers xs (map (λ b. b.closing) bs) → AreExplained workers bs ess
are_explained workers xs ess bs z told bind b at =
    let closing : slice_get (map (λ (y : BindEnd). y.closing) bs) bind ≡ Some b.closing = get_mapped (λ (y : BindEnd). y.closing) bs bind b at in
    subst (λ (c : BindClosing). IsExplained c (ends_at workers bind ess)) (sym (told_at workers xs (map (λ (y : BindEnd). y.closing) bs) told bind b.closing closing))
    (explained no_closing (of_bind workers bind xs) (ends_at workers bind ess) (zip_of_bind SaysWhy workers bind xs ess z))

-- a worker that gives a cause
caused : (c : BindClosing) (xs : List (Option ClosedBy)) (w : ℕ) (x : Option ClosedBy) → slice_get xs w ≡ Some x → IsShut x → HasCause (with_all c xs)
caused c [] w x at shut = absurd (cc)
caused c (None ∷ xs) zero x at shut = let same : x ≡ None = cc in absurd (subst IsShut same shut)
caused c (Some y ∷ xs) zero x at shut = let same : x ≡ Some y = cc in causes_stay (with_cause c (Some y)) xs (shut_cause c y (subst IsShut same shut))
caused c (y ∷ xs) (suc w) x at shut = caused (with_cause c y) xs w x at shut

-- each worker says why
pub all_say : {N : Type 0} (book : BookId) (rules : Rules) (js : List (ReadyState N)) (ds : List (WorkerEnd N)) → AllZip (IsWorkOf book rules) js ds → AllByRecursion (λ d. SaysWhy d.closed d.ends.items) ds
all_say book rules [] [] z = tt
all_say book rules [] (d ∷ ds) z = absurd z
all_say book rules (j ∷ js) [] z = absurd z
all_say book rules (j ∷ js) (d ∷ ds) z = (z.0.says_why, all_say book rules js ds z.1)

-- what was given up has a reason
pub all_reasoned : {N : Type 0} (book : BookId) (rules : Rules) (js : List (ReadyState N)) (ds : List (WorkerEnd N)) → AllZip (IsWorkOf book rules) js ds → AllByRecursion (λ d. AllHaveReasons rules.policy.attempts (IsShut d.closed) d.reasons d.ends.items) ds
all_reasoned book rules [] [] z = tt
all_reasoned book rules [] (d ∷ ds) z = absurd z
all_reasoned book rules (j ∷ js) [] z = absurd z
all_reasoned book rules (j ∷ js) (d ∷ ds) z = (z.0.reasons, all_reasoned book rules js ds z.1)

module _ {A : Type 0} where
  take_map : {B : Type 0} (f : A → B) (n : ℕ) (xs : List A) → map f (take n xs) ≡ take n (map f xs)
  take_map f zero [] = refl
  take_map f zero (x ∷ xs) = refl
  take_map f (suc n) [] = refl
  take_map f (suc n) (x ∷ xs) = ap (λ l. f x ∷ l) (take_map f n xs)

  drop_map : {B : Type 0} (f : A → B) (n : ℕ) (xs : List A) → map f (drop n xs) ≡ drop n (map f xs)
  drop_map f zero [] = refl
  drop_map f zero (x ∷ xs) = refl
  drop_map f (suc n) [] = refl
  drop_map f (suc n) (x ∷ xs) = drop_map f n xs

  of_bind_map : {B : Type 0} (f : A → B) (workers bind : ℕ) (xs : List A) → map f (of_bind workers bind xs) ≡ of_bind workers bind (map f xs)
  of_bind_map f workers zero xs = take_map f workers xs
  of_bind_map f workers (suc bind) xs = of_bind_map f workers bind (drop workers xs) ∙ ap (of_bind workers bind) (drop_map f workers xs)

  got_mapped : {B : Type 0} (f : A → B) (xs : List A) (i : ℕ) (y : B) → slice_get (map f xs) i ≡ Some y → (x : A) × (slice_get xs i ≡ Some x) × (f x ≡ y)
  got_mapped f [] i y at = absurd (cc)
  got_mapped f (x ∷ xs) zero y at = (x, refl, (cc))
  got_mapped f (x ∷ xs) (suc i) y at = got_mapped f xs i y at

  all_take : (P : A → Type 0) (n : ℕ) (xs : List A) → AllByRecursion P xs → AllByRecursion P (take n xs)
  all_take P zero [] a = tt
  all_take P zero (x ∷ xs) a = tt
  all_take P (suc n) [] a = tt
  all_take P (suc n) (x ∷ xs) a = (a.0, all_take P n xs a.1)

  all_drop : (P : A → Type 0) (n : ℕ) (xs : List A) → AllByRecursion P xs → AllByRecursion P (drop n xs)
  all_drop P zero [] a = a
  all_drop P zero (x ∷ xs) a = a
  all_drop P (suc n) [] a = tt
  all_drop P (suc n) (x ∷ xs) a = all_drop P n xs a.1

  all_of_bind : (P : A → Type 0) (workers bind : ℕ) (xs : List A) → AllByRecursion P xs → AllByRecursion P (of_bind workers bind xs)
  all_of_bind P workers zero xs a = all_take P workers xs a
  all_of_bind P workers (suc bind) xs a = all_of_bind P workers bind (drop workers xs) (all_drop P workers xs a)

  all_here : (P : A → Type 0) (xs : List A) (i : ℕ) (x : A) → AllByRecursion P xs → slice_get xs i ≡ Some x → P x
  all_here P [] i x a at = absurd (cc)
  all_here P (y ∷ xs) zero x a at = let same : y ≡ x = cc in subst P same a.0
  all_here P (y ∷ xs) (suc i) x a at = all_here P xs i x a.1 at

-- a bind that was closed for a worker has a cause
weaker : (most : ℕ) (A B : Type 0) (r : ReasonState) (es : List MessageEnd) → (A → B) → AllHaveReasons most A r es → AllHaveReasons most B r es
weaker most A B r es f all k e at =
    let h = all k e at in
    record { parts = λ p s there is. elim (h.parts p s there is) [ inl closed ↦ inl (f closed) | inr has ↦ inr has ]; memory = h.memory }

-- bind by bind
pub are_reasoned : {N : Type 0} (most workers : ℕ) (ds : List (WorkerEnd N)) (bs : List BindEnd) → AllByRecursion (λ d. AllHaveReasons most (IsShut d.closed) d.reasons d.ends.items) ds → HaveClosings workers (map (λ d. d.closed) ds) (map (λ b. b.closing) bs)
    → AreReasoned most workers bs (map (λ d. d.reasons) ds) (map (λ d. d.ends.items) ds)
are_reasoned {N} most workers ds bs all told bind b at w r es reasons ends =
    let own : List (WorkerEnd N) = of_bind workers bind ds in
    let xs = map (λ (d : WorkerEnd N). d.closed) ds in
    let got = got_mapped (λ (d : WorkerEnd N). d.reasons) own w r (ap (λ l. slice_get l w) (of_bind_map (λ (d : WorkerEnd N). d.reasons) workers bind ds) ∙ reasons) in
    let d = got.0 in
    let there = got.1 in
    let same = got.2 in
    let mine = get_mapped (λ (x : WorkerEnd N). x.ends.items) own w d there in
    let theirs = ap (λ l. slice_get l w) (of_bind_map (λ (x : WorkerEnd N). x.ends.items) workers bind ds) ∙ ends in
    let all_ends : d.ends.items ≡ es = cc in
    let has = all_here (λ (x : WorkerEnd N). AllHaveReasons most (IsShut x.closed) x.reasons x.ends.items) own w d (all_of_bind (λ (x : WorkerEnd N). AllHaveReasons most (IsShut x.closed) x.reasons x.ends.items) workers bind ds all) there in
    let closing = get_mapped (λ (y : BindEnd). y.closing) bs bind b at in
    let is = told_at workers xs (map (λ (y : BindEnd). y.closing) bs) told bind b.closing closing in
    let cause = sym (ap (λ l. slice_get l w) (of_bind_map (λ (x : WorkerEnd N). x.closed) workers bind ds)) ∙ get_mapped (λ (x : WorkerEnd N). x.closed) own w d there in
    subst (AllHaveReasons most (HasCause b.closing) r) all_ends
    (subst (λ (x : ReasonState). AllHaveReasons most (HasCause b.closing) x d.ends.items) same
    (weaker most (IsShut d.closed) (HasCause b.closing) d.reasons d.ends.items (λ some. subst HasCause (sym is) (caused no_closing (of_bind workers bind xs) w d.closed cause some)) has))
