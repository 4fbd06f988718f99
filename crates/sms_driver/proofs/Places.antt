-- Lists place by place: of the same windows, of binds whose answers aren't awaited, and of seats from which unbinds were asked for.
use Rattle.std.proofs.Common.{◌++◌, ◌≡◌, ℕ, zero, suc, ◌+◌, ◌<◌, ◌≤◌, List, [], ◌∷◌, length, map, set, get_or, refl, sym, ap, ◌∙◌, subst, inl, inr, arith, Some, slice_get}
use Rattle.std.proofs.lemmas.List.{length-map}
use Rattle.std.proofs.lemmas.Option.{slice_get-get_or, slice_get_within}
use Rattle.std.specs.List.{AllByRecursion}
use mathlib.Core.Logic.{dite}
use native.Mathlib.Decide.{ℕ_discrete}
use Rattle.sms_driver.specs.declared.binding.binds.DriverSeat.{DriverSeat}
use Rattle.sms_driver.specs.declared.binding.binds.SharedBind.{SharedBind}
use Rattle.sms_driver.specs.Unbinds.{AreDone, Asks, AsksAt, AsksBefore, AsksEach, HasHanded, HasTried, IsDone, handed_in}
use Rattle.sms_worker.proofs.EndLemmas.{get_set, got_of_set}

module _ {A B K : Type 0} (f : A → K) (g : B → K) where
  pub same_length : (xs : List A) (ys : List B) → map f xs ≡ map g ys → length xs ≡ length ys
  same_length xs ys e = sym (length-map xs f) ∙ ap length e ∙ length-map ys g

  pub at_place : (xs : List A) (ys : List B) (i : ℕ) (x : A) (y : B) → i < length ys → map f xs ≡ map g ys → f (get_or xs i x) ≡ g (get_or ys i y)
  at_place xs [] i x y low e = absurd (omega arith)
  at_place [] (b ∷ ys) i x y low e = let n : 0 ≡ suc (length (map g ys)) = ap length e in absurd (omega arith)
  at_place (a ∷ xs) (b ∷ ys) zero x y low e = cc
  at_place (a ∷ xs) (b ∷ ys) (suc i) x y low e = at_place xs ys i x y (omega arith) cc

module _ {A K : Type 0} (f : A → K) where
  pub kept_at : (xs : List A) (i : ℕ) (x d : A) → f x ≡ f (get_or xs i d) → map f (set xs i x) ≡ map f xs
  kept_at [] i x d e = refl
  kept_at (a ∷ xs) zero x d e = ap (λ k. k ∷ map f xs) e
  kept_at (a ∷ xs) (suc i) x d e = ap (λ l. f a ∷ l) (kept_at xs i x d e)

module _ {N W : Type 0} (n : ℕ) (binds : List (SharedBind N W)) (seats : List (DriverSeat N)) (shared : SharedBind N W) (s : DriverSeat N) where
  pub one_done : AreDone n binds seats → slice_get binds n ≡ Some shared → slice_get seats n ≡ Some s → IsDone shared s → AreDone (n + 1) binds seats
  one_done before bind seat done = λ place b t low is own. dite (ℕ_discrete place n)
      (λ same. (let e : Some b ≡ Some shared = sym is ∙ ap (slice_get binds) same ∙ bind in let f : Some t ≡ Some s = sym own ∙ ap (slice_get seats) same ∙ seat in
      let p : shared ≡ b = cc in let q : s ≡ t = cc in subst (λ (x : DriverSeat N). IsDone b x) q (subst (λ (x : SharedBind N W). IsDone x s) p done)))
      (λ ne. before place b t (omega arith) is own)

-- what an unbind at one place leaves
pub asks_at : {N : Type 0} (bind : ℕ) (old : List (DriverSeat N)) (was seat : DriverSeat N) → slice_get old bind ≡ Some was → Asks was seat → AsksAt bind old (set old bind seat)
asks_at {N} bind old was seat there asks = λ place s t is own. (
  λ same. (let e : Some s ≡ Some was = sym is ∙ ap (slice_get old) same ∙ there in
      let f : Some t ≡ Some seat = sym own ∙ ap (slice_get (set old bind seat)) same ∙ get_set old bind was seat there in
      let p : was ≡ s = cc in let q : seat ≡ t = cc in
      subst (λ (x : DriverSeat N). Asks s x) q (subst (λ (x : DriverSeat N). Asks x seat) p asks)),
  λ ne. elim (got_of_set old bind seat place t own) [
    | inl h ↦ absurd (ne h.0)
    | inr h ↦ (let e : Some t ≡ Some s = sym h ∙ is in cc)
  ],
)

-- and one at each place so far
pub asks_more : {N : Type 0} (n : ℕ) (old mid new : List (DriverSeat N)) → length mid ≡ length old → AsksBefore n old mid → AsksAt n mid new → AsksBefore (n + 1) old new
asks_more {N} n old mid new long before at = λ place s t is own.
    let low : place < length old = slice_get_within old place s is in
    let there = slice_get-get_or mid place s (omega (arith, low, long)) in
    let b = before place s (get_or mid place s) is there in
    let a = at place (get_or mid place s) t there own in (
      λ less. dite (ℕ_discrete place n)
          (λ same. subst (λ (x : DriverSeat N). Asks x t) (b.1 (omega (arith, same))) (a.0 same))
          (λ ne. subst (λ (x : DriverSeat N). Asks s x) (sym (a.1 ne)) (b.0 (omega (arith, less, ne)))),
      λ more. a.1 (λ same. absurd (omega (arith, same, more))) ∙ b.1 (omega (arith, more)),
    )

-- those before a place behind all are all
pub asks_all : {N : Type 0} (n : ℕ) (old new : List (DriverSeat N)) → length old ≤ n → AsksBefore n old new → AsksEach old new
asks_all {N} n old new all asks = λ place s t is own. (λ less. (asks place s t is own).0 (omega (arith, less, all)), λ more. (let low = slice_get_within old place s is in absurd (omega (arith, low, more))))

-- where one was asked for from each, one was tried from each
pub all_tried : {N : Type 0} (old new : List (DriverSeat N)) → length new ≡ length old → AsksEach old new → AllByRecursion HasTried new
all_tried {N} [] [] long asks = tt
all_tried {N} [] (t ∷ new) long asks = absurd (omega (arith, long))
all_tried {N} (s ∷ old) [] long asks = absurd (omega (arith, long))
all_tried {N} (s ∷ old) (t ∷ new) long asks = (
  (s.seat.view, ((asks 0 s t refl refl).0 (omega arith)).0),
  all_tried old new (omega (arith, long)) (λ place u v is own. (λ less. (asks (suc place) u v is own).0 (omega (arith, less)), λ more. (asks (suc place) u v is own).1 (omega (arith, more)))),
)

-- where none had any requests, each has the unbind that it handed to its wire
pub all_handed : {N : Type 0} (old new : List (DriverSeat N)) → length new ≡ length old → AllByRecursion (λ s. s.requests ≡ []) old → AsksEach old new → AllByRecursion HasHanded new
all_handed {N} [] [] long none asks = tt
all_handed {N} [] (t ∷ new) long none asks = absurd (omega (arith, long))
all_handed {N} (s ∷ old) [] long none asks = absurd (omega (arith, long))
all_handed {N} (s ∷ old) (t ∷ new) long none asks = (
  ((asks 0 s t refl refl).0 (omega arith)).1 ∙ ap (λ l. l ++ handed_in t.unbind_result) none.0,
  all_handed old new (omega (arith, long)) none.1 (λ place u v is own. (λ less. (asks (suc place) u v is own).0 (omega (arith, less)), λ more. (asks (suc place) u v is own).1 (omega (arith, more)))),
)
