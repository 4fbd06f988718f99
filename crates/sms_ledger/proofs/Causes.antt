-- What a booking makes of the books.
use Rattle.std.proofs.Common.{◌≡◌, ℕ, ◌+◌, ◌<◌, ◌≤◌, Bool, true, false, List, Some, None, refl, sym, ap, ◌∙◌, subst, arith}
use Rattle.std.specs.Prelude.{◌==◌, ◌≢◌, nat_le, Option, option_map, unwrap_or, is_some, find, position, if◌then◌else◌}
use Rattle.std.specs.Str.{bytes_eq}
use Rattle.std.proofs.lemmas.Bool.{le-leb}
use Rattle.std.proofs.lemmas.Bool.Decides.{nat_tests}
use Rattle.sms_ledger.specs.declared.entry.Row.{Row}
use Rattle.sms_ledger.specs.declared.entry.Deposit.{Deposit}
use Rattle.sms_ledger.specs.declared.entry.Fate.{Fate}
use Rattle.sms_ledger.specs.declared.entry.Stake.{Stake}
use Rattle.sms_ledger.specs.declared.entry.Stand.{Stand}
use Rattle.sms_ledger.specs.declared.entry.Stand.TheVariants.{Out, Back}
use Rattle.sms_ledger.specs.declared.refusal.Refusal.TheVariants.{NothingPaid, TooMuch, TakenBefore, NoCredit, Unequal, DecidedBefore, NoDoubt}
use Rattle.sms_ledger.specs.Books.{State, back_refusal, decided_refusal, doubt_refusal, is_of, moved, no_row, over, paid_refusal, pay_in, stand_of, sum_refusal, taken_refusal, with_paid, with_stand}
use Rattle.sms_ledger.specs.Kept.{set_at}
use Rattle.sms_ledger.proofs.Places.{found_at, none_at}
use Rattle.sms_ledger.proofs.Stakes.{over_moved, same_text, standing, text_self}

module _ {A : Type 0} where
  pub some_is : (o : Option A) → is_some o ≡ true → (x : A) × (o ≡ Some x)
  some_is None e = absurd (cc)
  some_is (Some x) e = (x, refl)

  pub none_is : (o : Option A) → is_some o ≡ false → o ≡ None
  none_is None e = refl
  none_is (Some x) e = absurd (cc)

-- ---- stands by places

pub record Stands (run account : List ℕ) (s : State) : Type 0 where
  pub stand : Stand
  pub is : stand_of run account s ≡ Some stand

pub stands_at : (run account : List ℕ) (s : State) (o : Option ℕ) (k : ℕ) → o ≡ position (is_of run account) s.stakes → o ≡ Some k → Stands run account s
stands_at run account s o k e is = let f = found_at run account s.stakes k (sym e ∙ is) in record { stand = f.stake.stand; is = ap standing f.found }

pub stands_not : (run account : List ℕ) (s : State) (o : Option ℕ) → o ≡ position (is_of run account) s.stakes → o ≡ None → stand_of run account s ≡ None
stands_not run account s o e is = none_at run account s.stakes (sym e ∙ is)

-- ---- causes

pub take_twice : (n : ℕ) (row : Row) (o : Option Row) (x : Stand) (st : Option Stand) → o ≡ Some row → st ≡ Some x → taken_refusal n o st ≡ Some TakenBefore
take_twice n row o x st e f = ap (λ (o : Option Row). taken_refusal n o st) e ∙ ap (taken_refusal n (Some row)) f

pub take_short : (n : ℕ) (row : Row) (o : Option Row) (st : Option Stand) → row.free < n → o ≡ Some row → st ≡ None → taken_refusal n o st ≡ Some NoCredit
take_short n row o st low e f =
    let no : nat_le n row.free ≡ false = grind (arith, nat_tests) in
    ap (λ (o : Option Row). taken_refusal n o st) e ∙ ap (taken_refusal n (Some row)) f ∙ ap (λ (b : Bool). if b then None else Some NoCredit) no

pub take_fits : (n : ℕ) (row : Row) (o : Option Row) (st : Option Stand) → n ≤ row.free → o ≡ Some row → st ≡ None → taken_refusal n o st ≡ None
take_fits n row o st few e f = ap (λ (o : Option Row). taken_refusal n o st) e ∙ ap (taken_refusal n (Some row)) f ∙ ap (λ (b : Bool). if b then None else Some NoCredit) (le-leb n row.free few)

pub back_unequal : (sum taken : ℕ) → sum ≢ taken → back_refusal sum (Some (Out taken)) ≡ Some Unequal
back_unequal sum taken ne = let no : (sum == taken) ≡ false = grind (arith, nat_tests) in ap (λ (b : Bool). if b then None else Some Unequal) no

pub back_fits : (sum taken : ℕ) → sum ≡ taken → back_refusal sum (Some (Out taken)) ≡ None
back_fits sum taken e = let yes : (sum == taken) ≡ true = grind (arith, nat_tests) in ap (λ (b : Bool). if b then None else Some Unequal) yes

pub decided_much : (o : Option Fate) (cost doubt : ℕ) (st : Option Stand) → doubt < cost → o ≡ None → st ≡ Some (Back doubt) → decided_refusal o cost st ≡ Some NoDoubt
decided_much o cost doubt st low none is =
    let no : nat_le cost doubt ≡ false = grind (arith, nat_tests) in
    ap (λ (x : Option Fate). decided_refusal x cost st) none ∙ ap (doubt_refusal cost) is ∙ ap (λ (b : Bool). if b then None else Some NoDoubt) no

pub decided_fits : (o : Option Fate) (cost doubt : ℕ) (st : Option Stand) → cost ≤ doubt → o ≡ None → st ≡ Some (Back doubt) → decided_refusal o cost st ≡ None
decided_fits o cost doubt st few none is = ap (λ (x : Option Fate). decided_refusal x cost st) none ∙ ap (doubt_refusal cost) is ∙ ap (λ (b : Bool). if b then None else Some NoDoubt) (le-leb cost doubt few)

pub decided_unless : (o : Option Fate) (cost : ℕ) (st x : Option Stand) → o ≡ None → st ≡ x → decided_refusal o cost st ≡ doubt_refusal cost x
decided_unless o cost st x none is = ap (λ (x : Option Fate). decided_refusal x cost st) none ∙ ap (doubt_refusal cost) is

pub decided_twice : (o : Option Fate) (cost : ℕ) (st : Option Stand) (fate : Fate) → o ≡ Some fate → decided_refusal o cost st ≡ Some DecidedBefore
decided_twice o cost st fate is = ap (λ (x : Option Fate). decided_refusal x cost st) is

pub pay_fits : (n : ℕ) (o : Option Deposit) (sum : ℕ) → (n == 0) ≡ false → o ≡ None → sum ≤ 0x100_0000_0000 → paid_refusal n o sum ≡ None
pay_fits n o sum some first few =
    ap (λ (b : Bool). if b then Some NothingPaid else sum_refusal o sum) some ∙ ap (λ (o : Option Deposit). sum_refusal o sum) first ∙ ap (λ (b : Bool). if b then None else Some TooMuch) (le-leb sum 0x100_0000_0000 few)

-- ---- states

pub same_state : (f g : List ℕ → Option Row) (ns os : List (List ℕ)) (xs ys : List Stake) (b c : List ℕ → Option Deposit) (d e : List ℕ → Option Fate) → ((q : List ℕ) → f q ≡ g q) → ns ≡ os → xs ≡ ys → ((q : List ℕ) → b q ≡ c q)
    → ((q : List ℕ) → d q ≡ e q) → (let s : State = record { accounts = f; opened = ns; stakes = xs; payments = b; decided = d } in s) ≡ record { accounts = g; opened = os; stakes = ys; payments = c; decided = e }
same_state f g ns os xs ys b c d e p n x y z = λ i. record { accounts = λ q. p q i; opened = n i; stakes = x i; payments = λ q. y q i; decided = λ q. z q i }

pub moved_is : (a q : List ℕ) (f : List ℕ → Option Row) (changed : Row) (move : Row → Row) → changed ≡ move (unwrap_or (f a) no_row)
    → (if bytes_eq a q then option_map (λ _. changed) (f q) else f q) ≡ moved a move f q
moved_is a q f changed move is = here (bytes_eq a q) refl (f q) refl
  where
    here : (b : Bool) → bytes_eq a q ≡ b → (o : Option Row) → f q ≡ o → (if b then option_map (λ _. changed) o else o) ≡ (if b then option_map move o else o)
    here false e o got = refl
    here true e None got = refl
    here true e (Some row) got = ap Some (is ∙ ap (λ (t : List ℕ). move (unwrap_or (f t) no_row)) (same_text a q e) ∙ ap (λ (o : Option Row). move (unwrap_or o no_row)) got)

pub paid_is : (a q : List ℕ) (f : List ℕ → Option Row) (row : Row) (n : ℕ) → row ≡ pay_in n (unwrap_or (f a) no_row) → set_at a row f q ≡ with_paid a n f q
paid_is a q f row n is = here (bytes_eq a q) refl
  where
    here : (b : Bool) → bytes_eq a q ≡ b → (if b then Some row else f q) ≡ (if b then Some (pay_in n (unwrap_or (f q) no_row)) else f q)
    here true e = ap Some (is ∙ ap (λ (t : List ℕ). pay_in n (unwrap_or (f t) no_row)) (same_text a q e))
    here false e = refl

-- ---- the row covers what a run has

pub covered : (f : Stand → ℕ) (run account : List ℕ) (stand : Stand) (xs : List Stake) → f (Out 0) ≡ 0 → standing (find (is_of run account) xs) ≡ Some stand → f stand ≤ over f account xs
covered f run account stand xs zero is =
    let k = over_moved f account run account stand (Out 0) xs is in
    let g = subst (λ (b : Bool). over f account (with_stand run account (Out 0) xs) + (if b then f stand else 0) ≡ over f account xs + (if b then f (Out 0) else 0)) (text_self account) k in
    omega (arith, g, zero)

pub no_row_there : (a q : List ℕ) (f : List ℕ → Option Row) (row : Row) → f a ≡ None → f q ≡ (if bytes_eq a q then option_map (λ _. row) (f q) else f q)
no_row_there a q f row none = here (bytes_eq a q) refl
  where
    here : (b : Bool) → bytes_eq a q ≡ b → f q ≡ (if b then option_map (λ _. row) (f q) else f q)
    here true e = let gone : f q ≡ None = ap f (sym (same_text a q e)) ∙ none in gone ∙ sym (ap (option_map (λ _. row)) gone)
    here false e = refl

pub row_there : (a q : List ℕ) (f : List ℕ → Option Row) (row : Row) → is_some (f a) ≡ true → (if bytes_eq a q then option_map (λ _. row) (f q) else f q) ≡ set_at a row f q
row_there a q f row some = here (bytes_eq a q) refl
  where
    here : (b : Bool) → bytes_eq a q ≡ b → (if b then option_map (λ _. row) (f q) else f q) ≡ (if b then Some row else f q)
    here true e = let there = some_is (f a) some in ap (option_map (λ _. row)) (ap f (sym (same_text a q e)) ∙ there.1)
    here false e = refl
