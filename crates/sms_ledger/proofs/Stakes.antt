-- What runs took, found by run and account.
use Rattle.std.proofs.Common.{◌≡◌, ℕ, ◌+◌, ◌≤◌, Bool, true, false, List, [], ◌∷◌, ◌++◌, Some, None, refl, sym, ap, ◌∙◌, subst, arith}
use Rattle.std.specs.Prelude.{◌&&◌, ◌≢◌, Option, option_map, find, if◌then◌else◌}
use Rattle.std.specs.Str.{bytes_eq}
use Rattle.std.proofs.lemmas.List.Sums.{sum_by-cons}
use Rattle.std.proofs.lemmas.Slice.Eq.{bytes_eq-Decides}
use Rattle.std.proofs.lemmas.Bool.{and_parts}
use Rattle.sms_ledger.specs.declared.entry.Stake.{Stake}
use Rattle.sms_ledger.specs.declared.entry.Stand.{Stand}
use Rattle.sms_ledger.specs.declared.entry.Stand.TheVariants.{Out}
use Rattle.sms_ledger.specs.Books.{is_of, out_of, over, part, with_stand}

pub same_text : (a b : List ℕ) → bytes_eq a b ≡ true → a ≡ b
same_text a b e = (bytes_eq-Decides a b).0 e

pub text_self : (a : List ℕ) → bytes_eq a a ≡ true
text_self a = (bytes_eq-Decides a a).1 refl

abbrev pub standing : Option Stake → Option Stand
standing o = option_map (λ (stake : Stake). stake.stand) o

-- one stake stands otherwise: the sum changes by what it is worth
pub over_moved : (f : Stand → ℕ) (name run account : List ℕ) (old new : Stand) (xs : List Stake) → standing (find (is_of run account) xs) ≡ Some old
    → over f name (with_stand run account new xs) + (if bytes_eq account name then f old else 0) ≡ over f name xs + (if bytes_eq account name then f new else 0)
over_moved f name run account old new [] e = absurd (cc)
over_moved f name run account old new (x ∷ xs) e = here (is_of run account x) refl e (over_moved f name run account old new xs)
  where
    Sums : List Stake → List Stake → Type 0
    Sums xs ys = over f name ys + (if bytes_eq account name then f old else 0) ≡ over f name xs + (if bytes_eq account name then f new else 0)

    here : (b : Bool) → is_of run account x ≡ b → standing (if b then Some x else find (is_of run account) xs) ≡ Some old → (standing (find (is_of run account) xs) ≡ Some old → Sums xs (with_stand run account new xs))
        → Sums (x ∷ xs) (if b then record x { stand = new } ∷ xs else x ∷ with_stand run account new xs)
    here true is e later =
        let its : account ≡ x.of.account = same_text account x.of.account (and_parts (bytes_eq run x.of.run) (bytes_eq account x.of.account) is).1 in
        let stands : x.stand ≡ old = cc in
        let y : Stake = record x { stand = new } in
        let before : over f name (x ∷ xs) ≡ (if bytes_eq account name then f old else 0) + over f name xs = sum_by-cons (part f name) x xs ∙ ap (λ (a : List ℕ). (if bytes_eq a name then f x.stand else 0) + over f name xs) (sym its) ∙ ap (λ (s : Stand). (if bytes_eq account name then f s else 0) + over f name xs) stands in
        let behind : over f name (y ∷ xs) ≡ (if bytes_eq account name then f new else 0) + over f name xs = sum_by-cons (part f name) y xs ∙ ap (λ (a : List ℕ). (if bytes_eq a name then f new else 0) + over f name xs) (sym its) in
        omega (arith, before, behind)
    here false is e later = omega (arith, later e, sum_by-cons (part f name) x xs, sum_by-cons (part f name) x (with_stand run account new xs))

-- ---- what is found after a change

pub pushed : (run account : List ℕ) (x : Stake) (xs : List Stake) → standing (find (is_of run account) xs) ≡ None → is_of run account x ≡ true → standing (find (is_of run account) (xs ++ x ∷ [])) ≡ Some x.stand
pushed run account x [] none is = ap (λ (b : Bool). standing (if b then Some x else None)) is
pushed run account x (y ∷ xs) none is = here (is_of run account y) none (λ n. pushed run account x xs n is)
  where
    here : (b : Bool) → standing (if b then Some y else find (is_of run account) xs) ≡ None
        → (standing (find (is_of run account) xs) ≡ None → standing (find (is_of run account) (xs ++ x ∷ [])) ≡ Some x.stand) → standing (if b then Some y else find (is_of run account) (xs ++ x ∷ [])) ≡ Some x.stand
    here true none later = absurd (cc)
    here false none later = later none

pub pushed_other : (run account : List ℕ) (x : Stake) (xs : List Stake) → is_of run account x ≡ false → standing (find (is_of run account) (xs ++ x ∷ [])) ≡ standing (find (is_of run account) xs)
pushed_other run account x [] is = ap (λ (b : Bool). standing (if b then Some x else None)) is
pushed_other run account x (y ∷ xs) is = here (is_of run account y) (pushed_other run account x xs is)
  where
    here : (b : Bool) → standing (find (is_of run account) (xs ++ x ∷ [])) ≡ standing (find (is_of run account) xs) → standing (if b then Some y else find (is_of run account) (xs ++ x ∷ [])) ≡ standing (if b then Some y else find (is_of run account) xs)
    here true later = refl
    here false later = later

pub changed : (run account : List ℕ) (old new : Stand) (xs : List Stake) → standing (find (is_of run account) xs) ≡ Some old → standing (find (is_of run account) (with_stand run account new xs)) ≡ Some new
changed run account old new [] e = absurd (cc)
changed run account old new (x ∷ xs) e = here (is_of run account x) refl e (changed run account old new xs)
  where
    here : (b : Bool) → is_of run account x ≡ b → standing (if b then Some x else find (is_of run account) xs) ≡ Some old
        → (standing (find (is_of run account) xs) ≡ Some old → standing (find (is_of run account) (with_stand run account new xs)) ≡ Some new) → standing (find (is_of run account) (if b then record x { stand = new } ∷ xs else x ∷ with_stand run account new xs)) ≡ Some new
    here true is e later = ap (λ (b : Bool). standing (if b then Some (record x { stand = new }) else find (is_of run account) xs)) is
    here false is e later = ap (λ (b : Bool). standing (if b then Some x else find (is_of run account) (with_stand run account new xs))) is ∙ later e

pub changed_other : (run account r a : List ℕ) (new : Stand) (xs : List Stake) → (bytes_eq run r && bytes_eq account a) ≡ false
    → standing (find (is_of run account) (with_stand r a new xs)) ≡ standing (find (is_of run account) xs)
changed_other run account r a new [] other = refl
changed_other run account r a new (x ∷ xs) other = here (is_of r a x) refl (changed_other run account r a new xs other)
  where
    behind : (b : Bool) → standing (find (is_of run account) (with_stand r a new xs)) ≡ standing (find (is_of run account) xs) → standing (if b then Some x else find (is_of run account) (with_stand r a new xs)) ≡ standing (if b then Some x else find (is_of run account) xs)
    behind true later = refl
    behind false later = later

    here : (b : Bool) → is_of r a x ≡ b → standing (find (is_of run account) (with_stand r a new xs)) ≡ standing (find (is_of run account) xs) → standing (find (is_of run account) (if b then record x { stand = new } ∷ xs else x ∷ with_stand r a new xs)) ≡ standing (find (is_of run account) (x ∷ xs))
    here true is later =
        let both = and_parts (bytes_eq r x.of.run) (bytes_eq a x.of.account) is in
        let is_other : is_of run account x ≡ false = ap (λ (t : List ℕ). bytes_eq run t && bytes_eq account x.of.account) (sym (same_text r x.of.run both.0)) ∙ ap (λ (t : List ℕ). bytes_eq run r && bytes_eq account t) (sym (same_text a x.of.account both.1)) ∙ other in
        ap (λ (b : Bool). standing (if b then Some (record x { stand = new }) else find (is_of run account) xs)) is_other ∙ sym (ap (λ (b : Bool). standing (if b then Some x else find (is_of run account) xs)) is_other)
    here false is later = behind (is_of run account x) later

-- ---- two runs

-- what one run has out is within the sum
covers : (run account : List ℕ) (n : ℕ) (xs : List Stake) → standing (find (is_of run account) xs) ≡ Some (Out n) → n ≤ over out_of account xs
covers run account n xs e =
    let k = over_moved out_of account run account (Out n) (Out 0) xs e in
    let g = subst (λ (b : Bool). over out_of account (with_stand run account (Out 0) xs) + (if b then n else 0) ≡ over out_of account xs + (if b then 0 else 0)) (text_self account) k in
    omega (arith, g)

pub apart : (run other account : List ℕ) (n m : ℕ) (xs : List Stake) → run ≢ other → standing (find (is_of run account) xs) ≡ Some (Out n) → standing (find (is_of other account) xs) ≡ Some (Out m) → n + m ≤ over out_of account xs
apart run other account n m [] ne e f = absurd (cc)
apart run other account n m (x ∷ xs) ne e f = here (is_of run account x) refl (is_of other account x) refl e f (apart run other account n m xs ne)
  where
    first : (r : List ℕ) (k : ℕ) → is_of r account x ≡ true → Some x.stand ≡ Some (Out k) → part out_of account x ≡ k
    first r k is e =
        let its : account ≡ x.of.account = same_text account x.of.account (and_parts (bytes_eq r x.of.run) (bytes_eq account x.of.account) is).1 in
        let stands : x.stand ≡ Out k = cc in
        ap (λ (a : List ℕ). if bytes_eq a account then out_of x.stand else 0) (sym its) ∙ ap (λ (b : Bool). if b then out_of x.stand else 0) (text_self account) ∙ ap out_of stands

    here : (b : Bool) → is_of run account x ≡ b → (c : Bool) → is_of other account x ≡ c → standing (if b then Some x else find (is_of run account) xs) ≡ Some (Out n) → standing (if c then Some x else find (is_of other account) xs) ≡ Some (Out m)
        → (standing (find (is_of run account) xs) ≡ Some (Out n) → standing (find (is_of other account) xs) ≡ Some (Out m) → n + m ≤ over out_of account xs) → n + m ≤ over out_of account (x ∷ xs)
    here true is true it e f later =
        absurd (ne (same_text run x.of.run (and_parts (bytes_eq run x.of.run) (bytes_eq account x.of.account) is).0 ∙ sym (same_text other x.of.run (and_parts (bytes_eq other x.of.run) (bytes_eq account x.of.account) it).0)))
    here true is false it e f later = omega (arith, sum_by-cons (part out_of account) x xs, first run n is e, covers other account m xs f)
    here false is true it e f later = omega (arith, sum_by-cons (part out_of account) x xs, first other m it f, covers run account n xs e)
    here false is false it e f later = omega (arith, sum_by-cons (part out_of account) x xs, later e f)
