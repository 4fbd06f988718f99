-- Where stakes are found.
use Rattle.std.proofs.Common.{◌≡◌, ℕ, suc, ◌+◌, Bool, true, false, List, [], ◌∷◌, ◌++◌, length, cond, Some, None, refl, sym, ap, ◌∙◌, subst, arith}
use Rattle.std.specs.Prelude.{◌&&◌, nat_eq, Option, find, position, slice_get, slice_set, if◌then◌else◌}
use Rattle.std.specs.List.{position_from}
use Rattle.std.specs.Str.{bytes_eq}
use Rattle.std.specs.Cmp.Lexicographic.{nat_list_eq_equiv}
use Rattle.std.proofs.lemmas.Iterator.Adapters.{position_from-zero}
use Rattle.std.proofs.lemmas.Bool.{and_parts}
use Rattle.sms_ledger.specs.declared.entry.Stake.{Stake}
use Rattle.sms_ledger.specs.declared.entry.Stand.{Stand}
use Rattle.sms_ledger.specs.Books.{is_of, with_stand}
use Rattle.sms_ledger.specs.Kept.{ArePlaces}
use Rattle.sms_ledger.proofs.Stakes.{same_text, standing}

-- ---- keys

and_assoc : (a b c : Bool) → (a && (b && c)) ≡ ((a && b) && c)
and_assoc true b c = refl
and_assoc false b c = refl

-- two keys are equal where both names are
pub key_eq : (r a s b : List ℕ) → length r ≡ length s → bytes_eq (r ++ a) (s ++ b) ≡ (bytes_eq r s && bytes_eq a b)
key_eq [] a [] b long = refl
key_eq [] a (y ∷ ys) b long = absurd (omega (arith, long))
key_eq (x ∷ xs) a [] b long = absurd (omega (arith, long))
key_eq (x ∷ xs) a (y ∷ ys) b long = ap (λ (t : Bool). nat_eq x y && t) (key_eq xs a ys b (omega (arith, long))) ∙ and_assoc (nat_eq x y) (bytes_eq xs ys) (bytes_eq a b)

-- ---- places

else_place : Option ℕ → Bool → ℕ → Option ℕ
else_place (Some k) b n = Some k
else_place None b n = if b then Some n else None

from_push : (p : Stake → Bool) (i : ℕ) (xs : List Stake) (y : Stake) → position_from p i (xs ++ y ∷ []) ≡ else_place (position_from p i xs) (p y) (i + length xs)
unfolding else_place
from_push p i [] y = ap (λ (n : ℕ). if p y then Some n else None) (omega arith)
from_push p i (x ∷ xs) y = here (p x) (from_push p (i + 1) xs y)
  where
    here : (b : Bool) → position_from p (i + 1) (xs ++ y ∷ []) ≡ else_place (position_from p (i + 1) xs) (p y) (i + 1 + length xs)
        → cond b (Some i) (position_from p (i + 1) (xs ++ y ∷ [])) ≡ else_place (cond b (Some i) (position_from p (i + 1) xs)) (p y) (i + length (x ∷ xs))
    here true later = refl
    here false later = later ∙ ap (else_place (position_from p (i + 1) xs) (p y)) (omega arith)

from : (p : Stake → Bool) (xs : List Stake) → position p xs ≡ position_from p 0 xs
from p xs = position_from-zero p xs

push : (p : Stake → Bool) (xs : List Stake) (y : Stake) → position p (xs ++ y ∷ []) ≡ else_place (position p xs) (p y) (length xs)
push p xs y = from p (xs ++ y ∷ []) ∙ from_push p 0 xs y ∙ ap (λ (o : Option ℕ). else_place o (p y) (0 + length xs)) (sym (from p xs)) ∙ ap (else_place (position p xs) (p y)) (omega arith)

pub places_pushed : (old new : List ℕ → Option ℕ) (xs : List Stake) (y : Stake) → ArePlaces old xs → length y.of.run ≡ 32 → old (y.of.run ++ y.of.account) ≡ None
    → ((q : List ℕ) → new q ≡ cond (bytes_eq (y.of.run ++ y.of.account) q) (Some (length xs)) (old q)) → ArePlaces new (xs ++ y ∷ [])
unfolding else_place
places_pushed old new xs y are long none sets run account h =
    sets (run ++ account) ∙ ap (λ (b : Bool). cond b (Some (length xs)) (old (run ++ account))) (key_eq y.of.run y.of.account run account (long ∙ sym h)) ∙ here (bytes_eq y.of.run run && bytes_eq y.of.account account) refl
    ∙ sym (push (is_of run account) xs y)
  where
    turned : (bytes_eq y.of.run run && bytes_eq y.of.account account) ≡ is_of run account y
    turned = ap (λ (b : Bool). b && bytes_eq y.of.account account) (nat_list_eq_equiv.symm y.of.run run) ∙ ap (λ (b : Bool). bytes_eq run y.of.run && b) (nat_list_eq_equiv.symm y.of.account account)

    other : (o : Option ℕ) → o ≡ else_place o false (length xs)
    other None = refl
    other (Some k) = refl

    here : (b : Bool) → (bytes_eq y.of.run run && bytes_eq y.of.account account) ≡ b → cond b (Some (length xs)) (old (run ++ account)) ≡ else_place (position (is_of run account) xs) (is_of run account y) (length xs)
    here true e =
        let both = and_parts (bytes_eq y.of.run run) (bytes_eq y.of.account account) e in
        let gone : position (is_of run account) xs ≡ None =
        sym (are run account h) ∙ ap (λ (r : List ℕ). old (r ++ account)) (sym (same_text y.of.run run both.0)) ∙ ap (λ (a : List ℕ). old (y.of.run ++ a)) (sym (same_text y.of.account account both.1)) ∙ none
        in
        ap (λ (b : Bool). if b then Some (length xs) else None) (sym e ∙ turned) ∙ ap (λ (o : Option ℕ). else_place o (is_of run account y) (length xs)) (sym gone)
    here false e = are run account h ∙ other (position (is_of run account) xs) ∙ ap (λ (b : Bool). else_place (position (is_of run account) xs) b (length xs)) (sym e ∙ turned)

-- ---- what is at a place

pub record IsThere (run account : List ℕ) (xs : List Stake) (place : ℕ) : Type 0 where
  pub stake : Stake
  pub got : slice_get xs place ≡ Some stake
  pub found : find (is_of run account) xs ≡ Some stake
  pub changed : (stand : Stand) → with_stand run account stand xs ≡ slice_set xs place (record stake { stand = stand })

record IsFrom (run account : List ℕ) (xs : List Stake) (i place : ℕ) : Type 0 where
  pub at : ℕ
  pub is : place ≡ i + at
  pub there : IsThere run account xs at

found_from : (run account : List ℕ) (i : ℕ) (xs : List Stake) (k : ℕ) → position_from (is_of run account) i xs ≡ Some k → IsFrom run account xs i k
found_from run account i [] k e = absurd (cc)
found_from run account i (x ∷ xs) k e = here (is_of run account x) refl e (found_from run account (i + 1) xs k)
  where
    here : (b : Bool) → is_of run account x ≡ b → cond b (Some i) (position_from (is_of run account) (i + 1) xs) ≡ Some k → (position_from (is_of run account) (i + 1) xs ≡ Some k → IsFrom run account xs (i + 1) k) → IsFrom run account (x ∷ xs) i k
    here true is e later =
        let same : i ≡ k = cc in
        record {
          at = 0;
          is = omega (arith, same);
          there = record {
            stake = x;
            got = refl;
            found = ap (λ (b : Bool). cond b (Some x) (find (is_of run account) xs)) is;
            changed = λ stand. ap (λ (b : Bool). if b then record x { stand = stand } ∷ xs else x ∷ with_stand run account stand xs) is;
          };
        }
    here false is e later =
        let f = later e in
        record {
          at = suc f.at;
          is = omega (arith, f.is);
          there = record {
            stake = f.there.stake;
            got = f.there.got;
            found = ap (λ (b : Bool). cond b (Some x) (find (is_of run account) xs)) is ∙ f.there.found;
            changed = λ stand. ap (λ (b : Bool). if b then record x { stand = stand } ∷ xs else x ∷ with_stand run account stand xs) is ∙ ap (λ (l : List Stake). x ∷ l) (f.there.changed stand);
          };
        }

pub found_at : (run account : List ℕ) (xs : List Stake) (k : ℕ) → position (is_of run account) xs ≡ Some k → IsThere run account xs k
found_at run account xs k e = let f = found_from run account 0 xs k (sym (from (is_of run account) xs) ∙ e) in subst (IsThere run account xs) (sym (f.is ∙ omega arith)) f.there

none_from : (p : Stake → Bool) (i : ℕ) (xs : List Stake) → position_from p i xs ≡ None → find p xs ≡ None
none_from p i [] e = refl
none_from p i (x ∷ xs) e = here (p x) e (none_from p (i + 1) xs)
  where
    here : (b : Bool) → cond b (Some i) (position_from p (i + 1) xs) ≡ None → (position_from p (i + 1) xs ≡ None → find p xs ≡ None) → cond b (Some x) (find p xs) ≡ None
    here true e later = absurd (cc)
    here false e later = later e

pub none_at : (run account : List ℕ) (xs : List Stake) → position (is_of run account) xs ≡ None → standing (find (is_of run account) xs) ≡ None
none_at run account xs e = ap standing (none_from (is_of run account) 0 xs (sym (from (is_of run account) xs) ∙ e))

-- ---- a stake that stands otherwise is where it was

kept_from : (run account r a : List ℕ) (stand : Stand) (i : ℕ) (xs : List Stake) → position_from (is_of run account) i (with_stand r a stand xs) ≡ position_from (is_of run account) i xs
kept_from run account r a stand i [] = refl
kept_from run account r a stand i (x ∷ xs) = here (is_of r a x) (kept_from run account r a stand (i + 1) xs)
  where
    here : (b : Bool) → position_from (is_of run account) (i + 1) (with_stand r a stand xs) ≡ position_from (is_of run account) (i + 1) xs
        → position_from (is_of run account) i (if b then record x { stand = stand } ∷ xs else x ∷ with_stand r a stand xs) ≡ position_from (is_of run account) i (x ∷ xs)
    here true later = refl
    here false later = ap (cond (is_of run account x) (Some i)) later

pub places_kept : (old : List ℕ → Option ℕ) (xs : List Stake) (r a : List ℕ) (stand : Stand) → ArePlaces old xs → ArePlaces old (with_stand r a stand xs)
places_kept old xs r a stand are run account h = are run account h ∙ from (is_of run account) xs ∙ sym (kept_from run account r a stand 0 xs) ∙ sym (from (is_of run account) (with_stand r a stand xs))
