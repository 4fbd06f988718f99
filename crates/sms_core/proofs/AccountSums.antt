-- Account sums over joined lists of entries, a list of lists, a list with one entry changed, and one more.
use Rattle.std.proofs.Common.{◌≡◌, ℕ, ◌+◌, ◌≤◌, List, [], ◌∷◌, ◌++◌, map, set, slice_get, Some, sum_by}
use Rattle.std.specs.List.{flat_map}
use Rattle.std.proofs.lemmas.List.Sums.{sum_by-cons, sum_by-append, sum_by_push}
use Rattle.sms_core.specs.declared.request.Phase.{Phase}
use Rattle.sms_core.specs.Rows.{Entry, part, over}
use Rattle.sms_core.proofs.ListSums.{sum_by-map, sum_by-flat_map, sum_by-put, sum_by-put_within, sum_by-at_most}

pub over-cons : (f : Phase → ℕ → ℕ) (account : ℕ) (e : Entry) (es : List Entry) → over f account (e ∷ es) ≡ part f account e + over f account es
over-cons f account e es = sum_by-cons (part f account) e es

pub over-append : (f : Phase → ℕ → ℕ) (account : ℕ) (es more : List Entry) → over f account (es ++ more) ≡ over f account es + over f account more
over-append f account es more = sum_by-append (part f account) es more

-- one entry more
pub over_push : (f : Phase → ℕ → ℕ) (account : ℕ) (es : List Entry) (e : Entry) → over f account (es ++ e ∷ []) ≡ over f account es + part f account e
over_push f account es e = sum_by_push (part f account) es e

-- the entries of anything
pub over-map : {X : Type 0} (f : Phase → ℕ → ℕ) (account : ℕ) (entry : X → Entry) (xs : List X) → over f account (map entry xs) ≡ sum_by (λ x. part f account (entry x)) xs
over-map f account entry xs = sum_by-map (part f account) entry xs

-- the entries that each of a list has
pub over-flat_map : {X : Type 0} (f : Phase → ℕ → ℕ) (account : ℕ) (entries : X → List Entry) (xs : List X)
    → over f account (flat_map entries xs) ≡ sum_by (λ x. over f account (entries x)) xs
over-flat_map f account entries xs = sum_by-flat_map (part f account) entries xs

-- another entry in a place
pub over-put : (f : Phase → ℕ → ℕ) (account : ℕ) (es : List Entry) (place : ℕ) (e new : Entry) → slice_get es place ≡ Some e
    → over f account (set es place new) + part f account e ≡ over f account es + part f account new
over-put f account es place e new at = sum_by-put (part f account) es place e new at

-- another entry in a place of one of the lists
pub over-put_within : (f : Phase → ℕ → ℕ) (account : ℕ) (ess : List (List Entry)) (outer inner : ℕ) (es : List Entry) (e new : Entry) → slice_get ess outer ≡ Some es → slice_get es inner ≡ Some e
    → over f account (flat_map (λ l. l) (set ess outer (set es inner new))) + part f account e ≡ over f account (flat_map (λ l. l) ess) + part f account new
over-put_within f account ess outer inner es e new there at = sum_by-put_within (part f account) ess outer inner es e new there at

-- one entry's part is within the account's
pub part_at_most : (f : Phase → ℕ → ℕ) (account : ℕ) (es : List Entry) (place : ℕ) (e : Entry) → slice_get es place ≡ Some e → part f account e ≤ over f account es
part_at_most f account es place e at = sum_by-at_most (part f account) es place e at
