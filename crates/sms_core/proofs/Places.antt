-- Where a request stands in the list, and what that says of a look-up by its name.
use Rattle.std.proofs.Common.{◌≡◌, ℕ, suc, zero, ◌<◌, Bool, true, false, List, [], ◌∷◌, length, get_or, slice_get, is_some, Option, Some, None, if◌then◌else◌, refl, ap, arith, eqb}
use Rattle.std.specs.Option.{option_map}
use Rattle.sms_core.specs.declared.request.Request.{Request}
use Rattle.sms_core.specs.declared.request.RequestState.{RequestState}
use Rattle.sms_core.specs.Requests.{place_of}
use Rattle.sms_core.specs.State.{find_request}

below_step : (b : Bool) (o : Option ℕ) (p n : ℕ) → (if b then Some 0 else option_map suc o) ≡ Some p → ((k : ℕ) → o ≡ Some k → k < n) → p < suc n
below_step true o p n e h = let i : 0 ≡ p = cc in omega arith
below_step false None p n e h = absurd (cc)
below_step false (Some k) p n e h = let i : suc k ≡ p = cc in let l = h k refl in omega arith

pub place_below : (id : ℕ) (rs : List Request) (p : ℕ) → place_of id rs ≡ Some p → p < length rs
place_below id [] p e = absurd (cc)
place_below id (r ∷ rs) p e = below_step (eqb r.id id) (place_of id rs) p (length rs) e (place_below id rs)

-- the request at its place has its name
at_step : (id : ℕ) (r : Request) (rs : List Request) (d : Request) (b : Bool) (o : Option ℕ) (p : ℕ) → eqb r.id id ≡ b → (if b then Some 0 else option_map suc o) ≡ Some p →
    ((k : ℕ) → o ≡ Some k → (get_or rs k d).id ≡ id) → (get_or (r ∷ rs) p d).id ≡ id
at_step id r rs d true o zero is e h = grind arith
at_step id r rs d true o (suc p) is e h = absurd (cc)
at_step id r rs d false None p is e h = absurd (cc)
at_step id r rs d false (Some k) zero is e h = absurd (cc)
at_step id r rs d false (Some k) (suc p) is e h = let i : k ≡ p = cc in h p (ap Some i)

pub place_named : (id : ℕ) (rs : List Request) (p : ℕ) (d : Request) → place_of id rs ≡ Some p → (get_or rs p d).id ≡ id
place_named id [] p d e = absurd (cc)
place_named id (r ∷ rs) p d e = at_step id r rs d (eqb r.id id) (place_of id rs) p refl e (λ k. place_named id rs k d)

find_step : (id : ℕ) (r : Request) (rs : List Request) (d : Request) (b : Bool) (o : Option ℕ) (p : ℕ) → (if b then Some 0 else option_map suc o) ≡ Some p →
    ((k : ℕ) → o ≡ Some k → find_request id rs ≡ Some (get_or rs k d).state) → (if b then Some r.state else find_request id rs) ≡ Some (get_or (r ∷ rs) p d).state
find_step id r rs d true o zero e h = refl
find_step id r rs d true o (suc p) e h = absurd (cc)
find_step id r rs d false None p e h = absurd (cc)
find_step id r rs d false (Some k) zero e h = absurd (cc)
find_step id r rs d false (Some k) (suc p) e h = let i : k ≡ p = cc in h p (ap Some i)

pub find_placed : (id : ℕ) (rs : List Request) (p : ℕ) (d : Request) → place_of id rs ≡ Some p → find_request id rs ≡ Some (get_or rs p d).state
find_placed id [] p d e = absurd (cc)
find_placed id (r ∷ rs) p d e = find_step id r rs d (eqb r.id id) (place_of id rs) p e (λ k. find_placed id rs k d)

none_step : (id : ℕ) (r : Request) (rs : List Request) (b : Bool) (o : Option ℕ) → (if b then Some 0 else option_map suc o) ≡ None → (o ≡ None → find_request id rs ≡ None) →
    (if b then Some r.state else find_request id rs) ≡ None
none_step id r rs true o e h = absurd (cc)
none_step id r rs false None e h = h refl
none_step id r rs false (Some k) e h = absurd (cc)

pub find_unplaced : (id : ℕ) (rs : List Request) → place_of id rs ≡ None → find_request id rs ≡ None
find_unplaced id [] e = refl
find_unplaced id (r ∷ rs) e = none_step id r rs (eqb r.id id) (place_of id rs) e (find_unplaced id rs)

unplaced_step : (id : ℕ) (r : Request) (rs : List Request) (b : Bool) → (if b then Some r.state else find_request id rs) ≡ None → (find_request id rs ≡ None → place_of id rs ≡ None) →
    (if b then Some 0 else option_map suc (place_of id rs)) ≡ None
unplaced_step id r rs true e h = absurd (cc)
unplaced_step id r rs false e h = ap (option_map suc) (h e)

pub unplaced : (id : ℕ) (rs : List Request) → find_request id rs ≡ None → place_of id rs ≡ None
unplaced id [] e = refl
unplaced id (r ∷ rs) e = unplaced_step id r rs (eqb r.id id) e (unplaced id rs)

found_step : (id : ℕ) (rs : List Request) (p : ℕ) (o : Option RequestState) → find_request id rs ≡ o → place_of id rs ≡ Some p → is_some o ≡ true
found_step id rs p None none e = absurd (cc (unplaced id rs none, e))
found_step id rs p (Some s) is e = refl

-- a request that has a place is found
pub found_placed : (id : ℕ) (rs : List Request) (p : ℕ) → place_of id rs ≡ Some p → is_some (find_request id rs) ≡ true
found_placed id rs p e = found_step id rs p (find_request id rs) refl e

pub slice_get-in : (rs : List Request) (p : ℕ) (r : Request) → p < length rs → get_or rs p r ≡ r → slice_get rs p ≡ Some r
slice_get-in [] p r lt e = absurd (omega arith)
slice_get-in (x ∷ rs) zero r lt e = ap Some e
slice_get-in (x ∷ rs) (suc p) r lt e = slice_get-in rs p r (omega arith) e
