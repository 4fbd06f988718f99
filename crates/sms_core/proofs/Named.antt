-- Requests by their names: how a change and one request more are found again, and what they do to the sums.
use Rattle.std.proofs.Common.{◌≡◌, ◌≢◌, ℕ, ◌+◌, ◌≤◌, ◌==◌, Bool, true, false, List, [], ◌∷◌, ◌++◌, map, Some, None, refl, sym, ap, ◌∙◌, subst, arith, eq-eqb, ne_eqb}
use Rattle.std.specs.Prelude.{if◌then◌else◌}
use mathlib.Core.Logic.{dite}
use native.Mathlib.Decide.{ℕ_discrete}
use Rattle.std.proofs.lemmas.List.{map-append}
use Rattle.sms_core.specs.declared.request.Phase.{Phase}
use Rattle.sms_core.specs.declared.request.Phase.TheVariants.{Ready, Open, Charged, Refused, Unanswered, Unsent}
use Rattle.sms_core.specs.declared.request.Request.{Request}
use Rattle.sms_core.specs.declared.request.RequestState.{RequestState}
use Rattle.sms_core.specs.Rows.{reserved_of, charged_of, over}
use Rattle.sms_core.specs.State.{entry_of, find_request, changed}
use Rattle.sms_core.proofs.AccountSums.{over-cons, over_push}

-- a request is found at the head or behind it
pub find_head : (id : ℕ) (r : Request) (rs : List Request) → r.id ≡ id → find_request id (r ∷ rs) ≡ Some r.state
find_head id r rs is = rw (eq-eqb r.id id is) refl

pub find_behind : (id : ℕ) (r : Request) (rs : List Request) → r.id ≢ id → find_request id (r ∷ rs) ≡ find_request id rs
find_behind id r rs ne = rw (ne_eqb r.id id ne) refl

pub none_behind : (id : ℕ) (r : Request) (rs : List Request) → find_request id (r ∷ rs) ≡ None → (r.id ≢ id) × (find_request id rs ≡ None)
none_behind id r rs e = dite (ℕ_discrete r.id id)
    (λ is. let h = find_head id r rs is in absurd (cc))
    (λ ne. (ne, sym (find_behind id r rs ne) ∙ e))

-- one request as a change leaves it
abbrev changed_one : ℕ → (RequestState → RequestState) → Request → Request
changed_one id f r = if r.id == id then record { id = r.id; state = f r.state } else r

changed_this : (id : ℕ) (f : RequestState → RequestState) (r : Request) → r.id ≡ id → changed_one id f r ≡ record { id = r.id; state = f r.state }
changed_this id f r is = rw (eq-eqb r.id id is) refl

changed_other : (id : ℕ) (f : RequestState → RequestState) (r : Request) → r.id ≢ id → changed_one id f r ≡ r
changed_other id f r ne = rw (ne_eqb r.id id ne) refl

same_name : (id : ℕ) (f : RequestState → RequestState) (r : Request) → (changed_one id f r).id ≡ r.id
same_name id f r = dite (ℕ_discrete r.id id)
    (λ is. ap (λ (x : Request). x.id) (changed_this id f r is))
    (λ ne. ap (λ (x : Request). x.id) (changed_other id f r ne))

pub find_changed : (id : ℕ) (f : RequestState → RequestState) (rs : List Request) (s : RequestState) → find_request id rs ≡ Some s → find_request id (changed id f rs) ≡ Some (f s)
find_changed id f [] s e = absurd (cc)
find_changed id f (r ∷ rs) s e = dite (ℕ_discrete r.id id)
    (λ is.
    let h = find_head id r rs is in
    let same : Some r.state ≡ Some s = sym h ∙ e in
    let at : r.state ≡ s = cc in
    find_head id (changed_one id f r) (changed id f rs) (same_name id f r ∙ is) ∙ ap (λ (x : Request). Some x.state) (changed_this id f r is) ∙ ap (λ (x : RequestState). Some (f x)) at)
    (λ ne.
    find_behind id (changed_one id f r) (changed id f rs) (λ e. ne (sym (same_name id f r) ∙ e)) ∙ find_changed id f rs s (sym (find_behind id r rs ne) ∙ e))

pub find_unchanged : (id other : ℕ) (f : RequestState → RequestState) (rs : List Request) → other ≢ id → find_request other (changed id f rs) ≡ find_request other rs
find_unchanged id other f [] ne = refl
find_unchanged id other f (r ∷ rs) ne = dite (ℕ_discrete r.id other)
    (λ is.
    find_head other (changed_one id f r) (changed id f rs) (same_name id f r ∙ is)
    ∙ ap (λ (x : Request). Some x.state) (changed_other id f r (λ e. ne (sym is ∙ e))) ∙ sym (find_head other r rs is))
    (λ no_head.
    find_behind other (changed_one id f r) (changed id f rs) (λ e. no_head (sym (same_name id f r) ∙ e))
    ∙ find_unchanged id other f rs ne ∙ sym (find_behind other r rs no_head))

pub none_changed : (id other : ℕ) (f : RequestState → RequestState) (rs : List Request) → find_request other rs ≡ None → find_request other (changed id f rs) ≡ None
none_changed id other f [] e = refl
none_changed id other f (r ∷ rs) e =
    let b = none_behind other r rs e in
    find_behind other (changed_one id f r) (changed id f rs) (λ e. b.0 (sym (same_name id f r) ∙ e)) ∙ none_changed id other f rs b.1

pub find_before : (id : ℕ) (rs more : List Request) (s : RequestState) → find_request id rs ≡ Some s → find_request id (rs ++ more) ≡ Some s
find_before id [] more s e = absurd (cc)
find_before id (r ∷ rs) more s e = dite (ℕ_discrete r.id id)
    (λ is. find_head id r (rs ++ more) is ∙ sym (find_head id r rs is) ∙ e)
    (λ ne. find_behind id r (rs ++ more) ne ∙ find_before id rs more s (sym (find_behind id r rs ne) ∙ e))

pub find_after : (id : ℕ) (rs more : List Request) → find_request id rs ≡ None → find_request id (rs ++ more) ≡ find_request id more
find_after id [] more e = refl
find_after id (r ∷ rs) more e = let b = none_behind id r rs e in find_behind id r (rs ++ more) b.0 ∙ find_after id rs more b.1

pub find_beside : (id : ℕ) (rs : List Request) (x : Request) → x.id ≢ id → find_request id (rs ++ x ∷ []) ≡ find_request id rs
find_beside id [] x ne = find_behind id x [] ne
find_beside id (r ∷ rs) x ne = dite (ℕ_discrete r.id id)
    (λ is. find_head id r (rs ++ x ∷ []) is ∙ sym (find_head id r rs is))
    (λ no_head. find_behind id r (rs ++ x ∷ []) no_head ∙ find_beside id rs x ne ∙ sym (find_behind id r rs no_head))

-- no two requests have one name
abbrev pub AreNamedApart : List Request → Type 0
AreNamedApart [] = Unit {0}
AreNamedApart (r ∷ rs) = (find_request r.id rs ≡ None) × AreNamedApart rs

pub apart_changed : (id : ℕ) (f : RequestState → RequestState) (rs : List Request) → AreNamedApart rs → AreNamedApart (changed id f rs)
apart_changed id f [] a = tt
apart_changed id f (r ∷ rs) a =
    (subst (λ (n : ℕ). find_request n (changed id f rs) ≡ None) (sym (same_name id f r)) (none_changed id r.id f rs a.0), apart_changed id f rs a.1)

pub apart_more : (rs : List Request) (x : Request) → find_request x.id rs ≡ None → AreNamedApart rs → AreNamedApart (rs ++ x ∷ [])
apart_more [] x e a = (refl, tt)
apart_more (r ∷ rs) x e a =
    let b = none_behind x.id r rs e in
    (find_beside r.id rs x (λ e. b.0 (sym e)) ∙ a.0, apart_more rs x b.1 a.1)

unchanged : (id : ℕ) (f : RequestState → RequestState) (rs : List Request) → find_request id rs ≡ None → changed id f rs ≡ rs
unchanged id f [] e = refl
unchanged id f (r ∷ rs) e =
    let b = none_behind id r rs e in
    let head = changed_other id f r b.0 in
    let rest = unchanged id f rs b.1 in
    λ i. head i ∷ rest i

-- what a request's state adds to an account
abbrev pub share : (Phase → ℕ → ℕ) → ℕ → RequestState → ℕ
share g account s = if s.account == account then g s.phase s.cost else 0

pub over_changed : (g : Phase → ℕ → ℕ) (account id : ℕ) (f : RequestState → RequestState) (rs : List Request) (s : RequestState) → AreNamedApart rs → find_request id rs ≡ Some s
    → over g account (map entry_of (changed id f rs)) + share g account s ≡ over g account (map entry_of rs) + share g account (f s)
over_changed g account id f [] s a e = absurd (cc)
over_changed g account id f (r ∷ rs) s a e = dite (ℕ_discrete r.id id)
    (λ is.
    let h = find_head id r rs is in
    let same : Some r.state ≡ Some s = sym h ∙ e in
    let at : r.state ≡ s = cc in
    let none : find_request id rs ≡ None = ap (λ (n : ℕ). find_request n rs) (sym is) ∙ a.0 in
    let rest : over g account (map entry_of (changed id f rs)) ≡ over g account (map entry_of rs) = ap (λ (l : List Request). over g account (map entry_of l)) (unchanged id f rs none) in
    let old : share g account r.state ≡ share g account s = ap (share g account) at in
    let was = over-cons g account (entry_of r) (map entry_of rs) in
    let now = over-cons g account (entry_of (changed_one id f r)) (map entry_of (changed id f rs)) in
    let new : share g account (changed_one id f r).state ≡ share g account (f s) = ap (λ (x : Request). share g account x.state) (changed_this id f r is) ∙ ap (λ (x : RequestState). share g account (f x)) at in
    omega arith)
    (λ ne.
    let was = over-cons g account (entry_of r) (map entry_of rs) in
    let now = over-cons g account (entry_of (changed_one id f r)) (map entry_of (changed id f rs)) in
    let rest = over_changed g account id f rs s a.1 (sym (find_behind id r rs ne) ∙ e) in
    let head : share g account (changed_one id f r).state ≡ share g account r.state = ap (λ (x : Request). share g account x.state) (changed_other id f r ne) in
    omega arith)

pub over_more : (g : Phase → ℕ → ℕ) (account : ℕ) (rs : List Request) (x : Request) → over g account (map entry_of (rs ++ x ∷ [])) ≡ over g account (map entry_of rs) + share g account x.state
over_more g account rs x = rw (map-append entry_of rs (x ∷ [])) (over_push g account (map entry_of rs) (entry_of x))

committed_most : (p : Phase) (cost : ℕ) → reserved_of p cost + charged_of p cost ≤ cost
committed_most Ready cost = omega arith
committed_most Open cost = omega arith
committed_most Charged cost = omega arith
committed_most Refused cost = omega arith
committed_most Unanswered cost = omega arith
committed_most Unsent cost = omega arith

no_more : (mine : Bool) (p q : Phase) (cost : ℕ) → reserved_of p cost ≡ cost
    → (if mine then reserved_of q cost else 0) + (if mine then charged_of q cost else 0) ≤ (if mine then reserved_of p cost else 0) + (if mine then charged_of p cost else 0)
no_more true p q cost e = let m = committed_most q cost in omega arith
no_more false p q cost e = omega arith

-- a request whose cost is reserved keeps no more of its account, whatever it becomes
pub no_more_committed : (account id : ℕ) (f : RequestState → RequestState) (rs : List Request) (s : RequestState) (n : ℕ) (q : Phase) → AreNamedApart rs → find_request id rs ≡ Some s
    → f s ≡ record { account = s.account; cost = s.cost; attempts = n; phase = q } → reserved_of s.phase s.cost ≡ s.cost
    → over reserved_of account (map entry_of (changed id f rs)) + over charged_of account (map entry_of (changed id f rs))
    ≤ over reserved_of account (map entry_of rs) + over charged_of account (map entry_of rs)
no_more_committed account id f rs s n q a e becomes full =
    let r = over_changed reserved_of account id f rs s a e in
    let c = over_changed charged_of account id f rs s a e in
    let t : RequestState = record { account = s.account; cost = s.cost; attempts = n; phase = q } in
    let re : share reserved_of account (f s) ≡ share reserved_of account t = ap (share reserved_of account) becomes in
    let ce : share charged_of account (f s) ≡ share charged_of account t = ap (share charged_of account) becomes in
    let less : share reserved_of account t + share charged_of account t ≤ share reserved_of account s + share charged_of account s = no_more (s.account == account) s.phase q s.cost full in
    omega arith
