-- What a search that ends says of the list of requests.
use Rattle.std.proofs.Common.{◌≡◌, ◌≢◌, ℕ, zero, suc, ◌+◌, ◌*◌, ◌<◌, ◌≤◌, Bool, true, false, List, [], ◌∷◌, length, get_or, Option, Some, None, if◌then◌else◌, refl, ap, ◌∙◌, sym, subst, arith, eqb, eq-eqb}
use Rattle.std.specs.Option.{option_map}
use Rattle.std.proofs.lemmas.List.{get_or_past, length-map}
use mathlib.Core.Logic.{dite}
use Rattle.std.proofs.Math.Decide.{dec_lt}
use native.Mathlib.Decide.{ℕ_discrete}
use Rattle.sms_core.specs.declared.request.Request.{Request}
use Rattle.sms_core.specs.Requests.{place_of}
use Rattle.sms_core.specs.Links.{AreLinks, names, nowhere, lead, rest_of, place_at, most_turns}
use Rattle.sms_core.proofs.Places.{place_below}
use Rattle.sms_core.proofs.Links.{stays, whole}

id_step : (id : ℕ) (r : Request) (rs : List Request) (b : Bool) (o : Option ℕ) (p : ℕ) → eqb r.id id ≡ b → (if b then Some 0 else option_map suc o) ≡ Some p →
    ((k : ℕ) → o ≡ Some k → get_or (names rs) k 0 ≡ id) → get_or (names (r ∷ rs)) p 0 ≡ id
id_step id r rs true o zero is e h = grind arith
id_step id r rs true o (suc p) is e h = absurd (cc)
id_step id r rs false None p is e h = absurd (cc)
id_step id r rs false (Some k) zero is e h = absurd (cc)
id_step id r rs false (Some k) (suc p) is e h = let i : k ≡ p = cc in h p (ap Some i)

-- the request at its place has its name
pub name_at : (id : ℕ) (rs : List Request) (p : ℕ) → place_of id rs ≡ Some p → get_or (names rs) p 0 ≡ id
name_at id [] p e = absurd (cc)
name_at id (r ∷ rs) p e = id_step id r rs (eqb r.id id) (place_of id rs) p refl e (λ k. name_at id rs k)

none_step : (b : Bool) (o : Option ℕ) → (if b then Some 0 else option_map suc o) ≡ None → (b ≡ false) × (o ≡ None)
none_step true o e = absurd (cc)
none_step false None e = (refl, refl)
none_step false (Some k) e = absurd (cc)

-- of a name that has no place there is no request
pub unnamed : (id : ℕ) (rs : List Request) → place_of id rs ≡ None → (p : ℕ) → p < length (names rs) → get_or (names rs) p 0 ≢ id
unnamed id [] e p lt = absurd (omega arith)
unnamed id (r ∷ rs) e zero lt = λ (is : r.id ≡ id). let n = none_step (eqb r.id id) (place_of id rs) e in absurd (cc (eq-eqb r.id id is, n.0))
unnamed id (r ∷ rs) e (suc p) lt = unnamed id rs (none_step (eqb r.id id) (place_of id rs) e).1 p (omega arith)

by_place : (id : ℕ) (rs : List Request) (o : Option ℕ) → place_of id rs ≡ o → ((p : ℕ) → p < length (names rs) → get_or (names rs) p 0 ≢ id) → o ≡ None
by_place id rs None e h = refl
by_place id rs (Some p) e h = absurd (h p (let b : p < length (names rs) = omega (arith, place_below id rs p e, length-map rs (λ (r : Request). r.id)) in b) (name_at id rs p e))

at_place : (id : ℕ) (rs : List Request) (q : ℕ) (o : Option ℕ) → place_of id rs ≡ o → q < length (names rs) → get_or (names rs) q 0 ≡ id →
    ((p : ℕ) → p < length (names rs) → get_or (names rs) p 0 ≡ id → p ≡ q) → o ≡ Some q
at_place id rs q None e lt is h = absurd (unnamed id rs e q lt is)
at_place id rs q (Some p) e lt is h = ap Some (h p (let b : p < length (names rs) = omega (arith, place_below id rs p e, length-map rs (λ (r : Request). r.id)) in b) (name_at id rs p e))

-- the search went on at the first turns
abbrev pub Passes : List ℕ → List ℕ → ℕ → ℕ → Type 0
Passes ids links id turns = (t : ℕ) → t < turns → (place_at (lead links) t id < length ids) × (get_or ids (place_at (lead links) t id) 0 ≢ id)

-- it goes on at one more
pub passes_more : (ids links : List ℕ) (id turns q : ℕ) → q ≡ place_at (lead links) turns id → q < length ids → get_or ids q 0 ≢ id → Passes ids links id turns → Passes ids links id (turns + 1)
passes_more ids links id turns q at low other passed t below = dite (ℕ_discrete t turns)
    (λ is. subst (λ (p : ℕ). (p < length ids) × (get_or ids p 0 ≢ id)) (at ∙ ap (λ (u : ℕ). place_at (lead links) u id) (sym is)) (low, other))
    (λ ne. passed t (omega arith))

pub far : {ids links : List ℕ} → AreLinks ids links → (k : ℕ) → 8 * length ids + 2048 ≤ k → lead links k ≡ nowhere
far {ids} {links} w k le = get_or_past links k nowhere (let h : length links ≤ k = omega (arith, w.count, le) in h)

nowhere_none : {ids links : List ℕ} → AreLinks ids links → length ids < nowhere → (id t : ℕ) → Passes ids links id t → place_at (lead links) t id ≡ nowhere →
    (p : ℕ) → p < length ids → get_or ids p 0 ≢ id
nowhere_none {ids} {links} w few id t passed none p lt is =
    let r = w.reached p lt in
    let turns = r.way.turns in
    let at : place_at (lead links) turns id ≡ p = ap (λ (x : ℕ). place_at (lead links) turns x) (sym is) ∙ ap (lead links) r.way.there ∙ r.there in
    dite (dec_lt turns t)
    (λ before. (passed turns before).1 (ap (λ (x : ℕ). get_or ids x 0) at ∙ is))
    (λ after. let still = stays (length ids) nowhere (lead links) (let h : length ids ≤ nowhere = omega (arith, few) in h) (far w) t id turns (let h : t ≤ turns = omega (arith, after) in h) none in
    absurd (omega (arith, still, at, lt, few)))

pub ends_nowhere : (rs : List Request) (links : List ℕ) → AreLinks (names rs) links → length (names rs) < nowhere → (id t : ℕ) → Passes (names rs) links id t → place_at (lead links) t id ≡ nowhere →
    place_of id rs ≡ None
ends_nowhere rs links w few id t passed none = by_place id rs (place_of id rs) refl (nowhere_none w few id t passed none)

pub ends_at : (rs : List Request) (links : List ℕ) → AreLinks (names rs) links → (id q : ℕ) → q < length (names rs) → get_or (names rs) q 0 ≡ id → place_of id rs ≡ Some q
ends_at rs links w id q lt is = at_place id rs q (place_of id rs) refl lt is (λ p below e. w.distinct p q below lt (e ∙ sym is))

-- after all turns a search leads to its name or nowhere
pub after_all : {ids links : List ℕ} → AreLinks ids links → (id : ℕ) → rest_of most_turns id ≡ 0 → place_at (lead links) most_turns id < length ids → get_or ids (place_at (lead links) most_turns id) 0 ≡ id
after_all {ids} {links} w id none lt =
    let p = place_at (lead links) most_turns id in
    let name = get_or ids p 0 in
    let r = w.reached p lt in
    let there : place_at (lead links) r.way.turns name ≡ p = ap (lead links) r.way.there ∙ r.there in
    let below : place_at (lead links) r.way.turns name < length ids = omega (arith, there, lt) in
    let o = w.once r.way.turns name most_turns id below there in
    o.1 (ap (λ (t : ℕ). rest_of t name) o.0 ∙ whole name (w.short p) ∙ sym none)

pub name_of : (rs : List Request) (p : ℕ) (d : Request) → p < length rs → get_or (names rs) p 0 ≡ (get_or rs p d).id
name_of [] p d lt = absurd (omega arith)
name_of (r ∷ rs) zero d lt = refl
name_of (r ∷ rs) (suc p) d lt = name_of rs p d (omega arith)
