-- One more request: the link at which the search for its name ended leads to it, and it has eight links to nowhere.
use Rattle.std.proofs.Common.{◌≡◌, ◌≢◌, ℕ, zero, suc, ◌+◌, ◌*◌, ◌^◌, ◌<◌, ◌≤◌, List, [], ◌∷◌, ◌++◌, length, get_or, set, replicate, refl, ap, ◌∙◌, sym, arith}
use Rattle.std.proofs.lemmas.List.{get_or_append_left, get_or_at, get_or-set_same, get_or-set_other, length-append, length-replicate, length-set}
use mathlib.Core.Logic.{dite}
use native.Mathlib.Decide.{ℕ_discrete}
use Rattle.std.proofs.Math.Decide.{dec_lt}
use Rattle.sms_core.specs.Links.{AreLinks, Reaches, Visits, nowhere, lead, link_at}
use Rattle.sms_core.proofs.Links.{Grows, link_old, other, once_grown}
use Rattle.sms_core.proofs.Seeking.{far}

abbrev pub ends : List ℕ
ends = nowhere ∷ nowhere ∷ nowhere ∷ nowhere ∷ nowhere ∷ nowhere ∷ nowhere ∷ nowhere ∷ []

padded : (links : List ℕ) (k : ℕ) → lead (links ++ ends) k ≡ lead links k
padded [] zero = refl
padded [] (suc zero) = refl
padded [] (suc (suc zero)) = refl
padded [] (suc (suc (suc zero))) = refl
padded [] (suc (suc (suc (suc zero)))) = refl
padded [] (suc (suc (suc (suc (suc zero))))) = refl
padded [] (suc (suc (suc (suc (suc (suc zero)))))) = refl
padded [] (suc (suc (suc (suc (suc (suc (suc zero))))))) = refl
padded [] (suc (suc (suc (suc (suc (suc (suc (suc k)))))))) = refl
padded (x ∷ xs) zero = refl
padded (x ∷ xs) (suc k) = padded xs k

abbrev pub linked : List ℕ → ℕ → ℕ → List ℕ
linked links i n = set (links ++ ends) i n

grows : (ids links : List ℕ) (i : ℕ) → AreLinks ids links → length ids < nowhere → i < length links → lead links i ≡ nowhere →
    Grows (length ids) nowhere i (lead links) (lead (linked links i (length ids)))
grows ids links i w few inside was = record {
  below = few;
  real = w.real;
  low = λ k lt. dite (dec_lt k (8 * length ids + 2048)) (λ h. h)
      (λ h. let out = far w k (let le : 8 * length ids + 2048 ≤ k = omega (arith, h) in le) in absurd (omega (arith, out, lt, few)));
  inside = omega (arith, inside, w.count);
  was = was;
  now = get_or-set_same (links ++ ends) i (length ids) nowhere (let h : i < length (links ++ ends) = omega (arith, inside, length-append links ends) in h);
  kept = λ k ne. get_or-set_other (links ++ ends) i k (length ids) nowhere ne ∙ padded links k;
}

pushed : (ids : List ℕ) (id : ℕ) → length (ids ++ id ∷ []) ≡ length ids + 1
pushed ids id = length-append ids (id ∷ [])

last : (ids : List ℕ) (id : ℕ) → get_or (ids ++ id ∷ []) (length ids) 0 ≡ id
last ids id = get_or_at ids id [] 0 (length ids) refl

real_grown : {n i : ℕ} {f g : ℕ → ℕ} → Grows n nowhere i f g → (k : ℕ) → g k ≢ nowhere → g k < n + 1
real_grown {n} {i} {f} {g} w k ne = dite (ℕ_discrete k i)
    (λ is. let e : g k ≡ n = ap g is ∙ w.now in omega (arith, e))
    (λ other. let e : g k ≡ f k = w.kept k other in
    let r : f k < n = w.real k (λ (z : f k ≡ nowhere). ne (e ∙ z)) in omega (arith, e, r))

way_old : {n i : ℕ} {f g : ℕ → ℕ} → Grows n nowhere i f g → (id link : ℕ) → link < 8 * n + 2048 → Visits f id link → Visits g id link
way_old {n} {i} {f} {g} w id link lt v = record {
  turns = v.turns;
  few = v.few;
  there = link_old w v.turns id (let h : link_at f v.turns id < 8 * n + 2048 = omega (arith, v.there, lt) in h) ∙ v.there;
}

reaches_old : {n i : ℕ} {f g : ℕ → ℕ} → Grows n nowhere i f g → (id p : ℕ) → p < n → Reaches f id p → Reaches g id p
reaches_old {n} {i} {f} {g} w id p lt r =
    let old : f r.link < n = omega (arith, r.there, lt) in
    record { link = r.link; way = way_old w id r.link (w.low r.link old) r.way; there = w.kept r.link (other w r.link old) ∙ r.there }

short_grown : (ids : List ℕ) (id : ℕ) → ((p : ℕ) → get_or ids p 0 < 2 ^ 32) → id < 2 ^ 32 → (p : ℕ) → get_or (ids ++ id ∷ []) p 0 < 2 ^ 32
short_grown [] id s lt zero = lt
short_grown [] id s lt (suc p) = omega arith
short_grown (x ∷ xs) id s lt zero = s zero
short_grown (x ∷ xs) id s lt (suc p) = short_grown xs id (λ q. s (suc q)) lt p

distinct_grown : (ids : List ℕ) (id : ℕ) → ((p q : ℕ) → p < length ids → q < length ids → get_or ids p 0 ≡ get_or ids q 0 → p ≡ q) → ((p : ℕ) → p < length ids → get_or ids p 0 ≢ id) →
    (p q : ℕ) → p < length ids + 1 → q < length ids + 1 → get_or (ids ++ id ∷ []) p 0 ≡ get_or (ids ++ id ∷ []) q 0 → p ≡ q
distinct_grown ids id d new p q lp lq e =
    let old = λ (k : ℕ) (h : k < length ids). get_or_append_left ids (id ∷ []) 0 k h in
    let at = λ (k : ℕ) (h : k ≡ length ids). ap (λ (x : ℕ). get_or (ids ++ id ∷ []) x 0) h ∙ last ids id in
    dite (dec_lt p (length ids))
    (λ hp. dite (dec_lt q (length ids))
    (λ hq. d p q hp hq (sym (old p hp) ∙ e ∙ old q hq))
    (λ hq. absurd (new p hp (sym (old p hp) ∙ e ∙ at q (let h : q ≡ length ids = omega (arith, lq, hq) in h)))))
    (λ hp. dite (dec_lt q (length ids))
    (λ hq. absurd (new q hq (sym (old q hq) ∙ sym e ∙ at p (let h : p ≡ length ids = omega (arith, lp, hp) in h))))
    (λ hq. let h : p ≡ q = omega (arith, lp, lq, hp, hq) in h))

pub links_grown : (ids links : List ℕ) (id i : ℕ) → AreLinks ids links → length ids < nowhere → i < length links → lead links i ≡ nowhere → Visits (lead links) id i →
    id < 2 ^ 32 → ((p : ℕ) → p < length ids → get_or ids p 0 ≢ id) → AreLinks (ids ++ id ∷ []) (linked links i (length ids))
links_grown ids links id i w few inside was way short new =
    let g = grows ids links i w few inside was in
    let n = pushed ids id in
    record {
      count = omega (arith, w.count, n, length-set (links ++ ends) i (length ids), length-append links ends);
      short = short_grown ids id w.short short;
      distinct = λ p q lp lq. distinct_grown ids id w.distinct new p q (omega (arith, n, lp)) (omega (arith, n, lq));
      real = λ k ne. omega (arith, n, real_grown g k ne);
      once = rw n (once_grown g w.once);
      reached = λ p lt. dite (dec_lt p (length ids))
          (λ h. rw (get_or_append_left ids (id ∷ []) 0 p h) (reaches_old g (get_or ids p 0) p h (w.reached p h)))
          (λ h. let e : p ≡ length ids = omega (arith, n, lt, h) in
          rw (e, last ids id) record { link = i; way = way_old g id i g.inside way; there = g.now });
    }

all_nowhere : (n k : ℕ) → lead (replicate n nowhere) k ≡ nowhere
all_nowhere zero k = refl
all_nowhere (suc n) zero = refl
all_nowhere (suc n) (suc k) = all_nowhere n k

-- before any request
pub no_links : AreLinks [] (replicate 2048 nowhere)
no_links = record {
  count = length-replicate 2048 nowhere;
  short = λ place. omega arith;
  distinct = λ p q lp lq e. absurd (omega (arith, lp));
  real = λ link ne. absurd (ne (all_nowhere 2048 link));
  once = λ t id u other lt e. absurd (omega (arith, lt));
  reached = λ place lt. absurd (omega (arith, lt));
}
