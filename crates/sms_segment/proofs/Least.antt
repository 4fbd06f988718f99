-- No cutting has fewer parts than the filled one, and no other cutting is full.
use Rattle.std.proofs.Common.{◌≡◌, ℕ, ◌+◌, ◌<◌, ◌≤◌, List, [], ◌∷◌, ◌++◌, length, refl, ◌∙◌, ap, inl, inr, arith}
use Rattle.std.proofs.lemmas.Bool.{cases_lt}
use Rattle.std.proofs.lemmas.List.Elements.{recursion_from_All, All-from_recursion}
use Rattle.std.specs.List.{AllByRecursion}
use Rattle.sms_segment.specs.Cutting.{IsCutting, size, all_groups, IsFull, filled, full_cutting, first_group}
use Rattle.sms_segment.proofs.Filling.{Group, size-push, size-cons, filled-fits, filled-breaks, filled-append, all_groups-filled, within-filled, none_empty-filled, full-filled}

-- Two walks over the same groups, with different groups in the part that is open: the walk with less in its
-- part has no more parts in the end, and no walk has two parts more than another.
pub record Ahead (limit : ℕ) (gs : List Group) : Type 0 where
  pub less : (p q : List Group) → size p ≤ size q → length (filled limit p gs) ≤ length (filled limit q gs)
  pub any : (p q : List Group) → length (filled limit p gs) ≤ length (filled limit q gs) + 1

pub ahead : (limit : ℕ) (gs : List Group) → Ahead limit gs
ahead limit [] = record { less = λ p q h. omega arith; any = λ p q. omega arith }
ahead limit (g ∷ gs) =
    let rest : Ahead limit gs = ahead limit gs in
    record {
      less = λ p q h.
          elim (cases_lt limit (size p + length g)) [
            | inl p_over ↦
                let q_over : limit < size q + length g = omega arith in
                rw (filled-breaks limit p g gs p_over, filled-breaks limit q g gs q_over) (omega arith)
            | inr p_fits ↦
                elim (cases_lt limit (size q + length g)) [
                  | inl q_over ↦
                      let one : length (filled limit (p ++ g ∷ []) gs) ≤ length (filled limit (g ∷ []) gs) + 1 = rest.any (p ++ g ∷ []) (g ∷ []) in
                      rw (filled-fits limit p g gs p_fits, filled-breaks limit q g gs q_over) (omega arith)
                  | inr q_fits ↦
                      rw (filled-fits limit p g gs p_fits, filled-fits limit q g gs q_fits) (rest.less (p ++ g ∷ []) (q ++ g ∷ []) (omega (arith, size-push p g, size-push q g)))
                ]
          ];
      any = λ p q.
          elim (cases_lt limit (size p + length g)) [
            | inl p_over ↦
                elim (cases_lt limit (size q + length g)) [
                  | inl q_over ↦ rw (filled-breaks limit p g gs p_over, filled-breaks limit q g gs q_over) (omega arith)
                  | inr q_fits ↦
                      let one : length (filled limit (g ∷ []) gs) ≤ length (filled limit (q ++ g ∷ []) gs) = rest.less (g ∷ []) (q ++ g ∷ []) (omega (arith, size-push [] g, size-push q g)) in
                      rw (filled-breaks limit p g gs p_over, filled-fits limit q g gs q_fits) (omega arith)
                ]
            | inr p_fits ↦
                elim (cases_lt limit (size q + length g)) [
                  | inl q_over ↦
                      let one : length (filled limit (p ++ g ∷ []) gs) ≤ length (filled limit (g ∷ []) gs) + 1 = rest.any (p ++ g ∷ []) (g ∷ []) in
                      rw (filled-fits limit p g gs p_fits, filled-breaks limit q g gs q_over) (omega arith)
                  | inr q_fits ↦
                      rw (filled-fits limit p g gs p_fits, filled-fits limit q g gs q_fits) (rest.any (p ++ g ∷ []) (q ++ g ∷ []))
                ]
          ];
    }

-- with any part open, there is at most one part more than without
pub at_most_one_more : (limit : ℕ) (p gs : List Group) → length (filled limit p gs) ≤ length (full_cutting limit gs) + 1
at_most_one_more limit p [] = omega arith
at_most_one_more limit p (g ∷ gs) =
    elim (cases_lt limit (size p + length g)) [
      | inl over ↦ rw (filled-breaks limit p g gs over) (omega arith)
      | inr fits ↦ rw (filled-fits limit p g gs fits) ((ahead limit gs).any (p ++ g ∷ []) (g ∷ []))
    ]

-- a part that fits, and what the walk does after it
pub full_cutting-append : (limit : ℕ) (g : Group) (p hs : List Group) → size (g ∷ p) ≤ limit → full_cutting limit ((g ∷ p) ++ hs) ≡ filled limit (g ∷ p) hs
full_cutting-append limit g p hs fits = filled-append limit (g ∷ []) p hs (omega (arith, size-push [] g, size-cons g p))

-- by recursion over the other cutting
pub least-parts : (limit : ℕ) (other : List (List Group)) → AllByRecursion (λ p. 0 < length p) other → AllByRecursion (λ p. size p ≤ limit) other → length (full_cutting limit (all_groups other)) ≤ length other
least-parts limit [] some small = omega arith
least-parts limit ([] ∷ other) some small = absurd (omega (arith, some.0))
least-parts limit ((g ∷ p) ∷ other) some small =
    let rest : length (full_cutting limit (all_groups other)) ≤ length other = least-parts limit other some.1 small.1 in
    let more : length (filled limit (g ∷ p) (all_groups other)) ≤ length (full_cutting limit (all_groups other)) + 1 = at_most_one_more limit (g ∷ p) (all_groups other) in
    rw (full_cutting-append limit g p (all_groups other) small.0) (omega arith)

-- by recursion over the full cutting
pub only-parts : (limit : ℕ) (parts : List (List Group)) → AllByRecursion (λ p. 0 < length p) parts → AllByRecursion (λ p. size p ≤ limit) parts → IsFull limit parts → full_cutting limit (all_groups parts) ≡ parts
only-parts limit [] some small full = refl
only-parts limit ([] ∷ parts) some small full = absurd (omega (arith, some.0))
only-parts limit ((g ∷ p) ∷ []) some small full = full_cutting-append limit g p [] small.0
only-parts limit ((g ∷ p) ∷ ([] ∷ parts)) (first, (second, later)) small full = absurd (omega (arith, second))
only-parts limit ((g ∷ p) ∷ ((h ∷ q) ∷ parts)) some small full =
    full_cutting-append limit g p (all_groups ((h ∷ q) ∷ parts)) small.0
    ∙ filled-breaks limit (g ∷ p) h (q ++ all_groups parts) full.0
    ∙ ap (λ x. (g ∷ p) ∷ x) (only-parts limit ((h ∷ q) ∷ parts) some.1 small.1 full.1)

-- the filled cutting is a cutting
pub cutting-full_cutting : (limit : ℕ) (gs : List Group) → AllByRecursion (λ g. length g ≤ limit) gs → IsCutting limit gs (full_cutting limit gs)
cutting-full_cutting limit [] each = record { whole = refl; none_empty = All-from_recursion _ [] tt; within = All-from_recursion _ [] tt }
cutting-full_cutting limit (g ∷ gs) each = record {
  whole = all_groups-filled limit (g ∷ []) gs;
  none_empty = All-from_recursion (λ p. 0 < length p) _ (none_empty-filled limit (g ∷ []) gs (omega arith));
  within = All-from_recursion (λ p. size p ≤ limit) _ (within-filled limit (g ∷ []) gs (omega (arith, size-push [] g, each.0)) each.1);
}

pub full-full_cutting : (limit : ℕ) (gs : List Group) → IsFull limit (full_cutting limit gs)
full-full_cutting limit [] = tt
full-full_cutting limit (g ∷ gs) = full-filled limit (g ∷ []) gs

-- no cutting has fewer parts than the full one
pub least : (limit : ℕ) (gs : List Group) (other : List (List Group)) → IsCutting limit gs other → length (full_cutting limit gs) ≤ length other
least limit gs other cutting =
    rw (← cutting.whole) (least-parts limit other (recursion_from_All (λ p. 0 < length p) other cutting.none_empty) (recursion_from_All (λ p. size p ≤ limit) other cutting.within))

-- the full cutting is the only one
pub only : (limit : ℕ) (gs : List Group) (parts : List (List Group)) → IsCutting limit gs parts → IsFull limit parts → full_cutting limit gs ≡ parts
only limit gs parts cutting full =
    rw (← cutting.whole) (only-parts limit parts (recursion_from_All (λ p. 0 < length p) parts cutting.none_empty) (recursion_from_All (λ p. size p ≤ limit) parts cutting.within) full)

-- there is a part at least
some-filled : (limit : ℕ) (part gs : List Group) → 0 < length (filled limit part gs)
some-filled limit part [] = omega arith
some-filled limit part (g ∷ gs) =
    elim (cases_lt limit (size part + length g)) [
      | inl over ↦ rw (filled-breaks limit part g gs over) (omega arith)
      | inr fits ↦ rw (filled-fits limit part g gs fits) (some-filled limit (part ++ g ∷ []) gs)
    ]

pub some-full_cutting : (limit : ℕ) (gs : List Group) → 0 < length (first_group gs) → 0 < length (full_cutting limit gs)
some-full_cutting limit [] some = absurd (omega arith)
some-full_cutting limit (g ∷ gs) some = some-filled limit (g ∷ []) gs
