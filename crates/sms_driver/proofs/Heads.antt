-- The first of two lists that go together.
use Rattle.std.proofs.Common.{◌≡◌, ℕ, zero, suc, ◌+◌, ◌<◌, List, [], ◌∷◌, length, drop, get_or, refl, sym, subst, arith, add-one, drop-cons}
use Rattle.std.specs.List.{AllZip}
use Rattle.sms_driver.specs.declared.binding.binds.SharedBind.{SharedBind}
use Rattle.sms_driver.specs.declared.binding.binds.BindParts.{BindParts}
use Rattle.sms_driver.specs.Seated.{IsSeated}

module _ {N W Rd : Type 0} (workers i : ℕ) (ps : List (SharedBind N W)) where
  pub first_seated : (p : SharedBind N W) (gs : List (BindParts Rd)) (g : BindParts Rd) (rest : List (BindParts Rd)) → i < length ps → gs ≡ g ∷ rest → p ≡ get_or ps i p → AllZip (IsSeated workers) (drop i ps) gs
      → IsSeated workers p g × AllZip (IsSeated workers) (drop (i + 1) ps) rest
  first_seated p gs g rest low is at z =
      let w = subst (λ (l : List (SharedBind N W)). AllZip (IsSeated workers) l (g ∷ rest)) (drop-cons ps i p low) (subst (AllZip (IsSeated workers) (drop i ps)) is z) in
      (subst (λ (x : SharedBind N W). IsSeated workers x g) (sym at) w.0, subst (λ (n : ℕ). AllZip (IsSeated workers) (drop n ps) rest) (sym (add-one i)) w.1)

  pub none_seated : (gs : List (BindParts Rd)) → i < length ps → length gs ≡ 0 → AllZip (IsSeated workers) (drop i ps) gs → ⊥
  none_seated [] low none z = no_more ps i low z
    where
      no_more : (ps : List (SharedBind N W)) (i : ℕ) → i < length ps → AllZip (IsSeated {Rd = Rd} workers) (drop i ps) [] → ⊥
      no_more [] i low z = absurd (omega arith)
      no_more (p ∷ ps) zero low z = z
      no_more (p ∷ ps) (suc i) low z = no_more ps i (omega arith) z
  none_seated (g ∷ gs) low none z = absurd (omega arith)

  -- behind all binds no parts are left
  pub none_left : (gs : List (BindParts Rd)) → i ≡ length ps → AllZip (IsSeated workers) (drop i ps) gs → gs ≡ []
  none_left gs end z = none_behind ps i gs end z
    where
      none_behind : (ps : List (SharedBind N W)) (i : ℕ) (gs : List (BindParts Rd)) → i ≡ length ps → AllZip (IsSeated workers) (drop i ps) gs → gs ≡ []
      none_behind ps i [] end z = refl
      none_behind [] zero (g ∷ gs) end z = absurd z
      none_behind [] (suc i) (g ∷ gs) end z = absurd (omega arith)
      none_behind (p ∷ ps) zero (g ∷ gs) end z = absurd (omega arith)
      none_behind (p ∷ ps) (suc i) (g ∷ gs) end z = none_behind ps i (g ∷ gs) (omega arith) z
