-- Whom an event wakes, and nobody else.
use Rattle.std.proofs.Common.{◌≡◌, ℕ, ◌⊎◌, Bool, true, false, cond, ltb, List, [], ◌∷◌, ◌++◌, length, get_or, set, refl, sym, ap, subst, ◌∙◌, inl, inr, arith}
use Rattle.std.proofs.lemmas.Bool.{lt-ltb}
use Rattle.std.proofs.lemmas.Bool.Decides.{eqb_tells}
use Rattle.std.proofs.lemmas.List.{get_or-set_other, get_or-set_same, length-set}
use Rattle.sms_devices.specs.declared.waking.headers.FrameEvent.{FrameEvent}
use Rattle.sms_devices.specs.declared.waking.wakes.Wake.{Wake}
use Rattle.sms_devices.specs.declared.waking.wakes.Wake.TheVariants.{Nobody, Worker, All}
use Rattle.sms_devices.specs.declared.waking.wakes.Wakes.{Wakes}
use Rattle.sms_devices.specs.Wakes.{Concerns, Includes, Woke, and_this, wake_for}

-- who is to be woken, with a worker who has a bell
abbrev with_worker : Wakes → ℕ → Wakes
with_worker w k = record { all = w.all; workers = set w.workers k true }

-- what holds of both of two holds of the one that is chosen
either : (P : Wakes → Type 0) (b : Bool) (v w : Wakes) → P v → P w → P (cond b v w)
either P true v w h k = h
either P false v w h k = k

-- what holds of the one that is chosen holds of one of them
one_of : (P : Wakes → Type 0) (b : Bool) (v w : Wakes) → P (cond b v w) → P v ⊎ P w
one_of P true v w h = inl h
one_of P false v w h = inr h

-- ---- one that passes

length_kept : (w : Wakes) (wake : Wake) → length w.workers ≡ 32 → length (and_this w wake).workers ≡ 32
length_kept w Nobody n = n
length_kept w All n = n
length_kept w (Worker k) n = either (λ v. length v.workers ≡ 32) (ltb k 32) (with_worker w k) w (length-set w.workers k true ∙ n) n

worker_kept : (w : Wakes) (k : ℕ) (x : Wake) → length w.workers ≡ 32 → Includes w x → Includes (with_worker w k) x
worker_kept w k Nobody n h = tt
worker_kept w k All n h = h
worker_kept w k (Worker j) n h =
    λ lt. elim (eqb_tells j k) [
      | inl same ↦ ap (λ i. get_or (set w.workers k true) i false) same.1 ∙ get_or-set_same w.workers k true false (omega (arith, same.1))
      | inr other ↦ get_or-set_other w.workers k j true false other.1 ∙ h lt
    ]

kept : (w : Wakes) (wake x : Wake) → length w.workers ≡ 32 → Includes w x → Includes (and_this w wake) x
kept w Nobody x n h = h
kept w All Nobody n h = tt
kept w All (Worker j) n h = h
kept w All All n h = refl
kept w (Worker k) x n h = either (λ v. Includes v x) (ltb k 32) (with_worker w k) w (worker_kept w k x n h) h

this : (w : Wakes) (wake : Wake) → length w.workers ≡ 32 → Includes (and_this w wake) wake
this w Nobody n = tt
this w All n = refl
this w (Worker k) n =
    λ lt. ap (λ b. get_or (cond b (with_worker w k) w).workers k false) (lt-ltb k 32 lt) ∙ get_or-set_same w.workers k true false (omega (arith, n, lt))

worker_other : (w : Wakes) (k : ℕ) (x : Wake) → Includes (with_worker w k) x → Includes w x ⊎ (Worker k ≡ x)
worker_other w k Nobody h = inl tt
worker_other w k All h = inl h
worker_other w k (Worker j) h =
    elim (eqb_tells j k) [
      | inl same ↦ inr (ap Worker (sym same.1))
      | inr other ↦ inl (λ lt. sym (get_or-set_other w.workers k j true false other.1) ∙ h lt)
    ]

others : (w : Wakes) (wake x : Wake) → Includes (and_this w wake) x → Includes w x ⊎ (wake ≡ x)
others w Nobody x h = inl h
others w All Nobody h = inl tt
others w All (Worker j) h = inl h
others w All All h = inr refl
others w (Worker k) x h =
    elim (one_of (λ v. Includes v x) (ltb k 32) (with_worker w k) w h) [
      | inl put ↦ worker_other w k x put
      | inr was ↦ inl was
    ]

-- ---- all that pass

pub all_kept : (ps : List FrameEvent) (old new : Wakes) (x : Wake) → length old.workers ≡ 32 → Woke ps old new → Includes old x → Includes new x
all_kept [] old new x n h k = subst (λ w. Includes w x) (sym h) k
all_kept (p ∷ ps) old new x n h k =
    all_kept ps (and_this old (wake_for p h.0)) new x (length_kept old (wake_for p h.0) n) h.1 (kept old (wake_for p h.0) x n k)

pub each_woken : (ps qs : List FrameEvent) (p : FrameEvent) (old new : Wakes) → length old.workers ≡ 32 → Woke (ps ++ p ∷ qs) old new → (word : ℕ) × Includes new (wake_for p word)
each_woken [] qs p old new n h =
    (h.0, all_kept qs (and_this old (wake_for p h.0)) new (wake_for p h.0) (length_kept old (wake_for p h.0) n) h.1 (this old (wake_for p h.0) n))
each_woken (q ∷ ps) qs p old new n h = each_woken ps qs p (and_this old (wake_for q h.0)) new (length_kept old (wake_for q h.0) n) h.1

-- whom one of the others concerns
concerns_more : (p : FrameEvent) (ps : List FrameEvent) (x : Wake) → Concerns ps x → Concerns (p ∷ ps) x
concerns_more p ps x h =
    record { before = p ∷ h.before; one = h.one; after = h.after; word = h.word; among = ap (λ l. p ∷ l) h.among; whom = h.whom }

pub none_else : (ps : List FrameEvent) (old new : Wakes) (x : Wake) → Woke ps old new → Includes new x → Includes old x ⊎ Concerns ps x
none_else [] old new x h k = inl (subst (λ w. Includes w x) h k)
none_else (p ∷ ps) old new x h k =
    elim (none_else ps (and_this old (wake_for p h.0)) new x h.1 k) [
      | inl here ↦ elim (others old (wake_for p h.0) x here) [
        | inl was ↦ inl was
        | inr by ↦ inr (record { before = []; one = p; after = ps; word = h.0; among = refl; whom = by })
      ]
      | inr later ↦ inr (concerns_more p ps x later)
    ]
