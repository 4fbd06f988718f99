-- The ends and rows of a further round, put one after another.
use Rattle.std.proofs.Common.{◌≡◌, ◌⊎◌, inl, inr, ℕ, zero, suc, ◌+◌, ◌<◌, ◌≤◌, Bool, true, false, List, [], ◌∷◌, ◌++◌, length, refl, ap, sym, ◌∙◌, subst, get_or, take, drop, add-one, arith, true≢false}
use Rattle.std.specs.Prelude.{Some, if◌then◌else◌, min, slice_get, slice_set}
use Rattle.std.proofs.lemmas.List.{take-append-drop}
use Rattle.sms_core.specs.declared.row.Row.{Row}
use Rattle.sms_message.specs.declared.ends.MessageEnd.{MessageEnd}
use Rattle.sms_journal.specs.Left.{is_left}
use Rattle.sms_journal.specs.Over.{ends_over, rows_over}
use Rattle.sms_journal.proofs.OverLists.{reached}
use Rattle.sms_journal.proofs.Over.{none_over}

module _ {S : Type 0} where
  abbrev at : ℕ → List (MessageEnd S) → List (MessageEnd S) → List (MessageEnd S)
  at k es later = take k es ++ ends_over (drop k es) later

  first_put : (e l : MessageEnd S) (es later : List (MessageEnd S)) (b : Bool) → b ≡ true → l ∷ ends_over es later ≡ (if b then l ∷ ends_over es later else e ∷ ends_over es (l ∷ later))
  first_put e l es later true is = refl
  first_put e l es later false is = absurd (true≢false (sym is))

  first_kept : (e : MessageEnd S) (es later : List (MessageEnd S)) → is_left e.result ≡ false → e ∷ ends_over es later ≡ ends_over (e ∷ es) later
  first_kept e es [] is = ap (λ l. e ∷ l) (none_over es)
  first_kept e es (l ∷ later) is = ap (λ b. if b then l ∷ ends_over es later else e ∷ ends_over es (l ∷ later)) (sym is)

  put : (es later : List (MessageEnd S)) (k : ℕ) (e l : MessageEnd S) → k < length es → e ≡ get_or es k e → is_left e.result ≡ true → at (suc k) (slice_set es k l) later ≡ at k es (l ∷ later)
  put [] later k e l low is left = absurd (omega arith)
  put (x ∷ es) later zero e l low is left = first_put x l es later (is_left x.result) (subst (λ (y : MessageEnd S). is_left y.result ≡ true) is left)
  put (x ∷ es) later (suc k) e l low is left = ap (λ t. x ∷ t) (put es later k e l (omega arith) is left)

  kept : (es later : List (MessageEnd S)) (k : ℕ) (e : MessageEnd S) → k < length es → e ≡ get_or es k e → is_left e.result ≡ false → at (suc k) es later ≡ at k es later
  kept [] later k e low is not = absurd (omega arith)
  kept (x ∷ es) later zero e low is not = first_kept x es later (subst (λ (y : MessageEnd S). is_left y.result ≡ false) is not)
  kept (x ∷ es) later (suc k) e low is not = ap (λ t. x ∷ t) (kept es later k e (omega arith) is not)

  pub end_put : (es more later rest : List (MessageEnd S)) (k : ℕ) (e l : MessageEnd S) → k < length es → e ≡ get_or es k e → is_left e.result ≡ true → more ≡ slice_set es k l → later ≡ l ∷ rest
      → take (k + 1) more ++ ends_over (drop (k + 1) more) rest ≡ take k es ++ ends_over (drop k es) later
  end_put es more later rest k e l low is left puts takes = rw add-one (ap (λ m. at (suc k) m rest) puts ∙ put es rest k e l low is left ∙ ap (at k es) (sym takes))

  pub end_kept : (es later : List (MessageEnd S)) (k : ℕ) (e : MessageEnd S) → k < length es → e ≡ get_or es k e → is_left e.result ≡ false
      → take (k + 1) es ++ ends_over (drop (k + 1) es) later ≡ take k es ++ ends_over (drop k es) later
  end_kept es later k e low is not = rw add-one (kept es later k e low is not)

  got : (es : List (MessageEnd S)) (k : ℕ) (e : MessageEnd S) → slice_get es k ≡ Some e → (k < length es) × (e ≡ get_or es k e)
  got [] k e at = absurd (cc)
  got (x ∷ es) zero e at = let same : x ≡ e = cc in (omega arith, sym same)
  got (x ∷ es) (suc k) e at = let g = got es k e at in (omega (arith, g.0), g.1)

  pub end_kept_there : (es later : List (MessageEnd S)) (k : ℕ) (e : MessageEnd S) → slice_get es k ≡ Some e → is_left e.result ≡ false
      → take (k + 1) es ++ ends_over (drop (k + 1) es) later ≡ take k es ++ ends_over (drop k es) later
  end_kept_there es later k e at not = let g = got es k e at in end_kept es later k e g.0 g.1 not

  whole : (es : List (MessageEnd S)) (k : ℕ) → at k es [] ≡ es
  whole es k = ap (λ l. take k es ++ l) (none_over (drop k es)) ∙ take-append-drop k es

  pub none_put : (es later rest : List (MessageEnd S)) (k : ℕ) → later ≡ [] → rest ≡ [] → take (k + 1) es ++ ends_over (drop (k + 1) es) rest ≡ take k es ++ ends_over (drop k es) later
  none_put es later rest k none also = ap (at (k + 1) es) also ∙ whole es (k + 1) ∙ sym (whole es k) ∙ ap (at k es) (sym none)

  pub all_put : (es later : List (MessageEnd S)) (k : ℕ) → length es ≤ k → take k es ++ ends_over (drop k es) later ≡ es
  all_put [] later zero low = refl
  all_put [] later (suc k) low = refl
  all_put (e ∷ es) later zero low = absurd (omega arith)
  all_put (e ∷ es) later (suc k) low = ap (λ t. e ∷ t) (all_put es later k (omega arith))

none_dropped : (k : ℕ) → ◌≡◌ {A = List Row} [] (drop k [])
none_dropped zero = refl
none_dropped (suc k) = refl

rows_done : (rows later : List Row) (k : ℕ) → (length rows ≤ k) ⊎ (length later ≤ k) → take k rows ++ rows_over (drop k rows) (drop k later) ≡ rows
rows_done [] later zero low = refl
rows_done [] later (suc k) low = refl
rows_done (row ∷ rows) [] zero low = refl
rows_done (row ∷ rows) [] (suc k) low =
    ap (λ t. row ∷ t) (ap (λ l. take k rows ++ rows_over (drop k rows) l) (none_dropped k) ∙ rows_done rows [] k (inr (omega arith)))
rows_done (row ∷ rows) (l ∷ later) zero low = absurd (elim low [ inl h ↦ let x : ⊥ = omega arith in x | inr h ↦ let x : ⊥ = omega arith in x ])
rows_done (row ∷ rows) (l ∷ later) (suc k) low =
    ap (λ t. row ∷ t) (rows_done rows later k (elim low [ inl h ↦ inl (omega arith) | inr h ↦ inr (omega arith) ]))

pub all_added : (rows later : List Row) (k : ℕ) → min (length rows) (length later) ≤ k → take k rows ++ rows_over (drop k rows) (drop k later) ≡ rows
all_added rows later k low = rows_done rows later k (reached rows later k low)

-- what gave nothing was empty
pub none_popped : {A : Type 0} (l m : List A) → m ≡ drop 1 l → l ≡ m → l ≡ []
none_popped [] m rest same = refl
none_popped (x ∷ xs) m rest same = absurd (too_long (ap (λ l. length l) (same ∙ rest)))
  where
    too_long : suc (length xs) ≡ length xs → ⊥
    too_long e = omega arith
