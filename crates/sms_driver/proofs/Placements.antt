-- Workers and readers take their places, one after another.
use Rattle.std.proofs.Common.{◌≡◌, ◌++◌, ◌+◌, ◌<◌, ◌∙◌, ℕ, zero, suc, List, [], ◌∷◌, length, drop, get_or, refl, sym, ap, add-one, drop-cons, subst, arith, append_assoc, append-nil}
use Rattle.sms_driver.specs.declared.binding.binds.SharedBind.{SharedBind}
use Rattle.sms_driver.specs.declared.binding.binds.BindParts.{BindParts}
use Rattle.sms_driver.specs.declared.binding.binds.WorkerSeat.{WorkerSeat}
use Rattle.sms_driver.specs.Seated.{WorkerPlacement, ReaderPlacement, placements_from, all_placements, all_reader_placements, CountFrom}

module _ {N W : Type 0} (shared : SharedBind N W) where
  -- the worker at this place sat down
  pub one_sits : (place from next : ℕ) (ws ws' : List WorkerSeat) (w : WorkerSeat) (made more all : List (WorkerPlacement N W)) → ws ≡ w ∷ ws' → place ≡ from → next ≡ from + 1
      → more ≡ made ++ record { seat = w.seat; place = place; ring = w.consumer; line = shared.line; window = shared.window } ∷ []
      → made ++ placements_from shared from ws ≡ all → more ++ placements_from shared next ws' ≡ all
  one_sits place from next ws ws' w made more all es here behind adds e =
      let placements : ℕ → WorkerPlacement N W = λ n. record { seat = w.seat; place = n; ring = w.consumer; line = shared.line; window = shared.window } in
      let rest = placements_from shared next ws' in
      ap (λ l. l ++ rest) adds ∙ append_assoc made (placements place ∷ []) rest
      ∙ (λ i. made ++ placements (here i) ∷ placements_from shared (behind i) ws')
      ∙ (λ i. made ++ placements_from shared from (sym es i)) ∙ e

first_left : {X : Type 0} (i : ℕ) (xs : List X) (x : X) → i < length xs → x ≡ get_or xs i x → drop i xs ≡ x ∷ drop (i + 1) xs
first_left i xs x low at = drop-cons xs i x low ∙ (λ j. sym at j ∷ drop (sym (add-one i) j) xs)

module _ {N W Rd : Type 0} (bs : List (SharedBind N W)) (i : ℕ) where
  -- the workers of one bind more
  pub bind_sits : (b : SharedBind N W) (ps ps' : List (BindParts Rd)) (p : BindParts Rd) (made more all : List (WorkerPlacement N W)) → i < length bs → b ≡ get_or bs i b → ps ≡ p ∷ ps' → more ≡ made ++ placements_from b 0 p.workers.items
      → made ++ all_placements (drop i bs) ps ≡ all → more ++ all_placements (drop (i + 1) bs) ps' ≡ all
  bind_sits b ps ps' p made more all low at takes adds e =
      let first = first_left i bs b low at in
      let theirs = placements_from b 0 p.workers.items in
      ap (λ l. l ++ all_placements (drop (i + 1) bs) ps') adds ∙ append_assoc made theirs _ ∙ (λ j. made ++ all_placements (sym first j) (sym takes j)) ∙ e

  pub bind_keeps : (b : SharedBind N W) (ps ps' : List (BindParts Rd)) (p : BindParts Rd) (made more all : List (ReaderPlacement N W)) → i < length bs → b ≡ get_or bs i b → ps ≡ p ∷ ps'
      → more ≡ made ++ record { seat = p.keeper; follow = p.follow; line = b.line; window = b.window } ∷ []
      → made ++ all_reader_placements (drop i bs) ps ≡ all → more ++ all_reader_placements (drop (i + 1) bs) ps' ≡ all
  bind_keeps b ps ps' p made more all low at takes adds e =
      let first = first_left i bs b low at in
      ap (λ l. l ++ all_reader_placements (drop (i + 1) bs) ps') adds ∙ append_assoc made (_ ∷ []) _ ∙ (λ j. made ++ all_reader_placements (sym first j) (sym takes j)) ∙ e

-- where nobody is left, all sat down
pub none_sit : {N W : Type 0} (shared : SharedBind N W) (place : ℕ) (ws : List WorkerSeat) (made all : List (WorkerPlacement N W)) → length ws ≡ 0 → made ++ placements_from shared place ws ≡ all → made ≡ all
none_sit shared place [] made all none e = sym (append-nil made) ∙ e
none_sit shared place (w ∷ ws) made all none e = absurd (omega arith)

none_dropped : {X : Type 0} (n : ℕ) (xs : List X) → n ≡ length xs → drop n xs ≡ []
none_dropped zero [] e = refl
none_dropped zero (x ∷ xs) e = absurd (omega arith)
none_dropped (suc n) [] e = absurd (omega arith)
none_dropped (suc n) (x ∷ xs) e = none_dropped n xs (omega arith)

pub all_sat : {N W Rd : Type 0} (n : ℕ) (bs : List (SharedBind N W)) (ps : List (BindParts Rd)) (made all : List (WorkerPlacement N W)) → n ≡ length bs → made ++ all_placements (drop n bs) ps ≡ all → made ≡ all
all_sat n bs ps made all e h = sym (append-nil made) ∙ ap (λ l. made ++ all_placements l ps) (sym (none_dropped n bs e)) ∙ h

pub all_kept : {N W Rd : Type 0} (n : ℕ) (bs : List (SharedBind N W)) (ps : List (BindParts Rd)) (made all : List (ReaderPlacement N W)) → n ≡ length bs → made ++ all_reader_placements (drop n bs) ps ≡ all → made ≡ all
all_kept n bs ps made all e h = sym (append-nil made) ∙ ap (λ l. made ++ all_reader_placements l ps) (sym (none_dropped n bs e)) ∙ h

count_behind : (n : ℕ) (xs : List ℕ) (x : ℕ) → CountFrom n xs → x ≡ n + length xs → CountFrom n (xs ++ x ∷ [])
count_behind n [] x h e = (omega (arith, e), tt)
count_behind n (y ∷ xs) x h e = (h.0, count_behind (n + 1) xs x h.1 (omega (arith, e)))

-- one more, whose number is how many there were
pub count_more : (xs more : List ℕ) (x : ℕ) → more ≡ xs ++ x ∷ [] → x ≡ length xs → CountFrom 0 xs → CountFrom 0 more
count_more xs more x adds is h = subst (CountFrom 0) (sym adds) (count_behind 0 xs x h (omega (arith, is)))
