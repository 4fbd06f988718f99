-- What the rounds of a run come to: an end for each message, a row for each account, and their sums.
use Rattle.std.proofs.Common.{◌≡◌, inl, inr, ℕ, zero, suc, ◌+◌, ◌-◌, ◌^◌, ◌<◌, ◌≤◌, Bool, true, false, List, [], ◌∷◌, length, refl, ap, sym, ◌∙◌, subst, arith}
use Rattle.std.proofs.lemmas.List.{get_or-map}
use Rattle.std.specs.Prelude.{if◌then◌else◌, Option}
use Rattle.std.proofs.lemmas.Bool.Decides.{leb_tells}
use Rattle.std.specs.List.{AllZip}
use Rattle.sms_book.specs.Portions.{row_at, topped_at}
use Rattle.sms_core.specs.Rows.{charged_of, no_row, reserved_of, returned_of}
use Rattle.sms_core.specs.declared.request.Phase.{Phase}
use Rattle.sms_core.specs.declared.row.Row.{Row}
use Rattle.sms_message.specs.Ends.{credits}
use Rattle.sms_message.specs.declared.message.Message.{Message}
use Rattle.sms_worker.specs.EndOf.{IsEndOf}
use Rattle.sms_worker.specs.Types.{MessageEnd}
use Rattle.sms_driver.specs.Statements.{IsRow}
use Rattle.sms_driver.specs.declared.settings.RunSettings.{RunSettings}
use Rattle.sms_journal.proofs.Over.{Pair, length_left, length_over, of_all, of_left}
use Rattle.sms_journal.proofs.OverSums.{copies_agree, sums_add}
use Rattle.sms_journal.specs.Left.{SaysSame, count_left, free_in, is_left, left_in}
use Rattle.sms_journal.specs.Over.{capped_sum, ends_over, row_over, rows_over}
use Rattle.sms_journal.specs.OverLaws.{AreOfRound}
use Rattle.sms_send.specs.Rounds.{AreRounds, AreSmall, AreSumsOver, IsFurther, IsRowOver, IsSumUpTo, Round}

-- rows

row_over_at : (ws ls : List Row) (i : ℕ) → i < length ws → i < length ls → row_at (rows_over ws ls) i ≡ row_over (row_at ws i) (row_at ls i)
row_over_at [] ls i low less = absurd (omega arith)
row_over_at (w ∷ ws) [] i low less = absurd (omega arith)
row_over_at (w ∷ ws) (l ∷ ls) zero low less = refl
row_over_at (w ∷ ws) (l ∷ ls) (suc i) low less = row_over_at ws ls i (omega arith) (omega arith)

pub length_rows : (ws ls : List Row) → length (rows_over ws ls) ≡ length ws
length_rows [] ls = refl
length_rows (w ∷ ws) [] = refl
length_rows (w ∷ ws) (l ∷ ls) = ap suc (length_rows ws ls)

length_free : (ws : List Row) → length (free_in ws) ≡ length ws
length_free [] = refl
length_free (w ∷ ws) = ap suc (length_free ws)

free_at : (ws : List Row) (i : ℕ) → i < length ws → topped_at (free_in ws) i ≡ (row_at ws i).free
free_at ws i low = get_or-map (λ (row : Row). row.free) ws i no_row 0 low

-- sums of 64 bits

sum_up_to : (a b x y : ℕ) → IsSumUpTo x a → b ≡ y → IsSumUpTo (x + y) (capped_sum a b)
sum_up_to a b x y was adds = elim (leb_tells (a + b) (2 ^ 64 - 1)) [ inl low ↦ small low.1 was | inr past ↦ large past.1 was ]
  where
    small : a + b ≤ 2 ^ 64 - 1 → IsSumUpTo x a → IsSumUpTo (x + y) (capped_sum a b)
    small low (inl is) = inl (omega arith)
    small low (inr top) = let is = top.0 in let most = top.1 in inr (omega arith, omega arith)

    large : 2 ^ 64 - 1 < a + b → IsSumUpTo x a → IsSumUpTo (x + y) (capped_sum a b)
    large past (inl is) = inr (omega arith, omega arith)
    large past (inr top) = let is = top.0 in let most = top.1 in inr (omega arith, omega arith)

exact_sum : (a b c d f g n : ℕ) → n ≡ f + a + c → f ≡ g + b + d → n < 2 ^ 64 → capped_sum a b ≡ a + b
exact_sum a b c d f g n whole later fits = omega arith

-- lists of one length

pub zip_length : {A B : Type 0} (R : A → B → Type 0) (xs : List A) (ys : List B) → AllZip R xs ys → length ys ≡ length xs
zip_length R [] [] all = refl
zip_length R [] (y ∷ ys) all = absurd all
zip_length R (x ∷ xs) [] all = absurd all
zip_length R (x ∷ xs) (y ∷ ys) all = ap suc (zip_length R xs ys all.1)

-- the sums of a row after a further round
row_step : (t i : ℕ) (ms given : List Message) (es later : List MessageEnd) (w l : Row) → t < 2 ^ 64 → AllZip SaysSame (left_in ms es) given
    → ((f : Phase → ℕ → ℕ) → credits f i ms (ends_over es later) ≡ credits f i ms es + credits f i (left_in ms es) later)
    → IsRowOver t i ms es w → IsRow w.free i given later l → IsRowOver t i ms (ends_over es later) (row_over w l)
row_step t i ms given es later w l fits same adds was is =
    let copied : (f : Phase → ℕ → ℕ) → credits f i given later ≡ credits f i (left_in ms es) later = λ f. copies_agree f i (left_in ms es) given later same in
    let whole : w.topped ≡ w.free + w.reserved + w.charged = was.balanced in
    let part : l.topped ≡ l.free + l.reserved + l.charged = is.balanced in
    let low : w.topped < 2 ^ 64 = subst (λ (n : ℕ). n < 2 ^ 64) (sym was.topped_is) fits in
    let from : w.free ≡ l.free + l.reserved + l.charged = sym is.topped_is ∙ part in
    let reserved : capped_sum w.reserved l.reserved ≡ w.reserved + l.reserved = exact_sum w.reserved l.reserved w.charged l.charged w.free l.free w.topped whole from low in
    let charged : capped_sum w.charged l.charged ≡ w.charged + l.charged = exact_charged w.reserved l.reserved w.charged l.charged w.free l.free w.topped whole from low in
    record {
      topped_is = was.topped_is;
      reserved = reserved ∙ both w.reserved l.reserved (credits reserved_of i ms es) (credits reserved_of i (left_in ms es) later) was.reserved (is.reserved ∙ copied reserved_of) ∙ sym (adds reserved_of);
      charged = charged ∙ both w.charged l.charged (credits charged_of i ms es) (credits charged_of i (left_in ms es) later) was.charged (is.charged ∙ copied charged_of) ∙ sym (adds charged_of);
      returned = subst (λ (n : ℕ). IsSumUpTo n (capped_sum w.returned l.returned)) (sym (adds returned_of))
          (sum_up_to w.returned l.returned (credits returned_of i ms es) (credits returned_of i (left_in ms es) later) was.returned (is.returned ∙ copied returned_of));
      balanced = balances w.reserved l.reserved w.charged l.charged w.free l.free w.topped (capped_sum w.reserved l.reserved) (capped_sum w.charged l.charged) whole from reserved charged;
    }
  where
    exact_charged : (a b c d f g n : ℕ) → n ≡ f + a + c → f ≡ g + b + d → n < 2 ^ 64 → capped_sum c d ≡ c + d
    exact_charged a b c d f g n whole later fits = omega arith

    both : (a b x y : ℕ) → a ≡ x → b ≡ y → a + b ≡ x + y
    both a b x y e o = omega arith

    balances : (a b c d f g n r k : ℕ) → n ≡ f + a + c → f ≡ g + b + d → r ≡ a + b → k ≡ c + d → n ≡ g + r + k
    balances a b c d f g n r k whole later e o = omega arith

-- what is left

left_case : (e l : MessageEnd) (es later : List MessageEnd) (b : Bool) → is_left e.result ≡ b
    → (length later ≡ count_left es → count_left (ends_over es later) ≡ count_left later)
    → (length (l ∷ later) ≡ count_left es → count_left (ends_over es (l ∷ later)) ≡ count_left (l ∷ later))
    → length (l ∷ later) ≡ (if b then 1 else 0) + count_left es
    → count_left (if b then l ∷ ends_over es later else e ∷ ends_over es (l ∷ later)) ≡ count_left (l ∷ later)
left_case e l es later true is taken kept long = ap (λ n. (if is_left l.result then 1 else 0) + n) (taken (omega arith))
left_case e l es later false is taken kept long =
    ap (λ b. (if b then 1 else 0) + count_left (ends_over es (l ∷ later))) is ∙ none_more (count_left (ends_over es (l ∷ later))) ∙ kept (omega arith)
  where
    none_more : (n : ℕ) → 0 + n ≡ n
    none_more n = omega arith

pub some_left : (es later : List MessageEnd) → length later ≡ count_left es → count_left (ends_over es later) ≡ count_left later
some_left [] [] long = refl
some_left [] (l ∷ later) long = absurd (omega arith)
some_left (e ∷ es) [] long = sym long
some_left (e ∷ es) (l ∷ later) long = left_case e l es later (is_left e.result) refl (some_left es later) (some_left es (l ∷ later)) long

module _ (tells : ℕ → ℕ → Option (List ℕ)) (settings : RunSettings) where
  -- the lengths of what rounds come to

  pub each_of : (credits : List ℕ) (ms : List Message) (rounds : List Round) (ends : List MessageEnd) (rows : List Row) → AreRounds tells settings credits ms rounds ends rows
      → (length ends ≡ length ms) × (length rows ≡ length credits)
  each_of credits ms [] ends rows are = absurd are
  each_of credits ms (r ∷ []) ends rows are = (
    ap (λ (l : List MessageEnd). length l) are.ends_are ∙ zip_length (IsEndOf settings.rules (length credits)) r.messages r.sending.ends.items are.sent.ends ∙ zip_length SaysSame ms r.messages are.same,
    ap (λ (l : List Row). length l) are.rows_are ∙ are.sent.rows.each,
  )
  each_of credits ms (r ∷ (q ∷ before)) ends rows (es, ws, was, is) =
      let had = each_of credits ms (q ∷ before) es ws was in (
        ap (λ (l : List MessageEnd). length l) is.ends_are ∙ length_over es r.sending.ends.items ∙ had.0,
        ap (λ (l : List Row). length l) is.rows_are ∙ length_rows ws r.sending.statement ∙ had.1,
      )

  pub of_round : (credits : List ℕ) (ms : List Message) (es : List MessageEnd) (ws : List Row) (r : Round) (ends : List MessageEnd) (rows : List Row) → length es ≡ length ms → IsFurther tells settings credits ms es ws r ends rows
      → AreOfRound ms es r.sending.ends.items
  of_round credits ms es ws r ends rows each is = record {
    each = each;
    left = zip_length (IsEndOf settings.rules (length credits)) r.messages r.sending.ends.items is.sent.ends ∙ zip_length SaysSame (left_in ms es) r.messages is.same ∙ length_left ms es each;
  }

  -- the sums

  first_row : (t i : ℕ) (ms given : List Message) (es : List MessageEnd) (w : Row) → AllZip SaysSame ms given → IsRow t i given es w → IsRowOver t i ms es w
  first_row t i ms given es w same is =
      let copied : (f : Phase → ℕ → ℕ) → credits f i given es ≡ credits f i ms es = λ f. copies_agree f i ms given es same in
      record {
        topped_is = is.topped_is;
        reserved = is.reserved ∙ copied reserved_of;
        charged = is.charged ∙ copied charged_of;
        returned = inl (is.returned ∙ copied returned_of);
        balanced = is.balanced;
      }

  moved : (t i : ℕ) (ms : List Message) (es fs : List MessageEnd) (w v : Row) → es ≡ fs → w ≡ v → IsRowOver t i ms es w → IsRowOver t i ms fs v
  moved t i ms es fs w v ends row is = subst (λ (l : List MessageEnd). IsRowOver t i ms l v) ends (subst (λ (r : Row). IsRowOver t i ms es r) row is)

  further_row : (credits : List ℕ) (ms : List Message) (es : List MessageEnd) (ws : List Row) (r : Round) (ends : List MessageEnd) (rows : List Row) (t i : ℕ) → t < 2 ^ 64 → i < length ws → length es ≡ length ms
      → IsFurther tells settings credits ms es ws r ends rows → IsRowOver t i ms es (row_at ws i) → IsRowOver t i ms ends (row_at rows i)
  further_row credits ms es ws r ends rows t i fits low each is was =
      let are : AreOfRound ms es r.sending.ends.items = of_round credits ms es ws r ends rows each is in
      let long : length r.sending.statement ≡ length ws = is.sent.rows.each ∙ length_free ws in
      let less : i < length r.sending.statement = subst (λ (n : ℕ). i < n) (sym long) low in
      let inside : i < length (free_in ws) = subst (λ (n : ℕ). i < n) (sym (length_free ws)) low in
      let later : IsRow (row_at ws i).free i r.messages r.sending.ends.items (row_at r.sending.statement i) =
      subst (λ (n : ℕ). IsRow n i r.messages r.sending.ends.items (row_at r.sending.statement i)) (free_at ws i low) (is.sent.rows.sums i inside) in
      moved t i ms (ends_over es r.sending.ends.items) ends (row_over (row_at ws i) (row_at r.sending.statement i)) (row_at rows i) (sym is.ends_are)
      (sym (row_over_at ws r.sending.statement i low less) ∙ ap (λ (l : List Row). row_at l i) (sym is.rows_are))
      (row_step t i ms r.messages es r.sending.ends.items (row_at ws i) (row_at r.sending.statement i) fits is.same
      (λ f. sums_add f i Pair ms es r.sending.ends.items (of_all ms es r.sending.ends.items are) (of_left ms es r.sending.ends.items are))
      was later)

  sums_of : (credits : List ℕ) (ms : List Message) (rounds : List Round) (ends : List MessageEnd) (rows : List Row) → AreSmall credits → AreRounds tells settings credits ms rounds ends rows
      → (i : ℕ) → i < length credits → IsRowOver (topped_at credits i) i ms ends (row_at rows i)
  sums_of credits ms [] ends rows small are i low = absurd are
  sums_of credits ms (r ∷ []) ends rows small are i low =
      moved (topped_at credits i) i ms r.sending.ends.items ends (row_at r.sending.statement i) (row_at rows i) (sym are.ends_are) (ap (λ (l : List Row). row_at l i) (sym are.rows_are))
      (first_row (topped_at credits i) i ms r.messages r.sending.ends.items (row_at r.sending.statement i) are.same (are.sent.rows.sums i low))
  sums_of credits ms (r ∷ (q ∷ before)) ends rows small (es, ws, was, is) i low =
      let had = each_of credits ms (q ∷ before) es ws was in
      further_row credits ms es ws r ends rows (topped_at credits i) i (small i low) (subst (λ (n : ℕ). i < n) (sym had.1) low) had.0 is
      (sums_of credits ms (q ∷ before) es ws small was i low)

  pub runs_add_up : (credits : List ℕ) (ms : List Message) (rounds : List Round) (ends : List MessageEnd) (rows : List Row) → AreSmall credits
      → AreRounds tells settings credits ms rounds ends rows → (length ends ≡ length ms) × AreSumsOver credits ms ends rows
  runs_add_up credits ms rounds ends rows small are =
      let each = each_of credits ms rounds ends rows are in
      (each.0, record { each = each.1; sums = sums_of credits ms rounds ends rows small are })
