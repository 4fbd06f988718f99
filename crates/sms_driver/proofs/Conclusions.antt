-- From what each worker gave back to the ends and the rows of the run.
use Rattle.std.proofs.Common.{◌≡◌, ℕ, zero, suc, ◌+◌, ◌<◌, true, List, [], ◌∷◌, length, map, refl, sym, ap, ◌∙◌, subst, arith, Result, Ok, MatchResult}
use Rattle.std.proofs.lemmas.List.{length-map}
use Rattle.sms_driver.proofs.Joins.{all_ok}
use Rattle.std.specs.List.{AllZip, AllByRecursion}
use Rattle.sms_core.specs.declared.row.Row.{Row}
use Rattle.sms_core.specs.Numbers.{AreDrawn}
use Rattle.sms_core.specs.Rows.{reserved_of, charged_of, returned_of}
use Rattle.sms_pdu.proofs.Fronts.{AllByRecursion-append}
use Rattle.sms_book.specs.Name.{BookId}
use Rattle.sms_book.specs.Portions.{no_amounts, row_at}
use Rattle.sms_book.specs.Shares.{Share, blank_share, opening_shares, AreAll}
use Rattle.sms_book.proofs.OpeningShares.{opening_shares_all}
use Rattle.sms_book.specs.Sums.{over_shares, IsSumOf}
use Rattle.sms_message.specs.declared.message.Message.{Message}
use Rattle.sms_message.specs.declared.rules.Rules.{Rules}
use Rattle.sms_worker.specs.Types.{MessageEnd}
use Rattle.sms_message.specs.Ends.{credit, credits}
use Rattle.sms_driver.specs.Deals.{dealt}
use Rattle.sms_driver.specs.Settled.{totals}
use Rattle.sms_driver.specs.Worked.{Worked}
use Rattle.sms_worker.specs.Credit.{IsCovered}
use Rattle.sms_worker.specs.EndOf.{IsEndOf}
use Rattle.sms_driver.specs.Statements.{AreRows}
use Rattle.sms_driver.specs.Settled.{Summed, AreSettled}
use Rattle.sms_driver.proofs.Dealings.{undealt, zip_dealt, total_dealt}
use Rattle.sms_driver.proofs.Returning.{kept_windows}
use Rattle.sms_driver.proofs.Sums.{Column, GrewBy, sums_grow, opening_sum}

pub map_map : {A B C : Type 0} (f : A → B) (g : B → C) (xs : List A) → map g (map f xs) ≡ map (λ x. g (f x)) xs
map_map f g [] = refl
map_map f g (x ∷ xs) = ap (λ l. g (f x) ∷ l) (map_map f g xs)

pub zip_map : {A B C D : Type 0} (f : A → C) (g : B → D) (P : A → B → Type 0) (Q : C → D → Type 0) → ((a : A) (b : B) → P a b → Q (f a) (g b)) → (xs : List A) (ys : List B) → AllZip P xs ys → AllZip Q (map f xs) (map g ys)
zip_map f g P Q h [] [] z = tt
zip_map f g P Q h [] (y ∷ ys) z = absurd z
zip_map f g P Q h (x ∷ xs) [] z = absurd z
zip_map f g P Q h (x ∷ xs) (y ∷ ys) z = (h x y z.0, zip_map f g P Q h xs ys z.1)

pub zip_to : {A B : Type 0} (P Q : A → B → Type 0) → ((a : A) (b : B) → P a b → Q a b) → (xs : List A) (ys : List B) → AllZip P xs ys → AllZip Q xs ys
zip_to P Q h [] [] z = tt
zip_to P Q h [] (y ∷ ys) z = absurd z
zip_to P Q h (x ∷ xs) [] z = absurd z
zip_to P Q h (x ∷ xs) (y ∷ ys) z = (h x y z.0, zip_to P Q h xs ys z.1)

zip_length : {A B : Type 0} (P : A → B → Type 0) (xs : List A) (ys : List B) → AllZip P xs ys → length ys ≡ length xs
zip_length P [] [] z = refl
zip_length P [] (y ∷ ys) z = absurd z
zip_length P (x ∷ xs) [] z = absurd z
zip_length P (x ∷ xs) (y ∷ ys) z = ap suc (zip_length P xs ys z.1)

zip_lengths : {A B : Type 0} (P : A → B → Type 0) (xss : List (List A)) (yss : List (List B)) → AllZip (AllZip P) xss yss → map length yss ≡ map length xss
zip_lengths P [] [] z = refl
zip_lengths P [] (y ∷ ys) z = absurd z
zip_lengths P (x ∷ xs) [] z = absurd z
zip_lengths P (x ∷ xs) (y ∷ ys) z = let a = zip_length P x y z.0 in let r = zip_lengths P xs ys z.1 in λ i. a i ∷ r i

length-blank : (accounts number : ℕ) → length (blank_share accounts number).amounts ≡ accounts
length-blank zero number = refl
length-blank (suc n) number = ap suc (length-blank n number)

blank_lengths : (accounts workers : ℕ) → AllByRecursion (λ (s : Share). length s.amounts ≡ accounts) (opening_shares accounts workers)
blank_lengths accounts zero = tt
blank_lengths accounts (suc w) = AllByRecursion-append (λ (s : Share). length s.amounts ≡ accounts) (opening_shares accounts w) (blank_share accounts (suc w) ∷ []) (blank_lengths accounts w) (length-blank accounts (suc w), tt)

module _ {T D : Type 0} (share : T → Share) (given : T → List Message) (back : D → Share) (ends : D → List MessageEnd) (book : BookId) (rules : Rules) where
  -- what comes back is of the messages and the share that were given, with the share's number
  abbrev HasWorked : T → D → Type 0
  HasWorked t d = Worked book rules (share t).amounts (back d).amounts (given t) (ends d) × ((back d).number ≡ (share t).number)

  each_end : (accounts : ℕ) (ts : List T) (ds : List D) → AllByRecursion (λ (s : Share). length s.amounts ≡ accounts) (map share ts) → AllZip HasWorked ts ds → AllZip (AllZip (IsEndOf rules accounts)) (map given ts) (map ends ds)
  each_end accounts [] [] l z = tt
  each_end accounts [] (d ∷ ds) l z = absurd z
  each_end accounts (t ∷ ts) [] l z = absurd z
  each_end accounts (t ∷ ts) (d ∷ ds) l z = (subst (λ (n : ℕ). AllZip (IsEndOf rules n) (given t) (ends d)) l.0 z.0.0.ends, each_end accounts ts ds l.1 z.1)

  -- the list of the ends that was dealt, as the messages were
  pub dealt_ends : (accounts count : ℕ) (ms : List Message) (ts : List T) (ds : List D) → 0 < count → map given ts ≡ dealt count 0 ms → map share ts ≡ opening_shares accounts count → AllZip HasWorked ts ds
      → (es : List MessageEnd) × (length es ≡ length ms) × (map ends ds ≡ dealt count 0 es)
  dealt_ends accounts count ms ts ds some batches shares z =
      let e = each_end accounts ts ds (subst (AllByRecursion (λ (s : Share). length s.amounts ≡ accounts)) (sym shares) (blank_lengths accounts count)) z in
      undealt (IsEndOf rules accounts) count 0 ms (map ends ds) some (zip_lengths (IsEndOf rules accounts) (map given ts) (map ends ds) e ∙ ap (λ l. map length l) batches)

  pub ends_in_order : (accounts count : ℕ) (ms : List Message) (es : List MessageEnd) (ts : List T) (ds : List D) → 0 < count → map given ts ≡ dealt count 0 ms → map share ts ≡ opening_shares accounts count → AllZip HasWorked ts ds
      → length es ≡ length ms → map ends ds ≡ dealt count 0 es → AllZip (IsEndOf rules accounts) ms es
  ends_in_order accounts count ms es ts ds some batches shares z long back_is =
      let e = each_end accounts ts ds (subst (AllByRecursion (λ (s : Share). length s.amounts ≡ accounts)) (sym shares) (blank_lengths accounts count)) z in
      zip_dealt (IsEndOf rules accounts) count 0 ms es some (sym long)
      (subst (λ x. AllZip (AllZip (IsEndOf rules accounts)) (dealt count 0 ms) x) back_is (subst (λ x. AllZip (AllZip (IsEndOf rules accounts)) x (map ends ds)) batches e))

  -- in order, no message was begun that its account could never have paid
  covered_in_order : book.sealed ≡ true → (count : ℕ) (ms : List Message) (es : List MessageEnd) (ts : List T) (ds : List D) → 0 < count → map given ts ≡ dealt count 0 ms → AllZip HasWorked ts ds
      → length es ≡ length ms → map ends ds ≡ dealt count 0 es → AllZip (IsCovered book.opening rules) ms es
  covered_in_order sealed count ms es ts ds some batches z long back_is =
      let e = zip_map given ends HasWorked (AllZip (IsCovered book.opening rules)) (λ t d w. w.0.covered sealed) ts ds z in
      zip_dealt (IsCovered book.opening rules) count 0 ms es some (sym long)
      (subst (λ x. AllZip (AllZip (IsCovered book.opening rules)) (dealt count 0 ms) x) back_is (subst (λ x. AllZip (AllZip (IsCovered book.opening rules)) x (map ends ds)) batches e))

  column : (f : Column) → f.amount no_amounts ≡ 0 → (accounts count : ℕ) (ms : List Message) (es : List MessageEnd) (ts : List T) (ds : List D) → 0 < count → map given ts ≡ dealt count 0 ms → map share ts ≡ opening_shares accounts count
      → length es ≡ length ms → map ends ds ≡ dealt count 0 es → AllZip (λ t d. GrewBy f (share t).amounts (back d).amounts (given t) (ends d)) ts ds → (i : ℕ) → over_shares f.amount i (map back ds) ≡ credits f.counts i ms es
  column f none accounts count ms es ts ds some batches shares long back_is z i =
      let g = sums_grow share given back ends f ts ds z i in
      let o : over_shares f.amount i (map share ts) ≡ 0 = ap (over_shares f.amount i) shares ∙ opening_sum f.amount none i accounts count in
      let d : totals (λ m s. credit f.counts i m.account s) (map given ts) (map ends ds) ≡ credits f.counts i ms es =
      (λ j. totals (λ m s. credit f.counts i m.account s) (batches j) (back_is j)) ∙ total_dealt (λ m s. credit f.counts i m.account s) count 0 ms es some (sym long) in
      omega arith

  pub summed : (accounts count : ℕ) (ms : List Message) (es : List MessageEnd) (ts : List T) (ds : List D) → 0 < count → map given ts ≡ dealt count 0 ms → map share ts ≡ opening_shares accounts count → AllZip HasWorked ts ds
      → length es ≡ length ms → map ends ds ≡ dealt count 0 es → Summed ms es (map back ds)
  summed accounts count ms es ts ds some batches shares z long back_is = record {
    reserved = column (record { amount = λ a. a.reserved; counts = reserved_of }) refl accounts count ms es ts ds some batches shares long back_is (zip_to HasWorked _ (λ t d w i. let (reserved, _, _) = w.0.credits i in reserved) ts ds z);
    charged = column (record { amount = λ a. a.charged; counts = charged_of }) refl accounts count ms es ts ds some batches shares long back_is (zip_to HasWorked _ (λ t d w i. let (_, charged, _) = w.0.credits i in charged) ts ds z);
    returned = column (record { amount = λ a. a.returned; counts = returned_of }) refl accounts count ms es ts ds some batches shares long back_is (zip_to HasWorked _ (λ t d w i. let (_, _, returned) = w.0.credits i in returned) ts ds z);
  }

  all_shares : (accounts count : ℕ) (ts : List T) (ds : List D) → map share ts ≡ opening_shares accounts count → AllZip HasWorked ts ds → AreAll count (map back ds)
  all_shares accounts count ts ds shares z =
      let kept = kept_windows (λ t. (share t).number) (λ d. (back d).number) ts ds (zip_to HasWorked _ (λ t d w. w.1) ts ds z) in
      let numbers : map (λ (s : Share). s.number) (map back ds) ≡ map (λ (s : Share). s.number) (opening_shares accounts count) =
      map_map back (λ (s : Share). s.number) ds ∙ kept ∙ sym (map_map share (λ (s : Share). s.number) ts) ∙ ap (map (λ (s : Share). s.number)) shares in
      subst (AreDrawn 1 (count + 1)) (sym numbers) (opening_shares_all accounts count)

  pub settled : (ms : List Message) (ts : List T) (ds : List D) → 0 < book.workers → map given ts ≡ dealt book.workers 0 ms → map share ts ≡ opening_shares book.accounts book.workers → AllZip HasWorked ts ds
      → AreSettled book rules ms (map back ds) (map ends ds)
  settled ms ts ds some batches shares z =
      let (es, long, dealt_is) = dealt_ends book.accounts book.workers ms ts ds some batches shares z in
      record {
        es = es;
        long = long;
        dealt_is = dealt_is;
        ends = ends_in_order book.accounts book.workers ms es ts ds some batches shares z long dealt_is;
        covered = λ sealed. covered_in_order sealed book.workers ms es ts ds some batches z long dealt_is;
        sums = summed book.accounts book.workers ms es ts ds some batches shares z long dealt_is;
        all = all_shares book.accounts book.workers ts ds shares z;
      }

  pub all_settled : {K E : Type 0} (assignment : K → T) (P : T → D → Type 0) (Q : T → E → Type 0) → ((t : T) (d : D) → P t d → HasWorked t d) → (ms : List Message) (ks : List K) (ds : List D) (bs : List (Result D E)) → 0 < book.workers
      → map (λ k. given (assignment k)) ks ≡ dealt book.workers 0 ms → map (λ k. share (assignment k)) ks ≡ opening_shares book.accounts book.workers → AllZip (λ a r. MatchResult r (P a) (Q a)) (map assignment ks) bs → map (λ d. Ok d) ds ≡ bs
      → AreSettled book rules ms (map back ds) (map ends ds)
  all_settled assignment P Q means ms ks ds bs some batches shares z is =
      let y = all_ok P Q (map assignment ks) ds (subst (AllZip (λ a r. MatchResult r (P a) (Q a)) (map assignment ks)) (sym is) z) in
      settled ms (map assignment ks) ds some (map_map assignment given ks ∙ batches) (map_map assignment share ks ∙ shares) (zip_to P HasWorked means (map assignment ks) ds y)

pub all_back : {T D K E : Type 0} (assignment : K → T) (P : T → D → Type 0) (Q : T → E → Type 0) (ks : List K) (ds : List D) (bs : List (Result D E)) → AllZip (λ a r. MatchResult r (P a) (Q a)) (map assignment ks) bs → map (λ d. Ok d) ds ≡ bs → length ds ≡ length ks
all_back assignment P Q ks ds bs z is = zip_length P (map assignment ks) ds (all_ok P Q (map assignment ks) ds (subst (AllZip (λ a r. MatchResult r (P a) (Q a)) (map assignment ks)) (sym is) z)) ∙ length-map ks assignment

-- the gathered rows are the rows of the run
pub rows_of : (opened : List ℕ) (ms : List Message) (es : List MessageEnd) (shares : List Share) (rows : List Row) → Summed ms es shares → length rows ≡ length opened
    → ((i : ℕ) → i < length rows → IsSumOf (row_at rows i) i opened shares) → AreRows opened ms es rows
rows_of opened ms es shares rows s long sums = record {
  each = long;
  sums = λ i low.
      let r = sums i (omega arith) in
      record { topped_is = r.topped; reserved = r.reserved ∙ s.reserved i; charged = r.charged ∙ s.charged i; returned = r.returned ∙ s.returned i; balanced = r.balanced };
}
