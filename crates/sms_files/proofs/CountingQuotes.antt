-- What is kept while messages are quoted, one at a time.
use Rattle.std.proofs.Common.{◌≡◌, ℕ, zero, suc, ◌+◌, ◌-◌, ◌<◌, ◌≤◌, Bool, true, false, List, [], ◌∷◌, ◌++◌, length, take, drop, get_or, Some, None, inl, inr, refl, sym, ap, ◌∙◌, subst, add-one, arith}
use Rattle.std.specs.Prelude.{◌⊎◌, Option, slice_get, slice_set, ◌==◌, ◌&&◌, if◌then◌else◌}
use Rattle.std.specs.Option.{option_map_or}
use Rattle.std.proofs.Math.Seq.{take-append_seam}
use Rattle.std.proofs.lemmas.List.{take_more, take-append-le}
use Rattle.std.proofs.lemmas.Bool.{eqb-true, eqb-false, eq-eqb}
use Rattle.sms_book.specs.declared.opening.Opening.{Opening}
use Rattle.sms_book.specs.Tariffs.{Price}
use Rattle.sms_message.specs.declared.message.Message.{Message}
use Rattle.sms_files.specs.declared.report.quote.quote.Quote.{Quote}
use Rattle.sms_files.specs.declared.report.quote.quote.Verdict.{Verdict}
use Rattle.sms_files.specs.declared.report.quote.quote.Verdict.TheVariants.{Passes, NoAccount, BadAddress, TooLong, NoCredit}
use Rattle.sms_files.specs.declared.report.quote.total.Total.{Total}
use Rattle.sms_files.specs.Quotes.{AreQuotesOf, IsCounted, IsQuoteOf, Says, credits_at, free_at, is_account, one, passes, share, taken, total_of}
use Rattle.sms_files.specs.QuoteText.{account_line, account_lines, total_lines}
use Rattle.sms_files.proofs.Lists.{get_set_else, get_set_here, got_is, got_low, got_of_append}
use Rattle.sms_files.specs.Totals.{AreTotals, FitIn, Fits, HasGrown, IsGrown, IsSmall, cost_at, left_in, more, nothing}

-- ---- what a message takes of an account

pub share_none : (f : Quote → ℕ) (i : ℕ) (account : Option ℕ) (q : Quote) (v : Verdict) → q.verdict ≡ v → passes v ≡ false → share f i account q ≡ 0
share_none f i account q v is not = ap (λ (b : Bool). if b && is_account i account then f q else 0) (ap passes is ∙ not)

pub share_other : (f : Quote → ℕ) (i a : ℕ) (q : Quote) → q.verdict ≡ Passes → (a == i) ≡ false → share f i (Some a) q ≡ 0
share_other f i a q is apart = ap (λ (v : Verdict). if passes v && (a == i) then f q else 0) is ∙ ap (λ (b : Bool). if b then f q else 0) apart

pub share_its : (f : Quote → ℕ) (a : ℕ) (q : Quote) → q.verdict ≡ Passes → share f a (Some a) q ≡ f q
share_its f a q is = ap (λ (v : Verdict). if passes v && (a == a) then f q else 0) is ∙ ap (λ (b : Bool). if b then f q else 0) (eq-eqb a a refl)

same_grown : (i : ℕ) (account : Option ℕ) (q : Quote) (o : Option Total) → ((f : Quote → ℕ) → share f i account q ≡ 0) → IsGrown i account q o o
same_grown i account q None none = refl
same_grown i account q (Some t) none = record {
  messages = let e = none one in omega (arith, e);
  parts = let e = none (λ s. s.parts) in omega (arith, e);
  cost = let e = none (λ s. s.cost) in omega (arith, e);
}

pub refused_grown : (i : ℕ) (account : Option ℕ) (q : Quote) (o : Option Total) → passes q.verdict ≡ false → IsGrown i account q o o
refused_grown i account q o not = same_grown i account q o (λ f. share_none f i account q q.verdict refl not)

pub unknown_grown : (i : ℕ) (q : Quote) (o : Option Total) → q.verdict ≡ Passes → IsGrown i None q o o
unknown_grown i q o is = same_grown i None q o (λ f. ap (λ (v : Verdict). if passes v && false then f q else 0) is)

pub lost_grown : (ts : List Total) (a i : ℕ) (q : Quote) → q.verdict ≡ Passes → slice_get ts a ≡ None → IsGrown i (Some a) q (slice_get ts i) (slice_get ts i)
lost_grown ts a i q is none = here (a == i) refl
  where
    here : (b : Bool) → (a == i) ≡ b → IsGrown i (Some a) q (slice_get ts i) (slice_get ts i)
    here true e =
        let at : slice_get ts i ≡ None = subst (λ (j : ℕ). slice_get ts j ≡ None) (eqb-true a i e) none in
        subst (λ (o : Option Total). IsGrown i (Some a) q o o) (sym at) refl
    here false e = same_grown i (Some a) q (slice_get ts i) (λ f. share_other f i a q is e)

pub paid_grown : (ts : List Total) (a i : ℕ) (q : Quote) (old : Total) → q.verdict ≡ Passes → slice_get ts a ≡ Some old → IsGrown i (Some a) q (slice_get ts i) (slice_get (slice_set ts a (more old q)) i)
paid_grown ts a i q old is at = here (a == i) refl
  where
    credit : HasGrown a (Some a) q old (more old q)
    credit = record {
      messages = let e = share_its one a q is in omega (arith, e);
      parts = let e = share_its (λ s. s.parts) a q is in omega (arith, e);
      cost = let e = share_its (λ s. s.cost) a q is in omega (arith, e);
    }

    its : IsGrown a (Some a) q (slice_get ts a) (slice_get (slice_set ts a (more old q)) a)
    its = subst (λ (o : Option Total). IsGrown a (Some a) q o (slice_get (slice_set ts a (more old q)) a)) (sym at)
        (subst (λ (o : Option Total). IsGrown a (Some a) q (Some old) o) (sym (get_set_here ts a old (more old q) at)) credit)

    here : (b : Bool) → (a == i) ≡ b → IsGrown i (Some a) q (slice_get ts i) (slice_get (slice_set ts a (more old q)) i)
    here true e = subst (λ (j : ℕ). IsGrown j (Some a) q (slice_get ts j) (slice_get (slice_set ts a (more old q)) j)) (eqb-true a i e) its
    here false e = subst (λ (o : Option Total). IsGrown i (Some a) q (slice_get ts i) o) (sym (get_set_else ts a i (more old q) (eqb-false a i e)))
        (same_grown i (Some a) q (slice_get ts i) (λ f. share_other f i a q is e))

-- ---- one message more

taken_append : (f : Quote → ℕ) (i : ℕ) (ms : List Message) (qs : List Quote) (m : Message) (q : Quote) → length ms ≡ length qs → taken f i (ms ++ m ∷ []) (qs ++ q ∷ []) ≡ taken f i ms qs + share f i m.account q
taken_append f i [] [] m q long = omega arith
taken_append f i [] (y ∷ ys) m q long = absurd (omega (arith, long))
taken_append f i (x ∷ xs) [] m q long = absurd (omega (arith, long))
taken_append f i (x ∷ xs) (y ∷ ys) m q long = let rest = taken_append f i xs ys m q (omega (arith, long)) in omega (arith, rest)

take_length : {X : Type 0} (xs : List X) (k : ℕ) → k ≤ length xs → length (take k xs) ≡ k
take_length xs zero low = refl
take_length [] (suc k) low = absurd (omega (arith, low))
take_length (x ∷ xs) (suc k) low = ap suc (take_length xs k (omega (arith, low)))

pub taken_more : (f : Quote → ℕ) (i : ℕ) (ms : List Message) (qs : List Quote) (k : ℕ) (m : Message) (q : Quote) → k < length ms → m ≡ get_or ms k m → length qs ≡ k
    → taken f i (take (k + 1) ms) (qs ++ q ∷ []) ≡ taken f i (take k ms) qs + share f i m.account q
taken_more f i ms qs k m q low is long =
    let whole : take (k + 1) ms ≡ take k ms ++ m ∷ [] = take_more ms k m low ∙ ap (λ (x : Message). take k ms ++ x ∷ []) (sym is) in
    ap (λ (l : List Message). taken f i l (qs ++ q ∷ [])) whole ∙ taken_append f i (take k ms) qs m q (take_length ms k (omega (arith, low)) ∙ sym long)

pub quotes_more : (os : List Opening) (long : Bool) (prices : List Price) (ms : List Message) (qs : List Quote) (k : ℕ) (m : Message) (q : Quote) → m ≡ get_or ms k m → length qs ≡ k → AreQuotesOf os long prices ms qs
    → IsQuoteOf (length os) long prices (free_at os m.account (take k ms) qs) m q → AreQuotesOf os long prices ms (qs ++ q ∷ [])
quotes_more os long prices ms qs k m q is count before here = λ j x y at there.
    elim (got_of_append qs q j y there) [
      | inl h ↦ subst (λ (l : List Quote). IsQuoteOf (length os) long prices (free_at os x.account (take j ms) l) x y) (sym (take-append-le j qs (q ∷ []) (let low = got_low qs j y h in omega (arith, low)))) (before j x y at h)
      | inr h ↦ last j x y at h.0 h.1
    ]
  where
    last : (j : ℕ) (x : Message) (y : Quote) → slice_get ms j ≡ Some x → j ≡ length qs → y ≡ q → IsQuoteOf (length os) long prices (free_at os x.account (take j ms) (take j (qs ++ q ∷ []))) x y
    last j x y at j_is y_is =
        let at_k : slice_get ms k ≡ Some x = subst (λ (n : ℕ). slice_get ms n ≡ Some x) (j_is ∙ count) at in
        let x_is : m ≡ x = sym (got_is ms k m x is at_k) in
        let front : qs ≡ take j (qs ++ q ∷ []) = sym (take-append_seam qs (q ∷ [])) ∙ ap (λ (n : ℕ). take n (qs ++ q ∷ [])) (sym j_is) in
        subst (λ (z : Quote). IsQuoteOf (length os) long prices (free_at os x.account (take j ms) (take j (qs ++ q ∷ []))) x z) (sym y_is)
        (subst (λ (z : Message). IsQuoteOf (length os) long prices (free_at os z.account (take j ms) (take j (qs ++ q ∷ []))) z q) x_is
        (subst (λ (l : List Quote). IsQuoteOf (length os) long prices (free_at os m.account (take j ms) l) m q) front
        (subst (λ (n : ℕ). IsQuoteOf (length os) long prices (free_at os m.account (take n ms) qs) m q) (sym count ∙ sym j_is) here)))

-- ---- totals

pub no_quotes_are : (os : List Opening) (long : Bool) (prices : List Price) (ms : List Message) → AreQuotesOf os long prices ms []
no_quotes_are os long prices ms = λ k m q at there. let low = got_low [] k q there in absurd (omega (arith, low))

pub no_totals_are : (os : List Opening) (ts : List Total) → length ts ≡ length os → ((i : ℕ) (t : Total) → slice_get ts i ≡ Some t → t ≡ nothing) → AreTotals os [] [] ts
no_totals_are os ts count each = record {
  count = count;
  each = λ i t at. each i t at;
  small = λ i t at. subst (IsSmall (credits_at os i)) (sym (each i t at)) (record { messages = omega arith; parts = omega arith; cost = omega arith });
}

pub left_is : (os : List Opening) (ms : List Message) (qs : List Quote) (ts : List Total) (account : Option ℕ) → AreTotals os ms qs ts → left_in os ts account ≡ free_at os account ms qs
left_is os ms qs ts None are = refl
left_is os ms qs ts (Some a) are = here (slice_get ts a) refl
  where
    gone : (os : List Opening) (n : ℕ) → length os ≤ n → credits_at os n ≡ 0
    gone [] n low = refl
    gone (o ∷ os) zero low = absurd (omega (arith, low))
    gone (o ∷ os) (suc n) low = gone os n (omega (arith, low))

    none_high : (xs : List Total) (n : ℕ) → slice_get xs n ≡ None → length xs ≤ n
    none_high [] n e = omega arith
    none_high (x ∷ xs) zero e = absurd (cc)
    none_high (x ∷ xs) (suc n) e = let r = none_high xs n e in omega (arith, r)

    here : (o : Option Total) → slice_get ts a ≡ o → credits_at os a - cost_at ts a ≡ credits_at os a - taken (λ q. q.cost) a ms qs
    here None e = let c = are.count in let h = none_high ts a e in let g = gone os a (omega (arith, c, h)) in omega (arith, g)
    here (Some t) e =
        let cost : cost_at ts a ≡ t.cost = ap (λ (o : Option Total). option_map_or (λ x. x.cost) o 0) e in
        let is : t.cost ≡ taken (λ q. q.cost) a ms qs = ap (λ (x : Total). x.cost) (are.each a t e) in
        ap (λ (n : ℕ). credits_at os a - n) (cost ∙ is)

pub fits : (os : List Opening) (long : Bool) (prices : List Price) (ms : List Message) (qs : List Quote) (ts : List Total) (m : Message) (q : Quote) → AreTotals os ms qs ts → IsCounted q
    → IsQuoteOf (length os) long prices (left_in os ts m.account) m q → FitIn os m.account q ts
fits os long prices ms qs ts m q are counted says = λ a t is account at.
    let parts = counted is in
    let passed : Says (length os) long prices (left_in os ts m.account) m q Passes = subst (Says (length os) long prices (left_in os ts m.account) m q) is says in
    let small = are.small a t at in
    let free : left_in os ts m.account ≡ credits_at os a - t.cost = ap (left_in os ts) account ∙ ap (λ (o : Option Total). credits_at os a - option_map_or (λ x. x.cost) o 0) at in
    let enough : q.cost ≤ left_in os ts m.account = passed.4 in
    let low = small.cost in
    record { small = small; some = parts.0; costs = parts.1; enough = omega (arith, free, enough, low) }

total_more : (i : ℕ) (ms : List Message) (qs : List Quote) (k : ℕ) (m : Message) (q : Quote) (t u : Total) → k < length ms → m ≡ get_or ms k m → length qs ≡ k → t ≡ total_of i (take k ms) qs → HasGrown i m.account q t u → u ≡ total_of i (take (k + 1) ms) (qs ++ q ∷ [])
total_more i ms qs k m q t u low is count total grown =
    let messages : u.messages ≡ taken one i (take (k + 1) ms) (qs ++ q ∷ []) = grown.messages ∙ ap (λ (x : Total). x.messages + share one i m.account q) total ∙ sym (taken_more one i ms qs k m q low is count) in
    let parts : u.parts ≡ taken (λ s. s.parts) i (take (k + 1) ms) (qs ++ q ∷ []) = grown.parts ∙ ap (λ (x : Total). x.parts + share (λ s. s.parts) i m.account q) total ∙ sym (taken_more (λ s. s.parts) i ms qs k m q low is count) in
    let cost : u.cost ≡ taken (λ s. s.cost) i (take (k + 1) ms) (qs ++ q ∷ []) = grown.cost ∙ ap (λ (x : Total). x.cost + share (λ s. s.cost) i m.account q) total ∙ sym (taken_more (λ s. s.cost) i ms qs k m q low is count) in
    λ j. record { messages = messages j; parts = parts j; cost = cost j }

-- what an account takes stays small
small_more : (credits i : ℕ) (account : Option ℕ) (q : Quote) (t u : Total) → IsSmall credits t → (q.verdict ≡ Passes → account ≡ Some i → Fits credits q t) → HasGrown i account q t u → IsSmall credits u
small_more credits i account q t u small fit grown = here q.verdict refl
  where
    unchanged : ((f : Quote → ℕ) → share f i account q ≡ 0) → IsSmall credits u
    unchanged none =
        let a = none one in
        let b = none (λ s. s.parts) in
        let c = none (λ s. s.cost) in
        let x = grown.messages in
        let y = grown.parts in
        let z = grown.cost in
        let k = small.messages in
        let l = small.parts in
        let n = small.cost in
        record { messages = omega (arith, a, b, x, y, k); parts = omega (arith, b, c, y, z, l); cost = omega (arith, c, z, n) }

    its : q.verdict ≡ Passes → account ≡ Some i → IsSmall credits u
    its is at =
        let f = fit is at in
        let a : share one i account q ≡ 1 = ap (λ (o : Option ℕ). share one i o q) at ∙ share_its one i q is in
        let b : share (λ s. s.parts) i account q ≡ q.parts = ap (λ (o : Option ℕ). share (λ s. s.parts) i o q) at ∙ share_its (λ s. s.parts) i q is in
        let c : share (λ s. s.cost) i account q ≡ q.cost = ap (λ (o : Option ℕ). share (λ s. s.cost) i o q) at ∙ share_its (λ s. s.cost) i q is in
        let x = grown.messages in
        let y = grown.parts in
        let z = grown.cost in
        let k = small.messages in
        let l = small.parts in
        let s = f.some in
        let d = f.costs in
        let n = f.enough in
        record { messages = omega (arith, a, b, x, y, k, s); parts = omega (arith, b, c, y, z, l, d); cost = omega (arith, c, z, n) }

    by : (o : Option ℕ) → account ≡ o → q.verdict ≡ Passes → IsSmall credits u
    by None at is = unchanged (λ f. ap (λ (o : Option ℕ). share f i o q) at ∙ ap (λ (v : Verdict). if passes v && false then f q else 0) is)
    by (Some a) at is = split (a == i) refl
      where
        split : (b : Bool) → (a == i) ≡ b → IsSmall credits u
        split true e = its is (at ∙ ap Some (eqb-true a i e))
        split false e = unchanged (λ f. ap (λ (o : Option ℕ). share f i o q) at ∙ share_other f i a q is e)

    here : (v : Verdict) → q.verdict ≡ v → IsSmall credits u
    here Passes is = by account refl is
    here NoAccount is = unchanged (λ f. share_none f i account q NoAccount is refl)
    here BadAddress is = unchanged (λ f. share_none f i account q BadAddress is refl)
    here TooLong is = unchanged (λ f. share_none f i account q TooLong is refl)
    here NoCredit is = unchanged (λ f. share_none f i account q NoCredit is refl)

pub totals_more : (os : List Opening) (ms : List Message) (qs : List Quote) (ts us : List Total) (k : ℕ) (m : Message) (q : Quote) → k < length ms → m ≡ get_or ms k m → length qs ≡ k → AreTotals os (take k ms) qs ts → FitIn os m.account q ts
    → length us ≡ length ts → ((i : ℕ) → IsGrown i m.account q (slice_get ts i) (slice_get us i)) → AreTotals os (take (k + 1) ms) (qs ++ q ∷ []) us
totals_more os ms qs ts us k m q low is count are fit same grown = record {
  count = same ∙ are.count;
  each = λ i u at. from i u at (slice_get ts i) refl;
  small = λ i u at. small_from i u at (slice_get ts i) refl;
}
  where
    step : (i : ℕ) (u : Total) (o : Option Total) → slice_get us i ≡ Some u → slice_get ts i ≡ o → IsGrown i m.account q o (Some u)
    step i u o at was = subst (λ (x : Option Total). IsGrown i m.account q o x) at (subst (λ (x : Option Total). IsGrown i m.account q x (slice_get us i)) was (grown i))

    from : (i : ℕ) (u : Total) → slice_get us i ≡ Some u → (o : Option Total) → slice_get ts i ≡ o → u ≡ total_of i (take (k + 1) ms) (qs ++ q ∷ [])
    from i u at None was = let g : Some u ≡ None = step i u None at was in absurd (cc)
    from i u at (Some t) was = total_more i ms qs k m q t u low is count (are.each i t was) (step i u (Some t) at was)

    small_from : (i : ℕ) (u : Total) → slice_get us i ≡ Some u → (o : Option Total) → slice_get ts i ≡ o → IsSmall (credits_at os i) u
    small_from i u at None was = let g : Some u ≡ None = step i u None at was in absurd (cc)
    small_from i u at (Some t) was = small_more (credits_at os i) i m.account q t u (are.small i t was) (λ passed account. fit i t passed account was) (step i u (Some t) at was)

-- ---- the lines of accounts

pub lines_are : (os : List Opening) (ts : List Total) (i : ℕ) (ms : List Message) (qs : List Quote) → length ts ≡ length os → ((k j : ℕ) (t : Total) → j ≡ i + k → slice_get ts k ≡ Some t → t ≡ total_of j ms qs)
    → total_lines os ts ≡ account_lines i os ms qs
lines_are [] ts i ms qs count each = refl
lines_are (o ∷ os) [] i ms qs count each = absurd (omega (arith, count))
lines_are (o ∷ os) (t ∷ ts) i ms qs count each =
    ap (λ (x : Total). account_line o x ++ total_lines os ts) (each 0 i t (omega arith) refl)
    ∙ ap (λ (l : List ℕ). account_line o (total_of i ms qs) ++ l) (lines_are os ts (i + 1) ms qs (omega (arith, count)) (λ k j x is at. each (suc k) j x (omega (arith, is)) at))
