-- Sums of parts and of messages, one at a time.
use Rattle.std.proofs.Common.{◌≡◌, ℕ, zero, suc, ◌+◌, ◌-◌, ◌<◌, ◌≤◌, min, List, [], ◌∷◌, length, drop, Some, None, refl, sym, ap, ◌∙◌, subst, Bool, true, false, get_or, arith}
use Rattle.std.specs.Prelude.{Option, slice_get, slice_set, if◌then◌else◌, ◌==◌}
use Rattle.std.proofs.lemmas.Option.{slice_get_within}
use Rattle.std.proofs.lemmas.Bool.{eqb-true, eqb-false, eq-eqb}
use Rattle.sms_core.specs.declared.request.Phase.{Phase}
use Rattle.sms_core.specs.declared.row.Row.{Row}
use Rattle.sms_core.specs.Rows.{IsBalanced, reserved_of, charged_of, returned_of}
use Rattle.sms_book.specs.declared.opening.Opening.{Opening}
use Rattle.sms_message.specs.declared.message.Message.{Message}
use Rattle.sms_message.specs.Ends.{phase_of}
use Rattle.sms_journal.specs.declared.notes.rows.Sums.{Sums}
use Rattle.sms_message.specs.declared.ends.SegmentEnd.{SegmentEnd}
use Rattle.sms_message.specs.declared.ends.MessageEnd.{MessageEnd}
use Rattle.sms_files.proofs.Lists.{drop_step, drop_whole, get_set_else, get_set_here}
use Rattle.sms_journal.specs.Sums.{AreCovered, AreFew, AreSums, AreSumsBefore, Fits, FitsAt, HasAdded, HasCredit, IsCovered, IsGrown, IsSmall, credit_of_segment, credits_of_ends, no_sums, over_parts, parts_in, recovered_row, row_with, sum_parts}

-- ---- what a message adds to an account

no_account : (f : Phase → ℕ → ℕ) (i : ℕ) (parts : List (SegmentEnd (Unit {0}))) → sum_parts (credit_of_segment f i None) parts ≡ 0
no_account f i [] = refl
no_account f i (s ∷ ss) = let rest = no_account f i ss in omega (arith, rest)

other_account : (f : Phase → ℕ → ℕ) (i a : ℕ) (parts : List (SegmentEnd (Unit {0}))) → (a == i) ≡ false → sum_parts (credit_of_segment f i (Some a)) parts ≡ 0
other_account f i a [] apart = refl
other_account f i a (s ∷ ss) apart =
    let none : credit_of_segment f i (Some a) s ≡ 0 = ap (λ b. if b then f (phase_of s.outcome) s.cost else 0) apart in
    let rest = other_account f i a ss apart in
    omega (arith, none, rest)

its_account : (f : Phase → ℕ → ℕ) (i : ℕ) (parts : List (SegmentEnd (Unit {0}))) → sum_parts (credit_of_segment f i (Some i)) parts ≡ over_parts f parts
its_account f i [] = refl
its_account f i (s ∷ ss) =
    let one : credit_of_segment f i (Some i) s ≡ f (phase_of s.outcome) s.cost = ap (λ b. if b then f (phase_of s.outcome) s.cost else 0) (eq-eqb i i refl) in
    let rest = its_account f i ss in
    omega (arith, one, rest)

same_grown : (i : ℕ) (account : Option ℕ) (parts : List (SegmentEnd (Unit {0}))) (o : Option Sums) → ((f : Phase → ℕ → ℕ) → sum_parts (credit_of_segment f i account) parts ≡ 0) → IsGrown i account parts o o
same_grown i account parts None none = refl
same_grown i account parts (Some s) none = record {
  reserved = let e = none reserved_of in omega (arith, e);
  charged = let e = none charged_of in omega (arith, e);
  returned = let e = none returned_of in omega (arith, e);
}

pub unpaid_grown : (i : ℕ) (parts : List (SegmentEnd (Unit {0}))) (o : Option Sums) → IsGrown i None parts o o
unpaid_grown i parts o = same_grown i None parts o (λ f. no_account f i parts)

pub refused_grown : (i : ℕ) (account : Option ℕ) (o : Option Sums) → IsGrown i account [] o o
refused_grown i account o = same_grown i account [] o (λ f. refl)

pub unknown_grown : (sums : List Sums) (a i : ℕ) (parts : List (SegmentEnd (Unit {0}))) → slice_get sums a ≡ None → IsGrown i (Some a) parts (slice_get sums i) (slice_get sums i)
unknown_grown sums a i parts none = here (a == i) refl
  where
    here : (b : Bool) → (a == i) ≡ b → IsGrown i (Some a) parts (slice_get sums i) (slice_get sums i)
    here true e =
        let at : slice_get sums i ≡ None = subst (λ (j : ℕ). slice_get sums j ≡ None) (eqb-true a i e) none in
        subst (λ (o : Option Sums). IsGrown i (Some a) parts o o) (sym at) refl
    here false e = same_grown i (Some a) parts (slice_get sums i) (λ f. other_account f i a parts e)

pub paid_grown : (sums : List Sums) (a i : ℕ) (parts : List (SegmentEnd (Unit {0}))) (old new : Sums) → slice_get sums a ≡ Some old → HasAdded parts old new → IsGrown i (Some a) parts (slice_get sums i) (slice_get (slice_set sums a new) i)
paid_grown sums a i parts old new at h = here (a == i) refl
  where
    credit : HasCredit a (Some a) parts old new
    credit = record {
      reserved = let e = its_account reserved_of a parts in let g = h.reserved in omega (arith, e, g);
      charged = let e = its_account charged_of a parts in let g = h.charged in omega (arith, e, g);
      returned = let e = its_account returned_of a parts in let g = h.returned in omega (arith, e, g);
    }

    its : IsGrown a (Some a) parts (slice_get sums a) (slice_get (slice_set sums a new) a)
    its = subst (λ (o : Option Sums). IsGrown a (Some a) parts o (slice_get (slice_set sums a new) a)) (sym at)
        (subst (λ (o : Option Sums). IsGrown a (Some a) parts (Some old) o) (sym (get_set_here sums a old new at)) credit)

    here : (b : Bool) → (a == i) ≡ b → IsGrown i (Some a) parts (slice_get sums i) (slice_get (slice_set sums a new) i)
    here true e = subst (λ (j : ℕ). IsGrown j (Some a) parts (slice_get sums j) (slice_get (slice_set sums a new) j)) (eqb-true a i e) its
    here false e = subst (λ (o : Option Sums). IsGrown i (Some a) parts (slice_get sums i) o) (sym (get_set_else sums a i new (eqb-false a i e)))
        (same_grown i (Some a) parts (slice_get sums i) (λ f. other_account f i a parts e))

-- ---- all messages

credits_drop : (f : Phase → ℕ → ℕ) (i : ℕ) (ms : List Message) (es : List (MessageEnd (Unit {0}))) (k : ℕ) (m : Message) (e : MessageEnd (Unit {0})) → k < length ms → k < length es → m ≡ get_or ms k m → e ≡ get_or es k e
    → credits_of_ends f i (drop k ms) (drop k es) ≡ sum_parts (credit_of_segment f i m.account) (parts_in e.result) + credits_of_ends f i (drop (k + 1) ms) (drop (k + 1) es)
credits_drop f i ms es k m e low lower is its = λ j. credits_of_ends f i (drop_step ms k m low is j) (drop_step es k e lower its j)

pub sums_more : (i : ℕ) (ms : List Message) (es : List (MessageEnd (Unit {0}))) (k : ℕ) (m : Message) (e : MessageEnd (Unit {0})) (o : Option Sums) (t : Sums) → k < length ms → k < length es → m ≡ get_or ms k m → e ≡ get_or es k e
    → ((s : Sums) → o ≡ Some s → AreSumsBefore i ms (drop k ms) es (drop k es) s) → IsGrown i m.account (parts_in e.result) o (Some t) → AreSumsBefore i ms (drop (k + 1) ms) es (drop (k + 1) es) t
sums_more i ms es k m e None t low lower is its before grown = absurd (cc)
sums_more i ms es k m e (Some s) t low lower is its before grown =
    let h = before s refl in
    record {
      reserved = let a = credits_drop reserved_of i ms es k m e low lower is its in let b = h.reserved in let c = grown.reserved in omega (arith, a, b, c);
      charged = let a = credits_drop charged_of i ms es k m e low lower is its in let b = h.charged in let c = grown.charged in omega (arith, a, b, c);
      returned = let a = credits_drop returned_of i ms es k m e low lower is its in let b = h.returned in let c = grown.returned in omega (arith, a, b, c);
    }

nothing_left : (f : Phase → ℕ → ℕ) (i : ℕ) (ms : List Message) (es : List (MessageEnd (Unit {0}))) (k : ℕ) → min (length ms) (length es) ≤ k → credits_of_ends f i (drop k ms) (drop k es) ≡ 0
nothing_left f i [] [] zero low = refl
nothing_left f i [] [] (suc k) low = refl
nothing_left f i [] (e ∷ es) zero low = refl
nothing_left f i [] (e ∷ es) (suc k) low = refl
nothing_left f i (m ∷ ms) [] zero low = refl
nothing_left f i (m ∷ ms) [] (suc k) low = none (drop k ms)
  where
    none : (l : List Message) → credits_of_ends f i l [] ≡ 0
    none [] = refl
    none (x ∷ xs) = refl
nothing_left f i (m ∷ ms) (e ∷ es) zero low = absurd (omega (arith, low))
nothing_left f i (m ∷ ms) (e ∷ es) (suc k) low = nothing_left f i ms es k (omega (arith, low))

pub all_sums : (i : ℕ) (ms : List Message) (es : List (MessageEnd (Unit {0}))) (k : ℕ) (s : Sums) → min (length ms) (length es) ≤ k → AreSumsBefore i ms (drop k ms) es (drop k es) s → AreSums i ms es s
all_sums i ms es k s low h = record {
  reserved = let a = nothing_left reserved_of i ms es k low in let b = h.reserved in omega (arith, a, b);
  charged = let a = nothing_left charged_of i ms es k low in let b = h.charged in omega (arith, a, b);
  returned = let a = nothing_left returned_of i ms es k low in let b = h.returned in omega (arith, a, b);
}

pub first_sums : (i : ℕ) (ms : List Message) (es : List (MessageEnd (Unit {0}))) (s : Sums) → s ≡ no_sums → AreSumsBefore i ms ms es es s
first_sums i ms es s none = record {
  reserved = let a : s.reserved ≡ 0 = ap (λ (x : Sums). x.reserved) none in omega (arith, a);
  charged = let a : s.charged ≡ 0 = ap (λ (x : Sums). x.charged) none in omega (arith, a);
  returned = let a : s.returned ≡ 0 = ap (λ (x : Sums). x.returned) none in omega (arith, a);
}

pub row_is : (topped i : ℕ) (ms : List Message) (es : List (MessageEnd (Unit {0}))) (s : Sums) → AreSums i ms es s → row_with topped s ≡ recovered_row topped i ms es
row_is topped i ms es s h = λ j. record { topped = topped; free = topped - (h.reserved j + h.charged j); reserved = h.reserved j; charged = h.charged j; returned = h.returned j }

-- ---- parts

pub over_drop : (f : Phase → ℕ → ℕ) (parts : List (SegmentEnd (Unit {0}))) (i : ℕ) (s : SegmentEnd (Unit {0})) → i < length parts → s ≡ get_or parts i s → over_parts f (drop i parts) ≡ f (phase_of s.outcome) s.cost + over_parts f (drop (i + 1) parts)
over_drop f parts i s low is = ap (over_parts f) (drop_step parts i s low is)

pub over_end : (f : Phase → ℕ → ℕ) (parts : List (SegmentEnd (Unit {0}))) (i : ℕ) → length parts ≤ i → over_parts f (drop i parts) ≡ 0
over_end f parts i low = ap (over_parts f) (drop_whole parts i low)

-- ---- sums that fit

-- what fits with all parts fits with the one at hand
pub fits_front : (parts : List (SegmentEnd (Unit {0}))) (k : ℕ) (s : SegmentEnd (Unit {0})) (old kept : Sums) → k < length parts → s ≡ get_or parts k s → kept.reserved + over_parts reserved_of (drop k parts) ≡ old.reserved + over_parts reserved_of parts
    → kept.charged + over_parts charged_of (drop k parts) ≡ old.charged + over_parts charged_of parts → kept.returned + over_parts returned_of (drop k parts) ≡ old.returned + over_parts returned_of parts → Fits parts old
    → Fits (s ∷ []) kept
fits_front parts k s old kept low is reserved charged returned fits =
    let r = over_drop reserved_of parts k s low is in
    let c = over_drop charged_of parts k s low is in
    let b = over_drop returned_of parts k s low is in
    let used = fits.used in
    let back = fits.returned in
    record { used = omega (arith, r, c, used, reserved, charged); returned = omega (arith, b, back, returned) }

-- where the sums over all messages are few, those with the parts of the message at hand are
pub fits_ends : (accounts : ℕ) (ms : List Message) (es : List (MessageEnd (Unit {0}))) (k : ℕ) (m : Message) (e : MessageEnd (Unit {0})) (sums : List Sums) → length sums ≡ accounts → k < length ms → k < length es → m ≡ get_or ms k m → e ≡ get_or es k e
    → ((i : ℕ) (s : Sums) → slice_get sums i ≡ Some s → AreSumsBefore i ms (drop k ms) es (drop k es) s) → AreFew accounts ms es → FitsAt m.account (parts_in e.result) sums
fits_ends accounts ms es k m e sums long low lower is its before few = λ a s pays at.
    let within = slice_get_within sums a s at in
    let all = few a (omega (arith, within, long)) in
    let h = before a s at in
    let parts = parts_in e.result in
    let over = λ (f : Phase → ℕ → ℕ). ap (λ (o : Option ℕ). sum_parts (credit_of_segment f a o) parts) pays ∙ its_account f a parts in
    let r = credits_drop reserved_of a ms es k m e low lower is its in
    let c = credits_drop charged_of a ms es k m e low lower is its in
    let b = credits_drop returned_of a ms es k m e low lower is its in
    let r' = over reserved_of in
    let c' = over charged_of in
    let b' = over returned_of in
    let hr = h.reserved in
    let hc = h.charged in
    let hb = h.returned in
    let used = all.used in
    let back = all.returned in
    record { used = omega (arith, r, c, r', c', hr, hc, used); returned = omega (arith, b, b', hb, back) }

-- a part that doesn't fit
pub full_charged : (s : SegmentEnd (Unit {0})) (old : Sums) → charged_of (phase_of s.outcome) s.cost ≡ s.cost → 18446744073709551616 ≤ old.charged + s.cost → Fits (s ∷ []) old → ⊥
full_charged s old is high fits = let used = fits.used in omega (arith, is, high, used)

pub full_reserved : (s : SegmentEnd (Unit {0})) (old : Sums) → reserved_of (phase_of s.outcome) s.cost ≡ s.cost → 18446744073709551616 ≤ old.reserved + s.cost → Fits (s ∷ []) old → ⊥
full_reserved s old is high fits = let used = fits.used in omega (arith, is, high, used)

pub full_returned : (s : SegmentEnd (Unit {0})) (old : Sums) → returned_of (phase_of s.outcome) s.cost ≡ s.cost → 18446744073709551616 ≤ old.returned + s.cost → Fits (s ∷ []) old → ⊥
full_returned s old is high fits = let back = fits.returned in omega (arith, is, high, back)

-- ---- rows that cover

pub got_within : {X : Type 0} (xs : List X) (i : ℕ) → i < length xs → (x : X) × (slice_get xs i ≡ Some x)
got_within [] i low = absurd (omega (arith, low))
got_within (x ∷ xs) zero low = (x, refl)
got_within (x ∷ xs) (suc i) low = got_within xs i (omega (arith, low))

pub few_of_covered : (os : List Opening) (ms : List Message) (es : List (MessageEnd (Unit {0}))) → AreCovered os ms es → AreFew (length os) ms es
few_of_covered os ms es covered = λ i low. let o = got_within os i low in (covered i o.0 o.1).few

pub row_covers : (topped i : ℕ) (ms : List Message) (es : List (MessageEnd (Unit {0}))) (row : Row) → row ≡ recovered_row topped i ms es → IsBalanced row → IsSmall row → IsCovered topped i ms es
row_covers topped i ms es row is balanced small =
    let t : row.topped ≡ topped = ap (λ (x : Row). x.topped) is in
    let r : row.reserved ≡ credits_of_ends reserved_of i ms es = ap (λ (x : Row). x.reserved) is in
    let c : row.charged ≡ credits_of_ends charged_of i ms es = ap (λ (x : Row). x.charged) is in
    let b : row.returned ≡ credits_of_ends returned_of i ms es = ap (λ (x : Row). x.returned) is in
    let low = small.topped in
    let back = small.returned in
    record { few = record { used = omega (arith, r, c, balanced, low); returned = omega (arith, b, back) }; enough = omega (arith, t, r, c, balanced) }
