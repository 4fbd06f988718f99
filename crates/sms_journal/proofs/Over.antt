-- What a further round makes of the ends before it.
use Rattle.std.proofs.Common.{◌≡◌, ℕ, zero, suc, ◌+◌, Bool, true, false, List, [], ◌∷◌, length, refl, ap, sym, ◌∙◌, subst, arith, true≢false}
use Rattle.std.specs.Prelude.{Option, Some, if◌then◌else◌, slice_get}
use Rattle.std.specs.List.{AllZip}
use Rattle.sms_message.specs.Ends.{segment_at, segments_in}
use Rattle.sms_message.specs.declared.ends.MessageEnd.{MessageEnd}
use Rattle.sms_message.specs.declared.ends.SegmentEnd.{SegmentEnd}
use Rattle.sms_message.specs.declared.message.Message.{Message}
use Rattle.sms_journal.specs.Left.{count_left, is_left, left_before, left_in}
use Rattle.sms_journal.specs.OverLaws.{AreOfRound}
use Rattle.sms_journal.specs.Over.{ends_over}

module _ {S : Type 0} where
  pub none_over : (es : List (MessageEnd S)) → ends_over es [] ≡ es
  none_over [] = refl
  none_over (e ∷ es) = refl

  pub left_of_none : (ms : List Message) (es : List (MessageEnd S)) → es ≡ [] → left_in ms es ≡ []
  left_of_none [] es none = refl
  left_of_none (m ∷ ms) [] none = refl
  left_of_none (m ∷ ms) (e ∷ es) none = absurd (cc)

module _ {S : Type 0} (R : Message → MessageEnd S → Type 0) where
  pub zip_none : (ms : List Message) → AllZip R ms [] → ms ≡ []
  zip_none [] h = refl
  zip_none (m ∷ ms) h = absurd h

  -- what is left after a round

  left_case : (m : Message) (ms : List Message) (e l : MessageEnd S) (es later : List (MessageEnd S)) (b : Bool) → is_left e.result ≡ b
      → (AllZip R (left_in ms es) later → left_in ms (ends_over es later) ≡ left_in (left_in ms es) later)
      → (AllZip R (left_in ms es) (l ∷ later) → left_in ms (ends_over es (l ∷ later)) ≡ left_in (left_in ms es) (l ∷ later))
      → AllZip R (if b then m ∷ left_in ms es else left_in ms es) (l ∷ later)
      → left_in (m ∷ ms) (if b then l ∷ ends_over es later else e ∷ ends_over es (l ∷ later)) ≡ left_in (if b then m ∷ left_in ms es else left_in ms es) (l ∷ later)
  left_case m ms e l es later true is taken kept h = ap (λ left. if is_left l.result then m ∷ left else left) (taken h.1)
  left_case m ms e l es later false is taken kept h =
      ap (λ b. if b then m ∷ left_in ms (ends_over es (l ∷ later)) else left_in ms (ends_over es (l ∷ later))) is ∙ kept h

  pub left_after : (ms : List Message) (es later : List (MessageEnd S)) → AllZip R ms es → AllZip R (left_in ms es) later
      → left_in ms (ends_over es later) ≡ left_in (left_in ms es) later
  left_after [] es later all left = refl
  left_after (m ∷ ms) [] later all left = absurd all
  left_after (m ∷ ms) (e ∷ es) [] all left = zip_none (left_in (m ∷ ms) (e ∷ es)) left ∙ sym (left_of_none (left_in (m ∷ ms) (e ∷ es)) [] refl)
  left_after (m ∷ ms) (e ∷ es) (l ∷ later) all left =
      left_case m ms e l es later (is_left e.result) refl (left_after ms es later all.1) (left_after ms es (l ∷ later) all.1) left

  -- what holds of all after it

  holds_case : (m : Message) (ms : List Message) (e l : MessageEnd S) (es later : List (MessageEnd S)) (b : Bool) → R m e
      → (AllZip R (left_in ms es) later → AllZip R ms (ends_over es later))
      → (AllZip R (left_in ms es) (l ∷ later) → AllZip R ms (ends_over es (l ∷ later)))
      → AllZip R (if b then m ∷ left_in ms es else left_in ms es) (l ∷ later)
      → AllZip R (m ∷ ms) (if b then l ∷ ends_over es later else e ∷ ends_over es (l ∷ later))
  holds_case m ms e l es later true here taken kept h = (h.0, taken h.1)
  holds_case m ms e l es later false here taken kept h = (here, kept h)

  pub holds_after : (ms : List Message) (es later : List (MessageEnd S)) → AllZip R ms es → AllZip R (left_in ms es) later → AllZip R ms (ends_over es later)
  holds_after [] [] later all left = tt
  holds_after [] (e ∷ es) later all left = absurd all
  holds_after (m ∷ ms) [] later all left = absurd all
  holds_after (m ∷ ms) (e ∷ es) [] all left = all
  holds_after (m ∷ ms) (e ∷ es) (l ∷ later) all left =
      holds_case m ms e l es later (is_left e.result) all.0 (holds_after ms es later all.1) (holds_after ms es (l ∷ later) all.1) left

-- segments

one_more : (n : ℕ) → 1 + n ≡ suc n
one_more n = omega arith

uncounted : (b : Bool) (n k : ℕ) → (if b then 1 else 0) + n ≡ (if b then 1 else 0) + k → n ≡ k
uncounted true n k e = omega arith
uncounted false n k e = omega arith

module _ {S : Type 0} where
  none_case : (es : List (MessageEnd S)) (b : Bool) → (if b then 1 else 0) + count_left es ≡ 0 → (b ≡ false) × (count_left es ≡ 0)
  none_case es true e = absurd (omega arith)
  none_case es false e = (refl, omega arith)

  none_left : (es : List (MessageEnd S)) (k : ℕ) (e : MessageEnd S) → slice_get es k ≡ Some e → count_left es ≡ 0 → is_left e.result ≡ false
  none_left [] k e at none = absurd (cc)
  none_left (o ∷ es) zero e at none = let same : o ≡ e = cc in subst (λ (x : MessageEnd S). is_left x.result ≡ false) same (none_case es (is_left o.result) none).0
  none_left (o ∷ es) (suc k) e at none = none_left es k e at (none_case es (is_left o.result) none).1

  -- a segment of a message that was left, or of another
  abbrev picked : Bool → List (MessageEnd S) → ℕ → Option (SegmentEnd S) → ℕ → Option (SegmentEnd S)
  picked b later place else_is part = if b then segment_at later place part else else_is

  at_first : (e l : MessageEnd S) (es later : List (MessageEnd S)) (part : ℕ) (b : Bool)
      → segment_at (if b then l ∷ ends_over es later else e ∷ ends_over es (l ∷ later)) 0 part ≡ picked b (l ∷ later) 0 (slice_get (segments_in e.result) part) part
  at_first e l es later part true = refl
  at_first e l es later part false = refl

  at_next : (e l : MessageEnd S) (es later : List (MessageEnd S)) (k part : ℕ) (b c : Bool)
      → (count_left es ≡ length later → segment_at (ends_over es later) k part ≡ picked c later (left_before k es) (segment_at es k part) part)
      → (count_left es ≡ length (l ∷ later) → segment_at (ends_over es (l ∷ later)) k part ≡ picked c (l ∷ later) (left_before k es) (segment_at es k part) part)
      → (if b then 1 else 0) + count_left es ≡ length (l ∷ later)
      → segment_at (if b then l ∷ ends_over es later else e ∷ ends_over es (l ∷ later)) (suc k) part ≡ picked c (l ∷ later) ((if b then 1 else 0) + left_before k es) (segment_at es k part) part
  at_next e l es later k part true c taken kept count =
      taken (omega arith) ∙ ap (λ n. picked c (l ∷ later) n (segment_at es k part) part) (sym (one_more (left_before k es)))
  at_next e l es later k part false c taken kept count =
      kept (omega arith) ∙ ap (λ n. picked c (l ∷ later) n (segment_at es k part) part) (let same : left_before k es ≡ 0 + left_before k es = omega arith in same)

  pub segment_over : (es later : List (MessageEnd S)) (k part : ℕ) (e : MessageEnd S) → slice_get es k ≡ Some e → count_left es ≡ length later
      → segment_at (ends_over es later) k part ≡ (if is_left e.result then segment_at later (left_before k es) part else segment_at es k part)
  segment_over [] later k part e at count = absurd (cc)
  segment_over (o ∷ es) [] k part e at count =
      ap (λ b. if b then segment_at [] (left_before k (o ∷ es)) part else segment_at (o ∷ es) k part) (sym (none_left (o ∷ es) k e at count))
  segment_over (o ∷ es) (l ∷ later) zero part e at count =
      let same : o ≡ e = cc in
      at_first o l es later part (is_left o.result)
      ∙ ap (λ b. picked b (l ∷ later) 0 (slice_get (segments_in o.result) part) part) (ap (λ (x : MessageEnd S). is_left x.result) same)
  segment_over (o ∷ es) (l ∷ later) (suc k) part e at count =
      at_next o l es later k part (is_left o.result) (is_left e.result) (segment_over es later k part e at) (segment_over es (l ∷ later) k part e at) count

  -- places

  counted : (o : MessageEnd S) (b : Bool) → b ≡ true → (n : ℕ) → 0 ≡ (if b then 1 else 0) + n → ⊥
  counted o true is n e = omega arith
  counted o false is n e = true≢false (sym is)

  pub places_apart : (es : List (MessageEnd S)) (i k : ℕ) (e o : MessageEnd S) → slice_get es i ≡ Some e → slice_get es k ≡ Some o → is_left e.result ≡ true → is_left o.result ≡ true
      → left_before i es ≡ left_before k es → i ≡ k
  places_apart [] i k e o at there left also same = absurd (cc)
  places_apart (x ∷ es) zero zero e o at there left also same = refl
  places_apart (x ∷ es) zero (suc k) e o at there left also same =
      let is : x ≡ e = cc in
      absurd (counted x (is_left x.result) (subst (λ (y : MessageEnd S). is_left y.result ≡ true) (sym is) left) (left_before k es) same)
  places_apart (x ∷ es) (suc i) zero e o at there left also same =
      let is : x ≡ o = cc in
      absurd (counted x (is_left x.result) (subst (λ (y : MessageEnd S). is_left y.result ≡ true) (sym is) also) (left_before i es) (sym same))
  places_apart (x ∷ es) (suc i) (suc k) e o at there left also same =
      ap suc (places_apart es i k e o at there left also (uncounted (is_left x.result) (left_before i es) (left_before k es) same))

-- lists of which the lengths are known

count_case : (m : Message) (ms : List Message) (n : ℕ) (b : Bool) → length ms ≡ n → length (if b then m ∷ ms else ms) ≡ (if b then 1 else 0) + n
count_case m ms n true same = omega arith
count_case m ms n false same = omega arith

abbrev pub Pair : {S : Type 0} → Message → MessageEnd S → Type 0
Pair m e = Unit {0}

module _ {S : Type 0} where
  pairs : (ms : List Message) (es : List (MessageEnd S)) → length es ≡ length ms → AllZip Pair ms es
  pairs [] [] same = tt
  pairs [] (e ∷ es) same = absurd (cc)
  pairs (m ∷ ms) [] same = absurd (cc)
  pairs (m ∷ ms) (e ∷ es) same = (tt, pairs ms es (omega arith))

  pub length_left : (ms : List Message) (es : List (MessageEnd S)) → length es ≡ length ms → length (left_in ms es) ≡ count_left es
  length_left [] [] same = refl
  length_left [] (e ∷ es) same = absurd (cc)
  length_left (m ∷ ms) [] same = absurd (cc)
  length_left (m ∷ ms) (e ∷ es) same = count_case m (left_in ms es) (count_left es) (is_left e.result) (length_left ms es (omega arith))

  pub of_all : (ms : List Message) (es later : List (MessageEnd S)) → AreOfRound ms es later → AllZip Pair ms es
  of_all ms es later are = pairs ms es are.each

  pub of_left : (ms : List Message) (es later : List (MessageEnd S)) → AreOfRound ms es later → AllZip Pair (left_in ms es) later
  of_left ms es later are = pairs (left_in ms es) later (are.left ∙ sym (length_left ms es are.each))

  pub length_over : (es later : List (MessageEnd S)) → length (ends_over es later) ≡ length es
  length_over [] later = refl
  length_over (e ∷ es) [] = refl
  length_over (e ∷ es) (l ∷ later) = over_case (is_left e.result) (length_over es later) (length_over es (l ∷ later))
    where
      over_case : (b : Bool) → length (ends_over es later) ≡ length es → length (ends_over es (l ∷ later)) ≡ length es
          → length (if b then l ∷ ends_over es later else e ∷ ends_over es (l ∷ later)) ≡ suc (length es)
      over_case true taken kept = ap suc taken
      over_case false taken kept = ap suc kept
