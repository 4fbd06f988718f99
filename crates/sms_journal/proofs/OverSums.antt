-- What the segments of messages add to an account, over rounds.
use Rattle.std.proofs.Common.{◌≡◌, ℕ, ◌+◌, Bool, true, false, List, [], ◌∷◌, refl, ap, sym, ◌∙◌, arith, true≢false}
use Rattle.std.specs.Prelude.{if◌then◌else◌}
use Rattle.std.specs.List.{AllZip}
use Rattle.sms_core.specs.declared.request.Phase.{Phase}
use Rattle.sms_message.specs.Ends.{credit, credits, segments_in, total_in}
use Rattle.sms_message.specs.declared.ends.MessageEnd.{MessageEnd}
use Rattle.sms_message.specs.declared.ends.MessageResult.{MessageResult}
use Rattle.sms_message.specs.declared.ends.MessageResult.TheVariants as result
use Rattle.sms_message.specs.declared.message.Message.{Message}
use Rattle.sms_journal.specs.Left.{SaysSame, is_left, left_in}
use Rattle.sms_journal.specs.Over.{ends_over}

module _ {S : Type 0} (f : Phase → ℕ → ℕ) (i : ℕ) where
  abbrev own : Message → MessageEnd S → ℕ
  own m e = total_in (credit f i m.account) (segments_in e.result)

  no_ends : (ms : List Message) (es : List (MessageEnd S)) → es ≡ [] → credits f i ms es ≡ 0
  no_ends [] es none = refl
  no_ends (m ∷ ms) [] none = refl
  no_ends (m ∷ ms) (e ∷ es) none = absurd (cc)

  left_has_none : (m : Message) (r : MessageResult S) → is_left r ≡ true → total_in (credit f i m.account) (segments_in r) ≡ 0
  left_has_none m (result.Sent segments) is = absurd (true≢false (sym is))
  left_has_none m (result.Refused refusal) is = refl

  add_case : (m : Message) (ms : List Message) (e l : MessageEnd S) (es later : List (MessageEnd S)) (b : Bool) → is_left e.result ≡ b
      → (b ≡ true → credits f i ms (ends_over es later) ≡ credits f i ms es + credits f i (left_in ms es) later)
      → (b ≡ false → credits f i ms (ends_over es (l ∷ later)) ≡ credits f i ms es + credits f i (left_in ms es) (l ∷ later))
      → credits f i (m ∷ ms) (if b then l ∷ ends_over es later else e ∷ ends_over es (l ∷ later))
      ≡ (own m e + credits f i ms es) + credits f i (if b then m ∷ left_in ms es else left_in ms es) (l ∷ later)
  add_case m ms e l es later true is taken kept =
      let none : own m e ≡ 0 = left_has_none m e.result is in
      let t : credits f i ms (ends_over es later) ≡ credits f i ms es + credits f i (left_in ms es) later = taken refl in
      sums (own m l) (own m e) (credits f i ms (ends_over es later)) (credits f i ms es) (credits f i (left_in ms es) later) none t
    where
      sums : (a b x y z : ℕ) → b ≡ 0 → x ≡ y + z → a + x ≡ (b + y) + (a + z)
      sums a b x y z none t = omega arith
  add_case m ms e l es later false is taken kept =
      let t : credits f i ms (ends_over es (l ∷ later)) ≡ credits f i ms es + credits f i (left_in ms es) (l ∷ later) = kept refl in
      sums (own m e) (credits f i ms (ends_over es (l ∷ later))) (credits f i ms es) (credits f i (left_in ms es) (l ∷ later)) t
    where
      sums : (a x y z : ℕ) → x ≡ y + z → a + x ≡ (a + y) + z
      sums a x y z t = omega arith

  tail_of : (R : Message → MessageEnd S → Type 0) (m : Message) (l : MessageEnd S) (ms : List Message) (later : List (MessageEnd S)) (b : Bool)
      → AllZip R (if b then m ∷ ms else ms) (l ∷ later) → b ≡ true → AllZip R ms later
  tail_of R m l ms later true h is = h.1
  tail_of R m l ms later false h is = absurd (true≢false (sym is))

  all_of : (R : Message → MessageEnd S → Type 0) (m : Message) (l : MessageEnd S) (ms : List Message) (later : List (MessageEnd S)) (b : Bool)
      → AllZip R (if b then m ∷ ms else ms) (l ∷ later) → b ≡ false → AllZip R ms (l ∷ later)
  all_of R m l ms later true h is = absurd (true≢false is)
  all_of R m l ms later false h is = h

  pub sums_add : (R : Message → MessageEnd S → Type 0) (ms : List Message) (es later : List (MessageEnd S)) → AllZip R ms es → AllZip R (left_in ms es) later
      → credits f i ms (ends_over es later) ≡ credits f i ms es + credits f i (left_in ms es) later
  sums_add R [] es later all left = refl
  sums_add R (m ∷ ms) [] later all left = absurd all
  sums_add R (m ∷ ms) (e ∷ es) [] all left =
      nothing_added (credits f i (m ∷ ms) (e ∷ es)) (credits f i (left_in (m ∷ ms) (e ∷ es)) []) (no_ends (left_in (m ∷ ms) (e ∷ es)) [] refl)
    where
      nothing_added : (a b : ℕ) → b ≡ 0 → a ≡ a + b
      nothing_added a b none = omega arith
  sums_add R (m ∷ ms) (e ∷ es) (l ∷ later) all left =
      add_case m ms e l es later (is_left e.result) refl
      (λ is. sums_add R ms es later all.1 (tail_of R m l (left_in ms es) later (is_left e.result) left is))
      (λ is. sums_add R ms es (l ∷ later) all.1 (all_of R m l (left_in ms es) later (is_left e.result) left is))

  pub copies_agree : (ms copies : List Message) (es : List (MessageEnd S)) → AllZip SaysSame ms copies → credits f i copies es ≡ credits f i ms es
  copies_agree [] [] es same = refl
  copies_agree [] (c ∷ copies) es same = absurd same
  copies_agree (m ∷ ms) [] es same = absurd same
  copies_agree (m ∷ ms) (c ∷ copies) [] same = refl
  copies_agree (m ∷ ms) (c ∷ copies) (e ∷ es) same =
      ap (λ account. total_in (credit f i account) (segments_in e.result) + credits f i copies es) same.0.account
      ∙ ap (λ n. own m e + n) (copies_agree ms copies es same.1)
