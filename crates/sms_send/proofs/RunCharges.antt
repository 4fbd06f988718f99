-- Each charged part of a run of rounds was read in one of them, in a place of its own.
use Rattle.std.proofs.Common.{◌≡◌, ◌⊎◌, inl, inr, ◌<◌, ◌∙◌, ℕ, zero, suc, Bool, true, false, List, [], ◌∷◌, length, refl, ap, sym, subst, arith}
use Rattle.std.specs.Prelude.{Option, Some, if◌then◌else◌, slice_get}
use Rattle.sms_core.specs.declared.row.Row.{Row}
use Rattle.sms_message.specs.Ends.{segment_at}
use Rattle.sms_message.specs.declared.message.Message.{Message}
use Rattle.sms_worker.specs.Types.{MessageEnd, SegmentEnd}
use Rattle.sms_driver.specs.Sendings.{Sent}
use Rattle.sms_driver.specs.declared.settings.RunSettings.{RunSettings}
use Rattle.sms_journal.proofs.Over.{length_over, places_apart, segment_over}
use Rattle.sms_journal.specs.Left.{count_left, free_in, is_left, left_before}
use Rattle.sms_journal.specs.Over.{ends_over}
use Rattle.sms_send.proofs.Charging.{were_read}
use Rattle.sms_send.proofs.RoundSums.{each_of, of_round}
use Rattle.sms_send.specs.Laws.{ChargedPart}
use Rattle.sms_send.specs.Rounds.{AreNumbered, AreRounds, Round}
use Rattle.sms_send.specs.RunLaws.{AnswerPlace, AreRead, HaveOneAnswer, IsChargedIn, IsRead, RestOnAnswers, answer_place}

-- ends at places

got : (es : List MessageEnd) (m : ℕ) (e : MessageEnd) → slice_get es m ≡ Some e → m < length es
got [] m e at = absurd (cc)
got (x ∷ es) zero e at = omega arith
got (x ∷ es) (suc m) e at = omega (arith, got es m e at)

there : (es : List MessageEnd) (m : ℕ) → m < length es → (e : MessageEnd) × (slice_get es m ≡ Some e)
there [] m low = absurd (omega arith)
there (x ∷ es) zero low = (x, refl)
there (x ∷ es) (suc m) low = there es m (omega arith)

end_at : (es : List MessageEnd) (m p : ℕ) (s : SegmentEnd) → segment_at es m p ≡ Some s → (e : MessageEnd) × (slice_get es m ≡ Some e)
end_at [] m p s at = absurd (cc)
end_at (x ∷ es) zero p s at = (x, refl)
end_at (x ∷ es) (suc m) p s at = end_at es m p s at

-- a segment after a further round is of that round, of a message that was left, or it is what it was
abbrev Split : List MessageEnd → List MessageEnd → ℕ → ℕ → SegmentEnd → Type 0
Split es later m p s =
    ((e : MessageEnd) × (slice_get es m ≡ Some e) × (is_left e.result ≡ true) × (segment_at later (left_before m es) p ≡ Some s)) ⊎ (segment_at es m p ≡ Some s)

split_case : (es later : List MessageEnd) (m p : ℕ) (s : SegmentEnd) (e : MessageEnd) (b : Bool) → slice_get es m ≡ Some e → is_left e.result ≡ b
    → (if b then segment_at later (left_before m es) p else segment_at es m p) ≡ Some s → Split es later m p s
split_case es later m p s e true at is seg = inl (e, at, is, seg)
split_case es later m p s e false at is seg = inr seg

split : (es later : List MessageEnd) (m p : ℕ) (s : SegmentEnd) → count_left es ≡ length later → segment_at (ends_over es later) m p ≡ Some s → Split es later m p s
split es later m p s count seg =
    let new = end_at (ends_over es later) m p s seg in
    let low : m < length es = subst (λ (n : ℕ). m < n) (length_over es later) (got (ends_over es later) m new.0 new.1) in
    let old = there es m low in
    split_case es later m p s old.0 (is_left old.0.result) old.1 refl (sym (segment_over es later m p old.0 old.1 count) ∙ seg)

moved : (es fs : List MessageEnd) → es ≡ fs → (x : ChargedPart es) → segment_at fs x.message x.part ≡ Some x.segment
moved es fs same x = subst (λ (l : List MessageEnd). segment_at l x.message x.part ≡ Some x.segment) same x.there

module _ (tells : ℕ → ℕ → Option (List ℕ)) (settings : RunSettings) (some_binds : 0 < settings.binds) (some_workers : 0 < settings.workers) where
  read_of : (accounts : ℕ) (credits : List ℕ) (r : Round) → Sent settings (tells r.number) accounts credits r.messages r.sending → IsRead tells settings.binds settings.workers r
  read_of accounts credits r sent =
      let all = were_read (tells r.number) settings.rules accounts settings.binds settings.workers r.messages r.sending.ends.items sent.ends sent.heard some_binds some_workers in
      record { were = all.0; apart = all.1 }

  -- the round of a charged part

  by_split : (r : Round) (before : List Round) (es ends : List MessageEnd) → ((y : ChargedPart es) → IsChargedIn before y.segment) → (x : ChargedPart ends) → Split es r.sending.ends.items x.message x.part x.segment
      → IsChargedIn (r ∷ before) x.segment
  by_split r before es ends earlier x (inl (e, at, left, seg)) =
      inl (record { message = left_before x.message es; part = x.part; segment = x.segment; there = seg; charged = x.charged }, refl)
  by_split r before es ends earlier x (inr seg) = inr (earlier (record { message = x.message; part = x.part; segment = x.segment; there = seg; charged = x.charged }))

  lower_still : (k m n : ℕ) → k < m → m < n → k < n
  lower_still k m n low less = omega arith

  -- an answer of these rounds stands in one whose number is below what theirs are below
  below : (low high : ℕ) (rounds : List Round) → AreNumbered low high rounds → (read : AreRead tells settings.binds settings.workers rounds) (s : SegmentEnd) (one : IsChargedIn rounds s)
      → (answer_place tells settings.binds settings.workers rounds read s one).round < high
  below low high [] are read s one = absurd one
  below low high (r ∷ rounds) (above, less, others) read s (inl x) = less
  below low high (r ∷ rounds) (above, less, others) read s (inr x) = lower_still _ r.number high (below low r.number rounds others read.1 s x) less

  not_below : (m n : ℕ) → m ≡ n → n < m → ⊥
  not_below m n same less = omega arith

  not_above : (m n : ℕ) → n ≡ m → n < m → ⊥
  not_above m n same less = omega arith

  apart_split : (low : ℕ) (r : Round) (before : List Round) → AreNumbered low r.number before → (es ends : List MessageEnd) (own : IsRead tells settings.binds settings.workers r) (earlier : RestOnAnswers tells settings.binds settings.workers before es) (x y : ChargedPart ends)
      (sx : Split es r.sending.ends.items x.message x.part x.segment) (sy : Split es r.sending.ends.items y.message y.part y.segment)
      → HaveOneAnswer tells settings.binds settings.workers (r ∷ before) (own, earlier.read) x.segment y.segment (by_split r before es ends earlier.of_round x sx) (by_split r before es ends earlier.of_round y sy)
      → (x.message ≡ y.message) × (x.part ≡ y.part)
  unfolding by_split
  apart_split low r before numbered es ends own earlier x y (inl (e, at, left, seg)) (inl (o, ot, also, geg)) one =
      let same = own.apart (record { message = left_before x.message es; part = x.part; segment = x.segment; there = seg; charged = x.charged })
      (record { message = left_before y.message es; part = y.part; segment = y.segment; there = geg; charged = y.charged }) (ap (λ (a : AnswerPlace). a.bind) one) (ap (λ (a : AnswerPlace). a.place) one) in
      (places_apart es x.message y.message e o at ot left also same.0, same.1)
  apart_split low r before numbered es ends own earlier x y (inl sx) (inr geg) one =
      absurd (not_below r.number _ (ap (λ (a : AnswerPlace). a.round) one) (below low r.number before numbered earlier.read y.segment (earlier.of_round (record { message = y.message; part = y.part; segment = y.segment; there = geg; charged = y.charged }))))
  apart_split low r before numbered es ends own earlier x y (inr seg) (inl sy) one =
      absurd (not_above r.number _ (ap (λ (a : AnswerPlace). a.round) one) (below low r.number before numbered earlier.read x.segment (earlier.of_round (record { message = x.message; part = x.part; segment = x.segment; there = seg; charged = x.charged }))))
  apart_split low r before numbered es ends own earlier x y (inr seg) (inr geg) one =
      earlier.apart (record { message = x.message; part = x.part; segment = x.segment; there = seg; charged = x.charged })
      (record { message = y.message; part = y.part; segment = y.segment; there = geg; charged = y.charged }) one

  first_part : (r : Round) (ends : List MessageEnd) → ends ≡ r.sending.ends.items → ChargedPart ends → ChargedPart r.sending.ends.items
  first_part r ends same x = record { message = x.message; part = x.part; segment = x.segment; there = moved ends r.sending.ends.items same x; charged = x.charged }

  pub rest : (low high : ℕ) (credits : List ℕ) (ms : List Message) (rounds : List Round) (ends : List MessageEnd) (rows : List Row) → AreNumbered low high rounds → AreRounds tells settings credits ms rounds ends rows
      → RestOnAnswers tells settings.binds settings.workers rounds ends
  unfolding first_part
  rest low high credits ms [] ends rows numbered are = absurd are
  rest low high credits ms (r ∷ []) ends rows numbered are =
      let own = read_of (length credits) credits r are.sent in
      record {
        read = (own, tt);
        of_round = λ x. inl (first_part r ends are.ends_are x, refl);
        apart = λ x y one. own.apart (first_part r ends are.ends_are x) (first_part r ends are.ends_are y) (ap (λ (a : AnswerPlace). a.bind) one) (ap (λ (a : AnswerPlace). a.place) one);
      }
  rest low high credits ms (r ∷ (q ∷ before)) ends rows (above, less, numbered) (es, ws, was, is) =
      let earlier = rest low r.number credits ms (q ∷ before) es ws numbered was in
      let own = read_of (length credits) (free_in ws) r is.sent in
      let count : count_left es ≡ length r.sending.ends.items = sym (of_round tells settings credits ms es ws r ends rows (each_of tells settings credits ms (q ∷ before) es ws was).0 is).left in
      record {
        read = (own, earlier.read);
        of_round = λ x. by_split r (q ∷ before) es ends earlier.of_round x (split es r.sending.ends.items x.message x.part x.segment count (moved ends (ends_over es r.sending.ends.items) is.ends_are x));
        apart = λ x y one. apart_split low r (q ∷ before) numbered es ends own earlier x y
            (split es r.sending.ends.items x.message x.part x.segment count (moved ends (ends_over es r.sending.ends.items) is.ends_are x))
            (split es r.sending.ends.items y.message y.part y.segment count (moved ends (ends_over es r.sending.ends.items) is.ends_are y)) one;
      }
