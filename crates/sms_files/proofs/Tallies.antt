-- What has become of one segment more, and of one message more.
use Rattle.std.proofs.Common.{◌≡◌, ℕ, ◌+◌, ◌||◌, ◌<◌, Bool, true, false, List, length, take, get_or, ap, ◌∙◌, sym, refl, arith}
use Rattle.std.specs.List.{list_any}
use Rattle.std.proofs.lemmas.List.Folds.{list_any_more}
use Rattle.sms_message.specs.declared.ends.MessageEnd.{MessageEnd}
use Rattle.sms_message.specs.declared.ends.SegmentEnd.{SegmentEnd}
use Rattle.sms_files.specs.declared.report.tally.Standing.{Standing}
use Rattle.sms_files.specs.declared.report.tally.Standing.TheVariants.{Waiting, Charged, Refused, Unanswered}
use Rattle.sms_files.specs.declared.report.tally.Tally.{Tally}
use Rattle.sms_files.specs.Summary.{capped}
use Rattle.sms_files.specs.Tally.{counted, is_charged, is_refused, is_unanswered, is_waiting, standing_where, segment_standing, segments_standing, message_standing, one_if, count_of}
use Rattle.sms_files.proofs.Capped.{capped_more}

abbrev joined : Standing → Standing → Standing
joined one other = standing_where (is_waiting one || is_waiting other) (is_unanswered one || is_unanswered other) (is_refused one || is_refused other)

joined_is : (waiting unanswered refused : Bool) (s : Standing) → joined (standing_where waiting unanswered refused) s ≡ standing_where (waiting || is_waiting s) (unanswered || is_unanswered s) (refused || is_refused s)
joined_is true unanswered refused s = refl
joined_is false true refused Waiting = refl
joined_is false true refused Charged = refl
joined_is false true refused Refused = refl
joined_is false true refused Unanswered = refl
joined_is false false true Waiting = refl
joined_is false false true Charged = refl
joined_is false false true Refused = refl
joined_is false false true Unanswered = refl
joined_is false false false Waiting = refl
joined_is false false false Charged = refl
joined_is false false false Refused = refl
joined_is false false false Unanswered = refl

any_more : {S : Type 0} → (test : Standing → Bool) (segments : List (SegmentEnd S)) (i : ℕ) (d : SegmentEnd S) → i < length segments
    → list_any (λ s. test (segment_standing s)) (take (i + 1) segments) ≡ (list_any (λ s. test (segment_standing s)) (take i segments) || test (segment_standing (get_or segments i d)))
any_more test segments i d low = list_any_more (λ s. test (segment_standing s)) segments i d low

-- what the segments come to with one more
pub segments_more : {S : Type 0} → (segments : List (SegmentEnd S)) (i : ℕ) (x d : SegmentEnd S) (old one new : Standing) → i < length segments → x ≡ get_or segments i d
    → old ≡ segments_standing (take i segments) → one ≡ segment_standing x → new ≡ joined old one → new ≡ segments_standing (take (i + 1) segments)
segments_more segments i x d old one new low is before stands joins =
    let front = take i segments in
    let last = segment_standing (get_or segments i d) in
    let waiting = any_more is_waiting segments i d low in
    let unanswered = any_more is_unanswered segments i d low in
    let refused = any_more is_refused segments i d low in
    joins ∙ ap (λ (s : Standing). joined s one) before ∙ ap (joined (segments_standing front)) (stands ∙ ap segment_standing is)
    ∙ joined_is (list_any (λ s. is_waiting (segment_standing s)) front) (list_any (λ s. is_unanswered (segment_standing s)) front) (list_any (λ s. is_refused (segment_standing s)) front) last
    ∙ sym (λ j. standing_where (waiting j) (unanswered j) (refused j))

-- the tally counts these messages
pub record Counts {S : Type 0} (tally : Tally) (ends : List (MessageEnd S)) : Type 0 where
  pub charged : tally.charged ≡ capped (count_of is_charged ends)
  pub refused : tally.refused ≡ capped (count_of is_refused ends)
  pub unanswered : tally.unanswered ≡ capped (count_of is_unanswered ends)

stays : (x c : ℕ) → x ≡ capped c → x ≡ capped (x + 0)
stays x c h = omega (arith, h)

charged_after : (s : Standing) (old : Tally) (c : ℕ) → old.charged ≡ capped c → (counted s old).charged ≡ capped (old.charged + one_if (is_charged s))
charged_after Waiting old c h = stays old.charged c h
charged_after Charged old c h = refl
charged_after Refused old c h = stays old.charged c h
charged_after Unanswered old c h = stays old.charged c h

refused_after : (s : Standing) (old : Tally) (c : ℕ) → old.refused ≡ capped c → (counted s old).refused ≡ capped (old.refused + one_if (is_refused s))
refused_after Waiting old c h = stays old.refused c h
refused_after Charged old c h = stays old.refused c h
refused_after Refused old c h = refl
refused_after Unanswered old c h = stays old.refused c h

unanswered_after : (s : Standing) (old : Tally) (c : ℕ) → old.unanswered ≡ capped c → (counted s old).unanswered ≡ capped (old.unanswered + one_if (is_unanswered s))
unanswered_after Waiting old c h = stays old.unanswered c h
unanswered_after Charged old c h = stays old.unanswered c h
unanswered_after Refused old c h = stays old.unanswered c h
unanswered_after Unanswered old c h = refl

-- the tally with one message more
pub counts_more : {S : Type 0} → (ends : List (MessageEnd S)) (i : ℕ) (x d : MessageEnd S) (old new : Tally) (s : Standing) → i < length ends → x ≡ get_or ends i d
    → Counts old (take i ends) → s ≡ message_standing x → new ≡ counted s old → Counts new (take (i + 1) ends)
counts_more ends i x d old new s low is before stands adds =
    record {
      charged = capped_more (λ end. one_if (is_charged (message_standing end))) ends i x d old.charged (one_if (is_charged s)) new.charged low is before.charged (ap (λ (t : Standing). one_if (is_charged t)) stands) (ap (λ (t : Tally). t.charged) adds ∙ charged_after s old _ before.charged);
      refused = capped_more (λ end. one_if (is_refused (message_standing end))) ends i x d old.refused (one_if (is_refused s)) new.refused low is before.refused (ap (λ (t : Standing). one_if (is_refused t)) stands) (ap (λ (t : Tally). t.refused) adds ∙ refused_after s old _ before.refused);
      unanswered = capped_more (λ end. one_if (is_unanswered (message_standing end))) ends i x d old.unanswered (one_if (is_unanswered s)) new.unanswered low is before.unanswered (ap (λ (t : Standing). one_if (is_unanswered t)) stands) (ap (λ (t : Tally). t.unanswered) adds ∙ unanswered_after s old _ before.unanswered);
    }
