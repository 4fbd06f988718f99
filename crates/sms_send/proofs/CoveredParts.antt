-- No part of what was sent cost more than its account was opened with.
use Rattle.std.proofs.Common.{◌≡◌, ℕ, zero, suc, ◌*◌, ◌<◌, ◌≤◌, ◌∙◌, List, [], ◌∷◌, Some, length, refl, sym, subst, arith}
use Rattle.std.specs.Prelude.{slice_get, string_bytes}
use Rattle.std.specs.List.{AllByRecursion, AllZip}
use Rattle.std.proofs.Math.Nat.{mul-le-mul_right}
use Rattle.sms_core.specs.Limits.{most_topped}
use Rattle.sms_core.specs.declared.row.Row.{Row}
use Rattle.sms_book.specs.Portions.{row_at, topped_at}
use Rattle.sms_book.specs.Tariffs.{cost_of}
use Rattle.sms_message.specs.Ends.{segments_in}
use Rattle.sms_message.specs.Results.{IsResultOf}
use Rattle.sms_message.specs.Submits.{message_parts}
use Rattle.sms_message.specs.declared.ends.MessageResult.TheVariants.{Refused, Sent}
use Rattle.sms_message.specs.declared.message.Message.{Message}
use Rattle.sms_message.specs.declared.rules.Rules.{Rules}
use Rattle.sms_worker.specs.Credit.{IsCovered, price_of}
use Rattle.sms_worker.specs.EndOf.{IsEndOf}
use Rattle.sms_worker.specs.Types.{MessageEnd, MessageResult, SegmentEnd}
use Rattle.sms_driver.specs.declared.settings.RunSettings.{RunSettings}
use Rattle.sms_files.specs.Inputs.{Told}
use Rattle.sms_journal.specs.EndLaws.{IsCoveredBy}
use Rattle.sms_journal.specs.Left.{SaysSame, free_in, left_in}
use Rattle.sms_journal.proofs.Over.{holds_after}
use Rattle.sms_send.specs.Rounds.{AreRounds, AreSmall, Round}
use Rattle.sms_send.proofs.RoundSums.{runs_add_up}

-- one of some parts costs at most what all of them do
at_most : (n cost top : ℕ) → 1 ≤ n → n * cost ≤ top → cost ≤ top
at_most n cost top some fits = let one : 1 * cost ≤ n * cost = mul-le-mul_right cost some in omega arith

each_within : (cost top : ℕ) (segments : List SegmentEnd) → ((p : ℕ) (s : SegmentEnd) → slice_get segments p ≡ Some s → s.cost ≡ cost) → (1 ≤ length segments → cost ≤ top) → AllByRecursion (λ s. s.cost ≤ top) segments
each_within cost top [] costs fits = tt
each_within cost top (s ∷ segments) costs fits = (
  let is = costs 0 s refl in
      let low = fits (omega arith) in
      omega arith,
  each_within cost top segments (λ p. costs (suc p)) (λ some. fits (omega arith)),
)

-- so do those of a message that was begun only where its account covers all
parts_within : (rules : Rules) (accounts top : ℕ) (m : Message) (r : MessageResult) → IsResultOf rules accounts m r → ((p : ℕ) (s : SegmentEnd) → slice_get (segments_in r) p ≡ Some s → s.cost ≡ cost_of rules.tariff (string_bytes m.dest))
    → ((segments : List SegmentEnd) → r ≡ Sent segments → price_of rules m ≤ top) → AllByRecursion (λ s. s.cost ≤ top) (segments_in r)
parts_within rules accounts top m (Sent segments) is costs fits =
    let cost = cost_of rules.tariff (string_bytes m.dest) in
    each_within cost top segments costs (λ some. at_most (length (message_parts rules m)) cost top (subst (λ n. 1 ≤ n) is.parts some) (fits segments refl))
parts_within rules accounts top m (Refused refusal) is costs fits = tt

-- of messages that say the same, from accounts that have no more credits
pub all_covered : (rules : Rules) (accounts : ℕ) (opened given : List ℕ) → ((i : ℕ) → topped_at given i ≤ topped_at opened i) → (ms copies : List Message) (es : List MessageEnd) → AllZip SaysSame ms copies
    → AllZip (IsEndOf rules accounts) copies es → AllZip (IsCovered given rules) copies es → AllZip (IsCoveredBy opened) ms es
all_covered rules accounts opened given less [] [] [] same ends covered = tt
all_covered rules accounts opened given less [] [] (e ∷ es) same ends covered = absurd ends
all_covered rules accounts opened given less [] (n ∷ copies) es same ends covered = absurd same
all_covered rules accounts opened given less (m ∷ ms) [] es same ends covered = absurd same
all_covered rules accounts opened given less (m ∷ ms) (n ∷ copies) [] same ends covered = absurd ends
all_covered rules accounts opened given less (m ∷ ms) (n ∷ copies) (e ∷ es) same ends covered = (
  λ account is.
      parts_within rules accounts (topped_at opened account) n e.result ends.0.result (λ p s there. (let one = ends.0.segments p s there in one.cost))
      (λ segments sent. let low = covered.0 segments account sent (same.0.account ∙ is) in let more = less account in omega arith),
  all_covered rules accounts opened given less ms copies es same.1 ends.1 covered.1,
)

-- what is free of an account is at most what it was opened with
free_within : (ws : List Row) (most : ℕ → ℕ) → ((i : ℕ) → i < length ws → (row_at ws i).free ≤ most i) → (i : ℕ) → topped_at (free_in ws) i ≤ most i
free_within [] most each i = omega arith
free_within (w ∷ ws) most each zero = each 0 (omega arith)
free_within (w ∷ ws) most each (suc i) = free_within ws (λ j. most (suc j)) (λ j low. each (suc j) (omega arith)) i

-- credits within the model's bound are numbers of 64 bits
pub small_credits : (credits : List ℕ) → AllByRecursion (λ n. n ≤ most_topped) credits → AreSmall credits
small_credits [] all i low = absurd (omega arith)
small_credits (c ∷ credits) all zero low = let most = all.0 in omega arith
small_credits (c ∷ credits) all (suc i) low = small_credits credits all.1 i (omega arith)

-- so it is over rounds
module _ (tells : ℕ → ℕ → Told) (settings : RunSettings) where
  pub covered_over_rounds : (opened : List ℕ) (ms : List Message) (rounds : List Round) (ends : List MessageEnd) (rows : List Row) → AreSmall opened → AreRounds tells settings opened ms rounds ends rows → AllZip (IsCoveredBy opened) ms ends
  covered_over_rounds opened ms [] ends rows small are = absurd are
  covered_over_rounds opened ms (r ∷ []) ends rows small are =
      subst (λ (l : List MessageEnd). AllZip (IsCoveredBy opened) ms l) (sym are.ends_are)
      (all_covered settings.rules (length opened) opened opened (λ i. omega arith) ms r.messages r.sending.ends.items are.same are.sent.ends are.sent.covered)
  covered_over_rounds opened ms (r ∷ (q ∷ before)) ends rows small (es, ws, was, is) =
      let sums = (runs_add_up tells settings opened ms (q ∷ before) es ws small was).1 in
      let less = free_within ws (topped_at opened) (λ i low.
      let long = sums.each in
      let row = sums.sums i (omega arith) in
      let topped = row.topped_is in
      let balanced = row.balanced in
      omega arith)
      in
      subst (λ (l : List MessageEnd). AllZip (IsCoveredBy opened) ms l) (sym is.ends_are)
      (holds_after (IsCoveredBy opened) ms es r.sending.ends.items (covered_over_rounds opened ms (q ∷ before) es ws small was)
      (all_covered settings.rules (length opened) opened (free_in ws) less (left_in ms es) r.messages r.sending.ends.items is.same is.sent.ends is.sent.covered))
