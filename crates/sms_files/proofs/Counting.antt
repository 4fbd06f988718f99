-- How many messages tallies count.
use Rattle.std.proofs.Common.{◌≡◌, ℕ, Bool, ◌+◌, ◌-◌, ◌≤◌, List, [], ◌∷◌, length, arith}
use Rattle.std.proofs.lemmas.List.Sums.{sum_by-cons}
use Rattle.sms_message.specs.declared.ends.MessageEnd.{MessageEnd}
use Rattle.sms_files.specs.declared.report.tally.Standing.{Standing}
use Rattle.sms_files.specs.declared.report.tally.Standing.TheVariants.{Waiting, Charged, Refused, Unanswered}
use Rattle.sms_files.specs.Laws.{EachIsCountedOnce, TogetherCountNoMore}
use Rattle.sms_files.specs.Summary.{capped}
use Rattle.sms_files.specs.Tally.{count_of, is_charged, is_refused, is_unanswered, message_standing, one_if}

-- a message is counted once at most
counts_one : (s : Standing) → one_if (is_charged s) + one_if (is_refused s) + one_if (is_unanswered s) ≤ 1
counts_one Waiting = omega arith
counts_one Charged = omega arith
counts_one Refused = omega arith
counts_one Unanswered = omega arith

more : {S : Type 0} → (test : Standing → Bool) (end : MessageEnd S) (ends : List (MessageEnd S)) → count_of test (end ∷ ends) ≡ one_if (test (message_standing end)) + count_of test ends
more test end ends = sum_by-cons (λ e. one_if (test (message_standing e))) end ends

counts : {S : Type 0} → (ends : List (MessageEnd S)) → count_of is_charged ends + count_of is_refused ends + count_of is_unanswered ends ≤ length ends
counts [] = omega arith
counts (end ∷ ends) = omega (arith, counts ends, counts_one (message_standing end), more is_charged end ends, more is_refused end ends, more is_unanswered end ends)

capped_le : (a b c w n : ℕ) → a + b + c ≤ n → capped a + capped b + (capped c - w) ≤ n
capped_le a b c w n h = omega arith

pub counted_once : EachIsCountedOnce
counted_once ends waiting = capped_le (count_of is_charged ends) (count_of is_refused ends) (count_of is_unanswered ends) waiting (length ends) (counts ends)

pub no_more_together : TogetherCountNoMore
no_more_together one other = omega arith
