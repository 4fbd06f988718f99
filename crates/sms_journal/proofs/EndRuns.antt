-- What was sent is a run of the model.
use Rattle.std.proofs.Common.{◌≡◌, ◌⊎◌, ℕ, zero, suc, ◌-◌, ◌<◌, ◌≤◌, List, [], ◌∷◌, ◌++◌, map, length, get_or, slice_get, Option, Some, None, refl, sym, ap, ◌∙◌, subst, inl, inr, arith, ⊎_elim}
use Rattle.std.specs.Prelude.{string_bytes}
use Rattle.std.specs.List.{AllByRecursion, AllZip}
use Rattle.std.proofs.lemmas.List.{map-append}
use Rattle.sms_core.specs.declared.request.Phase.{Phase}
use Rattle.sms_core.specs.declared.row.Row.{Row}
use Rattle.sms_core.specs.Limits.{largest_cost}
use Rattle.sms_core.specs.Rows.{Entry, charged_of, no_row, over, part, reserved_of, returned_of, row_of}
use Rattle.sms_core.proofs.AccountSums.{over-append, over-cons}
use Rattle.sms_book.specs.Tariffs.{Begins, IsLongest, IsTariff, Price, cost_of, digits_of, price_at}
use Rattle.sms_book.proofs.TariffLaws.{cost_is_of_the_longest}
use Rattle.sms_message.specs.Ends.{credit, credits, segments_in, total_in}
use Rattle.sms_message.specs.Results.{IsResultOf}
use Rattle.sms_message.specs.declared.ends.MessageEnd.{MessageEnd}
use Rattle.sms_message.specs.declared.ends.MessageResult.{MessageResult}
use Rattle.sms_message.specs.declared.ends.MessageResult.TheVariants as result
use Rattle.sms_message.specs.declared.ends.SegmentEnd.{SegmentEnd}
use Rattle.sms_message.specs.declared.message.Message.{Message}
use Rattle.sms_message.specs.declared.rules.Rules.{Rules}
use Rattle.sms_message.specs.Admission.{IsKnown}
use Rattle.sms_journal.specs.EndLaws.{IsCoveredBy, IsEndBy, IsRowBy, IsTold, SendingsAreRuns}
use Rattle.sms_journal.specs.ScheduleLaws.{CanBeSent, CanRun}
use Rattle.sms_journal.specs.declared.audit.part.SentPart.{SentPart}
use Rattle.sms_journal.specs.Schedules.{entry_for}
use Rattle.sms_journal.specs.SentParts.{part_of, parts_of, parts_sent}
use Rattle.sms_journal.proofs.ScheduleRuns.{parts_are_a_run}
use Rattle.sms_journal.proofs.Turns.{all_append}

-- ---- what a segment costs

-- 1 to 1,000 credits
pub record IsPriced (cost : ℕ) : Type 0 where
  pub some : 1 ≤ cost
  pub few : cost ≤ largest_cost

pub cost_within : (prices : List Price) (destination : List ℕ) → IsTariff prices → IsPriced (cost_of prices destination)
cost_within prices destination tariff = ⊎_elim
    (λ (found : (place : ℕ) × IsLongest prices (digits_of destination) place × (cost_of prices destination ≡ (price_at prices place).credits)).
    let good = (tariff.good found.0 found.1.there).credits in
    rw found.2 (record { some = good.0; few = good.1 }))
    (λ (none : ((place : ℕ) → place < length prices → ¬ (Begins (digits_of destination) (price_at prices place).prefix)) × (cost_of prices destination ≡ 1)).
    rw none.1 (record { some = omega arith; few = omega arith }))
    (cost_is_of_the_longest prices destination tariff)

-- ---- of one message

module _ {S : Type 0} where
  told_all : (P : SegmentEnd S → Type 0) (ss : List (SegmentEnd S)) → ((p : ℕ) (s : SegmentEnd S) → slice_get ss p ≡ Some s → P s) → AllByRecursion P ss
  told_all P [] told = tt
  told_all P (s ∷ ss) told = (told zero s refl, told_all P ss (λ p t there. told (suc p) t there))

  segments_can : (rules : Rules) (opened : List ℕ) (m : Message) (account : ℕ) (ss : List (SegmentEnd S)) → IsTariff rules.tariff → account < length opened → AllByRecursion (IsTold rules m) ss
      → AllByRecursion (λ (s : SegmentEnd S). s.cost ≤ get_or opened account 0) ss → AllByRecursion (CanBeSent rules.policy.attempts opened) (map (λ s. part_of account s) ss)
  segments_can rules opened m account [] tariff known told covered = tt
  segments_can rules opened m account (s ∷ ss) tariff known told covered =
      let priced : IsPriced s.cost = rw told.0.cost (cost_within rules.tariff (string_bytes m.dest) tariff) in (
        record { known = known; some = priced.some; few = priced.few; covered = covered.0; allowed = told.0.settled.allowed },
        segments_can rules opened m account ss tariff known told.1 covered.1,
      )

  segments_over : (f : Phase → ℕ → ℕ) (i : ℕ) (rules : Rules) (m : Message) (account : ℕ) (ss : List (SegmentEnd S)) → AllByRecursion (IsTold rules m) ss
      → over f i (map entry_for (map (λ s. part_of account s) ss)) ≡ total_in (λ s. credit f i (Some account) s) ss
  segments_over f i rules m account [] told = refl
  segments_over f i rules m account (s ∷ ss) told =
      let one : part f i (entry_for (part_of account s)) ≡ credit f i (Some account) s
      = ap (λ (phase : Phase). part f i (record { account = account; cost = s.cost; phase = phase })) told.0.settled.outcome in
      let all = over-cons f i (entry_for (part_of account s)) (map entry_for (map (λ t. part_of account t) ss)) in
      let rest = segments_over f i rules m account ss told.1 in
      omega arith

  unpaid_over : (f : Phase → ℕ → ℕ) (i : ℕ) (ss : List (SegmentEnd S)) → total_in (λ s. credit f i None s) ss ≡ 0
  unpaid_over f i [] = refl
  unpaid_over f i (s ∷ ss) = let rest = unpaid_over f i ss in omega arith

  known_account : (rules : Rules) (accounts : ℕ) (m : Message) (account : ℕ) (r : MessageResult S) → IsResultOf rules accounts m r → m.account ≡ Some account
      → (segments_in r ≡ []) ⊎ (account < accounts)
  known_account rules accounts m account (result.Sent segments) is paid = inr (subst (IsKnown accounts) paid is.known)
  known_account rules accounts m account (result.Refused refusal) is paid = inl refl

  parts_can : (rules : Rules) (opened : List ℕ) (m : Message) (e : MessageEnd S) (o : Option ℕ) → m.account ≡ o → IsTariff rules.tariff → IsEndBy rules (length opened) m e → IsCoveredBy opened m e
      → AllByRecursion (CanBeSent rules.policy.attempts opened) (parts_of o (segments_in e.result))
  parts_can rules opened m e None is tariff end covered = tt
  parts_can rules opened m e (Some account) is tariff end covered = ⊎_elim
      (λ (none : segments_in e.result ≡ []). rw none tt)
      (λ (known : account < length opened). segments_can rules opened m account (segments_in e.result) tariff known (told_all (IsTold rules m) (segments_in e.result) end.segments) (covered account is))
      (known_account rules (length opened) m account e.result end.result is)

  parts_over : (f : Phase → ℕ → ℕ) (i : ℕ) (rules : Rules) (accounts : ℕ) (m : Message) (e : MessageEnd S) (o : Option ℕ) → IsEndBy rules accounts m e
      → over f i (map entry_for (parts_of o (segments_in e.result))) ≡ total_in (λ s. credit f i o s) (segments_in e.result)
  parts_over f i rules accounts m e None end = sym (unpaid_over f i (segments_in e.result))
  parts_over f i rules accounts m e (Some account) end = segments_over f i rules m account (segments_in e.result) (told_all (IsTold rules m) (segments_in e.result) end.segments)

  -- ---- of all messages

  all_can : (rules : Rules) (opened : List ℕ) (ms : List Message) (es : List (MessageEnd S)) → IsTariff rules.tariff → AllZip (IsEndBy rules (length opened)) ms es → AllZip (IsCoveredBy opened) ms es
      → AllByRecursion (CanBeSent rules.policy.attempts opened) (parts_sent ms es)
  all_can rules opened [] es tariff ends covered = tt
  all_can rules opened (m ∷ ms) [] tariff ends covered = tt
  all_can rules opened (m ∷ ms) (e ∷ es) tariff ends covered =
      all_append (CanBeSent rules.policy.attempts opened) (parts_of m.account (segments_in e.result)) (parts_sent ms es) (parts_can rules opened m e m.account refl tariff ends.0 covered.0) (all_can rules opened ms es tariff ends.1 covered.1)

  all_over : (f : Phase → ℕ → ℕ) (i : ℕ) (rules : Rules) (accounts : ℕ) (ms : List Message) (es : List (MessageEnd S)) → AllZip (IsEndBy rules accounts) ms es → over f i (map entry_for (parts_sent ms es)) ≡ credits f i ms es
  all_over f i rules accounts [] es ends = refl
  all_over f i rules accounts (m ∷ ms) [] ends = refl
  all_over f i rules accounts (m ∷ ms) (e ∷ es) ends =
      let here : List SentPart = parts_of m.account (segments_in e.result) in
      let one = parts_over f i rules accounts m e m.account ends.0 in
      let rest = all_over f i rules accounts ms es ends.1 in
      let list : map entry_for (here ++ parts_sent ms es) ≡ map entry_for here ++ map entry_for (parts_sent ms es) = map-append entry_for here (parts_sent ms es) in
      let sum = ap (over f i) list ∙ over-append f i (map entry_for here) (map entry_for (parts_sent ms es)) in
      omega arith

  -- the row of the entries is that of the statement
  row_by : (topped i : ℕ) (ms : List Message) (es : List (MessageEnd S)) (entries : List Entry) (r : Row) → IsRowBy topped i ms es r
      → over reserved_of i entries ≡ credits reserved_of i ms es → over charged_of i entries ≡ credits charged_of i ms es → over returned_of i entries ≡ credits returned_of i ms es → row_of topped i entries ≡ r
  row_by topped i ms es entries r is a b c =
      let free : topped - over reserved_of i entries - over charged_of i entries ≡ r.free
      = (let t = is.topped_is in let u = is.reserved in let v = is.charged in let w = is.balanced in omega arith) in
      λ j. record { topped = sym is.topped_is j; free = free j; reserved = (a ∙ sym is.reserved) j; charged = (b ∙ sym is.charged) j; returned = (c ∙ sym is.returned) j }

  pub sendings_are_runs : SendingsAreRuns S
  sendings_are_runs rules opened ms es rs sending =
      let reserved : (i : ℕ) → over reserved_of i (map entry_for (parts_sent ms es)) ≡ credits reserved_of i ms es = λ i. all_over reserved_of i rules (length opened) ms es sending.ends in
      let charged : (i : ℕ) → over charged_of i (map entry_for (parts_sent ms es)) ≡ credits charged_of i ms es = λ i. all_over charged_of i rules (length opened) ms es sending.ends in
      let returned : (i : ℕ) → over returned_of i (map entry_for (parts_sent ms es)) ≡ credits returned_of i ms es = λ i. all_over returned_of i rules (length opened) ms es sending.ends in
      let can : CanRun rules.policy.attempts opened (parts_sent ms es) = record {
        limits = sending.limits;
        topped = sending.topped;
        each = all_can rules opened ms es sending.tariff sending.ends sending.covered;
        used = λ i inside.
            let row = sending.rows_are i inside in
            let t = row.topped_is in let u = row.reserved in let v = row.charged in let w = row.balanced in let a = reserved i in let b = charged i in
            omega arith;
        numbers = sending.numbers;
      } in
      let run = parts_are_a_run rules.policy.attempts opened (parts_sent ms es) can in
      record {
        run = run;
        statement = λ i inside. run.rows_are i inside ∙ ap Some (row_by (get_or opened i 0) i ms es (map entry_for (parts_sent ms es)) (get_or rs i no_row) (sending.rows_are i inside) (reserved i) (charged i) (returned i));
      }
