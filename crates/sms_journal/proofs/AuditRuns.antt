-- What audit prints is a run of the model.
use Rattle.std.proofs.Common.{◌≡◌, ℕ, suc, ◌+◌, ◌≤◌, Bool, true, false, List, [], ◌∷◌, ◌++◌, length, Option, Some, None, refl, sym, ap, ◌∙◌, subst, arith, length-append, sum_by}
use Rattle.std.specs.Prelude.{◌&&◌, nat_le, if◌then◌else◌, string_bytes}
use Rattle.std.specs.List.{AllByRecursion, AllZip}
use Rattle.std.proofs.lemmas.Bool.{and_parts, leb-true}
use Rattle.std.proofs.lemmas.List.Sums.{sum_by-cons}
use Rattle.std.proofs.lemmas.Option.{cond_some, option_and_then_some}
use Rattle.sms_book.specs.Openings.{credits_of}
use Rattle.sms_book.specs.Tariffs.{IsTariff, Price}
use Rattle.sms_book.specs.declared.opening.Opening.{Opening}
use Rattle.sms_core.specs.Decimal.{decimal_in, is_numeral}
use Rattle.std.specs.Str.Parse.{digits_value}
use Rattle.sms_core.specs.Limits.{most_accounts, most_topped}
use Rattle.sms_core.specs.Replies.{Reply}
use Rattle.sms_core.specs.declared.event.Event.{Event}
use Rattle.sms_core.specs.declared.event.Event.TheVariants.{Claim, Release}
use Rattle.sms_files.specs.Accounts.{AreAccounts, SaysAccount, accounts_header_flaw, name_in, new_account_flaw, rest_fault, some_fault}
use Rattle.sms_files.specs.Fields.{Field, Record, records_of}
use Rattle.sms_files.specs.Inputs.{IsTariffOf}
use Rattle.sms_files.specs.Records.{Trouble, trouble_by}
use Rattle.sms_files.specs.declared.flaw.Flaw.{Flaw}
use Rattle.sms_files.specs.declared.flaw.Flaw.TheVariants.{OneTooMany}
use Rattle.csv.specs.Records.{field_at}
use Rattle.sms_message.specs.declared.message.Message.{Message}
use Rattle.sms_journal.specs.AuditLaws.{AuditsAreRuns}
use Rattle.sms_journal.specs.Files.{octets_read}
use Rattle.sms_journal.specs.Plans.{IsPlan}
use Rattle.sms_journal.specs.ReportLaws.{IsPlanned}
use Rattle.sms_journal.specs.ReportParts.{report_parts}
use Rattle.sms_journal.specs.ScheduleLaws.{attempts_in}
use Rattle.sms_journal.specs.Schedules.{NamedPart, answer_events, attempt_events, give_up_events, in_turn, is_given_up, part_events, parts_events, schedule_of, top_ups}
use Rattle.sms_journal.specs.declared.audit.part.SentPart.{SentPart}
use Rattle.sms_journal.specs.declared.rest.plan.Plan.{Plan}
use Rattle.sms_journal.proofs.EndRuns.{IsPriced, cost_within}
use Rattle.sms_journal.proofs.ReportRuns.{reports_are_runs}
use Rattle.sms_journal.proofs.SeveralRuns.{length_in}
use Rattle.sms_journal.proofs.Turns.{part_sum, turn_sum}

nothing : {A P : Type 0} (a : A) → None ≡ Some a → P
nothing a e = absurd (cc)

-- ---- the accounts

no_trouble : (before : ℕ) (flaw : Option Flaw) (later : Option Trouble) → trouble_by before flaw later ≡ None → later ≡ None
no_trouble before None later e = e
no_trouble before (Some flaw) later e = nothing (before + 1, flaw) (sym e)

counted : (names : List Field) (before : ℕ) (rs : List Record) → before ≤ suc most_accounts → rest_fault names before rs ≡ None → before + length rs ≤ suc most_accounts
counted names before [] few e = omega arith
counted names before (r ∷ rs) few e = by (nat_le before most_accounts) refl e (λ more none. counted (names ++ name_in r ∷ []) (before + 1) rs more none)
  where
    by : (b : Bool) → nat_le before most_accounts ≡ b
        → (if b then trouble_by before (new_account_flaw names r) (rest_fault (names ++ name_in r ∷ []) (before + 1) rs) else Some (before + 1, OneTooMany)) ≡ None
        → (before + 1 ≤ suc most_accounts → rest_fault (names ++ name_in r ∷ []) (before + 1) rs ≡ None → before + 1 + length rs ≤ suc most_accounts) → before + length (r ∷ rs) ≤ suc most_accounts
    by false is none on = nothing (before + 1, OneTooMany) (sym none)
    by true is none on =
        let low = leb-true before most_accounts is in
        let rest = on (omega arith) (no_trouble before (new_account_flaw names r) (rest_fault (names ++ name_in r ∷ []) (before + 1) rs) none) in
        omega arith

some_counted : (rs : List Record) → some_fault rs ≡ None → (1 ≤ length rs) × (length rs ≤ most_accounts)
some_counted [] e = absurd (cc)
some_counted (r ∷ rs) e = let all = counted [] 1 (r ∷ rs) (omega arith) e in (omega arith, omega arith)

as_many : (rs : List Record) (os : List Opening) → AllZip SaysAccount rs os → length rs ≡ length os
as_many [] [] z = refl
as_many [] (o ∷ os) z = absurd z
as_many (r ∷ rs) [] z = absurd z
as_many (r ∷ rs) (o ∷ os) z = ap suc (as_many rs os z.1)

decimal_within : (most n : ℕ) (text : List ℕ) → decimal_in most text ≡ Some n → n ≤ most
decimal_within most n text e =
    let both = cond_some (is_numeral text && nat_le (digits_value 10 text) most) (digits_value 10 text) n e in
    let low = leb-true (digits_value 10 text) most (and_parts (is_numeral text) (nat_le (digits_value 10 text) most) both.0).1 in
    subst (λ (k : ℕ). k ≤ most) both.1 low

credits_within : (rs : List Record) (os : List Opening) → AllZip SaysAccount rs os → AllByRecursion (λ n. n ≤ most_topped) (credits_of os)
credits_within [] [] z = tt
credits_within [] (o ∷ os) z = absurd z
credits_within (r ∷ rs) [] z = absurd z
credits_within (r ∷ rs) (o ∷ os) z = (option_and_then_some (decimal_in most_topped) (field_at r 1) o.credits z.0.1 (λ field at is. decimal_within most_topped o.credits field is), credits_within rs os z.1)

record AreBookable (os : List Opening) : Type 0 where
  some : 1 ≤ length os
  few : length os ≤ most_accounts
  credits : AllByRecursion (λ n. n ≤ most_topped) (credits_of os)

bookable : (rs : List Record) (os : List Opening) → AreAccounts rs os → AreBookable os
bookable [] os are = absurd are
bookable (header ∷ rs) os are =
    let count = some_counted rs (no_trouble 0 (accounts_header_flaw header) (some_fault rs) are.0) in
    let same = as_many rs os are.1 in
    let low = count.0 in
    let high = count.1 in
    record { some = omega arith; few = omega arith; credits = credits_within rs os are.1 }

-- ---- the tariff, and the plans

no_rates : IsTariff []
no_rates = record { few = omega arith; good = λ place low. absurd (omega arith) }

tariff_of : (tariff : Option (List ℕ)) (prices : List Price) → IsTariffOf (octets_read tariff) prices → IsTariff prices
tariff_of None prices is = subst IsTariff (sym is) no_rates
tariff_of (Some octets) prices is = is.3

planned_all : (long : Bool) (prices : List Price) (accounts : ℕ) (ms : List Message) (plans : List Plan) → IsTariff prices → AllZip (IsPlan long prices accounts) ms plans → AllByRecursion IsPlanned plans
planned_all long prices accounts [] [] tariff z = tt
planned_all long prices accounts [] (p ∷ ps) tariff z = absurd z
planned_all long prices accounts (m ∷ ms) [] tariff z = absurd z
planned_all long prices accounts (m ∷ ms) (p ∷ ps) tariff z =
    let priced : IsPriced p.cost = subst IsPriced (sym z.0.cost) (cost_within prices (string_bytes m.dest) tariff) in
    (record { some = priced.some; few = priced.few }, planned_all long prices accounts ms ps tariff z.1)

-- ---- an event for each attempt

attempts_long : (name number : ℕ) (attempts : List (Option Reply)) → length attempts ≤ length (attempt_events name number attempts)
attempts_long name number [] = omega arith
attempts_long name number (attempt ∷ later) =
    let rest = attempts_long name (number + 1) later in
    let sum = length-append (answer_events number attempt) (attempt_events name (number + 1) later) in
    omega arith

parts_long : (most number : ℕ) (ns : List NamedPart) → sum_by length_in ns ≤ length (parts_events most number ns)
parts_long most number [] = omega arith
parts_long most number (n ∷ ns) =
    let one = attempts_long n.name number n.part.attempts in
    let part = length-append (attempt_events n.name number n.part.attempts) (give_up_events n.name (is_given_up most n.part.attempts)) in
    let rest = parts_long most (number + length n.part.attempts) ns in
    let all = length-append (part_events most number n) (parts_events most (number + length n.part.attempts) ns) in
    let sum = sum_by-cons length_in n ns in
    omega arith

schedule_long : (most : ℕ) (credits : List ℕ) (parts : List SentPart) → attempts_in parts ≤ length (schedule_of most credits parts)
schedule_long most credits parts =
    let turns : sum_by length_in (in_turn parts) ≡ attempts_in parts = turn_sum length_in parts ∙ part_sum (λ (p : SentPart). length p.attempts) 0 parts in
    let events = parts_long most 1 (in_turn parts) in
    let tail : List Event = parts_events most 1 (in_turn parts) ++ (Release 0 0 ∷ []) in
    let a = length-append (parts_events most 1 (in_turn parts)) (Release 0 0 ∷ []) in
    let b = length-append (top_ups 0 credits) (Claim 0 0 ∷ tail) in
    omega arith

pub audits_are_runs : AuditsAreRuns
audits_are_runs config accounts messages tariff input report text read audited low high =
    let book = bookable (records_of accounts) input.openings.items read.openings in
    let long = schedule_long input.config.retry.policy.attempts (credits_of input.openings.items) (report_parts audited.plans (records_of report)) in
    let few = audited.few in
    let c = book.some in
    let d = book.few in
    reports_are_runs input.config.retry.policy.attempts audited.plans input.openings.items (records_of report) (record {
      limits = record { an_account = c; few_accounts = d; a_slot = omega arith; few_slots = omega arith; an_attempt = low; few_attempts = high };
      topped = book.credits;
      planned = planned_all input.config.flags.long_reference input.tariff (length input.openings.items) input.messages.items audited.plans (tariff_of tariff input.tariff read.tariff_is) audited.reported.are;
      read = audited.reported.read;
      covered = audited.covered;
      numbers = omega arith;
    })
