-- A report is a run of the model.
use Rattle.std.proofs.Common.{◌≡◌, ℕ, zero, suc, ◌+◌, ◌<◌, ◌≤◌, Bool, true, false, List, [], ◌∷◌, ◌++◌, map, length, get_or, slice_get, Option, Some, None, refl, sym, ap, ◌∙◌, subst, arith, ⊎_elim, ne_eqb}
use Rattle.std.specs.Prelude.{◌&&◌, ◌||◌, ◌==◌, drop, nat_le, if◌then◌else◌, string_bytes}
use Rattle.std.specs.List.{AllByRecursion}
use Rattle.std.proofs.lemmas.Bool.{and_parts, cases_Bool, leb-true, false≢true}
use Rattle.std.proofs.lemmas.List.{map-append, length-map}
use Rattle.std.proofs.lemmas.Option.{cond_some, option_and_then_some, slice_get_within}
use mathlib.Core.Logic.{dite}
use native.Mathlib.Decide.{ℕ_discrete}
use Rattle.sms_book.specs.Openings.{credits_of}
use Rattle.sms_book.specs.declared.opening.Opening.{Opening}
use Rattle.sms_core.specs.declared.request.Phase.{Phase}
use Rattle.sms_core.specs.declared.row.Row.{Row}
use Rattle.sms_core.specs.Limits.{largest_cost}
use Rattle.sms_core.specs.Replies.{AreAllowed}
use Rattle.sms_core.specs.Rows.{Entry, charged_of, over, part, reserved_of, returned_of, row_of}
use Rattle.sms_core.proofs.AccountSums.{over-append, over-cons}
use Rattle.sms_files.specs.Fields.{Record}
use Rattle.sms_message.specs.declared.ends.Outcome.{Outcome}
use Rattle.sms_journal.specs.declared.rest.plan.Plan.{Plan}
use Rattle.sms_journal.specs.declared.rest.report_line.Ending.{Ending}
use Rattle.sms_journal.specs.declared.rest.report_line.Ending.TheVariants.{Part, Message}
use Rattle.sms_journal.specs.declared.rest.report_line.Line.{Line}
use Rattle.sms_journal.specs.declared.rest.stage.Stage.{Stage}
use Rattle.sms_journal.specs.declared.rest.stage.Stage.TheVariants.{Lines, Rows, Start}
use Rattle.sms_journal.specs.Plans.{may_refuse}
use Rattle.sms_journal.specs.RecordLines.{account_in, fits, has_ended, is_header, is_statement_header, line_in}
use Rattle.sms_journal.specs.ReportLaws.{IsPlanned, ReportsAreRuns}
use Rattle.sms_journal.specs.ReportParts.{is_covered, part_ended, part_lined, part_paid, part_planned, part_told, parts_in, report_parts, rows_behind}
use Rattle.sms_journal.specs.ScheduleLaws.{CanBeSent, CanRun}
use Rattle.sms_journal.specs.declared.audit.part.SentPart.{SentPart}
use Rattle.sms_journal.specs.Schedules.{entry_for}
use Rattle.sms_journal.specs.Stages.{Progress, after, begins, behind, covers, ends_lines, entry_of, goes_on, is_covered as row_is_covered, is_whole, stands, start, step, step_by, with_ending, with_line, with_part, with_plan, with_row}
use Rattle.sms_journal.proofs.ReportLines.{AreTold, header_is_no_line, inside, line_fits, nothing, split_all, told_by}
use Rattle.sms_journal.proofs.ScheduleRuns.{parts_are_a_run}
use Rattle.sms_journal.proofs.Turns.{all_append}

-- ---- one line

if_some : {A : Type 0} (b : Bool) (o : Option A) (y : A) → (if b then o else None) ≡ Some y → (b ≡ true) × (o ≡ Some y)
if_some false o y e = nothing y e
if_some true o y e = (refl, e)

-- each account had the credits that these took
abbrev AreUsed : List Opening → List Entry → Type 0
AreUsed openings entries = (i : ℕ) (o : Opening) → slice_get openings i ≡ Some o → over reserved_of i entries + over charged_of i entries ≤ o.credits

-- what entries are after some parts more
record AreAdded (most : ℕ) (openings : List Opening) (entries : List Entry) (parts : List SentPart) (now : List Entry) : Type 0 where
  over_is : (f : Phase → ℕ → ℕ) (i : ℕ) → over f i now ≡ over f i entries + over f i (map entry_for parts)
  used : AreUsed openings entries → AreUsed openings now
  can : AllByRecursion (λ (p : SentPart). is_covered (credits_of openings) p ≡ true) parts → AllByRecursion (CanBeSent most (credits_of openings)) parts

none_added : (most : ℕ) (openings : List Opening) (entries : List Entry) → AreAdded most openings entries [] entries
none_added most openings entries = record { over_is = λ f i. omega arith; used = λ u. u; can = λ c. tt }

-- a line's part: its account is there and covers it, and its attempts are told
record IsPaidPart (most : ℕ) (openings : List Opening) (entries : List Entry) (account cost : ℕ) (outcome : Outcome) (p : SentPart) : Type 0 where
  opening : Opening
  there : slice_get openings account ≡ Some opening
  covered : over reserved_of account (entry_of account cost outcome ∷ entries) + over charged_of account (entry_of account cost outcome ∷ entries) ≤ opening.credits
  entry : entry_for p ≡ entry_of account cost outcome
  payer : p.account ≡ account
  price : p.cost ≡ cost
  some : 1 ≤ cost
  few : cost ≤ largest_cost
  allowed : AreAllowed most p.attempts

not_its : (f : Phase → ℕ → ℕ) (i account cost : ℕ) (outcome : Outcome) → (account ≡ i → ⊥) → part f i (entry_of account cost outcome) ≡ 0
not_its f i account cost outcome ne = rw (ne_eqb account i ne) refl

part_added : (most : ℕ) (openings : List Opening) (entries : List Entry) (account cost : ℕ) (outcome : Outcome) (p : SentPart) → IsPaidPart most openings entries account cost outcome p
    → AreAdded most openings entries (p ∷ []) (entry_of account cost outcome ∷ entries)
part_added most openings entries account cost outcome p h = record {
  over_is = λ f i.
      let one = over-cons f i (entry_of account cost outcome) entries in
      let other = over-cons f i (entry_for p) [] in
      let same : part f i (entry_for p) ≡ part f i (entry_of account cost outcome) = ap (part f i) h.entry in
      omega arith;
  used = λ u i o is. dite (ℕ_discrete account i)
      (λ its.
      let both : Some h.opening ≡ Some o = sym h.there ∙ ap (slice_get openings) its ∙ is in
      let same : h.opening ≡ o = inside h.opening o both in
      let credits : h.opening.credits ≡ o.credits = ap (λ (x : Opening). x.credits) same in
      let covered = subst (λ (k : ℕ). over reserved_of k (entry_of account cost outcome ∷ entries) + over charged_of k (entry_of account cost outcome ∷ entries) ≤ h.opening.credits) its h.covered in
      omega arith)
      (λ other.
      let a = over-cons reserved_of i (entry_of account cost outcome) entries in
      let b = over-cons charged_of i (entry_of account cost outcome) entries in
      let x = not_its reserved_of i account cost outcome other in
      let y = not_its charged_of i account cost outcome other in
      let before = u i o is in
      omega arith);
  can = λ c.
      let inside_of : account < length openings = slice_get_within openings account h.opening h.there in
      let long : length (credits_of openings) ≡ length openings = length-map openings (λ (o : Opening). o.credits) in
      let payer = h.payer in
      let price = h.price in
      let some = h.some in
      let few = h.few in
      (record { known = omega arith; some = omega arith; few = omega arith; covered = leb-true p.cost (get_or (credits_of openings) p.account 0) c.0; allowed = h.allowed }, tt);
}

-- the line leads on, and adds its part
record IsLineAdded (most : ℕ) (openings : List Opening) (entries : List Entry) (parts : List SentPart) (next : Progress) : Type 0 where
  begun : ℕ
  count : ℕ
  stage : next.stage ≡ Lines begun count
  adds : AreAdded most openings entries parts next.entries

module _ (most : ℕ) (plans : List Plan) (openings : List Opening) (entries : List Entry) (next : Progress) where
  of_opening : (line : Line) (plan : Plan) (outcome : Outcome) (account : ℕ) (o : Option Opening) → slice_get openings account ≡ o → IsPlanned plan → AreTold most line.attempts line.status outcome
      → (if plan.addresses && covers account (entry_of account plan.cost outcome ∷ entries) o then Some (behind line (entry_of account plan.cost outcome ∷ entries)) else None) ≡ Some next
      → IsLineAdded most openings entries (part_told account plan.cost line outcome ∷ []) next
  of_opening line plan outcome account None is planned told e =
      let both = if_some (plan.addresses && false) (Some (behind line (entry_of account plan.cost outcome ∷ entries))) next e in
      absurd (false≢true (and_parts plan.addresses false both.0).1)
  of_opening line plan outcome account (Some o) is planned told e =
      let all : List Entry = entry_of account plan.cost outcome ∷ entries in
      let both = if_some (plan.addresses && covers account all (Some o)) (Some (behind line all)) next e in
      let covered = (and_parts plan.addresses (row_is_covered (row_of o.credits account all)) both.0).1 in
      let row : Row = row_of o.credits account all in
      let enough = leb-true (row.reserved + row.charged) row.topped (and_parts (nat_le (row.reserved + row.charged) row.topped) (nat_le row.returned 0xFFFF_FFFF_FFFF_FFFF) covered).0 in
      let now : behind line all ≡ next = inside (behind line all) next both.1 in
      let p : SentPart = part_told account plan.cost line outcome in
      let paid : IsPaidPart most openings entries account plan.cost outcome p = record {
        opening = o;
        there = is;
        covered = enough;
        entry = ap (λ (phase : Phase). record { account = account; cost = plan.cost; phase = phase }) told.come;
        payer = refl;
        price = refl;
        some = planned.some;
        few = planned.few;
        allowed = told.allowed;
      } in
      record {
        begun = line.message + 1;
        count = line.part;
        stage = ap (λ (x : Progress). x.stage) (sym now);
        adds = subst (λ (l : List Entry). AreAdded most openings entries (p ∷ []) l) (ap (λ (x : Progress). x.entries) now) (part_added most openings entries account plan.cost outcome p paid);
      }

  of_account : (line : Line) (plan : Plan) (outcome : Outcome) (account : Option ℕ) → IsPlanned plan → AreTold most line.attempts line.status outcome → with_part openings entries line plan outcome account ≡ Some next
      → IsLineAdded most openings entries (part_paid plan.cost line outcome account) next
  of_account line plan outcome None planned told e = nothing next e
  of_account line plan outcome (Some account) planned told e = of_opening line plan outcome account (slice_get openings account) refl planned told e

  of_ending : (line : Line) (plan : Plan) (ending : Ending) → IsPlanned plan → line.attempts ≤ most → fits line.part line.attempts line.status ending ≡ true → with_ending openings entries line plan ending ≡ Some next
      → IsLineAdded most openings entries (part_ended plan line ending) next
  of_ending line plan (Part outcome) planned few good e =
      of_account line plan outcome plan.account planned (told_by most line.attempts line.status outcome few (and_parts (nat_le 1 line.part) (has_ended line.attempts line.status outcome) good).1) e
  of_ending line plan (Message refusal) planned few good e =
      let both = if_some (may_refuse plan refusal) (Some (behind line entries)) next e in
      let now : behind line entries ≡ next = inside (behind line entries) next both.1 in
      record {
        begun = line.message + 1;
        count = line.part;
        stage = ap (λ (x : Progress). x.stage) (sym now);
        adds = subst (λ (l : List Entry). AreAdded most openings entries [] l) (ap (λ (x : Progress). x.entries) now) (none_added most openings entries);
      }

  plan_at : (ps : List Plan) (k : ℕ) (plan : Plan) → AllByRecursion IsPlanned ps → slice_get ps k ≡ Some plan → IsPlanned plan
  plan_at [] k plan all is = nothing plan is
  plan_at (p ∷ ps) zero plan all is = subst IsPlanned (inside p plan is) all.0
  plan_at (p ∷ ps) (suc k) plan all is = plan_at ps k plan all.1 is

  of_plan : (line : Line) (x : Option Plan) → slice_get plans line.message ≡ x → AllByRecursion IsPlanned plans → line.attempts ≤ most → fits line.part line.attempts line.status line.ending ≡ true → with_plan openings entries line x ≡ Some next
      → IsLineAdded most openings entries (part_planned line x) next
  of_plan line None is planned few good e = nothing next e
  of_plan line (Some plan) is planned few good e = of_ending line plan line.ending (plan_at plans line.message plan planned is) few good e

  of_line : (begun count : ℕ) (r : Record) (x : Option Line) → line_in r ≡ x → AllByRecursion IsPlanned plans → with_line most plans openings begun count entries x ≡ Some next → IsLineAdded most openings entries (part_lined plans x) next
  of_line begun count r None is planned e = nothing next e
  of_line begun count r (Some line) is planned e =
      let both = if_some (stands most plans begun count line) (with_plan openings entries line (slice_get plans line.message)) next e in
      let few = leb-true line.attempts most (and_parts (begins plans begun count line || goes_on plans begun count line) (nat_le line.attempts most) both.0).1 in
      of_plan line (slice_get plans line.message) refl planned few (line_fits r line is) both.1

-- ---- rows

rows_keep : (most : ℕ) (plans : List Plan) (openings : List Opening) (done : ℕ) (entries : List Entry) (rs : List Record) (end : Progress) → after most plans openings (record { stage = Rows done; entries = entries }) rs ≡ Some end → end.entries ≡ entries
rows_keep most plans openings done entries [] end e = ap (λ (p : Progress). p.entries) (sym (inside (record { stage = Rows done; entries = entries }) end e))
rows_keep most plans openings done entries (r ∷ rs) end e =
    option_and_then_some (λ next. after most plans openings next rs) (with_row entries done (slice_get openings done) r) end e
    (λ next at rest. from (slice_get openings done) next at rest (λ later. rows_keep most plans openings (done + 1) entries rs end later))
  where
    from : (o : Option Opening) (next : Progress) → with_row entries done o r ≡ Some next → after most plans openings next rs ≡ Some end
        → (after most plans openings (record { stage = Rows (done + 1); entries = entries }) rs ≡ Some end → end.entries ≡ entries) → end.entries ≡ entries
    from None next at rest keep = nothing next at
    from (Some o) next at rest keep =
        let both = cond_some (account_in (string_bytes o.name) (row_of o.credits done entries) r) (record { stage = Rows (done + 1); entries = entries }) next at in
        keep (ap (λ (p : Progress). after most plans openings p rs) both.1 ∙ rest)

same_stage : (a b : ℕ) → Rows a ≡ Rows b → a ≡ b
same_stage a b e = cc

rows_told : (most : ℕ) (plans : List Plan) (openings : List Opening) (done : ℕ) (entries : List Entry) (rs : List Record) (end : Progress) (j : ℕ) (o : Opening) → after most plans openings (record { stage = Rows done; entries = entries }) rs ≡ Some end
    → end.stage ≡ Rows (length openings) → slice_get openings (done + j) ≡ Some o → done + j < length openings
    → (told : Record) × (slice_get rs j ≡ Some told) × (account_in (string_bytes o.name) (row_of o.credits (done + j) entries) told ≡ true)
rows_told most plans openings done entries [] end j o e whole is within =
    let at : Rows done ≡ Rows (length openings) = ap (λ (p : Progress). p.stage) (inside (record { stage = Rows done; entries = entries }) end e) ∙ whole in
    absurd (let same = same_stage done (length openings) at in omega arith)
rows_told most plans openings done entries (r ∷ rs) end zero o e whole is within =
    let here : done + zero ≡ done = omega arith in
    let there : slice_get openings done ≡ Some o = ap (slice_get openings) (sym here) ∙ is in
    option_and_then_some (λ next. after most plans openings next rs) (with_row entries done (slice_get openings done) r) end e (λ next at rest.
    let by : with_row entries done (Some o) r ≡ Some next = ap (λ (x : Option Opening). with_row entries done x r) (sym there) ∙ at in
    let both = cond_some (account_in (string_bytes o.name) (row_of o.credits done entries) r) (record { stage = Rows (done + 1); entries = entries }) next by in
    (r, refl, subst (λ (k : ℕ). account_in (string_bytes o.name) (row_of o.credits k entries) r ≡ true) (sym here) both.0))
rows_told most plans openings done entries (r ∷ rs) end (suc j) o e whole is within =
    let here : done + suc j ≡ done + 1 + j = omega arith in
    option_and_then_some (λ next. after most plans openings next rs) (with_row entries done (slice_get openings done) r) end e
    (λ next at rest. from (slice_get openings done) next at rest here
    (λ later. rows_told most plans openings (done + 1) entries rs end j o later whole (ap (slice_get openings) (sym here) ∙ is) (omega arith)))
  where
    from : (x : Option Opening) (next : Progress) → with_row entries done x r ≡ Some next → after most plans openings next rs ≡ Some end → done + suc j ≡ done + 1 + j
        → (after most plans openings (record { stage = Rows (done + 1); entries = entries }) rs ≡ Some end
        → (told : Record) × (slice_get rs j ≡ Some told) × (account_in (string_bytes o.name) (row_of o.credits (done + 1 + j) entries) told ≡ true))
        → (told : Record) × (slice_get rs j ≡ Some told) × (account_in (string_bytes o.name) (row_of o.credits (done + suc j) entries) told ≡ true)
    from None next at rest here find = nothing next at
    from (Some x) next at rest here find =
        let both = cond_some (account_in (string_bytes x.name) (row_of x.credits done entries) r) (record { stage = Rows (done + 1); entries = entries }) next at in
        let found = find (ap (λ (p : Progress). after most plans openings p rs) both.1 ∙ rest) in
        (found.0, found.1, subst (λ (k : ℕ). account_in (string_bytes o.name) (row_of o.credits k entries) found.0 ≡ true) (sym here) found.2)

-- ---- all lines

more_added : (most : ℕ) (openings : List Opening) (entries mid now : List Entry) (first later : List SentPart) → AreAdded most openings entries first mid → AreAdded most openings mid later now → AreAdded most openings entries (first ++ later) now
more_added most openings entries mid now first later a b = record {
  over_is = λ f i.
      let x = a.over_is f i in
      let y = b.over_is f i in
      let z : over f i (map entry_for (first ++ later)) ≡ over f i (map entry_for first) + over f i (map entry_for later) = ap (over f i) (map-append entry_for first later) ∙ over-append f i (map entry_for first) (map entry_for later) in
      omega arith;
  used = λ u. b.used (a.used u);
  can = λ c. let both = split_all (λ (p : SentPart). is_covered (credits_of openings) p ≡ true) first later c in all_append (CanBeSent most (credits_of openings)) first later (a.can both.0) (b.can both.1);
}

-- a report's lines lead to its statement
record IsAllAdded (most : ℕ) (plans : List Plan) (openings : List Opening) (entries : List Entry) (rs : List Record) (end : Progress) : Type 0 where
  adds : AreAdded most openings entries (parts_in plans rs) end.entries
  told : (j : ℕ) (o : Opening) → slice_get openings j ≡ Some o → (r : Record) × (slice_get (rows_behind rs) j ≡ Some r) × (account_in (string_bytes o.name) (row_of o.credits j end.entries) r ≡ true)

module _ (most : ℕ) (plans : List Plan) (openings : List Opening) (planned : AllByRecursion IsPlanned plans) (end : Progress) (whole : end.stage ≡ Rows (length openings)) where
  at_statement : (entries : List Entry) (r : Record) (rs : List Record) → is_statement_header r ≡ true → after most plans openings (record { stage = Rows 0; entries = entries }) rs ≡ Some end → IsAllAdded most plans openings entries (r ∷ rs) end
  at_statement entries r rs header e =
      let same : end.entries ≡ entries = rows_keep most plans openings 0 entries rs end e in
      record {
        adds = rw (header, same) (none_added most openings entries);
        told = λ j o is.
            let from : 0 + j ≡ j = omega arith in
            let found = rows_told most plans openings 0 entries rs end j o e whole (ap (slice_get openings) from ∙ is) (let within = slice_get_within openings j o is in omega arith) in (
              found.0,
              rw header found.1,
              subst (λ (l : List Entry). account_in (string_bytes o.name) (row_of o.credits j l) found.0 ≡ true) (sym same)
                  (subst (λ (k : ℕ). account_in (string_bytes o.name) (row_of o.credits k entries) found.0 ≡ true) from found.2),
            );
      }

  at_line : (entries : List Entry) (r : Record) (rs : List Record) (next : Progress) → is_statement_header r ≡ false → IsLineAdded most openings entries (part_lined plans (line_in r)) next → IsAllAdded most plans openings next.entries rs end
      → IsAllAdded most plans openings entries (r ∷ rs) end
  at_line entries r rs next header line rest = record {
    adds = rw header (more_added most openings entries next.entries end.entries (part_lined plans (line_in r)) (parts_in plans rs) line.adds rest.adds);
    told = λ j o is. let found = rest.told j o is in (found.0, rw header found.1, found.2);
  }

  lines_add : (begun count : ℕ) (entries : List Entry) (rs : List Record) → after most plans openings (record { stage = Lines begun count; entries = entries }) rs ≡ Some end → IsAllAdded most plans openings entries rs end
  lines_add begun count entries [] e =
      let no : Lines begun count ≡ Rows (length openings) = ap (λ (p : Progress). p.stage) (inside (record { stage = Lines begun count; entries = entries }) end e) ∙ whole in
      absurd (cc)
  lines_add begun count entries (r ∷ rs) e =
      option_and_then_some (λ next. after most plans openings next rs) (step_by most plans openings r entries (Lines begun count)) end e
      (λ next at rest. by (ends_lines plans begun count r) refl next at rest (λ b c es later. lines_add b c es rs later))
    where
      by : (b : Bool) → ends_lines plans begun count r ≡ b → (next : Progress) → (if b then Some (record { stage = Rows 0; entries = entries }) else with_line most plans openings begun count entries (line_in r)) ≡ Some next
          → after most plans openings next rs ≡ Some end
          → ((b c : ℕ) (es : List Entry) → after most plans openings (record { stage = Lines b c; entries = es }) rs ≡ Some end → IsAllAdded most plans openings es rs end)
          → IsAllAdded most plans openings entries (r ∷ rs) end
      by true is next at rest on =
          let behind_all = (and_parts (begun == length plans) (is_whole plans begun count && is_statement_header r) is).1 in
          let header = (and_parts (is_whole plans begun count) (is_statement_header r) behind_all).1 in
          let same : record { stage = Rows 0; entries = entries } ≡ next = inside (record { stage = Rows 0; entries = entries }) next at in
          at_statement entries r rs header (ap (λ (p : Progress). after most plans openings p rs) same ∙ rest)
      by false is next at rest on =
          let line : IsLineAdded most openings entries (part_lined plans (line_in r)) next = of_line most plans openings entries next begun count r (line_in r) refl planned at in
          let again_so : after most plans openings (record { stage = Lines line.begun line.count; entries = next.entries }) rs ≡ Some end
          = ap (λ (s : Stage). after most plans openings (record { stage = s; entries = next.entries }) rs) (sym line.stage) ∙ rest in
          let later = on line.begun line.count next.entries again_so in
          ⊎_elim
          (λ (header : is_statement_header r ≡ true). is_line_then (line_in r) refl header at)
          (λ (header : is_statement_header r ≡ false). at_line entries r rs next header line later)
          (cases_Bool (is_statement_header r))
        where
          is_line_then : (x : Option Line) → line_in r ≡ x → is_statement_header r ≡ true → with_line most plans openings begun count entries x ≡ Some next → IsAllAdded most plans openings entries (r ∷ rs) end
          is_line_then None none header stood = nothing next stood
          is_line_then (Some l) some header stood = absurd (header_is_no_line r l header some)

-- ---- the report

opened_at : (openings : List Opening) (i : ℕ) → i < length openings → (o : Opening) × (slice_get openings i ≡ Some o) × (get_or (credits_of openings) i 0 ≡ o.credits)
opened_at [] i within = absurd (omega arith)
opened_at (o ∷ os) zero within = (o, refl, refl)
opened_at (o ∷ os) (suc i) within = opened_at os i (omega arith)

same_row : (topped i : ℕ) (es fs : List Entry) → over reserved_of i es ≡ over reserved_of i fs → over charged_of i es ≡ over charged_of i fs → over returned_of i es ≡ over returned_of i fs → row_of topped i es ≡ row_of topped i fs
same_row topped i es fs a b c = rw (a, b, c) refl

all_read : (most : ℕ) (plans : List Plan) (openings : List Opening) (report : List Record) → AllByRecursion IsPlanned plans → (end : Progress) → end.stage ≡ Rows (length openings) → after most plans openings start report ≡ Some end
    → IsAllAdded most plans openings [] (drop 1 report) end
all_read most plans openings [] planned end whole e =
    let no : Start ≡ Rows (length openings) = ap (λ (p : Progress). p.stage) (inside start end e) ∙ whole in
    absurd (cc)
all_read most plans openings (r ∷ rs) planned end whole e =
    option_and_then_some (λ next. after most plans openings next rs) (step most plans openings r start) end e (λ next at rest.
    let both = if_some (is_header r) (Some (record { stage = Lines 0 0; entries = [] })) next at in
    let same : record { stage = Lines 0 0; entries = [] } ≡ next = inside (record { stage = Lines 0 0; entries = [] }) next both.1 in
    lines_add most plans openings planned end whole 0 0 [] rs (ap (λ (p : Progress). after most plans openings p rs) same ∙ rest))

pub reports_are_runs : ReportsAreRuns
reports_are_runs most plans openings report h =
    let read = all_read most plans openings report h.planned h.read.end h.read.whole h.read.read in
    let parts : List SentPart = report_parts plans report in
    let same : (f : Phase → ℕ → ℕ) (i : ℕ) → over f i (map entry_for parts) ≡ over f i h.read.end.entries = λ f i. (let a = read.adds.over_is f i in omega arith) in
    let long : length (credits_of openings) ≡ length openings = length-map openings (λ (o : Opening). o.credits) in
    let used : AreUsed openings h.read.end.entries = read.adds.used (λ i o is. omega arith) in
    let can : CanRun most (credits_of openings) parts = record {
      limits = rw long h.limits;
      topped = h.topped;
      each = read.adds.can h.covered;
      used = λ i within.
          let o = opened_at openings i (omega arith) in
          let u = used i o.0 o.1 in
          let credits = o.2 in
          let a = same reserved_of i in
          let b = same charged_of i in
          omega arith;
      numbers = h.numbers;
    } in
    let run = parts_are_a_run most (credits_of openings) parts can in
    record {
      run = run;
      statement = λ i o is.
          let within : i < length openings = slice_get_within openings i o is in
          let at = opened_at openings i within in
          let both : Some at.0 ≡ Some o = sym at.1 ∙ is in
          let it : at.0 ≡ o = inside at.0 o both in
          let credits : get_or (credits_of openings) i 0 ≡ o.credits = at.2 ∙ ap (λ (x : Opening). x.credits) it in
          let row : row_of (get_or (credits_of openings) i 0) i (map entry_for parts) ≡ row_of o.credits i h.read.end.entries
          = ap (λ (n : ℕ). row_of n i (map entry_for parts)) credits ∙ same_row o.credits i (map entry_for parts) h.read.end.entries (same reserved_of i) (same charged_of i) (same returned_of i) in
          let found = read.told i o is in
          (row_of o.credits i h.read.end.entries, run.rows_are i (omega arith) ∙ ap (λ (x : Row). Some x) row, record { told = found.0; there = found.1; is = found.2 });
    }
