-- What a record of a report says of a part's attempts, and which records are no lines.
use Rattle.std.proofs.Common.{◌≡◌, ℕ, zero, suc, ◌≤◌, Bool, true, false, List, [], ◌∷◌, ◌++◌, length, Option, Some, None, refl, sym, ap, ◌∙◌, subst, arith, eq-eqb, ne_eqb}
use Rattle.std.specs.Prelude.{◌&&◌, ◌==◌, nat_le, if◌then◌else◌, option_and_then, replicate, codes}
use Rattle.std.specs.List.{AllByRecursion}
use Rattle.std.proofs.lemmas.Bool.{and_parts, eqb-true, false≢true}
use Rattle.std.proofs.lemmas.Option.{cond_some, option_and_then_some}
use Rattle.std.proofs.lemmas.Slice.Eq.{bytes_eq-Decides}
use mathlib.Core.Logic.{dite}
use native.Mathlib.Decide.{ℕ_discrete}
use Rattle.csv.specs.Records.{field_at}
use Rattle.sms_core.specs.Replies.{AreAllowed, AreRetried, IsRetried, Reply, outcome_of, outcome_of_last}
use Rattle.sms_core.specs.Rows.{part}
use Rattle.sms_core.specs.Statuses.{no_error, throttled}
use Rattle.sms_files.specs.Fields.{Field, Record}
use Rattle.sms_files.specs.Rows.{field_is, is_some_field}
use Rattle.sms_message.specs.Ends.{phase_of}
use Rattle.sms_message.specs.declared.ends.Outcome.{Outcome}
use Rattle.sms_message.specs.declared.ends.Outcome.TheVariants.{Charged, Refused, Unanswered, Unsent}
use Rattle.sms_journal.specs.declared.rest.report_line.Ending.{Ending}
use Rattle.sms_journal.specs.declared.rest.report_line.Line.{Line}
use Rattle.sms_journal.specs.RecordLines.{ending_in, fits, has_ended, is_id, is_statement_header, line_in, line_of, line_with, number_in, status_in}
use Rattle.sms_journal.specs.ReportParts.{again, attempts_told, last_answer}

pub inside : {A : Type 0} (a b : A) → Some a ≡ Some b → a ≡ b
inside a b e = cc

pub nothing : {A P : Type 0} (a : A) → None ≡ Some a → P
nothing a e = absurd (cc)

pub split_all : {X : Type 0} (P : X → Type 0) (xs ys : List X) → AllByRecursion P (xs ++ ys) → AllByRecursion P xs × AllByRecursion P ys
split_all P [] ys all = (tt, all)
split_all P (x ∷ xs) ys all = let rest = split_all P xs ys all.1 in ((all.0, rest.0), rest.1)

-- ---- attempts

is_again : IsRetried again
is_again = record { reply = record { status = throttled; nack = false }; came = refl; retries = refl }

retried_again : (k : ℕ) (last : Option Reply) → AreRetried (replicate k again ++ last ∷ [])
retried_again zero last = tt
retried_again (suc zero) last = (is_again, tt)
retried_again (suc (suc k)) last = (is_again, retried_again (suc k) last)

comes_to_last : (k : ℕ) (last : Option Reply) → outcome_of (replicate k again ++ last ∷ []) ≡ outcome_of_last last
comes_to_last zero last = refl
comes_to_last (suc zero) last = refl
comes_to_last (suc (suc k)) last = comes_to_last (suc k) last

counts : (k : ℕ) (last : Option Reply) → length (replicate k again ++ last ∷ []) ≡ suc k
counts zero last = refl
counts (suc k) last = ap suc (counts k last)

-- what a line says of its attempts is true of these
pub record AreTold (most attempts : ℕ) (status : Option ℕ) (outcome : Outcome) : Type 0 where
  pub allowed : AreAllowed most (attempts_told attempts (last_answer outcome status))
  pub come : outcome_of (attempts_told attempts (last_answer outcome status)) ≡ phase_of outcome

by_last : (most before : ℕ) (status : Option ℕ) (outcome : Outcome) → suc before ≤ most → outcome_of_last (last_answer outcome status) ≡ phase_of outcome → AreTold most (suc before) status outcome
by_last most before status outcome few comes =
    let long = counts before (last_answer outcome status) in
    record { allowed = (omega (arith, long, few), retried_again before (last_answer outcome status)); come = comes_to_last before (last_answer outcome status) ∙ comes }

none_told : (most : ℕ) (outcome : Outcome) (status : Option ℕ) → has_ended zero status outcome ≡ true → AreTold most zero status outcome
none_told most Charged None h = absurd (false≢true h)
none_told most Charged (Some s) h = absurd (false≢true h)
none_told most Refused None h = absurd (false≢true h)
none_told most Refused (Some s) h = absurd (false≢true h)
none_told most Unanswered None h = absurd (false≢true h)
none_told most Unanswered (Some s) h = absurd (false≢true h)
none_told most Unsent None h = record { allowed = (omega arith, tt); come = refl }
none_told most Unsent (Some s) h = absurd (false≢true h)

refused_last : (s : ℕ) → outcome_of_last (last_answer Refused (Some s)) ≡ phase_of Refused
refused_last s = dite (ℕ_discrete s 0)
    (λ is. rw (eq-eqb s 0 is) refl)
    (λ ne. rw (ne_eqb s 0 ne) refl)

some_told : (most before : ℕ) (outcome : Outcome) (status : Option ℕ) → suc before ≤ most → has_ended (suc before) status outcome ≡ true → AreTold most (suc before) status outcome
some_told most before Charged None few h = absurd (false≢true h)
some_told most before Charged (Some s) few h =
    let zero_is : s ≡ 0 = eqb-true s 0 (and_parts (nat_le 1 (suc before)) (s == no_error) h).1 in
    by_last most before (Some s) Charged few (rw zero_is refl)
some_told most before Refused None few h = absurd (false≢true h)
some_told most before Refused (Some s) few h = by_last most before (Some s) Refused few (refused_last s)
some_told most before Unanswered None few h = by_last most before None Unanswered few refl
some_told most before Unanswered (Some s) few h = absurd (false≢true h)
some_told most before Unsent None few h = absurd (let none : suc before ≡ 0 = eqb-true (suc before) 0 h in omega (arith, none))
some_told most before Unsent (Some s) few h = absurd (false≢true h)

pub told_by : (most attempts : ℕ) (status : Option ℕ) (outcome : Outcome) → attempts ≤ most → has_ended attempts status outcome ≡ true → AreTold most attempts status outcome
told_by most zero status outcome few h = none_told most outcome status h
told_by most (suc before) status outcome few h = some_told most before outcome status few h

-- ---- what a record says

line_fits_so : (message part attempts : ℕ) (status : Option ℕ) (ending : Ending) (line : Line) → line_of message part attempts status ending ≡ Some line → fits line.part line.attempts line.status line.ending ≡ true
line_fits_so message part attempts status ending line e =
    let both = cond_some (fits part attempts status ending) (record { message = message; part = part; attempts = attempts; status = status; ending = ending }) line e in
    subst (λ (l : Line). fits l.part l.attempts l.status l.ending ≡ true) both.1 both.0

line_with_fits : (r : Record) (status : Option ℕ) (line : Line) (id : Bool)
    → (if id then option_and_then (λ message. option_and_then (λ part. option_and_then (λ attempts. option_and_then (line_of message part attempts status) (option_and_then ending_in (field_at r 3))) (number_in r 2)) (number_in r 1)) (number_in r 0) else None) ≡ Some line
    → fits line.part line.attempts line.status line.ending ≡ true
line_with_fits r status line false e = nothing line e
line_with_fits r status line true e =
    option_and_then_some _ (number_in r 0) line e (λ message at0 e0.
    option_and_then_some _ (number_in r 1) line e0 (λ part at1 e1.
    option_and_then_some _ (number_in r 2) line e1 (λ attempts at2 e2.
    option_and_then_some (line_of message part attempts status) (option_and_then ending_in (field_at r 3)) line e2 (λ ending at3 e3.
    line_fits_so message part attempts status ending line e3))))

line_in_fits : (r : Record) (line : Line) (six : Bool) → (if six then option_and_then (line_with r) (status_in r) else None) ≡ Some line → fits line.part line.attempts line.status line.ending ≡ true
line_in_fits r line false e = nothing line e
line_in_fits r line true e = option_and_then_some (line_with r) (status_in r) line e (λ status at e1. line_with_fits r status line (is_id status (field_at r 5)) e1)

pub line_fits : (r : Record) (line : Line) → line_in r ≡ Some line → fits line.part line.attempts line.status line.ending ≡ true
line_fits r line e = line_in_fits r line (length r == 6) e

-- the statement's header is no line
first_field : (o : Option Field) (name : Field) → is_some_field o name ≡ true → o ≡ Some name
first_field None name e = absurd (false≢true e)
first_field (Some field) name e = ap (λ (f : Field). Some f) ((bytes_eq-Decides field name).0 e)

no_number : (r : Record) → field_is r 0 (codes "account") ≡ true → number_in r 0 ≡ None
no_number r e = let is : field_at r 0 ≡ Some (codes "account") = first_field (field_at r 0) (codes "account") e in rw is refl

no_line_with : (r : Record) (status : Option ℕ) (line : Line) (id : Bool) → number_in r 0 ≡ None
    → (if id then option_and_then (λ message. option_and_then (λ part. option_and_then (λ attempts. option_and_then (line_of message part attempts status) (option_and_then ending_in (field_at r 3))) (number_in r 2)) (number_in r 1)) (number_in r 0) else None) ≡ Some line → ⊥
no_line_with r status line false none e = nothing line e
no_line_with r status line true none e = option_and_then_some _ (number_in r 0) line e (λ message at rest. nothing message (sym none ∙ at))

no_line_in : (r : Record) (line : Line) (six : Bool) → number_in r 0 ≡ None → (if six then option_and_then (line_with r) (status_in r) else None) ≡ Some line → ⊥
no_line_in r line false none e = nothing line e
no_line_in r line true none e = option_and_then_some (line_with r) (status_in r) line e (λ status at rest. no_line_with r status line (is_id status (field_at r 5)) none rest)

pub header_is_no_line : (r : Record) (line : Line) → is_statement_header r ≡ true → line_in r ≡ Some line → ⊥
header_is_no_line r line header e =
    let named = and_parts (length r == 6) (field_is r 0 (codes "account") && (field_is r 1 (codes "topped") && (field_is r 2 (codes "free") && (field_is r 3 (codes "reserved") && (field_is r 4 (codes "charged") && field_is r 5 (codes "returned")))))) header in
    let first = and_parts (field_is r 0 (codes "account")) (field_is r 1 (codes "topped") && (field_is r 2 (codes "free") && (field_is r 3 (codes "reserved") && (field_is r 4 (codes "charged") && field_is r 5 (codes "returned"))))) named.1 in
    no_line_in r line (length r == 6) (no_number r first.0) e
