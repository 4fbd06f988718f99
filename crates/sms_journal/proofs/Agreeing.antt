-- Recovered ends are printed as the run prints its own, and notes have one report.
use Rattle.std.proofs.Common.{◌≡◌, ◌∙◌, ℕ, zero, suc, ◌+◌, ◌++◌, Bool, List, [], ◌∷◌, length, map, refl, sym, ap, Some, arith}
use Rattle.std.specs.Prelude.{slice_get, ◌||◌}
use Rattle.std.specs.List.{AllZip}
use Rattle.sms_core.specs.declared.row.Row.{Row}
use Rattle.sms_book.specs.declared.opening.Opening.{Opening}
use Rattle.sms_message.specs.declared.ends.MessageResult.{MessageResult}
use Rattle.sms_message.specs.declared.ends.SegmentEnd.{SegmentEnd}
use Rattle.sms_message.specs.declared.ends.MessageResult.TheVariants as ends
use Rattle.sms_message.specs.declared.message.Message.{Message}
use Rattle.sms_message.specs.declared.rules.Rules.{Rules}
use Rattle.sms_journal.specs.declared.notes.note.Note.{Note}
use Rattle.sms_message.specs.declared.ends.MessageEnd.{MessageEnd}
use Rattle.sms_message.specs.declared.ends.Attempt.{Attempt}
use Rattle.sms_journal.specs.Recovered.{IsRecoveredEnd}
use Rattle.sms_journal.specs.Rounds.{IsRunEnd, told_by}
use Rattle.sms_journal.specs.Sums.{segment_without_evidence, result_without_evidence, end_without_evidence}
use Rattle.sms_journal.proofs.Once.{ends_are_unique}
use Rattle.sms_files.specs.Report as report
use Rattle.sms_journal.specs.RecoveryLaws.{NoAccountIsOverdrawn, ReportsAgree, RunsAreRecovered, StatusesAgree}
use Rattle.sms_journal.specs.Recovering.{AreRecoveredRows}
use Rattle.sms_files.specs.Report.{report_of}

-- ---- lines

abbrev bare : Attempt (List ℕ) → Attempt (Unit {0})
bare a = record { number = a.number; sent = tt; reply = a.reply }

last_same : (attempts : List (Attempt (List ℕ))) → report.last_text (map bare attempts) ≡ report.last_text attempts
last_same [] = refl
last_same (a ∷ []) = refl
last_same (a ∷ (b ∷ attempts)) = last_same (b ∷ attempts)

length_same : {X Y : Type 0} (f : X → Y) (xs : List X) → length (map f xs) ≡ length xs
length_same f [] = refl
length_same f (x ∷ xs) = ap suc (length_same f xs)

part_same : (index number : ℕ) (s : SegmentEnd (List ℕ)) → report.segment_text index number (segment_without_evidence s) ≡ report.segment_text index number s
part_same index number s = λ j. report.head_text index number (length_same {Y = (Attempt (Unit {0}))} bare s.attempts j) s.outcome ++ last_same s.attempts j

parts_same : (index number : ℕ) (ss : List (SegmentEnd (List ℕ))) → report.segment_texts index number (map segment_without_evidence ss) ≡ report.segment_texts index number ss
parts_same index number [] = refl
parts_same index number (s ∷ ss) = λ j. part_same index number s j ++ parts_same index (number + 1) ss j

result_same : (index : ℕ) (r : MessageResult (List ℕ)) → report.result_text index (result_without_evidence r) ≡ report.result_text index r
result_same index (ends.Sent ss) = parts_same index 1 ss
result_same index (ends.Refused refusal) = refl

texts_same : (es : List (MessageEnd (List ℕ))) → report.end_texts (map end_without_evidence es) ≡ report.end_texts es
texts_same [] = refl
texts_same (e ∷ es) = λ j. result_same e.index e.result j ++ texts_same es j

pub reports_agree : ReportsAgree
reports_agree os es rows = λ j. report.report_header ++ texts_same es j ++ report.statement_header ++ report.row_texts os rows

-- ---- the exit status

parts_open : (ss : List (SegmentEnd (List ℕ))) → report.has_unanswered (map segment_without_evidence ss) ≡ report.has_unanswered ss
parts_open [] = refl
parts_open (s ∷ ss) = ap (λ (b : Bool). report.is_unanswered s.outcome || b) (parts_open ss)

result_open : (r : MessageResult (List ℕ)) → report.is_open_end (result_without_evidence r) ≡ report.is_open_end r
result_open (ends.Sent ss) = parts_open ss
result_open (ends.Refused refusal) = refl

some_open : (es : List (MessageEnd (List ℕ))) → report.some_unanswered (map end_without_evidence es) ≡ report.some_unanswered es
some_open [] = refl
some_open (e ∷ es) = λ j. result_open e.result j || some_open es j

pub statuses_agree : StatusesAgree
statuses_agree es = rw (some_open es) refl

-- ---- notes tell one report

pub same_ends : (rules : Rules) (notes : List Note) (ms : List Message) (es fs : List (MessageEnd (Unit {0}))) → AllZip (IsRecoveredEnd rules notes) ms es → AllZip (IsRecoveredEnd rules notes) ms fs → es ≡ fs
same_ends rules notes [] [] [] a b = refl
same_ends rules notes [] [] (f ∷ fs) a b = absurd b
same_ends rules notes [] (e ∷ es) fs a b = absurd a
same_ends rules notes (m ∷ ms) [] fs a b = absurd a
same_ends rules notes (m ∷ ms) (e ∷ es) [] a b = absurd b
same_ends rules notes (m ∷ ms) (e ∷ es) (f ∷ fs) a b = λ j. ends_are_unique rules notes m e f a.0 b.0 j ∷ same_ends rules notes ms es fs a.1 b.1 j

pub run_ends_once : (rules : Rules) (notes : List Note) (ms : List Message) (es fs : List (MessageEnd (Unit {0}))) → AllZip (IsRunEnd rules notes) ms es → AllZip (IsRunEnd rules notes) ms fs → es ≡ fs
run_ends_once rules notes [] [] [] a b = refl
run_ends_once rules notes [] [] (f ∷ fs) a b = absurd b
run_ends_once rules notes [] (e ∷ es) fs a b = absurd a
run_ends_once rules notes (m ∷ ms) [] fs a b = absurd a
run_ends_once rules notes (m ∷ ms) (e ∷ es) [] a b = absurd b
run_ends_once rules notes (m ∷ ms) (e ∷ es) (f ∷ fs) a b = λ j. ends_are_unique rules (told_by m.index notes) m e f a.0 b.0 j ∷ run_ends_once rules notes ms es fs a.1 b.1 j

same_at_all : {X : Type 0} (xs ys : List X) → length xs ≡ length ys → ((i : ℕ) (x y : X) → slice_get xs i ≡ Some x → slice_get ys i ≡ Some y → x ≡ y) → xs ≡ ys
same_at_all [] [] long each = refl
same_at_all [] (y ∷ ys) long each = absurd (omega (arith, long))
same_at_all (x ∷ xs) [] long each = absurd (omega (arith, long))
same_at_all (x ∷ xs) (y ∷ ys) long each = λ j. each 0 x y refl refl j ∷ same_at_all xs ys (omega (arith, long)) (λ i a b. each (suc i) a b) j

opening_at : {X Y : Type 0} (xs : List X) (ys : List Y) (i : ℕ) (x : X) → length ys ≡ length xs → slice_get xs i ≡ Some x → (y : Y) × (slice_get ys i ≡ Some y)
opening_at [] ys i x long e = absurd (cc)
opening_at (x' ∷ xs) [] i x long e = absurd (omega (arith, long))
opening_at (x' ∷ xs) (y ∷ ys) zero x long e = (y, refl)
opening_at (x' ∷ xs) (y ∷ ys) (suc i) x long e = opening_at xs ys i x (omega (arith, long)) e

rows_same : (os : List Opening) (ms : List Message) (found : List (MessageEnd (Unit {0}))) (rows others : List Row) → AreRecoveredRows os ms found rows → AreRecoveredRows os ms found others → rows ≡ others
rows_same os ms found rows others a b = same_at_all rows others (a.count ∙ sym b.count) (λ i x y at at'. let o = opening_at rows os i x (sym a.count) at in a.each i x at o.0 o.1 ∙ sym (b.each i y at' o.0 o.1))

pub runs_are_recovered : RunsAreRecovered
runs_are_recovered rules size os ms notes found rows es statement is tells rows_are =
    let same = run_ends_once rules notes ms found (map end_without_evidence es) is.tells tells in
    let its : AreRecoveredRows os ms (map end_without_evidence es) rows = rw (← same) is.rows_are in
    let rows_is = rows_same os ms (map end_without_evidence es) rows statement its rows_are in
    ap (λ (t : List (MessageEnd (Unit {0}))). report_of os t rows) same ∙ ap (report_of os (map end_without_evidence es)) rows_is ∙ reports_agree os es statement

-- ---- rows

pub none_overdrawn : NoAccountIsOverdrawn
none_overdrawn rules size os ms notes found rows is i row o at at' =
    let all : row.topped ≡ row.free + row.reserved + row.charged = is.rows_are.balanced i row at in
    let had : row.topped ≡ o.credits = ap (λ (r : Row). r.topped) (is.rows_are.each i row at o at') in
    omega (arith, all, had)
