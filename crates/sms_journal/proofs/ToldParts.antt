-- The parts of a report's lines, one after another.
use Rattle.std.proofs.Common.{◌≡◌, ℕ, suc, ◌+◌, ◌-◌, ◌<◌, Bool, true, false, List, [], ◌∷◌, ◌++◌, map, length, drop, get_or, slice_get, Option, Some, refl, sym, ap, ◌∙◌, subst, arith, append_assoc}
use Rattle.std.specs.Prelude.{if◌then◌else◌, replicate}
use Rattle.std.specs.List.{AllByRecursion, list_all}
use Rattle.std.proofs.lemmas.Bool.{and_parts}
use Rattle.std.proofs.lemmas.List.{get_or_default, map-append}
use mathlib.Core.Logic.{dite}
use native.Mathlib.Decide.{ℕ_discrete}
use Rattle.sms_files.specs.Fields.{Record}
use Rattle.sms_files.proofs.Lists.{drop_step}
use Rattle.sms_core.specs.Replies.{Reply}
use Rattle.sms_journal.specs.declared.audit.part.Answer.{Answer}
use Rattle.sms_journal.specs.declared.audit.part.SentPart.{SentPart}
use Rattle.sms_journal.specs.declared.rest.plan.Plan.{Plan}
use Rattle.sms_journal.specs.RecordLines.{is_statement_header, line_in}
use Rattle.sms_journal.specs.Replied.{said}
use Rattle.sms_journal.specs.ReportParts.{IsFirstUncovered, again, are_covered, is_covered, part_lined, parts_in}
use Rattle.sms_journal.proofs.Lists.{got_at}
use Rattle.sms_journal.proofs.Stages.{got}
use Rattle.sms_journal.proofs.Turns.{all_append}

-- ---- attempts

pub again_more : (items pushed : List (Option Answer)) (x : Option Answer) (init : List (Option Reply)) (count counter : ℕ) → counter < count → pushed ≡ items ++ x ∷ [] → said x ≡ again
    → map said items ++ replicate (count - counter) again ≡ init → map said pushed ++ replicate (count - (counter + 1)) again ≡ init
again_more items pushed x init count counter low grows is before =
    let one : count - counter ≡ suc (count - (counter + 1)) = omega arith in
    let list : map said pushed ≡ map said items ++ again ∷ [] = ap (map said) grows ∙ map-append said items (x ∷ []) ∙ ap (λ (a : Option Reply). map said items ++ a ∷ []) is in
    ap (λ (l : List (Option Reply)). l ++ replicate (count - (counter + 1)) again) list ∙ append_assoc (map said items) (again ∷ []) (replicate (count - (counter + 1)) again)
    ∙ ap (λ (n : ℕ). map said items ++ replicate n again) (sym one) ∙ before

-- ---- lines

all_true : {X : Type 0} (f : X → Bool) (xs : List X) → list_all f xs ≡ true → AllByRecursion (λ (x : X). f x ≡ true) xs
all_true f [] e = tt
all_true f (x ∷ xs) e = let both = and_parts (f x) (list_all f xs) e in (both.0, all_true f xs both.1)

-- the lines before a place have parts that are covered, and none of them is the statement's header
abbrev pub AreBefore : List ℕ → List Plan → List Record → ℕ → Type 0
AreBefore opened plans rs k = (j : ℕ) (r : Record) → j < k → slice_get rs j ≡ Some r → (are_covered opened plans r ≡ true) × (is_statement_header r ≡ false)

module _ {A : Type 0} (f : A → Record) (opened : List ℕ) (plans : List Plan) (xs : List A) (k : ℕ) (x y : A) (low : k < length xs) (its : x ≡ get_or xs k x) (too : y ≡ get_or xs k y) where
  -- one record, read twice
  one_record : x ≡ y
  one_record = its ∙ get_or_default xs k x y low ∙ sym too

  at_place : slice_get (map f xs) k ≡ Some (f y)
  at_place = got f xs k y (got_at xs k y low too)

  no_header : is_statement_header (f x) ≡ false → is_statement_header (f y) ≡ false
  no_header e = ap (λ (a : A). is_statement_header (f a)) (sym one_record) ∙ e

  pub line_uncovered : is_statement_header (f x) ≡ false → are_covered opened plans (f y) ≡ false → AreBefore opened plans (map f xs) k → IsFirstUncovered opened plans (map f xs) (k + 2)
  line_uncovered header uncovered before = record { place = k; number = refl; line = f y; there = at_place; uncovered = uncovered; within = no_header header; before = before }

  pub front_more : (parts pushed all : List SentPart) → is_statement_header (f x) ≡ false → parts ++ parts_in plans (map f (drop k xs)) ≡ all → pushed ≡ parts ++ part_lined plans (line_in (f y))
      → pushed ++ parts_in plans (map f (drop (k + 1) xs)) ≡ all
  front_more parts pushed all header before grows =
      let later : List SentPart = parts_in plans (map f (drop (k + 1) xs)) in
      let step : parts_in plans (map f (drop k xs)) ≡ part_lined plans (line_in (f y)) ++ later
      = ap (λ (l : List A). parts_in plans (map f l)) (drop_step xs k y low too) ∙ ap (λ (b : Bool). if b then [] else part_lined plans (line_in (f y)) ++ later) (no_header header) in
      ap (λ (l : List SentPart). l ++ later) grows ∙ append_assoc parts (part_lined plans (line_in (f y))) later ∙ ap (λ (l : List SentPart). parts ++ l) (sym step) ∙ before

  pub covered_more : (parts pushed : List SentPart) → AllByRecursion (λ (p : SentPart). is_covered opened p ≡ true) parts → are_covered opened plans (f y) ≡ true → pushed ≡ parts ++ part_lined plans (line_in (f y))
      → AllByRecursion (λ (p : SentPart). is_covered opened p ≡ true) pushed
  covered_more parts pushed before covered grows =
      subst (λ (l : List SentPart). AllByRecursion (λ (p : SentPart). is_covered opened p ≡ true) l) (sym grows)
      (all_append (λ (p : SentPart). is_covered opened p ≡ true) parts (part_lined plans (line_in (f y))) before (all_true (is_covered opened) (part_lined plans (line_in (f y))) covered))

  pub before_more : is_statement_header (f x) ≡ false → are_covered opened plans (f y) ≡ true → AreBefore opened plans (map f xs) k → AreBefore opened plans (map f xs) (k + 1)
  before_more header covered before j r within there = dite (ℕ_discrete j k)
      (λ is.
      let both : Some (f y) ≡ Some r = sym at_place ∙ ap (slice_get (map f xs)) (sym is) ∙ there in
      let same : f y ≡ r = cc in
      (ap (are_covered opened plans) (sym same) ∙ covered, ap is_statement_header (sym same) ∙ no_header header))
      (λ ne. before j r (omega arith) there)
