-- What is left of a file without its references, field by field and line by line.
use Rattle.std.proofs.Common.{◌≡◌, ◌∙◌, sym, refl, ap, ℕ, zero, suc, ◌+◌, ◌≤◌, ◌<◌, ◌-◌, Bool, true, false, List, [], ◌∷◌, ◌++◌, length, map, drop, append_assoc, arith, Option, Some, IfSome}
use Rattle.std.specs.Prelude.{◌==◌, ◌&&◌, get_or}
use Rattle.std.proofs.lemmas.Bool.{eqb-true}
use Rattle.std.proofs.lemmas.Bool.Decides.{nat_tests}
use Rattle.std.proofs.lemmas.List.{append-nil}
use Rattle.sms_files.proofs.Lists.{drop_step, drop_whole}
use Rattle.sms_files.proofs.Runs.{first-found, none-found}
use Rattle.sms_files.specs.Fields.{Record}
use Rattle.sms_files.specs.Records.{GivesFirst}
use Rattle.sms_journal.specs.PlainFiles.{heading_of, is_last, line_with, nexts_from, plain_lines, rows_behind, width_of}
use Rattle.sms_journal.specs.Rest.{next_text}
use Rattle.sms_journal.specs.declared.plain.Heading.{Heading}
use Rattle.sms_journal.specs.declared.plain.Heading.TheVariants.{Other}

-- ---- fields

one_less : (width place : ℕ) → place < width → width - place ≡ suc (width - (place + 1))
one_less width place low = omega (arith, low)

none_left : (width place : ℕ) → width ≤ place → width - place ≡ 0
none_left width place high = omega (arith, high)

pub field_more : (r : Record) (width place : ℕ) (text pushed all : List ℕ) → place < width → text ++ nexts_from r place (width - place) ≡ all → pushed ≡ text ++ next_text r place
    → pushed ++ nexts_from r (place + 1) (width - (place + 1)) ≡ all
field_more r width place text pushed all low before grows =
    ap (λ (t : List ℕ). t ++ nexts_from r (place + 1) (width - (place + 1))) grows
    ∙ append_assoc text (next_text r place) (nexts_from r (place + 1) (width - (place + 1)))
    ∙ ap (λ (more : ℕ). text ++ nexts_from r place more) (sym (one_less width place low)) ∙ before

pub fields_end : (r : Record) (width place : ℕ) (text all : List ℕ) → width ≤ place → text ++ nexts_from r place (width - place) ≡ all → text ≡ all
fields_end r width place text all high before = sym (append-nil text) ∙ ap (λ (more : ℕ). text ++ nexts_from r place more) (sym (none_left width place high)) ∙ before

-- ---- lines

module _ {A : Type 0} (f : A → Record) where
  at_end : (xs : List A) (k : ℕ) → length xs ≤ k → is_last (map f (drop k xs)) ≡ true
  at_end xs k high = ap (λ (l : List A). is_last (map f l)) (drop_whole xs k high)

  before_end : (xs : List A) (k : ℕ) → k < length xs → is_last (map f (drop k xs)) ≡ false
  before_end [] k low = absurd (omega (arith, low))
  before_end (x ∷ xs) zero low = refl
  before_end (x ∷ xs) (suc k) low = before_end xs k (omega (arith, low))

  last_is : (xs : List A) (k : ℕ) → k ≤ length xs → is_last (map f (drop k xs)) ≡ (k == length xs)
  last_is xs k low = by (k == length xs) refl
    where
      by : (b : Bool) → (k == length xs) ≡ b → is_last (map f (drop k xs)) ≡ (k == length xs)
      by true e = let same = eqb-true k (length xs) e in at_end xs k (omega (arith, same)) ∙ sym e
      by false e = let less : k < length xs = grind (arith, nat_tests, low, e) in before_end xs k less ∙ sym e

  -- a line more
  pub line_more : (quoted : Bool) (xs : List A) (k : ℕ) (x : A) (text pushed all : List ℕ) → k < length xs → x ≡ get_or xs k x → text ++ plain_lines quoted (map f (drop k xs)) ≡ all
      → pushed ≡ text ++ line_with (width_of (quoted && (k + 1 == length xs)) (f x)) (f x) → pushed ++ plain_lines quoted (map f (drop (k + 1) xs)) ≡ all
  line_more quoted xs k x text pushed all low is before grows =
      let rest = plain_lines quoted (map f (drop (k + 1) xs)) in
      let end = last_is xs (k + 1) (omega (arith, low)) in
      ap (λ (t : List ℕ). t ++ rest) grows
      ∙ append_assoc text (line_with (width_of (quoted && (k + 1 == length xs)) (f x)) (f x)) rest
      ∙ ap (λ (e : Bool). text ++ (line_with (width_of (quoted && e) (f x)) (f x) ++ rest)) (sym end)
      ∙ ap (λ (l : List A). text ++ plain_lines quoted (map f l)) (sym (drop_step xs k x low is)) ∙ before

  pub lines_end : (quoted : Bool) (xs : List A) (k : ℕ) (text all : List ℕ) → length xs ≤ k → text ++ plain_lines quoted (map f (drop k xs)) ≡ all → text ≡ all
  lines_end quoted xs k text all high before = sym (append-nil text) ∙ ap (λ (l : List A). text ++ plain_lines quoted (map f l)) (sym (drop_whole xs k high)) ∙ before

-- ---- the heading

pub heading_is : (left : List Record) (found : Bool) (r : Record) (after : Option (List Record)) (h : Heading) → GivesFirst left found r after → found ≡ true → h ≡ heading_of (r ∷ []) → h ≡ heading_of left
heading_is left found r after h gives is same =
    let first = first-found left found r after gives is in
    same ∙ ap heading_of (sym first.1)

pub no_heading : (left : List Record) (found : Bool) (r : Record) (after : Option (List Record)) → GivesFirst left found r after → found ≡ false → Other ≡ heading_of left
no_heading left found r after gives is = ap heading_of (sym (none-found left found r after gives is))

-- the lines behind it
pub behind_is : (quoted : Bool) (text header : List ℕ) (rows rs : List Record) → text ≡ header → rows ≡ drop 1 rs → text ++ plain_lines quoted rows ≡ header ++ plain_lines quoted (rows_behind rs)
behind_is quoted text header rows [] same is = rw (same, is) refl
behind_is quoted text header rows (r ∷ rs) same is = rw (same, is) refl
