-- Where the front of a text ends, and that the full cutting begins with it.
use Rattle.std.proofs.Common.{◌≡◌, ℕ, ◌+◌, ◌-◌, ◌<◌, ◌≤◌, true, false, not, ◌&&◌, List, [], ◌∷◌, ◌++◌, length, take, drop, get_or, sym, subst, ◌∙◌, ap, inl, inr, arith}
use Rattle.std.proofs.lemmas.Bool.{cases_lt, and_parts, and_from, not-true}
use Rattle.std.proofs.lemmas.List.{append-nil, take-append-drop, drop_more, take_more, length-take-le, take_all, drop_all}
use Rattle.sms_alphabet.specs.declared.coded.Coding.{Coding}
use Rattle.sms_segment.specs.Group.{opens, closes, groups}
use Rattle.sms_segment.specs.Front.{is_open, IsFront}
use Rattle.sms_segment.specs.Cutting.{first_group, size, full_cutting}
use Rattle.sms_segment.proofs.Filling.{Group, filled-breaks}
use Rattle.sms_segment.proofs.Least.{full_cutting-append}
use Rattle.sms_segment.proofs.Grouping.{concat-groups, groups-pair, groups-append, is_open-push, some-first_group}

-- groups that leave no room for the next one are the first part
pub full_cutting-first : (limit : ℕ) (gs hs : List Group) → 0 < size gs → size gs ≤ limit → (0 < length hs → limit < size gs + length (first_group hs)) → full_cutting limit (gs ++ hs) ≡ gs ∷ full_cutting limit hs
full_cutting-first limit [] hs some within full = absurd (omega arith)
full_cutting-first limit (g ∷ gs) [] some within full = full_cutting-append limit g gs [] within
full_cutting-first limit (g ∷ gs) (h ∷ hs) some within full =
    full_cutting-append limit g gs (h ∷ hs) within ∙ filled-breaks limit (g ∷ gs) h hs (full (omega arith))

module _ (coding : Coding) (limit : ℕ) (units : List ℕ) where
  size-front : (count : ℕ) → count ≤ length units → size (groups coding (take count units)) ≡ count
  size-front count inside = ap length (concat-groups coding (take count units)) ∙ length-take-le count units inside

  -- what follows the front is none, or begins with a group that has no room
  front_is_full : (count : ℕ) → IsFront coding limit units count → 0 < length (groups coding (drop count units)) → limit < count + length (first_group (groups coding (drop count units)))
  front_is_full count front more =
      elim (cases_lt count (length units)) [
        | inl before ↦ front.full before
        | inr at_end ↦
            let none : drop count units ≡ [] = drop_all count units at_end in
            absurd (omega (arith, ap (λ l. length (groups coding l)) none))
      ]

  pub full_cutting-front : (count : ℕ) → 0 < length units → IsFront coding limit units count → full_cutting limit (groups coding units) ≡ groups coding (take count units) ∷ full_cutting limit (groups coding (drop count units))
  full_cutting-front count some front =
      let same : size (groups coding (take count units)) ≡ count = size-front count front.in_text in
      ap (full_cutting limit) front.whole
      ∙ full_cutting-first limit (groups coding (take count units)) (groups coding (drop count units)) (omega (arith, same, front.some some)) (omega (arith, same, front.within)) (λ more. omega (arith, same, front_is_full count front more))

  -- the text has room as a whole
  pub front_all : length units ≤ limit → IsFront coding limit units (length units)
  front_all small = record {
    in_text = omega arith;
    within = small;
    some = λ some. some;
    whole = rw (take_all (length units) units (omega arith), drop_all (length units) units (omega arith)) (sym (append-nil (groups coding units)));
    full = λ less. absurd (omega arith);
  }

  -- the text can be cut at a place where no pair is open
  cut_at : (count : ℕ) → count < length units → (is_open coding (take count units) && closes coding (get_or units count 0)) ≡ false → groups coding units ≡ groups coding (take count units) ++ groups coding (drop count units)
  cut_at count inside closed =
      let next : drop count units ≡ get_or units count 0 ∷ drop (count + 1) units = drop_more units count 0 inside in
      ap (groups coding) (sym (take-append-drop count units) ∙ ap (λ l. take count units ++ l) next)
      ∙ groups-append coding (take count units) (get_or units count 0) (drop (count + 1) units) closed
      ∙ ap (λ l. groups coding (take count units) ++ groups coding l) (sym next)

  -- as many units as there may be, where that parts no pair
  pub front_at : 0 < limit → limit < length units → (is_open coding (take limit units) && closes coding (get_or units limit 0)) ≡ false → IsFront coding limit units limit
  front_at positive inside closed = record {
    in_text = omega arith;
    within = omega arith;
    some = λ some. positive;
    whole = cut_at limit inside closed;
    full = λ less.
        let next : drop limit units ≡ get_or units limit 0 ∷ drop (limit + 1) units = drop_more units limit 0 inside in
        rw next (omega (arith, some-first_group coding (get_or units limit 0) (drop (limit + 1) units)));
  }

-- and one unit less, where a pair would be parted
pub front_before : (coding : Coding) (before : ℕ) (units : List ℕ) → 0 < before → before + 1 < length units → (is_open coding (take (before + 1) units) && closes coding (get_or units (before + 1) 0)) ≡ true → IsFront coding (before + 1) units before
front_before coding before units positive inside parted =
    let first : ℕ = get_or units before 0 in
    let second : ℕ = get_or units (before + 1) 0 in
    let both : (is_open coding (take (before + 1) units) ≡ true) × (closes coding second ≡ true) = and_parts _ _ parted in
    let pushed : is_open coding (take (before + 1) units) ≡ (not (is_open coding (take before units) && closes coding first) && opens coding first) =
    ap (is_open coding) (take_more units before 0 (omega arith)) ∙ is_open-push coding (take before units) first in
    let opened : (not (is_open coding (take before units) && closes coding first) ≡ true) × (opens coding first ≡ true) = and_parts _ _ (sym pushed ∙ both.0) in
    let rest : drop before units ≡ first ∷ drop (before + 1) units = drop_more units before 0 (omega arith) in
    let rest_2 : drop (before + 1) units ≡ second ∷ drop (before + 1 + 1) units = drop_more units (before + 1) 0 inside in
    let pair : groups coding (drop before units) ≡ (first ∷ (second ∷ [])) ∷ groups coding (drop (before + 1 + 1) units) =
    ap (groups coding) (rest ∙ ap (λ l. first ∷ l) rest_2) ∙ groups-pair coding first second (drop (before + 1 + 1) units) (and_from _ _ opened.1 both.1) in
    record {
      in_text = omega arith;
      within = omega arith;
      some = λ some. positive;
      whole = cut_at coding (before + 1) units before (omega arith) (not-true _ opened.0);
      full = λ less. rw pair (omega arith);
    }

pub front_before_limit : (coding : Coding) (limit : ℕ) (units : List ℕ) → 2 ≤ limit → limit < length units → (is_open coding (take limit units) && closes coding (get_or units limit 0)) ≡ true → IsFront coding limit units (limit - 1)
front_before_limit coding limit units two inside parted =
    let same : limit - 1 + 1 ≡ limit = omega arith in
    subst (λ (n : ℕ). IsFront coding n units (limit - 1)) same
    (front_before coding (limit - 1) units (omega arith) (omega arith) (ap (λ n. is_open coding (take n units) && closes coding (get_or units n 0)) same ∙ parted))
