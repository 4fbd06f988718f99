-- The records that were read, and those that are left.
use Rattle.std.proofs.Common.{◌≡◌, ◌∙◌, sym, refl, ap, Bool, true, false, List, [], ◌∷◌, ◌++◌, map, append_assoc, Option, Some, IfSome}
use Rattle.std.proofs.lemmas.List.{append-nil}
use Rattle.sms_files.specs.Fields.{Record}
use Rattle.sms_files.specs.Records.{GivesFirst}
use Rattle.sms_files.proofs.Runs.{at_known, next-found, none-found}

-- those that were read say these fields, and the others are left
pub record HasRead {A : Type 0} (f : A → Record) (left : List Record) (items : List A) (now : Option (List Record)) : Type 0 where
  pub rest : List Record
  pub known : now ≡ Some rest
  pub whole : left ≡ map f items ++ rest

map_append : {A : Type 0} (f : A → Record) (xs ys : List A) → map f (xs ++ ys) ≡ map f xs ++ map f ys
map_append f [] ys = refl
map_append f (x ∷ xs) ys = ap (λ (l : List Record). f x ∷ l) (map_append f xs ys)

pub one-more : {A : Type 0} (f : A → Record) (left : List Record) (items pushed : List A) (x : A) (now after : Option (List Record)) (found : Bool) → HasRead f left items now
    → IfSome now (λ rs. GivesFirst rs found (f x) after) → found ≡ true → pushed ≡ items ++ x ∷ [] → HasRead f left pushed after
one-more f left items pushed x now after found h first is push =
    let next = next-found now h.rest found (f x) after h.known first is in
    record {
      rest = next.0;
      known = next.2;
      whole = h.whole ∙ ap (λ (l : List Record). map f items ++ l) next.1 ∙ sym (append_assoc (map f items) (f x ∷ []) next.0)
          ∙ ap (λ (l : List Record). l ++ next.0) (sym (ap (map f) push ∙ map_append f items (x ∷ [])));
    }

pub no-more : {A : Type 0} (f : A → Record) (left : List Record) (items : List A) (now after : Option (List Record)) (found : Bool) (r : Record) → HasRead f left items now
    → IfSome now (λ rs. GivesFirst rs found r after) → found ≡ false → map f items ≡ left
no-more f left items now after found r h first is =
    let none = none-found h.rest found r after (at_known now (λ rs. GivesFirst rs found r after) h.rest first h.known) is in
    sym (h.whole ∙ ap (λ (l : List Record). map f items ++ l) none ∙ append-nil (map f items))
