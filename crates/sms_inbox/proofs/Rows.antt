-- Rows that are written one after another, and a record that is heard.
use Rattle.std.proofs.Common.{◌≡◌, ℕ, ◌+◌, ◌<◌, Bool, true, false, List, ◌∷◌, ◌++◌, length, drop, get_or, Some, refl, sym, ap, ◌∙◌, subst, append_assoc, add-one, Bor}
use Rattle.std.specs.Prelude.{not, cond, Option, flat_map, if◌then◌else◌}
use Rattle.std.specs.Option.{option_copied}
use Rattle.std.specs.Str.{bytes_eq}
use Rattle.std.proofs.Math.Seq.{drop-cons}
use Rattle.std.proofs.lemmas.List.Concat.{flat_map-cons}
use Rattle.std.proofs.lemmas.Slice.Eq.{bytes_eq-Decides}
use Rattle.sms_inbox.specs.declared.delivered.ChargedPart.{ChargedPart}
use Rattle.sms_inbox.specs.declared.ids.Ids.{Ids}
use Rattle.sms_inbox.specs.declared.record.Record.{Record}
use Rattle.sms_inbox.specs.Delivered.{hear, heard, is_keyed, is_over, row_of, row_text}

pub copied_cond : (b : Bool) (x y : Option (Bor Record)) → option_copied (cond b x y) ≡ cond b (option_copied x) (option_copied y)
copied_cond true x y = refl
copied_cond false x y = refl

-- a record that is put at its key is heard, where the one there isn't final
pub heard_put : (k q : List ℕ) (kept : List ℕ → Option Record) (new : Option Record) (r : Record) (key : Option (List ℕ)) → key ≡ Some k → is_over (kept k) ≡ false → new ≡ cond (bytes_eq k q) (Some r) (kept q)
    → new ≡ hear (is_keyed q key) (kept q) r
heard_put k q kept new r key ek over is = is ∙ here (bytes_eq k q) refl ∙ sym (ap (λ (o : Option (List ℕ)). hear (is_keyed q o) (kept q) r) ek)
  where
    here : (b : Bool) → bytes_eq k q ≡ b → cond b (Some r) (kept q) ≡ hear b (kept q) r
    here true e =
        let same : k ≡ q = (bytes_eq-Decides k q).0 e in
        let over_there : is_over (kept q) ≡ false = subst (λ (x : List ℕ). is_over (kept x) ≡ false) same over in
        sym (ap (λ (o : Bool). if not o then Some r else kept q) over_there)
    here false e = refl

-- a row more
pub row_more : (time_text : ℕ → List ℕ) (ids : Ids) (rs : List Record) (parts : List ChargedPart) (p : ChargedPart) (i : ℕ) (old new whole : List ℕ) (r : Option Record)
    → i < length parts → p ≡ get_or parts i p → r ≡ heard ids rs p.id → new ≡ old ++ row_text time_text r p → old ++ flat_map (row_of time_text ids rs) (drop i parts) ≡ whole
    → new ++ flat_map (row_of time_text ids rs) (drop (i + 1) parts) ≡ whole
row_more time_text ids rs parts p i old new whole r h item is row so =
    let rest = drop (i + 1) parts in
    let f = row_of time_text ids rs in
    let cut : drop i parts ≡ get_or parts i p ∷ drop (i + 1) parts = rw (add-one, drop-cons parts i p) refl in
    let all : drop i parts ≡ p ∷ rest = cut ∙ ap (λ (x : ChargedPart). x ∷ rest) (sym item) in
    ap (λ (l : List ℕ). l ++ flat_map f rest) row ∙ append_assoc old (row_text time_text r p) (flat_map f rest) ∙ ap (λ (o : Option Record). old ++ (row_text time_text o p ++ flat_map f rest)) is
    ∙ ap (λ (l : List ℕ). old ++ l) (sym (flat_map-cons f p rest)) ∙ ap (λ (l : List ChargedPart). old ++ flat_map f l) (sym all) ∙ so
