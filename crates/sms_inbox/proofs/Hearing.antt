-- Records that are heard one after another.
use Rattle.std.proofs.Common.{◌≡◌, ℕ, Bool, true, false, List, [], ◌∷◌, ◌++◌, Some, None, refl, sym, ap, ◌∙◌, subst, append-nil, append_assoc, true≢false}
use Rattle.std.specs.Prelude.{◌&&◌, ◌||◌, not, cond, Option, unwrap_or, find, filter, if◌then◌else◌}
use Rattle.std.specs.List.{list_any}
use Rattle.std.specs.Option.{option_or}
use Rattle.std.proofs.lemmas.List.Elements.{filter-append}
use Rattle.std.proofs.lemmas.List.Folds.{find-append}
use Rattle.sms_inbox.specs.declared.ids.Ids.{Ids}
use Rattle.sms_inbox.specs.declared.record.Record.{Record}
use Rattle.sms_inbox.specs.Delivered.{HaveOctets, counting, found, has_final, hear, hear_all, heard, is_keyed, is_of, is_over, last_of}
use Rattle.sms_inbox.specs.DeliveredLaws.{FinalsStay, HeardIsOwn, NoneIsOfNone}
use Rattle.sms_inbox.specs.Escape.{AreOctets}
use Rattle.sms_inbox.specs.Ids.{answer_key, receipt_key}
use Rattle.sms_inbox.proofs.Keys.{keys_meet, meet}

-- ---- the record that counts

last_more : (own : List Record) (r : Record) → last_of (own ++ r ∷ []) ≡ Some r
last_more [] r = refl
last_more (x ∷ own) r = ap (λ (o : Option Record). Some (unwrap_or o x)) (last_more own r)

-- what is found passes
finds : (own : List Record) (r : Record) → find has_final own ≡ Some r → has_final r ≡ true
finds [] r e = absurd (cc)
finds (x ∷ own) r e = here (has_final x) refl e (finds own r)
  where
    here : (b : Bool) → has_final x ≡ b → cond b (Some x) (find has_final own) ≡ Some r → (find has_final own ≡ Some r → has_final r ≡ true) → has_final r ≡ true
    here true is e later = let same : x ≡ r = cc in subst (λ (y : Record). has_final y ≡ true) same is
    here false is e later = later e

-- and where nothing is found the last one doesn't
last_open : (own : List Record) → find has_final own ≡ None → is_over (last_of own) ≡ false
last_open [] e = refl
last_open (x ∷ own) e = here (has_final x) refl e (last_open own)
  where
    later : (o : Option Record) → has_final x ≡ false → is_over o ≡ false → is_over (Some (unwrap_or o x)) ≡ false
    later None is e = is
    later (Some y) is e = e

    here : (b : Bool) → has_final x ≡ b → cond b (Some x) (find has_final own) ≡ None → (find has_final own ≡ None → is_over (last_of own) ≡ false) → is_over (Some (unwrap_or (last_of own) x)) ≡ false
    here true is e open_before = absurd (cc)
    here false is e open_before = later (last_of own) is (open_before e)

counting_more : (own : List Record) (r : Record) → counting (own ++ r ∷ []) ≡ hear true (counting own) r
counting_more own r =
    ap (λ (o : Option Record). option_or o (last_of (own ++ r ∷ []))) (find-append has_final own (r ∷ [])) ∙ ap (option_or (option_or (find has_final own) (find has_final (r ∷ [])))) (last_more own r)
    ∙ here (find has_final own) refl
  where
    one : (b : Bool) → option_or (cond b (Some r) None) (Some r) ≡ Some r
    one true = refl
    one false = refl

    here : (o : Option Record) → find has_final own ≡ o → option_or (option_or o (find has_final (r ∷ []))) (Some r) ≡ hear true (option_or o (last_of own)) r
    here (Some x) e = sym (ap (λ (b : Bool). if not b then Some r else Some x) (finds own x e))
    here None e = one (has_final r) ∙ sym (ap (λ (b : Bool). if not b then Some r else last_of own) (last_open own e))

hears_from : (own : Record → Bool) (before rs : List Record) → hear_all own (counting before) rs ≡ counting (before ++ filter own rs)
hears_from own before [] = ap counting (sym (append-nil before))
hears_from own before (r ∷ rs) = here (own r) (hears_from own before rs) (hears_from own (before ++ r ∷ []) rs)
  where
    here : (b : Bool) → hear_all own (counting before) rs ≡ counting (before ++ filter own rs) → hear_all own (counting (before ++ r ∷ [])) rs ≡ counting ((before ++ r ∷ []) ++ filter own rs)
        → hear_all own (hear b (counting before) r) rs ≡ counting (before ++ cond b (r ∷ filter own rs) (filter own rs))
    here true same more = ap (λ (o : Option Record). hear_all own o rs) (sym (counting_more before r)) ∙ more ∙ ap counting (append_assoc before (r ∷ []) (filter own rs))
    here false same more = same

-- heard one after another, the record that counts is kept
pub hears : (own : Record → Bool) (rs : List Record) → hear_all own None rs ≡ counting (filter own rs)
hears own rs = hears_from own [] rs

-- ---- by keys

hears_alike : (own other : Record → Bool) (kept : Option Record) (rs : List Record) → ((r : Record) → AreOctets r.id → own r ≡ other r) → HaveOctets rs → hear_all own kept rs ≡ hear_all other kept rs
hears_alike own other kept [] same h = refl
hears_alike own other kept (r ∷ rs) same h = ap (λ (b : Bool). hear_all own (hear b kept r) rs) (same r h.0) ∙ hears_alike own other (hear (other r) kept r) rs same h.1

-- no record is heard where none is of the message
none_of : (kept : Option Record) (rs : List Record) → hear_all (λ r. false) kept rs ≡ kept
none_of kept [] = refl
none_of kept (r ∷ rs) = none_of kept rs

pub found_heard : (ids : Ids) (id : List ℕ) (rs : List Record) → AreOctets id → HaveOctets rs → found (answer_key ids id) (λ q. hear_all (λ r. is_keyed q (receipt_key ids r.id)) None rs) ≡ heard ids rs id
found_heard ids id rs low h = here (answer_key ids id) (λ r o. keys_meet ids id r.id low o) ∙ hears (is_of ids id) rs
  where
    here : (key : Option (List ℕ)) → ((r : Record) → AreOctets r.id → meet key (receipt_key ids r.id) ≡ is_of ids id r) → found key (λ q. hear_all (λ r. is_keyed q (receipt_key ids r.id)) None rs) ≡ hear_all (is_of ids id) None rs
    here None same = sym (none_of None rs) ∙ hears_alike (λ r. false) (is_of ids id) None rs same h
    here (Some key) same = hears_alike (λ r. is_keyed key (receipt_key ids r.id)) (is_of ids id) None rs same h

found_alike : (key : Option (List ℕ)) (kept other : List ℕ → Option Record) → ((q : List ℕ) → kept q ≡ other q) → found key kept ≡ found key other
found_alike None kept other same = refl
found_alike (Some key) kept other same = same key

-- what is kept at the key of an id is what was heard of its message
pub found_kept : (ids : Ids) (id : List ℕ) (rs : List Record) (kept : List ℕ → Option Record) (r : Option Record) → ((q : List ℕ) → kept q ≡ hear_all (λ r. is_keyed q (receipt_key ids r.id)) None rs) → HaveOctets rs
    → AreOctets id → r ≡ found (answer_key ids id) kept → r ≡ heard ids rs id
found_kept ids id rs kept r same h low is = is ∙ found_alike (answer_key ids id) kept (λ q. hear_all (λ r. is_keyed q (receipt_key ids r.id)) None rs) same ∙ found_heard ids id rs low h

-- ---- laws

final_stays : (own : Record → Bool) (r : Record) (rs : List Record) → has_final r ≡ true → hear_all own (Some r) rs ≡ Some r
final_stays own r [] e = refl
final_stays own r (x ∷ rs) e = ap (λ (o : Option Record). hear_all own o rs) (here (own x)) ∙ final_stays own r rs e
  where
    here : (b : Bool) → hear b (Some r) x ≡ Some r
    here true = ap (λ (b : Bool). if not b then Some x else Some r) e
    here false = refl

pub finals_stay : FinalsStay
finals_stay ids rs more id r e final =
    ap counting (filter-append (is_of ids id) rs more) ∙ sym (hears_from (is_of ids id) (filter (is_of ids id) rs) more) ∙ ap (λ (o : Option Record). hear_all (is_of ids id) o more) e ∙ final_stays (is_of ids id) r more final

heard_from : (own : Record → Bool) (kept : Option Record) (rs : List Record) (r : Record) → ((x : Record) → kept ≡ Some x → own x ≡ true) → hear_all own kept rs ≡ Some r → own r ≡ true
heard_from own kept [] r h e = h r e
heard_from own kept (x ∷ rs) r h e = heard_from own (hear (own x) kept x) rs r (here (own x) (is_over kept) refl) e
  where
    here : (b over : Bool) → own x ≡ b → (y : Record) → (if b && not over then Some x else kept) ≡ Some y → own y ≡ true
    here true true is y e = h y e
    here true false is y e = let same : x ≡ y = cc in subst (λ (z : Record). own z ≡ true) same is
    here false over is y e = h y e

pub heard_own : HeardIsOwn
heard_own ids rs id r e = heard_from (is_of ids id) None rs r (λ x bad. absurd (cc)) (hears (is_of ids id) rs ∙ e)

-- of some records one counts
some_counts : (x : Record) (own : List Record) → counting (x ∷ own) ≡ None → ⊥
some_counts x own e = here (find has_final (x ∷ own)) e
  where
    here : (o : Option Record) → option_or o (Some (unwrap_or (last_of own) x)) ≡ None → ⊥
    here None e = absurd (cc)
    here (Some y) e = absurd (cc)

none_any : (own : Record → Bool) (rs : List Record) → counting (filter own rs) ≡ None → list_any own rs ≡ false
none_any own [] e = refl
none_any own (x ∷ rs) e = here (own x) e (none_any own rs)
  where
    here : (b : Bool) → counting (cond b (x ∷ filter own rs) (filter own rs)) ≡ None → (counting (filter own rs) ≡ None → list_any own rs ≡ false) → (b || list_any own rs) ≡ false
    here true e later = absurd (some_counts x (filter own rs) e)
    here false e later = later e

any_none : (own : Record → Bool) (rs : List Record) → list_any own rs ≡ false → counting (filter own rs) ≡ None
any_none own [] e = refl
any_none own (x ∷ rs) e = here (own x) e (any_none own rs)
  where
    here : (b : Bool) → (b || list_any own rs) ≡ false → (list_any own rs ≡ false → counting (filter own rs) ≡ None) → counting (cond b (x ∷ filter own rs) (filter own rs)) ≡ None
    here true e later = absurd (true≢false e)
    here false e later = later e

pub none_of_none : NoneIsOfNone
none_of_none ids rs id = (none_any (is_of ids id) rs, any_none (is_of ids id) rs)
