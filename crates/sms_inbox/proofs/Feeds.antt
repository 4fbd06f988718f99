-- Lines and where they end.
use Rattle.std.proofs.Common.{◌≡◌, ℕ, zero, suc, ◌+◌, ◌<◌, ◌≤◌, Bool, true, false, List, [], ◌∷◌, ◌++◌, length, take, drop, ◌-◌, length-drop, refl, sym, ap, ◌∙◌, subst, arith, rules, append_assoc}
use Rattle.std.specs.Prelude.{◌==◌, if◌then◌else◌, decimal, codes}
use Rattle.std.proofs.lemmas.Bool.{eqb-true}
use Rattle.std.proofs.lemmas.Bool.Decides.{nat_tests}
use Rattle.std.proofs.lemmas.List.{take-append-drop}
use Rattle.sms_inbox.specs.declared.record.Record.{Record}
use Rattle.sms_inbox.specs.Escape.{octets_text}
use Rattle.sms_inbox.specs.Fields.{is_end}
use Rattle.sms_inbox.specs.Lines.{BeginsWith, HasNoFeed, IsOneLine, feed_at}
use Rattle.sms_inbox.specs.Record.{IsRecord, record_text}
use Rattle.sms_inbox.proofs.Cuts.{HasNoEnd, head_rest, line_is, no_end_number, no_end_octets, said_rest, u8_low}

-- ---- the first line of a text

none_past : (text : List ℕ) → length text ≤ feed_at text → HasNoFeed text
none_past [] h = tt
none_past (c ∷ cs) h = here (c == 10) refl h (none_past cs)
  where
    here : (b : Bool) → (c == 10) ≡ b → suc (length cs) ≤ (if b then 0 else suc (feed_at cs)) → (length cs ≤ feed_at cs → HasNoFeed cs) → HasNoFeed (c ∷ cs)
    here true is h later = absurd (omega (arith, h))
    here false is h later = (is, later (omega (arith, h)))

pub no_feed : (text : List ℕ) (at : ℕ) → at ≡ feed_at text → length text ≤ at → HasNoFeed text
no_feed text at is h = none_past text (omega (arith, is, h))

one_line : (text : List ℕ) → feed_at text < length text → IsOneLine (take (suc (feed_at text)) text)
one_line [] h = absurd (omega (arith, h))
one_line (c ∷ cs) h = here (c == 10) refl h (one_line cs)
  where
    here : (b : Bool) → (c == 10) ≡ b → (if b then 0 else suc (feed_at cs)) < suc (length cs) → (feed_at cs < length cs → IsOneLine (take (suc (feed_at cs)) cs)) → IsOneLine (take (suc (if b then 0 else suc (feed_at cs))) (c ∷ cs))
    here true is h later = record { body = []; is = ap (λ (x : ℕ). x ∷ []) (eqb-true c 10 is); none = tt }
    here false is h later = let l = later (omega (arith, h)) in record { body = c ∷ l.body; is = ap (λ (x : List ℕ). c ∷ x) l.is; none = (is, l.none) }

pub begins : (text : List ℕ) (at : ℕ) → at ≡ feed_at text → at < length text → BeginsWith (take (at + 1) text) (drop (at + 1) text) text
begins text at is h = record {
  is = sym (take-append-drop (at + 1) text);
  one = let e : suc (feed_at text) ≡ at + 1 = omega (arith, is) in subst (λ (n : ℕ). IsOneLine (take n text)) e (one_line text (omega (arith, is, h)));
}

take_whole : (xs : List ℕ) (i : ℕ) → length xs ≤ i → take i xs ≡ xs
take_whole [] zero low = refl
take_whole [] (suc i) low = refl
take_whole (x ∷ xs) zero low = absurd (omega arith)
take_whole (x ∷ xs) (suc i) low = ap (λ l. x ∷ l) (take_whole xs i (omega arith))

pub all_behind : (text : List ℕ) (k : ℕ) → take (length text - k) (drop k text) ≡ drop k text
all_behind text k = take_whole (drop k text) (length text - k) (omega (arith, length-drop k text))

-- ---- the line of a record

no_feed_append : (a b : List ℕ) → HasNoFeed a → HasNoFeed b → HasNoFeed (a ++ b)
no_feed_append [] b ha hb = hb
no_feed_append (x ∷ a) b ha hb = (ha.0, no_feed_append a b ha.1 hb)

field_feed : (f : List ℕ) → HasNoEnd f → HasNoFeed f
field_feed [] h = tt
field_feed (c ∷ cs) h = (none c h.0, field_feed cs h.1)
  where
    none : (c : ℕ) → is_end c ≡ false → (c == 10) ≡ false
    none c e = grind (arith, nat_tests)

last : IsOneLine (10 ∷ [])
last = record { body = []; is = refl; none = tt }

behind_field : (f rest : List ℕ) → HasNoEnd f → IsOneLine rest → IsOneLine (f ++ rest)
behind_field f rest h l = record { body = f ++ l.body; is = ap (λ (x : List ℕ). f ++ x) l.is ∙ sym (append_assoc f l.body (10 ∷ [])); none = no_feed_append f l.body (field_feed f h) l.none }

behind_comma : (rest : List ℕ) → IsOneLine rest → IsOneLine (44 ∷ rest)
behind_comma rest l = record { body = 44 ∷ l.body; is = ap (λ (x : List ℕ). 44 ∷ x) l.is; none = (refl, l.none) }

fielded : (f rest : List ℕ) → HasNoEnd f → IsOneLine rest → IsOneLine (f ++ 44 ∷ rest)
fielded f rest h l = behind_field f (44 ∷ rest) h (behind_comma rest l)

ended : (f : List ℕ) → HasNoEnd f → IsOneLine (f ++ 10 ∷ [])
ended f h = behind_field f (10 ∷ []) h last

said_line : (r : Record) → IsRecord r → IsOneLine (said_rest r)
unfolding said_rest
said_line r h = fielded (octets_text r.id) _ (no_end_octets r.id h.id) (fielded (octets_text r.state) _ (no_end_octets r.state h.state) (fielded (octets_text r.error) _ (no_end_octets r.error h.error) (ended (octets_text r.text) (no_end_octets r.text h.text))))

head_line : (r : Record) → IsRecord r → IsOneLine (head_rest r)
unfolding head_rest
head_line r h =
    fielded (decimal r.time) _ (no_end_number r.time h.time)
    (fielded (decimal r.bind) _ (no_end_number r.bind (u8_low r.bind h.bind))
    (fielded (octets_text r.source) _ (no_end_octets r.source h.source)
    (fielded (octets_text r.destination) _ (no_end_octets r.destination h.destination) (fielded (decimal r.esm_class) _ (no_end_number r.esm_class (u8_low r.esm_class h.esm_class)) (said_line r h)))))

pub record_line : (r : Record) → IsRecord r → IsOneLine (record_text r)
record_line r h = subst IsOneLine (sym (line_is r)) (fielded (codes "received") _ (search rules) (head_line r h))
