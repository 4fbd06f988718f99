-- Lines and where they end.
use Rattle.std.proofs.Common.{◌≡◌, ℕ, zero, suc, ◌+◌, ◌<◌, ◌≤◌, Bool, true, false, List, [], ◌∷◌, ◌++◌, length, take, drop, ◌-◌, length-drop, refl, sym, ap, ◌∙◌, subst, arith, append_assoc}
use Rattle.std.specs.Prelude.{◌==◌, unwrap_or, if◌then◌else◌, decimal}
use Rattle.std.proofs.lemmas.Bool.{eqb-true}
use Rattle.std.proofs.lemmas.Bool.Decides.{nat_tests}
use Rattle.std.proofs.lemmas.List.{take-append-drop}
use Rattle.memchr.specs.Find.{NoneBefore, Nowhere, Passes, is_byte}
use Rattle.sms_ledger.specs.declared.entry.Entry.{Entry}
use Rattle.sms_ledger.specs.declared.entry.Entry.TheVariants.{Paid, Taken, Returned, Decided}
use Rattle.sms_ledger.specs.Lines.{BeginsWith, HasNoFeed, IsEntry, IsOneLine, IsU64, feed_at}
use Rattle.sms_ledger.specs.Reading.{is_end}
use Rattle.sms_ledger.specs.Text.{entry_text, fate_word}
use Rattle.sms_ledger.proofs.Fields.{line_is, no_end_fate, no_end_number, no_end_reference, no_end_word, rest_of, u8_low, word_of}
use Rattle.sms_ledger.proofs.NameFields.{HasNoEnd, no_end_name, no_end_run}

-- ---- the first line of a text

pub first_feed : (text : List ℕ) (k : ℕ) → NoneBefore (Passes (is_byte 10) text) 0 (length text) k → Passes (is_byte 10) text k → k ≡ feed_at text
first_feed [] k n p = absurd (omega (arith, n.high))
first_feed (c ∷ cs) zero n p = sym (ap (λ (b : Bool). if b then 0 else suc (feed_at cs)) p)
first_feed (c ∷ cs) (suc j) n p =
    here (c == 10) refl (first_feed cs j (record { low = omega arith; high = omega (arith, n.high); before = λ i low high there. n.before (suc i) (omega arith) (omega (arith, high)) there }) p)
  where
    here : (b : Bool) → (c == 10) ≡ b → j ≡ feed_at cs → suc j ≡ (if b then 0 else suc (feed_at cs))
    here true is later = absurd (n.before 0 (omega arith) (omega arith) is)
    here false is later = ap suc later

pub no_feed_there : (text : List ℕ) → Nowhere (Passes (is_byte 10) text) 0 (length text) → length text ≡ feed_at text
no_feed_there [] n = refl
no_feed_there (c ∷ cs) n = here (c == 10) refl (no_feed_there cs (λ i low high there. n (suc i) (omega arith) (omega (arith, high)) there))
  where
    here : (b : Bool) → (c == 10) ≡ b → length cs ≡ feed_at cs → suc (length cs) ≡ (if b then 0 else suc (feed_at cs))
    here true is later = absurd (n 0 (omega arith) (omega arith) is)
    here false is later = ap suc later

none_past : (text : List ℕ) → length text ≤ feed_at text → HasNoFeed text
none_past [] h = tt
none_past (c ∷ cs) h = here (c == 10) refl h (none_past cs)
  where
    here : (b : Bool) → (c == 10) ≡ b → suc (length cs) ≤ (if b then 0 else suc (feed_at cs)) → (length cs ≤ feed_at cs → HasNoFeed cs) → HasNoFeed (c ∷ cs)
    here true is h later = absurd (omega (arith, h))
    here false is h later = (is, later (omega (arith, h)))

pub no_feed : (text : List ℕ) (at : ℕ) → at ≡ feed_at text → length text ≤ at → HasNoFeed text
no_feed text at is h = none_past text (omega (arith, is, h))

one_line : (text : List ℕ) → feed_at text < length text → IsOneLine (take (suc (feed_at text)) text)
one_line [] h = absurd (omega (arith, h))
one_line (c ∷ cs) h = here (c == 10) refl h (one_line cs)
  where
    here : (b : Bool) → (c == 10) ≡ b → (if b then 0 else suc (feed_at cs)) < suc (length cs) → (feed_at cs < length cs → IsOneLine (take (suc (feed_at cs)) cs)) → IsOneLine (take (suc (if b then 0 else suc (feed_at cs))) (c ∷ cs))
    here true is h later = record { body = []; is = ap (λ (x : ℕ). x ∷ []) (eqb-true c 10 is); none = tt }
    here false is h later = let l = later (omega (arith, h)) in record { body = c ∷ l.body; is = ap (λ (x : List ℕ). c ∷ x) l.is; none = (is, l.none) }

pub begins : (text : List ℕ) (at : ℕ) → at ≡ feed_at text → at < length text → BeginsWith (take (at + 1) text) (drop (at + 1) text) text
begins text at is h = record {
  is = sym (take-append-drop (at + 1) text);
  one = let e : suc (feed_at text) ≡ at + 1 = omega (arith, is) in subst (λ (n : ℕ). IsOneLine (take n text)) e (one_line text (omega (arith, is, h)));
}

take_whole : (xs : List ℕ) (i : ℕ) → length xs ≤ i → take i xs ≡ xs
take_whole [] zero low = refl
take_whole [] (suc i) low = refl
take_whole (x ∷ xs) zero low = absurd (omega arith)
take_whole (x ∷ xs) (suc i) low = ap (λ l. x ∷ l) (take_whole xs i (omega arith))

pub all_behind : (text : List ℕ) (k : ℕ) → take (length text - k) (drop k text) ≡ drop k text
all_behind text k = take_whole (drop k text) (length text - k) (omega (arith, length-drop k text))

-- ---- the line of an entry

no_feed_append : (a b : List ℕ) → HasNoFeed a → HasNoFeed b → HasNoFeed (a ++ b)
no_feed_append [] b ha hb = hb
no_feed_append (x ∷ a) b ha hb = (ha.0, no_feed_append a b ha.1 hb)

field_feed : (f : List ℕ) → HasNoEnd f → HasNoFeed f
field_feed [] h = tt
field_feed (c ∷ cs) h = (none c h.0, field_feed cs h.1)
  where
    none : (c : ℕ) → is_end c ≡ false → (c == 10) ≡ false
    none c e = grind (arith, nat_tests)

last : IsOneLine (10 ∷ [])
last = record { body = []; is = refl; none = tt }

behind_field : (f rest : List ℕ) → HasNoEnd f → IsOneLine rest → IsOneLine (f ++ rest)
behind_field f rest h l = record { body = f ++ l.body; is = ap (λ (x : List ℕ). f ++ x) l.is ∙ sym (append_assoc f l.body (10 ∷ [])); none = no_feed_append f l.body (field_feed f h) l.none }

behind_comma : (rest : List ℕ) → IsOneLine rest → IsOneLine (44 ∷ rest)
behind_comma rest l = record { body = 44 ∷ l.body; is = ap (λ (x : List ℕ). 44 ∷ x) l.is; none = (refl, l.none) }

fielded : (f rest : List ℕ) → HasNoEnd f → IsOneLine rest → IsOneLine (f ++ 44 ∷ rest)
fielded f rest h l = behind_field f (44 ∷ rest) h (behind_comma rest l)

ended : (f : List ℕ) → HasNoEnd f → IsOneLine (f ++ 10 ∷ [])
ended f h = behind_field f (10 ∷ []) h last

rest_line : (e : Entry) → IsEntry e → IsOneLine (rest_of e)
unfolding rest_of
rest_line (Paid p) h = fielded p.account _ (no_end_name p.account h.0) (fielded (decimal p.credits) _ (no_end_number p.credits h.1) (ended (unwrap_or p.reference []) (no_end_reference p.reference h.2)))
rest_line (Taken t) h = fielded t.of.run _ (no_end_run t.of.run h.0.0) (fielded t.of.account _ (no_end_name t.of.account h.0.1) (ended (decimal t.credits) (no_end_number t.credits h.1)))
rest_line (Returned t) h =
    fielded t.of.run _ (no_end_run t.of.run h.0.0)
    (fielded t.of.account _ (no_end_name t.of.account h.0.1) (fielded (decimal t.free) _ (no_end_number t.free h.1) (fielded (decimal t.doubt) _ (no_end_number t.doubt h.2) (ended (decimal t.spent) (no_end_number t.spent h.3)))))
rest_line (Decided t) h =
    fielded t.of.run _ (no_end_run t.of.run h.0.0)
    (fielded (decimal t.message) _ (no_end_number t.message h.1)
    (fielded (decimal t.part) _ (no_end_number t.part (u8_low t.part h.2))
    (fielded t.of.account _ (no_end_name t.of.account h.0.1) (fielded (decimal t.cost) _ (no_end_number t.cost h.3) (ended (fate_word t.fate) (no_end_fate t.fate))))))

pub entry_line : (time : ℕ) (e : Entry) → IsU64 time → IsEntry e → IsOneLine (entry_text time e)
entry_line time e low h = subst IsOneLine (sym (line_is time e)) (fielded (word_of e) _ (no_end_word e) (fielded (decimal time) _ (no_end_number time low) (rest_line e h)))
