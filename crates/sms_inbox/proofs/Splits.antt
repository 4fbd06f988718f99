-- The first word of a text, and the key that it begins with.
use Rattle.std.proofs.Common.{◌≡◌, ℕ, suc, ◌+◌, ◌<◌, ◌≤◌, Bool, true, false, List, [], ◌∷◌, length, take, drop, refl, sym, ap, ◌∙◌, subst, arith}
use Rattle.std.specs.Prelude.{◌==◌, ◌&&◌, Option, Some, None, codes, if◌then◌else◌}
use Rattle.std.specs.Option.{option_copied, unwrap_or}
use Rattle.std.specs.Char.{to_ascii_lowercase}
use Rattle.sms_inbox.specs.declared.words.Found.{Found}
use Rattle.sms_inbox.specs.Words.{HasSeen, before_text, begins, blank_at, field_of, is_blank, or_word, put, said, words}

pub one_word : (text : List ℕ) → length text ≤ blank_at text → words text ≡ text ∷ []
one_word [] h = refl
one_word (c ∷ cs) h = here (is_blank c) h (one_word cs)
  where
    here : (b : Bool) → suc (length cs) ≤ (if b then 0 else suc (blank_at cs)) → (length cs ≤ blank_at cs → words cs ≡ cs ∷ []) → (if b then [] ∷ words cs else put c (words cs)) ≡ (c ∷ cs) ∷ []
    here true h later = absurd (omega (arith, h))
    here false h later = ap (put c) (later (omega (arith, h)))

pub first_word : (text : List ℕ) → blank_at text < length text → words text ≡ take (blank_at text) text ∷ words (drop (suc (blank_at text)) text)
first_word [] h = absurd (omega (arith, h))
first_word (c ∷ cs) h = here (is_blank c) h (first_word cs)
  where
    here : (b : Bool) → (if b then 0 else suc (blank_at cs)) < suc (length cs) → (blank_at cs < length cs → words cs ≡ take (blank_at cs) cs ∷ words (drop (suc (blank_at cs)) cs))
        → (if b then [] ∷ words cs else put c (words cs)) ≡ take (if b then 0 else suc (blank_at cs)) (c ∷ cs) ∷ words (drop (suc (if b then 0 else suc (blank_at cs))) (c ∷ cs))
    here true h later = refl
    here false h later = ap (put c) (later (omega (arith, h)))

pub cut_at : (text : List ℕ) (at : ℕ) → at ≡ blank_at text → at < length text → words text ≡ take at text ∷ words (drop (at + 1) text)
cut_at text at is low =
    let e : suc (blank_at text) ≡ at + 1 = omega (arith, is) in
    first_word text (omega (arith, is, low)) ∙ ap (λ (n : ℕ). take n text ∷ words (drop (suc (blank_at text)) text)) (sym is) ∙ ap (λ (n : ℕ). take at text ∷ words (drop n text)) e

-- a shorter word begins with no key
pub begins_short : (key word : List ℕ) → length word < length key → begins key word ≡ false
begins_short [] word h = absurd (omega (arith, h))
begins_short (k ∷ ks) [] h = refl
begins_short (k ∷ ks) (c ∷ cs) h = here (to_ascii_lowercase c == k) (begins_short ks cs (omega (arith, h)))
  where
    here : (b : Bool) → begins ks cs ≡ false → (b && begins ks cs) ≡ false
    here true e = e
    here false e = refl

-- ---- fields, word by word

or_words : (key : List ℕ) (found : Option (List ℕ)) (word : List ℕ) (ws : List (List ℕ)) → unwrap_or (or_word key found word) (said key ws) ≡ unwrap_or found (said key (word ∷ ws))
or_words key None word ws = here (begins key word)
  where
    here : (b : Bool) → unwrap_or (if b then Some (drop (length key) word) else None) (said key ws) ≡ (if b then drop (length key) word else said key ws)
    here true = refl
    here false = refl
or_words key (Some value) word ws = refl

-- the values of what was found, or else of the words left, are the text's
pub record AreSaid (found : Found) (left : List (List ℕ)) (text : List ℕ) : Type 0 where
  pub id : unwrap_or (option_copied found.id) (said (codes "id:") (before_text left)) ≡ field_of (codes "id:") text
  pub stat : unwrap_or (option_copied found.stat) (said (codes "stat:") (before_text left)) ≡ field_of (codes "stat:") text
  pub err : unwrap_or (option_copied found.err) (said (codes "err:") (before_text left)) ≡ field_of (codes "err:") text

more_said : (key : List ℕ) (old new : Option (List ℕ)) (word text : List ℕ) (ws : List (List ℕ)) → unwrap_or old (said key (before_text (word ∷ ws))) ≡ field_of key text → begins (codes "text:") word ≡ false → new ≡ or_word key old word
    → unwrap_or new (said key (before_text ws)) ≡ field_of key text
more_said key old new word text ws was other seen =
    ap (λ (o : Option (List ℕ)). unwrap_or o (said key (before_text ws))) seen ∙ or_words key old word (before_text ws)
    ∙ sym (ap (λ (b : Bool). unwrap_or old (said key (if b then [] else word ∷ before_text ws))) other) ∙ was

pub said_behind : (old new : Found) (word text : List ℕ) (left ws : List (List ℕ)) → AreSaid old left text → left ≡ word ∷ ws → HasSeen old word new → AreSaid new ws text
said_behind old new word text left ws was is seen =
    let whole : AreSaid old (word ∷ ws) text = subst (λ l. AreSaid old l text) is was in
    record {
      id = more_said (codes "id:") (option_copied old.id) (option_copied new.id) word text ws whole.id seen.before seen.id;
      stat = more_said (codes "stat:") (option_copied old.stat) (option_copied new.stat) word text ws whole.stat seen.before seen.stat;
      err = more_said (codes "err:") (option_copied old.err) (option_copied new.err) word text ws whole.err seen.before seen.err;
    }

pub no_value : (key : List ℕ) (found : Option (List ℕ)) (word : List ℕ) → begins key word ≡ false → found ≡ or_word key found word
no_value key None word other = sym (ap (λ (b : Bool). if b then Some (drop (length key) word) else None) other)
no_value key (Some value) word other = refl
