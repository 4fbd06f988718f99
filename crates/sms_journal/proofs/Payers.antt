-- The accounts file of a run, made message by message.
use Rattle.std.proofs.Common.{◌≡◌, ℕ, suc, Bool, true, false, List, [], ◌∷◌, ◌++◌, Some, None, refl, sym, ap, ◌∙◌, append_assoc, drop, map}
use Rattle.std.specs.Prelude.{◌&&◌, ◌||◌, not, codes, filter, flat_map, is_some, option_and_then, Option, if◌then◌else◌}
use Rattle.std.specs.Str.{bytes_eq}
use Rattle.std.proofs.lemmas.List.Concat.{flat_map-cons}
use Rattle.std.proofs.lemmas.Slice.Eq.{bytes_eq-Decides}
use Rattle.csv.specs.Records.{field_at}
use Rattle.sms_files.specs.Accounts.{name_in}
use Rattle.sms_files.specs.Fields.{Record}
use Rattle.sms_ledger.specs.Books.{State}
use Rattle.sms_ledger.specs.Names.{is_name, name_said, octets_text}
use Rattle.sms_ledger.specs.declared.entry.Row.{Row}
use Rattle.sms_journal.specs.OfLedger.{account_line, accounts_in, distinct, free_line, row_named, spelled_otherwise}
use Rattle.sms_journal.specs.Payers.{is_unseen}
use Rattle.sms_journal.proofs.DigestTexts.{none_some, same_some}

abbrev Names : Type 0
Names = List (List ℕ)

-- names that are spelled so are one in the ledger
same_spelling : (name other : List ℕ) → spelled_otherwise name other ≡ false → octets_text name ≡ octets_text other
same_spelling name other e = by (bytes_eq (octets_text name) (octets_text other)) refl
  where
    by : (b : Bool) → bytes_eq (octets_text name) (octets_text other) ≡ b → octets_text name ≡ octets_text other
    by true is = (bytes_eq-Decides (octets_text name) (octets_text other)).0 is
    by false is = absurd (true_false (sym (ap not is) ∙ e))
      where
        true_false : true ≡ false → ⊥
        true_false h = absurd (cc)

-- a list without what a second test drops, where what a first one drops adds nothing
module _ (first second : List ℕ → Bool) (line : List ℕ → List ℕ) where
  abbrev said : Names → List ℕ
  said names = flat_map line (filter second names)

  said_cons : (m : List ℕ) (ms : Names) → said (m ∷ ms) ≡ (if second m then line m else []) ++ said ms
  said_cons m ms = by (second m) refl
    where
      by : (b : Bool) → second m ≡ b → said (m ∷ ms) ≡ (if second m then line m else []) ++ said ms
      by true e = rw (e) (flat_map-cons line m (filter second ms))
      by false e = rw (e) refl

  pub without_nothing : ((m : List ℕ) → first m ≡ false → (if second m then line m else []) ≡ []) → (names : Names) → said (filter first names) ≡ said names
  without_nothing none [] = refl
  without_nothing none (m ∷ ms) = by (first m) refl (without_nothing none ms)
    where
      by : (b : Bool) → first m ≡ b → said (filter first ms) ≡ said ms → said (filter first (m ∷ ms)) ≡ said (m ∷ ms)
      by true e rest = rw (e) (said_cons m (filter first ms) ∙ ap (λ (l : List ℕ). (if second m then line m else []) ++ l) rest ∙ sym (said_cons m ms))
      by false e rest = rw (e) (rest ∙ ap (λ (l : List ℕ). l ++ said ms) (sym (none m e)) ∙ sym (said_cons m ms))

-- two tests one after the other are both
both_tests : (first second both : List ℕ → Bool) → ((m : List ℕ) → both m ≡ (first m && second m)) → (names : Names) → filter both names ≡ filter second (filter first names)
both_tests first second both are [] = refl
both_tests first second both are (m ∷ ms) = by (first m) (second m) refl refl (both_tests first second both are ms)
  where
    by : (a b : Bool) → first m ≡ a → second m ≡ b → filter both ms ≡ filter second (filter first ms) → filter both (m ∷ ms) ≡ filter second (filter first (m ∷ ms))
    by true true ea eb rest = rw (are m, ea, eb) (ap (λ (l : Names). m ∷ l) rest)
    by true false ea eb rest = rw (are m, ea, eb) rest
    by false b ea eb rest = rw (are m, ea) rest

module _ (s : State) (name : List ℕ) where
  abbrev others : List ℕ → Bool
  others = spelled_otherwise name

  same_line : (m : List ℕ) → others m ≡ false → row_named s name ≡ None → account_line s m ≡ []
  same_line m e none = ap (free_line m) (ap (λ (t : List ℕ). option_and_then s.accounts (name_said t)) (sym (same_spelling name m e)) ∙ none)

  nothing_if : (b : Bool) (l : List ℕ) → l ≡ [] → (if b then l else []) ≡ []
  nothing_if true l e = e
  nothing_if false l e = refl

  -- an account that the ledger doesn't have
  pub unknown : (seen : List ℕ → Bool) (names : Names) → row_named s name ≡ None
      → flat_map (account_line s) (filter (is_unseen seen) (distinct names)) ≡ flat_map (account_line s) (filter (is_unseen seen) (distinct (name ∷ names)))
  unknown seen names none =
      sym (without_nothing others (is_unseen seen) (account_line s) (λ m e. nothing_if (is_unseen seen m) (account_line s m) (same_line m e none)) (distinct names))
      ∙ ap (λ (l : List ℕ). l ++ flat_map (account_line s) (filter (is_unseen seen) (filter others (distinct names)))) (sym (nothing_if (is_unseen seen name) (account_line s name) (ap (free_line name) none)))
      ∙ sym (said_cons others (is_unseen seen) (account_line s) name (filter others (distinct names)))

  -- one that has its record
  pub has_record : (seen : List ℕ → Bool) (names : Names) → seen (octets_text name) ≡ true
      → flat_map (account_line s) (filter (is_unseen seen) (distinct names)) ≡ flat_map (account_line s) (filter (is_unseen seen) (distinct (name ∷ names)))
  has_record seen names there =
      let hidden : (m : List ℕ) → others m ≡ false → is_unseen seen m ≡ false = λ m e. ap (λ (t : List ℕ). not (seen t)) (sym (same_spelling name m e)) ∙ ap not there in
      let none : (m : List ℕ) → is_unseen seen m ≡ false → (if is_unseen seen m then account_line s m else []) ≡ [] = λ m e. ap (λ (b : Bool). if b then account_line s m else []) e in
      sym (without_nothing others (is_unseen seen) (account_line s) (λ m e. none m (hidden m e)) (distinct names))
      ∙ ap (λ (l : List ℕ). l ++ flat_map (account_line s) (filter (is_unseen seen) (filter others (distinct names)))) (sym (none name (ap not there)))
      ∙ sym (said_cons others (is_unseen seen) (account_line s) name (filter others (distinct names)))

  -- one that gets it now
  pub gets_record : (seen after : List ℕ → Bool) (names : Names) (text : List ℕ) → seen (octets_text name) ≡ false → ((q : List ℕ) → after q ≡ (bytes_eq (octets_text name) q || seen q))
      → (text ++ account_line s name) ++ flat_map (account_line s) (filter (is_unseen after) (distinct names)) ≡ text ++ flat_map (account_line s) (filter (is_unseen seen) (distinct (name ∷ names)))
  gets_record seen after names text fresh then_seen =
      let both : (m : List ℕ) → is_unseen after m ≡ (others m && is_unseen seen m) = λ m. ap not (then_seen (octets_text m)) ∙ not_or (bytes_eq (octets_text name) (octets_text m)) (seen (octets_text m)) in
      append_assoc text (account_line s name) (flat_map (account_line s) (filter (is_unseen after) (distinct names)))
      ∙ ap (λ (l : Names). text ++ (account_line s name ++ flat_map (account_line s) l)) (both_tests others (is_unseen seen) (is_unseen after) both (distinct names))
      ∙ ap (λ (l : List ℕ). text ++ (l ++ flat_map (account_line s) (filter (is_unseen seen) (filter others (distinct names))))) (sym (ap (λ (b : Bool). if b then account_line s name else []) (ap not fresh)))
      ∙ ap (λ (l : List ℕ). text ++ l) (sym (said_cons others (is_unseen seen) (account_line s) name (filter others (distinct names))))
    where
      not_or : (a b : Bool) → not (a || b) ≡ (not a && not b)
      not_or true b = refl
      not_or false b = refl

-- the same by what is read of its name, of the ledger's row and of the records that there are
name_is : (text there : List ℕ) → name_said text ≡ Some there → text ≡ there
name_is text there e = by (is_name text) refl
  where
    by : (b : Bool) → is_name text ≡ b → text ≡ there
    by true is = same_some text there (sym (ap (λ (b : Bool). if b then Some text else None) is) ∙ e)
    by false is = absurd (none_some there (sym (ap (λ (b : Bool). if b then Some text else None) is) ∙ e))

module _ (s : State) (name : List ℕ) where
  abbrev left : (List ℕ → Bool) → Names → List ℕ
  left seen names = flat_map (account_line s) (filter (is_unseen seen) (distinct names))

  row_of : (there : List ℕ) (row : Option Row) → name_said (octets_text name) ≡ Some there → s.accounts there ≡ row → row_named s name ≡ row
  row_of there row said is = ap (option_and_then s.accounts) said ∙ is

  pub not_named : (seen : List ℕ → Bool) (names : Names) (text : List ℕ) → name_said (octets_text name) ≡ None → text ++ left seen names ≡ text ++ left seen (name ∷ names)
  not_named seen names text none = ap (λ (l : List ℕ). text ++ l) (unknown s name seen names (ap (option_and_then s.accounts) none))

  pub not_there : (seen : List ℕ → Bool) (names : Names) (text there : List ℕ) → name_said (octets_text name) ≡ Some there → s.accounts there ≡ None → text ++ left seen names ≡ text ++ left seen (name ∷ names)
  not_there seen names text there said none = ap (λ (l : List ℕ). text ++ l) (unknown s name seen names (row_of there None said none))

  pub seen_before : (seen : List ℕ → Bool) (names : Names) (text there : List ℕ) → name_said (octets_text name) ≡ Some there → seen there ≡ true → text ++ left seen names ≡ text ++ left seen (name ∷ names)
  seen_before seen names text there said before = ap (λ (l : List ℕ). text ++ l) (has_record s name seen names (ap seen (name_is (octets_text name) there said) ∙ before))

  pub added : (seen after : List ℕ → Bool) (names : Names) (text new there : List ℕ) (row : Row) → name_said (octets_text name) ≡ Some there → s.accounts there ≡ Some row → seen there ≡ false → ((q : List ℕ) → after q ≡ (bytes_eq there q || seen q)) → new ≡ text ++ free_line name (Some row)
      → new ++ left after names ≡ text ++ left seen (name ∷ names)
  added seen after names text new there row said is fresh then_seen written =
      let same : octets_text name ≡ there = name_is (octets_text name) there said in
      let line : free_line name (Some row) ≡ account_line s name = ap (free_line name) (sym (row_of there (Some row) said is)) in
      ap (λ (l : List ℕ). l ++ left after names) (written ∙ ap (λ (l : List ℕ). text ++ l) line)
      ∙ gets_record s name seen after names text (ap seen same ∙ fresh) (λ q. then_seen q ∙ ap (λ (t : List ℕ). bytes_eq t q || seen q) (sym same))

-- at first none has
pub all_unseen : (seen : List ℕ → Bool) → ((q : List ℕ) → seen q ≡ false) → (names : Names) → filter (is_unseen seen) names ≡ names
all_unseen seen none [] = refl
all_unseen seen none (name ∷ names) = rw (none (octets_text name)) (ap (λ (l : Names). name ∷ l) (all_unseen seen none names))

-- whether there is a value, where one was set
pub some_kept : (set : Bool) (old : Option Bool) → is_some (if set then Some true else old) ≡ (set || is_some old)
some_kept true old = refl
some_kept false old = refl

-- the name of a record
pub first_is : (r : Record) (name : List ℕ) → field_at r 0 ≡ Some name → name ≡ name_in r
unfolding field_at
first_is [] name e = absurd (cc)
first_is (field ∷ fields) name e = sym (same_some field name e)

pub no_first : (r : Record) → field_at r 0 ≡ None → [] ≡ name_in r
unfolding field_at
no_first [] e = refl
no_first (field ∷ fields) e = absurd (cc)

-- what is left of the records after one more
pub step : {A : Type 0} (s : State) (f : A → Record) (xs : List A) (k n : ℕ) (x : A) (payer : List ℕ) (seen after : List ℕ → Bool) (text more all : List ℕ) → n ≡ suc k → drop k xs ≡ x ∷ drop (suc k) xs → payer ≡ name_in (f x)
    → ((names : Names) → more ++ flat_map (account_line s) (filter (is_unseen after) (distinct names)) ≡ text ++ flat_map (account_line s) (filter (is_unseen seen) (distinct (payer ∷ names))))
    → text ++ flat_map (account_line s) (filter (is_unseen seen) (distinct (map name_in (map f (drop k xs))))) ≡ all → more ++ flat_map (account_line s) (filter (is_unseen after) (distinct (map name_in (map f (drop n xs))))) ≡ all
step s f xs k n x payer seen after text more all n_is here is adds so =
    let names = map name_in (map f (drop n xs)) in
    let left : map name_in (map f (drop k xs)) ≡ payer ∷ names =
    ap (λ l. map name_in (map f l)) here ∙ ap (λ (name : List ℕ). name ∷ map name_in (map f (drop (suc k) xs))) (sym is) ∙ ap (λ (m : ℕ). payer ∷ map name_in (map f (drop m xs))) (sym n_is) in
    adds names ∙ ap (λ (ns : Names). text ++ flat_map (account_line s) (filter (is_unseen seen) (distinct ns))) (sym left) ∙ so

-- the accounts file is a header and the records, where none was there
pub whole_file : (s : State) (seen : List ℕ → Bool) (header text : List ℕ) (payers rs : List Record) → ((q : List ℕ) → seen q ≡ false) → header ≡ codes "account,credits\n" → payers ≡ drop 1 rs
    → text ≡ header ++ flat_map (account_line s) (filter (is_unseen seen) (distinct (map name_in payers))) → text ≡ accounts_in s rs
whole_file s seen header text payers rs none begins are is =
    is ∙ ap (λ (l : Names). header ++ flat_map (account_line s) l) (all_unseen seen none (distinct (map name_in payers))) ∙ ap (λ (l : List Record). header ++ flat_map (account_line s) (distinct (map name_in l))) are
    ∙ ap (λ (l : List ℕ). l ++ flat_map (account_line s) (distinct (map name_in (drop 1 rs)))) begins
