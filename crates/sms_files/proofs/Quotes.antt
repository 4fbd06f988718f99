-- A reader that knows quotes alone stands where csv does.
use Rattle.std.proofs.Common.{◌≡◌, ℕ, Bool, true, false, List, [], ◌∷◌, ◌++◌, refl, sym, ap, ◌∙◌, subst}
use Rattle.std.proofs.lemmas.Bool.{eqb-true, true≢false}
use Rattle.csv.specs.declared.parser.Action.{Action}
use Rattle.csv.specs.declared.parser.Action.TheVariants as act
use Rattle.std.specs.Prelude.{◌==◌, ◌||◌, ◌&&◌, ◌-◌, nat_eq, length, take, drop, if◌then◌else◌}
use Rattle.std.specs.List.{starts_with}
use Rattle.std.proofs.lemmas.Slice.Eq.{starts_is}
use Rattle.std.proofs.lemmas.Bool.Decides.{Decides-eqb}
use Rattle.std.proofs.lemmas.List.{take_rest}
use Rattle.csv.specs.Machine.{step}
use Rattle.csv.specs.Reading.{default_config, strip_bom}
use Rattle.csv.specs.declared.parser.State.{State}
use Rattle.csv.specs.declared.parser.State.TheVariants as st
use Rattle.sms_files.specs.declared.tables.quoting.Place.{Place}
use Rattle.sms_files.specs.declared.tables.quoting.Place.TheVariants.{Front, Bare, Quoted, Ended}
use Rattle.sms_files.specs.Quoting.{state_behind, after}

-- the place that a state is; csv never comes into two of them, since nothing escapes and nothing is a comment
abbrev pub Stands : State → Place → Type 0
Stands st.StartRecord p = p ≡ Front
Stands st.StartField p = p ≡ Front
Stands st.AfterCr p = p ≡ Front
Stands st.InField p = p ≡ Bare
Stands st.InQuoted p = p ≡ Quoted
Stands st.AfterQuote p = p ≡ Ended
Stands st.InEscape p = ⊥
Stands st.InComment p = ⊥

-- csv's steps by what an octet is: a quote, a comma, a carriage return, a line feed
abbrev pub in_field_by : Bool → Bool → Bool → State × Action
in_field_by comma return feed = if comma then (st.StartField, act.EndField) else if return || feed then (if return then st.AfterCr else st.StartRecord, act.EndRecord) else (st.InField, act.Copy)

abbrev pub start_field_by : Bool → Bool → Bool → Bool → State × Action
start_field_by quote comma return feed = if quote then (st.InQuoted, act.Skip) else in_field_by comma return feed

abbrev pub start_record_by : Bool → Bool → Bool → Bool → State × Action
start_record_by quote comma return feed = if return || feed then (st.StartRecord, act.Skip) else start_field_by quote comma return feed

abbrev pub behind_by : Bool → Bool → Bool → Place
behind_by comma return feed = if comma || feed || return then Front else Bare

-- a quote is none of the others
abbrev pub IsOne : Bool → Bool → Bool → Bool → Type 0
IsOne quote comma return feed = quote ≡ true → (comma ≡ false) × (return ≡ false) × (feed ≡ false)

is_one : (c : ℕ) → IsOne (c == 34) (c == 44) (c == 13) (c == 10)
is_one c quote = let is : c ≡ 34 = eqb-true c 34 quote in subst (λ (x : ℕ). ((x == 44) ≡ false) × ((x == 13) ≡ false) × ((x == 10) ≡ false)) (sym is) (refl, refl, refl)

bare : (quote comma return feed : Bool) → IsOne quote comma return feed → Stands (in_field_by comma return feed).0 (if quote then Bare else behind_by comma return feed)
bare true comma return feed one = let (a, b, d) = one refl in subst (λ (x : Bool × Bool × Bool). Stands (in_field_by x.0 x.1 x.2).0 Bare) (λ i. (sym a i, sym b i, sym d i)) refl
bare false true return feed one = refl
bare false false true true one = refl
bare false false true false one = refl
bare false false false true one = refl
bare false false false false one = refl

at_field : (quote comma return feed : Bool) → IsOne quote comma return feed → Stands (start_field_by quote comma return feed).0 (if quote then Quoted else behind_by comma return feed)
at_field true comma return feed one = refl
at_field false comma return feed one = bare false comma return feed one

at_record : (quote comma return feed : Bool) → IsOne quote comma return feed → Stands (start_record_by quote comma return feed).0 (if quote then Quoted else behind_by comma return feed)
at_record true comma return feed one = let (a, b, d) = one refl in subst (λ (x : Bool × Bool). Stands (start_record_by true comma x.0 x.1).0 Quoted) (λ i. (sym b i, sym d i)) refl
at_record false true true feed one = refl
at_record false true false true one = refl
at_record false true false false one = refl
at_record false false true true one = refl
at_record false false true false one = refl
at_record false false false true one = refl
at_record false false false false one = refl

ended : (quote comma return feed : Bool) → IsOne quote comma return feed → Stands (if quote then (st.InQuoted, act.Copy) else in_field_by comma return feed).0 (if quote then Quoted else behind_by comma return feed)
ended true comma return feed one = refl
ended false comma return feed one = bare false comma return feed one

abbrev pub in_quoted_by : Bool → State × Action
in_quoted_by quote = if quote then (st.AfterQuote, act.Skip) else (st.InQuoted, act.Copy)

quoted : (quote : Bool) → Stands (in_quoted_by quote).0 (if quote then Ended else Quoted)
quoted true = refl
quoted false = refl

abbrev pub after_cr_by : Bool → Bool → Bool → Bool → State × Action
after_cr_by quote comma return feed = if feed then (st.StartRecord, act.Skip) else start_record_by quote comma return feed

at_cr : (quote comma return feed : Bool) → IsOne quote comma return feed → Stands (after_cr_by quote comma return feed).0 (if quote then Quoted else behind_by comma return feed)
at_cr true comma return feed one = let (a, b, d) = one refl in subst (λ (x : Bool × Bool). Stands (after_cr_by true comma x.0 x.1).0 Quoted) (λ i. (sym b i, sym d i)) refl
at_cr false true return true one = refl
at_cr false false return true one = refl
at_cr false comma return false one = at_record false comma return false one

-- each octet takes both to where the other stands
pub stands_after : (s : State) (p : Place) (c : ℕ) → Stands s p → Stands (step default_config s c).0 (after p c)
stands_after st.StartRecord p c is = subst (λ (x : Place). Stands (step default_config st.StartRecord c).0 (after x c)) (sym is) (at_record (c == 34) (c == 44) (c == 13) (c == 10) (is_one c))
stands_after st.StartField p c is = subst (λ (x : Place). Stands (step default_config st.StartField c).0 (after x c)) (sym is) (at_field (c == 34) (c == 44) (c == 13) (c == 10) (is_one c))
stands_after st.AfterCr p c is = subst (λ (x : Place). Stands (step default_config st.AfterCr c).0 (after x c)) (sym is) (at_cr (c == 34) (c == 44) (c == 13) (c == 10) (is_one c))
stands_after st.InField p c is = subst (λ (x : Place). Stands (step default_config st.InField c).0 (after x c)) (sym is) (bare (c == 34) (c == 44) (c == 13) (c == 10) (is_one c))
stands_after st.InQuoted p c is = subst (λ (x : Place). Stands (step default_config st.InQuoted c).0 (after x c)) (sym is) (quoted (c == 34))
stands_after st.AfterQuote p c is = subst (λ (x : Place). Stands (step default_config st.AfterQuote c).0 (after x c)) (sym is) (ended (c == 34) (c == 44) (c == 13) (c == 10) (is_one c))
stands_after st.InEscape p c is = absurd is
stands_after st.InComment p c is = absurd is

-- behind an octet more
pub state_more : (s : State) (xs : List ℕ) (c : ℕ) → state_behind s (xs ++ c ∷ []) ≡ (step default_config (state_behind s xs) c).0
state_more s [] c = refl
state_more s (x ∷ xs) c = state_more (step default_config s x).0 xs c

-- csv is between quotes exactly where the other is
pub both_quoted : (s : State) (p : Place) → Stands s p → (p ≡ Quoted → s ≡ st.InQuoted) × (s ≡ st.InQuoted → p ≡ Quoted)
both_quoted st.StartRecord p is = (λ e. let f : Front ≡ Quoted = sym is ∙ e in absurd (cc), λ e. absurd (cc))
both_quoted st.StartField p is = (λ e. let f : Front ≡ Quoted = sym is ∙ e in absurd (cc), λ e. absurd (cc))
both_quoted st.AfterCr p is = (λ e. let f : Front ≡ Quoted = sym is ∙ e in absurd (cc), λ e. absurd (cc))
both_quoted st.InField p is = (λ e. let f : Bare ≡ Quoted = sym is ∙ e in absurd (cc), λ e. absurd (cc))
both_quoted st.InQuoted p is = (λ e. refl, λ e. is)
both_quoted st.AfterQuote p is = (λ e. let f : Ended ≡ Quoted = sym is ∙ e in absurd (cc), λ e. absurd (cc))
both_quoted st.InEscape p is = absurd is
both_quoted st.InComment p is = absurd is

-- a byte order mark at the front, and none
abbrev pub mark : List ℕ
mark = 0xEF ∷ 0xBB ∷ 0xBF ∷ []

strip_mark : (rest : List ℕ) → strip_bom (mark ++ rest) ≡ rest
unfolding strip_bom
strip_mark rest = refl

pub marked : (xs : List ℕ) (r : Bool) → r ≡ starts_with nat_eq xs mark → r ≡ true → take (length xs - 3) (drop 3 xs) ≡ strip_bom xs
marked xs r is holds = let e = (starts_is Decides-eqb xs mark r is).0 holds in take_rest xs 3 ∙ sym (strip_mark (drop 3 xs)) ∙ ap strip_bom (sym e)

pub unmarked : (xs : List ℕ) (r : Bool) → r ≡ starts_with nat_eq xs mark → r ≡ false → xs ≡ strip_bom xs
unfolding strip_bom
unmarked [] r is fails = refl
unmarked (a ∷ []) r is fails = refl
unmarked (a ∷ b ∷ []) r is fails = refl
unmarked (a ∷ b ∷ c ∷ rest) r is fails = by (a == 0xEF) (b == 0xBB) (c == 0xBF) refl refl refl
  where
    by : (x y z : Bool) → x ≡ (a == 0xEF) → y ≡ (b == 0xBB) → z ≡ (c == 0xBF) → a ∷ b ∷ c ∷ rest ≡ (if x && y && z then rest else a ∷ b ∷ c ∷ rest)
    by true true true e f g =
        let same : a ∷ b ∷ c ∷ rest ≡ mark ++ rest = λ i. eqb-true a 0xEF (sym e) i ∷ eqb-true b 0xBB (sym f) i ∷ eqb-true c 0xBF (sym g) i ∷ rest in
        absurd (true≢false (sym ((starts_is Decides-eqb (a ∷ b ∷ c ∷ rest) mark r is).1 rest same) ∙ fails))
    by true true false e f g = refl
    by true false z e f g = refl
    by false y z e f g = refl
