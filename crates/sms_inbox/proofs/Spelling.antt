-- Prefixes of an inbox's octets, and lines that are appended to them.
use Rattle.std.proofs.Common.{take, ◌≡◌, ℕ, ◌+◌, ◌≤◌, false, List, [], ◌∷◌, ◌++◌, length, inl, inr, refl, sym, ap, ◌∙◌, subst, arith, true≢false, append_assoc, append-nil, length-append}
use Rattle.std.specs.Prelude.{◌==◌, ◌⊎◌, flat_map}
use Rattle.std.proofs.lemmas.List.{append_cancel_left}
use Rattle.std.proofs.lemmas.List.Concat.{flat_map-cons}
use Rattle.std.proofs.Math.Seq.{take-append_seam}
use Rattle.sms_inbox.specs.declared.record.Record.{Record}
use Rattle.sms_inbox.specs.LineLaws.{AreRecords, CutsLoseOne, FaultsSpellNone, FilesGoOn, PrefixesSpellPrefixes, SpellsPrefix, TextsSpellOnce, WrittenIsRead}
use Rattle.sms_inbox.specs.Lines.{AreLines, BeginsWith, EndsLine, HasNoFeed, IsLineOf, IsOneLine, IsWholeLength, Spells}
use Rattle.sms_inbox.specs.Record.{record_text}
use Rattle.sms_inbox.proofs.Feeds.{record_line}
use Rattle.sms_inbox.proofs.Reading.{line_once, lines_more}

-- ---- prefixes

-- of two prefixes of one text the first reaches over the second, or ends within it
record Over (a b s : List ℕ) (r : List ℕ) : Type 0 where
  pub more : List ℕ
  pub is : a ≡ b ++ more
  pub rest : more ++ r ≡ s

record Within (a b : List ℕ) : Type 0 where
  pub next : ℕ
  pub more : List ℕ
  pub is : b ≡ a ++ next ∷ more

fronts : (a r b s : List ℕ) → a ++ r ≡ b ++ s → Over a b s r ⊎ Within a b
fronts a r [] s e = inl (record { more = a; is = refl; rest = e })
fronts [] r (y ∷ b) s e = inr (record { next = y; more = b; is = refl })
fronts (x ∷ a) r (y ∷ b) s e =
    let same : x ≡ y = cc in
    let tails : a ++ r ≡ b ++ s = cc in
    elim (fronts a r b s tails) [
      | inl o ↦ inl (record { more = o.more; is = ap (λ (l : List ℕ). x ∷ l) o.is ∙ ap (λ (n : ℕ). n ∷ (b ++ o.more)) same; rest = o.rest })
      | inr w ↦ inr (record { next = w.next; more = w.more; is = ap (λ (l : List ℕ). y ∷ l) w.is ∙ ap (λ (n : ℕ). n ∷ (a ++ w.next ∷ w.more)) (sym same) })
    ]

feedless_front : (a b : List ℕ) → HasNoFeed (a ++ b) → HasNoFeed a
feedless_front [] b h = tt
feedless_front (x ∷ a) b h = (h.0, feedless_front a b h.1)

-- what ends within a line ends no line
within_body : (a body : List ℕ) (next : ℕ) (more : List ℕ) → body ++ 10 ∷ [] ≡ a ++ next ∷ more → HasNoFeed body → HasNoFeed a
within_body [] body next more e h = tt
within_body (x ∷ a) [] next more e h =
    let tails : [] ≡ a ++ next ∷ more = cc in
    absurd (omega (arith, ap length tails, length-append a (next ∷ more)))
within_body (x ∷ a) (y ∷ body) next more e h =
    let same : y ≡ x = cc in
    let tails : body ++ 10 ∷ [] ≡ a ++ next ∷ more = cc in
    (subst (λ (n : ℕ). (n == 10) ≡ false) same h.0, within_body a body next more tails h.1)

within_line : (a line : List ℕ) → IsOneLine line → Within a line → HasNoFeed a
within_line a line one w = within_body a one.body w.next w.more (sym one.is ∙ w.is) one.none

line_one : (line : List ℕ) (r : Record) → IsLineOf line r → IsOneLine line
line_one line r l = subst IsOneLine (sym l.is) (record_line r l.good)

front_behind : (rs : List Record) (text rest lines cut : List ℕ) → AreLines lines rs → HasNoFeed cut → text ++ rest ≡ lines ++ cut → SpellsPrefix text rs
front_behind [] text rest lines cut are unended e =
    let all : text ++ rest ≡ cut = e ∙ ap (λ (l : List ℕ). l ++ cut) are in
    record { front = []; rest = []; is = refl; spells = record { lines = []; cut = text; is = refl; are = refl; unended = feedless_front text rest (subst HasNoFeed (sym all) unended) } }
front_behind (x ∷ rs) text rest lines cut are unended e =
    let line = are.0 in
    let behind = are.1 in
    let whole : text ++ rest ≡ line ++ (behind ++ cut) = e ∙ ap (λ (l : List ℕ). l ++ cut) are.2 ∙ append_assoc line behind cut in
    elim (fronts text rest line (behind ++ cut) whole) [
      | inl o ↦
          let f = front_behind rs o.more rest behind cut are.4 unended o.rest in
          record {
            front = x ∷ f.front;
            rest = f.rest;
            is = ap (λ (l : List Record). x ∷ l) f.is;
            spells = record {
              lines = line ++ f.spells.lines;
              cut = f.spells.cut;
              is = o.is ∙ ap (λ (l : List ℕ). line ++ l) f.spells.is ∙ sym (append_assoc line f.spells.lines f.spells.cut);
              are = (line, f.spells.lines, refl, are.3, f.spells.are);
              unended = f.spells.unended;
            };
          }
      | inr w ↦ record { front = []; rest = x ∷ rs; is = refl; spells = record { lines = []; cut = text; is = refl; are = refl; unended = within_line text line (line_one line x are.3) w } }
    ]

pub prefixes_spell_prefixes : PrefixesSpellPrefixes
prefixes_spell_prefixes text rest rs b = front_behind rs text rest b.lines b.cut b.are b.unended b.is

pub cuts_lose_one : CutsLoseOne
cuts_lose_one text front [] rs r are good is some = absurd (some refl)
cuts_lose_one text front (c ∷ cs) rs r are good is some =
    record { lines = text; cut = front; is = refl; are = are; unended = within_line front (record_text r) (record_line r good) (record { next = c; more = cs; is = is }) }

-- ---- octets spell one list of records

record SameLine (a b s t : List ℕ) : Type 0 where
  pub lines : a ≡ b
  pub rests : s ≡ t

one_line : (a b s t : List ℕ) → HasNoFeed a → HasNoFeed b → a ++ 10 ∷ s ≡ b ++ 10 ∷ t → SameLine a b s t
one_line [] [] s t ha hb e = record { lines = refl; rests = (cc) }
one_line [] (y ∷ b) s t ha hb e = let same : 10 ≡ y = cc in absurd (true≢false (ap (λ (n : ℕ). n == 10) same ∙ hb.0))
one_line (x ∷ a) [] s t ha hb e = let same : x ≡ 10 = cc in absurd (true≢false (sym (ap (λ (n : ℕ). n == 10) same) ∙ ha.0))
one_line (x ∷ a) (y ∷ b) s t ha hb e =
    let same : x ≡ y = cc in
    let tails : a ++ 10 ∷ s ≡ b ++ 10 ∷ t = cc in
    let o = one_line a b s t ha.1 hb.1 tails in
    record { lines = ap (λ (l : List ℕ). x ∷ l) o.lines ∙ ap (λ (n : ℕ). n ∷ b) same; rests = o.rests }

same_line : (a b s t : List ℕ) → IsOneLine a → IsOneLine b → a ++ s ≡ b ++ t → SameLine a b s t
same_line a b s t oa ob e =
    let left : a ++ s ≡ oa.body ++ 10 ∷ s = ap (λ (l : List ℕ). l ++ s) oa.is ∙ append_assoc oa.body (10 ∷ []) s in
    let right : b ++ t ≡ ob.body ++ 10 ∷ t = ap (λ (l : List ℕ). l ++ t) ob.is ∙ append_assoc ob.body (10 ∷ []) t in
    let o = one_line oa.body ob.body s t oa.none ob.none (sym left ∙ e ∙ right) in
    record { lines = oa.is ∙ ap (λ (l : List ℕ). l ++ 10 ∷ []) o.lines ∙ sym ob.is; rests = o.rests }

no_line_there : (line rest cut : List ℕ) → IsOneLine line → HasNoFeed cut → cut ≡ line ++ rest → ⊥
no_line_there line rest cut one none e =
    let all : cut ≡ one.body ++ 10 ∷ rest = e ∙ ap (λ (l : List ℕ). l ++ rest) one.is ∙ append_assoc one.body (10 ∷ []) rest in
    bad one.body (subst HasNoFeed all none)
  where
    bad : (body : List ℕ) → HasNoFeed (body ++ 10 ∷ rest) → ⊥
    bad [] h = true≢false h.0
    bad (x ∷ body) h = bad body h.1

once_behind : (rs ts : List Record) (lines cut others end : List ℕ) → AreLines lines rs → HasNoFeed cut → AreLines others ts → HasNoFeed end → lines ++ cut ≡ others ++ end → rs ≡ ts
once_behind [] [] lines cut others end are none be nor e = refl
once_behind [] (y ∷ ts) lines cut others end are none be nor e =
    let all : cut ≡ be.0 ++ (be.1 ++ end) = sym (ap (λ (l : List ℕ). l ++ cut) are) ∙ e ∙ ap (λ (l : List ℕ). l ++ end) be.2 ∙ append_assoc be.0 be.1 end in
    absurd (no_line_there be.0 (be.1 ++ end) cut (line_one be.0 y be.3) none all)
once_behind (x ∷ rs) [] lines cut others end are none be nor e =
    let all : end ≡ are.0 ++ (are.1 ++ cut) = sym (ap (λ (l : List ℕ). l ++ end) be) ∙ sym e ∙ ap (λ (l : List ℕ). l ++ cut) are.2 ∙ append_assoc are.0 are.1 cut in
    absurd (no_line_there are.0 (are.1 ++ cut) end (line_one are.0 x are.3) nor all)
once_behind (x ∷ rs) (y ∷ ts) lines cut others end are none be nor e =
    let all : are.0 ++ (are.1 ++ cut) ≡ be.0 ++ (be.1 ++ end) = sym (append_assoc are.0 are.1 cut) ∙ sym (ap (λ (l : List ℕ). l ++ cut) are.2) ∙ e ∙ ap (λ (l : List ℕ). l ++ end) be.2 ∙ append_assoc be.0 be.1 end in
    let s = same_line are.0 be.0 (are.1 ++ cut) (be.1 ++ end) (line_one are.0 x are.3) (line_one be.0 y be.3) all in
    let first : x ≡ y = line_once are.0 x y are.3 (subst (λ (l : List ℕ). IsLineOf l y) (sym s.lines) be.3) in
    let later : rs ≡ ts = once_behind rs ts are.1 cut be.1 end are.4 none be.4 nor s.rests in
    λ i. first i ∷ later i

pub texts_spell_once : TextsSpellOnce
texts_spell_once text rs ts b d = once_behind rs ts b.lines b.cut d.lines d.cut b.are b.unended d.are d.unended (sym b.is ∙ d.is)

-- ---- octets with a fault spell no records

-- of lines of records the one behind these is a record's
faulty_next : (rs ts : List Record) (lines line rest others cut : List ℕ) → AreLines lines rs → IsOneLine line → AreLines others ts → HasNoFeed cut → lines ++ (line ++ rest) ≡ others ++ cut
    → ((r : Record) → IsLineOf line r → ⊥) → ⊥
faulty_next rs [] lines line rest others cut are one be none e bad =
    let all : cut ≡ lines ++ (line ++ rest) = sym (ap (λ (l : List ℕ). l ++ cut) be) ∙ sym e in
    by_lines rs are all
  where
    by_lines : (rs : List Record) → AreLines lines rs → cut ≡ lines ++ (line ++ rest) → ⊥
    by_lines [] are all = no_line_there line rest cut one none (all ∙ ap (λ (l : List ℕ). l ++ (line ++ rest)) are)
    by_lines (y ∷ rs) are all =
        no_line_there are.0 (are.1 ++ (line ++ rest)) cut (line_one are.0 y are.3) none (all ∙ ap (λ (l : List ℕ). l ++ (line ++ rest)) are.2 ∙ append_assoc are.0 are.1 (line ++ rest))
faulty_next [] (x ∷ ts) lines line rest others cut are one be none e bad =
    let all : line ++ rest ≡ be.0 ++ (be.1 ++ cut) = sym (ap (λ (l : List ℕ). l ++ (line ++ rest)) are) ∙ e ∙ ap (λ (l : List ℕ). l ++ cut) be.2 ∙ append_assoc be.0 be.1 cut in
    let s = same_line line be.0 rest (be.1 ++ cut) one (line_one be.0 x be.3) all in
    bad x (subst (λ (l : List ℕ). IsLineOf l x) (sym s.lines) be.3)
faulty_next (y ∷ rs) (x ∷ ts) lines line rest others cut are one be none e bad =
    let all : are.0 ++ (are.1 ++ (line ++ rest)) ≡ be.0 ++ (be.1 ++ cut) =
    sym (append_assoc are.0 are.1 (line ++ rest)) ∙ sym (ap (λ (l : List ℕ). l ++ (line ++ rest)) are.2) ∙ e ∙ ap (λ (l : List ℕ). l ++ cut) be.2 ∙ append_assoc be.0 be.1 cut
    in
    let s = same_line are.0 be.0 (are.1 ++ (line ++ rest)) (be.1 ++ cut) (line_one are.0 y are.3) (line_one be.0 x be.3) all in
    faulty_next rs ts are.1 line rest be.1 cut are.4 one be.4 none s.rests bad

pub faults_spell_none : FaultsSpellNone
faults_spell_none text place rs at b =
    faulty_next at.records rs at.lines at.line at.rest b.lines b.cut at.are at.begins.one b.are b.unended (ap (λ (l : List ℕ). at.lines ++ l) (sym at.begins.is) ∙ sym at.is ∙ b.is) at.unread

-- ---- where a line that was truncated begins

ends_behind : (a b : List ℕ) → EndsLine b → EndsLine (a ++ b)
ends_behind a b e = record { body = a ++ e.body; is = ap (λ (l : List ℕ). a ++ l) e.is ∙ sym (append_assoc a e.body (10 ∷ [])) }

one_ends : (line : List ℕ) → IsOneLine line → EndsLine line
one_ends line one = record { body = one.body; is = one.is }

-- a text that ends with a line feed has one
ends_not : (a b : List ℕ) → EndsLine a → HasNoFeed (a ++ b) → ⊥
ends_not a b e none = no_line_within e.body (subst (λ (l : List ℕ). HasNoFeed (l ++ b)) e.is none)
  where
    no_line_within : (body : List ℕ) → HasNoFeed ((body ++ 10 ∷ []) ++ b) → ⊥
    no_line_within [] h = true≢false h.0
    no_line_within (x ∷ body) h = no_line_within body h.1

-- so does what is left of it after a prefix
rest_ends : (c : List ℕ) (next : ℕ) (more : List ℕ) → EndsLine (c ++ next ∷ more) → EndsLine (next ∷ more)
rest_ends [] next more e = e
rest_ends (x ∷ c) next more e = here e.body e.is (rest_ends c next more)
  where
    here : (body : List ℕ) → x ∷ (c ++ next ∷ more) ≡ body ++ 10 ∷ [] → (EndsLine (c ++ next ∷ more) → EndsLine (next ∷ more)) → EndsLine (next ∷ more)
    here [] is later = let tails : c ++ next ∷ more ≡ [] = cc in absurd (omega (arith, ap length tails, length-append c (next ∷ more)))
    here (y ∷ body) is later = let tails : c ++ next ∷ more ≡ body ++ 10 ∷ [] = cc in later (record { body = body; is = tails })

-- of one text the fronts that end where its last line ends are one
same_front : (a b c d : List ℕ) → (a ≡ []) ⊎ EndsLine a → HasNoFeed b → (c ≡ []) ⊎ EndsLine c → HasNoFeed d → a ++ b ≡ c ++ d → a ≡ c
same_front a b c d ea nb ec nd e =
    elim (fronts a b c d e) [ inl o ↦ over o.more o.is o.rest | inr w ↦ absurd (within w.next w.more w.is) ]
  where
    -- what ends a text that is nothing or ends a line ends one
    tail_ends : (x : List ℕ) (next : ℕ) (more : List ℕ) → (x ++ next ∷ more ≡ []) ⊎ EndsLine (x ++ next ∷ more) → EndsLine (next ∷ more)
    tail_ends x next more (inl none) = absurd (omega (arith, ap length none, length-append x (next ∷ more)))
    tail_ends x next more (inr ends) = rest_ends x next more ends

    over : (more : List ℕ) → a ≡ c ++ more → more ++ b ≡ d → a ≡ c
    over [] is rest = is ∙ append-nil c
    over (x ∷ more) is rest =
        let ends : EndsLine (x ∷ more) = tail_ends c x more (subst (λ (l : List ℕ). (l ≡ []) ⊎ EndsLine l) is ea) in
        absurd (ends_not (x ∷ more) b ends (subst HasNoFeed (sym rest) nd))

    within : (next : ℕ) (more : List ℕ) → c ≡ a ++ next ∷ more → ⊥
    within next more is =
        let rest : b ≡ (next ∷ more) ++ d = append_cancel_left a b ((next ∷ more) ++ d) (e ∙ ap (λ (l : List ℕ). l ++ d) is ∙ append_assoc a (next ∷ more) d) in
        let ends : EndsLine (next ∷ more) = tail_ends a next more (subst (λ (l : List ℕ). (l ≡ []) ⊎ EndsLine l) is ec) in
        ends_not (next ∷ more) d ends (subst HasNoFeed rest nb)

lines_end : (rs : List Record) (lines : List ℕ) → AreLines lines rs → (lines ≡ []) ⊎ EndsLine lines
lines_end [] lines are = inl are
lines_end (x ∷ rs) lines are =
    elim (lines_end rs are.1 are.4) [
      | inl none ↦ inr (subst EndsLine (sym (are.2 ∙ ap (λ (l : List ℕ). are.0 ++ l) none ∙ append-nil are.0)) (one_ends are.0 (line_one are.0 x are.3)))
      | inr ends ↦ inr (subst EndsLine (sym are.2) (ends_behind are.0 are.1 ends))
    ]

whole_lines : (text : List ℕ) (n : ℕ) (rs : List Record) → IsWholeLength text n → Spells text rs → AreLines (take n text) rs
whole_lines text n rs w b =
    let same : w.front ≡ b.lines = same_front w.front w.cut b.lines b.cut w.ended w.unended (lines_end rs b.lines b.are) b.unended (sym w.is ∙ b.is) in
    let taken : take n text ≡ w.front = ap (take n) w.is ∙ ap (λ (k : ℕ). take k (w.front ++ w.cut)) (sym w.long) ∙ take-append_seam w.front w.cut in
    subst (λ (l : List ℕ). AreLines l rs) (sym (taken ∙ same)) b.are

whole_spells : (text : List ℕ) (rs : List Record) → AreLines text rs → Spells text rs
whole_spells text rs are = record { lines = text; cut = []; is = sym (append-nil text); are = are; unended = tt }

pub files_go_on : FilesGoOn
files_go_on text n rs r b w good =
    whole_spells (take n text ++ record_text r) (rs ++ r ∷ []) (lines_more (take n text) (record_text r) rs r (whole_lines text n rs w b) (record { good = good; is = refl }))

all_lines : (rs : List Record) → AreRecords rs → AreLines (flat_map record_text rs) rs
all_lines [] h = refl
all_lines (r ∷ rs) h = (record_text r, flat_map record_text rs, flat_map-cons record_text r rs, record { good = h.0; is = refl }, all_lines rs h.1)

pub written_read : WrittenIsRead
written_read rs h = whole_spells (flat_map record_text rs) rs (all_lines rs h)

-- ---- what a reader has gone over

pub record IsWholeTo (text left : List ℕ) (n : ℕ) : Type 0 where
  pub front : List ℕ
  pub is : text ≡ front ++ left
  pub long : length front ≡ n
  pub ended : (front ≡ []) ⊎ EndsLine front

pub whole_none : (text : List ℕ) → IsWholeTo text text 0
whole_none text = record { front = []; is = refl; long = refl; ended = inl refl }

pub whole_more : (text left line rest : List ℕ) (n m : ℕ) → IsWholeTo text left n → BeginsWith line rest left → m ≡ n + length line → IsWholeTo text rest m
whole_more text left line rest n m so begins sum = record {
  front = so.front ++ line;
  is = so.is ∙ ap (λ (l : List ℕ). so.front ++ l) begins.is ∙ sym (append_assoc so.front line rest);
  long = omega (arith, length-append so.front line, so.long, sum);
  ended = inr (ends_behind so.front line (one_ends line begins.one));
}

pub whole_fits : (text left line rest : List ℕ) (n : ℕ) → IsWholeTo text left n → BeginsWith line rest left → n + length line ≤ length text
whole_fits text left line rest n so begins =
    omega (arith, so.long, ap length so.is, length-append so.front left, ap length begins.is, length-append line rest)

pub whole_all : (text left : List ℕ) (n : ℕ) → IsWholeTo text left n → HasNoFeed left → IsWholeLength text n
whole_all text left n so none = record { front = so.front; cut = left; is = so.is; long = so.long; ended = so.ended; unended = none }
