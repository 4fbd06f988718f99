-- Prefixes of a ledger's octets, and lines that are appended to them.
use Rattle.std.proofs.Common.{rules, take, ◌≡◌, ℕ, ◌+◌, false, List, [], ◌∷◌, ◌++◌, length, inl, inr, refl, sym, ap, ◌∙◌, subst, arith, true≢false, append_assoc, append-nil, length-append, Some, None, ◌≤◌}
use Rattle.std.specs.Prelude.{◌==◌, ◌⊎◌, codes}
use Rattle.std.proofs.lemmas.List.{append_cancel_left}
use Rattle.sms_ledger.specs.declared.entry.Entry.{Entry}
use Rattle.sms_ledger.specs.Books.{IsLedger, State, books_of, nothing, refusal_of}
use Rattle.sms_ledger.specs.declared.fault.Fault.TheVariants.{Unreadable, Refused, Memory}
use Rattle.sms_ledger.specs.Lines.{AreLines, BeginsWith, EndsLine, HasNoFeed, HasNoHeader, IsAt, IsBegunText, IsFileOf, IsLineOf, IsOneLine, IsRefusedLine, IsUnbegun, IsUnreadLine, IsWholeLength, IsWholeText, Spells}
use Rattle.sms_ledger.specs.Text.{entry_text, header_text}
use Rattle.sms_ledger.specs.TextLaws.{BooksAreOne, CutsLoseOne, EntriesAppend, FaultsSpellNone, PrefixesSpellPrefixes, HeadersBegin, LinesAppend, TextsSpellOnce, UnbegunHasNone, WholeLinesAreWhole, WholesSpell}
use Rattle.sms_ledger.proofs.Feeds.{entry_line}
use Rattle.std.proofs.Math.Seq.{take-append_seam}
use Rattle.sms_ledger.proofs.Once.{booked_next}
use Rattle.sms_ledger.proofs.Records.{books_more, ledger_more, line_once, lines_more}

-- ---- appending

pub headers_begin : HeadersBegin
headers_begin = record { lines = []; is = refl; are = refl }

pub wholes_spell : WholesSpell
wholes_spell text es whole = inl (record { front = text; cut = []; is = sym (append-nil text); whole = whole; unended = tt })

pub lines_append : LinesAppend
lines_append text es time e whole low good = record {
  lines = whole.lines ++ entry_text time e;
  is = ap (λ (l : List ℕ). l ++ entry_text time e) whole.is ∙ append_assoc header_text whole.lines (entry_text time e);
  are = lines_more whole.lines (entry_text time e) es e whole.are (record { time = time; low = low; good = good; is = refl });
}

pub entries_append : EntriesAppend
entries_append es e booked ok = (ledger_more es e booked ok, books_more es e)

-- ---- prefixes

-- of two prefixes of one text the first reaches over the second, or ends within it
record Over (a b s : List ℕ) (r : List ℕ) : Type 0 where
  pub more : List ℕ
  pub is : a ≡ b ++ more
  pub rest : more ++ r ≡ s

record Within (a b : List ℕ) : Type 0 where
  pub next : ℕ
  pub more : List ℕ
  pub is : b ≡ a ++ next ∷ more

fronts : (a r b s : List ℕ) → a ++ r ≡ b ++ s → Over a b s r ⊎ Within a b
fronts a r [] s e = inl (record { more = a; is = refl; rest = e })
fronts [] r (y ∷ b) s e = inr (record { next = y; more = b; is = refl })
fronts (x ∷ a) r (y ∷ b) s e =
    let same : x ≡ y = cc in
    let tails : a ++ r ≡ b ++ s = cc in
    elim (fronts a r b s tails) [
      | inl o ↦ inl (record { more = o.more; is = ap (λ (l : List ℕ). x ∷ l) o.is ∙ ap (λ (n : ℕ). n ∷ (b ++ o.more)) same; rest = o.rest })
      | inr w ↦ inr (record { next = w.next; more = w.more; is = ap (λ (l : List ℕ). y ∷ l) w.is ∙ ap (λ (n : ℕ). n ∷ (a ++ w.next ∷ w.more)) (sym same) })
    ]

feedless_front : (a b : List ℕ) → HasNoFeed (a ++ b) → HasNoFeed a
feedless_front [] b h = tt
feedless_front (x ∷ a) b h = (h.0, feedless_front a b h.1)

-- what ends within a line ends no line
within_body : (a body : List ℕ) (next : ℕ) (more : List ℕ) → body ++ 10 ∷ [] ≡ a ++ next ∷ more → HasNoFeed body → HasNoFeed a
within_body [] body next more e h = tt
within_body (x ∷ a) [] next more e h =
    let tails : [] ≡ a ++ next ∷ more = cc in
    absurd (omega (arith, ap length tails, length-append a (next ∷ more)))
within_body (x ∷ a) (y ∷ body) next more e h =
    let same : y ≡ x = cc in
    let tails : body ++ 10 ∷ [] ≡ a ++ next ∷ more = cc in
    (subst (λ (n : ℕ). (n == 10) ≡ false) same h.0, within_body a body next more tails h.1)

within_line : (a line : List ℕ) → IsOneLine line → Within a line → HasNoFeed a
within_line a line one w = within_body a one.body w.next w.more (sym one.is ∙ w.is) one.none

-- lines and a line that was truncated
record Behind (text : List ℕ) (es : List Entry) : Type 0 where
  pub lines : List ℕ
  pub cut : List ℕ
  pub is : text ≡ lines ++ cut
  pub are : AreLines lines es
  pub unended : HasNoFeed cut

record FrontBehind (text : List ℕ) (es : List Entry) : Type 0 where
  pub front : List Entry
  pub rest : List Entry
  pub is : es ≡ front ++ rest
  pub behind : Behind text front

line_one : (line : List ℕ) (e : Entry) → IsLineOf line e → IsOneLine line
line_one line e l = subst IsOneLine (sym l.is) (entry_line l.time e l.low l.good)

front_behind : (es : List Entry) (text r lines cut : List ℕ) → AreLines lines es → HasNoFeed cut → text ++ r ≡ lines ++ cut → FrontBehind text es
front_behind [] text r lines cut are unended e =
    let all : text ++ r ≡ cut = e ∙ ap (λ (l : List ℕ). l ++ cut) are in
    record { front = []; rest = []; is = refl; behind = record { lines = []; cut = text; is = refl; are = refl; unended = feedless_front text r (subst HasNoFeed (sym all) unended) } }
front_behind (x ∷ es) text r lines cut are unended e =
    let line = are.0 in
    let behind = are.1 in
    let whole : text ++ r ≡ line ++ (behind ++ cut) = e ∙ ap (λ (l : List ℕ). l ++ cut) are.2 ∙ append_assoc line behind cut in
    elim (fronts text r line (behind ++ cut) whole) [
      | inl o ↦
          let f = front_behind es o.more r behind cut are.4 unended o.rest in
          record {
            front = x ∷ f.front;
            rest = f.rest;
            is = ap (λ (l : List Entry). x ∷ l) f.is;
            behind = record {
              lines = line ++ f.behind.lines;
              cut = f.behind.cut;
              is = o.is ∙ ap (λ (l : List ℕ). line ++ l) f.behind.is ∙ sym (append_assoc line f.behind.lines f.behind.cut);
              are = (line, f.behind.lines, refl, are.3, f.behind.are);
              unended = f.behind.unended;
            };
          }
      | inr w ↦ record { front = []; rest = x ∷ es; is = refl; behind = record { lines = []; cut = text; is = refl; are = refl; unended = within_line text line (line_one line x are.3) w } }
    ]

spelled : (text more : List ℕ) (es : List Entry) → text ≡ header_text ++ more → Behind more es → Spells text es
spelled text more es is b = inl (record {
  front = header_text ++ b.lines;
  cut = b.cut;
  is = is ∙ ap (λ (l : List ℕ). header_text ++ l) b.is ∙ sym (append_assoc header_text b.lines b.cut);
  whole = record { lines = b.lines; is = refl; are = b.are };
  unended = b.unended;
})

begun_behind : (text : List ℕ) (es : List Entry) (b : IsBegunText text es) → text ≡ header_text ++ (b.whole.lines ++ b.cut)
begun_behind text es b = b.is ∙ ap (λ (l : List ℕ). l ++ b.cut) b.whole.is ∙ append_assoc header_text b.whole.lines b.cut

pub prefixes_spell_prefixes : PrefixesSpellPrefixes
prefixes_spell_prefixes text rest es (inl b) =
    elim (fronts text rest header_text (b.whole.lines ++ b.cut) (begun_behind (text ++ rest) es b)) [
      | inl o ↦
          let f = front_behind es o.more rest b.whole.lines b.cut b.whole.are b.unended o.rest in
          record { front = f.front; rest = f.rest; is = f.is; spells = spelled text o.more f.front o.is f.behind }
      | inr w ↦ record { front = []; rest = es; is = refl; spells = inr (record { rest = w.next ∷ w.more; is = w.is }, refl) }
    ]
prefixes_spell_prefixes text rest es (inr u) =
    record { front = []; rest = []; is = u.1; spells = inr (record { rest = rest ++ u.0.rest; is = u.0.is ∙ append_assoc text rest u.0.rest }, refl) }

pub cuts_lose_one : CutsLoseOne
cuts_lose_one text front [] es time e whole low good is some = absurd (some refl)
cuts_lose_one text front (c ∷ cs) es time e whole low good is some =
    inl (record { front = text; cut = front; is = refl; whole = whole; unended = within_line front (entry_text time e) (entry_line time e low good) (record { next = c; more = cs; is = is }) })

-- ---- octets spell one list of entries

record SameLine (a b s t : List ℕ) : Type 0 where
  pub lines : a ≡ b
  pub rests : s ≡ t

one_line : (a b s t : List ℕ) → HasNoFeed a → HasNoFeed b → a ++ 10 ∷ s ≡ b ++ 10 ∷ t → SameLine a b s t
one_line [] [] s t ha hb e = record { lines = refl; rests = (cc) }
one_line [] (y ∷ b) s t ha hb e = let same : 10 ≡ y = cc in absurd (true≢false (ap (λ (n : ℕ). n == 10) same ∙ hb.0))
one_line (x ∷ a) [] s t ha hb e = let same : x ≡ 10 = cc in absurd (true≢false (sym (ap (λ (n : ℕ). n == 10) same) ∙ ha.0))
one_line (x ∷ a) (y ∷ b) s t ha hb e =
    let same : x ≡ y = cc in
    let tails : a ++ 10 ∷ s ≡ b ++ 10 ∷ t = cc in
    let o = one_line a b s t ha.1 hb.1 tails in
    record { lines = ap (λ (l : List ℕ). x ∷ l) o.lines ∙ ap (λ (n : ℕ). n ∷ b) same; rests = o.rests }

same_line : (a b s t : List ℕ) → IsOneLine a → IsOneLine b → a ++ s ≡ b ++ t → SameLine a b s t
same_line a b s t oa ob e =
    let left : a ++ s ≡ oa.body ++ 10 ∷ s = ap (λ (l : List ℕ). l ++ s) oa.is ∙ append_assoc oa.body (10 ∷ []) s in
    let right : b ++ t ≡ ob.body ++ 10 ∷ t = ap (λ (l : List ℕ). l ++ t) ob.is ∙ append_assoc ob.body (10 ∷ []) t in
    let o = one_line oa.body ob.body s t oa.none ob.none (sym left ∙ e ∙ right) in
    record { lines = oa.is ∙ ap (λ (l : List ℕ). l ++ 10 ∷ []) o.lines ∙ sym ob.is; rests = o.rests }

no_line_there : (line rest cut : List ℕ) → IsOneLine line → HasNoFeed cut → cut ≡ line ++ rest → ⊥
no_line_there line rest cut one none e =
    let all : cut ≡ one.body ++ 10 ∷ rest = e ∙ ap (λ (l : List ℕ). l ++ rest) one.is ∙ append_assoc one.body (10 ∷ []) rest in
    bad one.body (subst HasNoFeed all none)
  where
    bad : (body : List ℕ) → HasNoFeed (body ++ 10 ∷ rest) → ⊥
    bad [] h = true≢false h.0
    bad (x ∷ body) h = bad body h.1

once_behind : (es fs : List Entry) (lines cut others end : List ℕ) → AreLines lines es → HasNoFeed cut → AreLines others fs → HasNoFeed end → lines ++ cut ≡ others ++ end → es ≡ fs
once_behind [] [] lines cut others end are none be nor e = refl
once_behind [] (y ∷ fs) lines cut others end are none be nor e =
    let all : cut ≡ be.0 ++ (be.1 ++ end) = sym (ap (λ (l : List ℕ). l ++ cut) are) ∙ e ∙ ap (λ (l : List ℕ). l ++ end) be.2 ∙ append_assoc be.0 be.1 end in
    absurd (no_line_there be.0 (be.1 ++ end) cut (line_one be.0 y be.3) none all)
once_behind (x ∷ es) [] lines cut others end are none be nor e =
    let all : end ≡ are.0 ++ (are.1 ++ cut) = sym (ap (λ (l : List ℕ). l ++ end) be) ∙ sym e ∙ ap (λ (l : List ℕ). l ++ cut) are.2 ∙ append_assoc are.0 are.1 cut in
    absurd (no_line_there are.0 (are.1 ++ cut) end (line_one are.0 x are.3) nor all)
once_behind (x ∷ es) (y ∷ fs) lines cut others end are none be nor e =
    let all : are.0 ++ (are.1 ++ cut) ≡ be.0 ++ (be.1 ++ end) = sym (append_assoc are.0 are.1 cut) ∙ sym (ap (λ (l : List ℕ). l ++ cut) are.2) ∙ e ∙ ap (λ (l : List ℕ). l ++ end) be.2 ∙ append_assoc be.0 be.1 end in
    let s = same_line are.0 be.0 (are.1 ++ cut) (be.1 ++ end) (line_one are.0 x are.3) (line_one be.0 y be.3) all in
    let first : x ≡ y = line_once are.0 x y are.3 (subst (λ (l : List ℕ). IsLineOf l y) (sym s.lines) be.3) in
    let later : es ≡ fs = once_behind es fs are.1 cut be.1 end are.4 none be.4 nor s.rests in
    λ i. first i ∷ later i

-- what begins with the header and is a prefix of it has no entries
header_only : (text : List ℕ) (es : List Entry) → IsBegunText text es → IsUnbegun text → es ≡ []
header_only text [] b u = refl
header_only text (x ∷ es) b u =
    let are = b.whole.are in
    let one = line_one are.0 x are.3 in
    let long : length text ≡ length header_text + length (b.whole.lines ++ b.cut) = ap length (begun_behind text (x ∷ es) b) ∙ length-append header_text (b.whole.lines ++ b.cut) in
    let short : length header_text ≡ length text + length u.rest = ap length u.is ∙ length-append text u.rest in
    let lines : length b.whole.lines ≡ length are.0 + length are.1 = ap length are.2 ∙ length-append are.0 are.1 in
    let some : length are.0 ≡ length one.body + 1 = ap length one.is ∙ length-append one.body (10 ∷ []) in
    absurd (omega (arith, long, short, lines, some, length-append b.whole.lines b.cut))

pub texts_spell_once : TextsSpellOnce
texts_spell_once text es fs (inl b) (inl d) =
    once_behind es fs b.whole.lines b.cut d.whole.lines d.cut b.whole.are b.unended d.whole.are d.unended
    (append_cancel_left header_text (b.whole.lines ++ b.cut) (d.whole.lines ++ d.cut) (sym (begun_behind text es b) ∙ begun_behind text fs d))
texts_spell_once text es fs (inl b) (inr u) = header_only text es b u.0 ∙ sym u.1
texts_spell_once text es fs (inr u) (inl b) = u.1 ∙ sym (header_only text fs b u.0)
texts_spell_once text es fs (inr u) (inr v) = u.1 ∙ sym v.1

-- ---- octets with a fault spell no ledger

nil_front : (a b : List ℕ) → [] ≡ a ++ b → a ≡ []
nil_front [] b e = refl
nil_front (x ∷ a) b e = absurd (omega (arith, ap length e, length-append (x ∷ a) b))

no_lines : (es : List Entry) (lines : List ℕ) → AreLines lines es → lines ≡ [] → es ≡ []
no_lines [] lines are e = refl
no_lines (x ∷ es) lines are e =
    let one = line_one are.0 x are.3 in
    absurd (omega (arith, ap length (sym e ∙ are.2), length-append are.0 are.1, ap length one.is, length-append one.body (10 ∷ [])))

-- these are the entries before a line, and that of the line
record IsNext (es : List Entry) (line : List ℕ) (fs : List Entry) : Type 0 where
  pub entry : Entry
  pub is : fs ≡ es ++ entry ∷ []
  pub here : IsLineOf line entry

next_behind : (es fs : List Entry) (lines line others cut : List ℕ) → AreLines lines es → IsOneLine line → AreLines others fs → HasNoFeed cut → lines ++ line ≡ others ++ cut → IsNext es line fs
next_behind [] [] lines line others cut are one be none e =
    let all : cut ≡ line ++ [] = sym (ap (λ (l : List ℕ). l ++ cut) be) ∙ sym e ∙ ap (λ (l : List ℕ). l ++ line) are ∙ sym (append-nil line) in
    absurd (no_line_there line [] cut one none all)
next_behind [] (x ∷ fs) lines line others cut are one be none e =
    let all : line ++ [] ≡ be.0 ++ (be.1 ++ cut) = append-nil line ∙ sym (ap (λ (l : List ℕ). l ++ line) are) ∙ e ∙ ap (λ (l : List ℕ). l ++ cut) be.2 ∙ append_assoc be.0 be.1 cut in
    let s = same_line line be.0 [] (be.1 ++ cut) one (line_one be.0 x be.3) all in
    let rest : fs ≡ [] = no_lines fs be.1 be.4 (nil_front be.1 cut s.rests) in
    record { entry = x; is = ap (λ (l : List Entry). x ∷ l) rest; here = subst (λ (l : List ℕ). IsLineOf l x) (sym s.lines) be.3 }
next_behind (y ∷ es) [] lines line others cut are one be none e =
    let all : cut ≡ are.0 ++ (are.1 ++ line) = sym (ap (λ (l : List ℕ). l ++ cut) be) ∙ sym e ∙ ap (λ (l : List ℕ). l ++ line) are.2 ∙ append_assoc are.0 are.1 line in
    absurd (no_line_there are.0 (are.1 ++ line) cut (line_one are.0 y are.3) none all)
next_behind (y ∷ es) (x ∷ fs) lines line others cut are one be none e =
    let all : are.0 ++ (are.1 ++ line) ≡ be.0 ++ (be.1 ++ cut) = sym (append_assoc are.0 are.1 line) ∙ sym (ap (λ (l : List ℕ). l ++ line) are.2) ∙ e ∙ ap (λ (l : List ℕ). l ++ cut) be.2 ∙ append_assoc be.0 be.1 cut in
    let s = same_line are.0 be.0 (are.1 ++ line) (be.1 ++ cut) (line_one are.0 y are.3) (line_one be.0 x be.3) all in
    let first : x ≡ y = line_once are.0 x y (subst (λ (l : List ℕ). IsLineOf l x) (sym s.lines) be.3) are.3 in
    let n = next_behind es fs are.1 line be.1 cut are.4 one be.4 none s.rests in
    record { entry = n.entry; is = λ i. first i ∷ n.is i; here = n.here }

next_spelled : (es fs : List Entry) (lines line : List ℕ) → AreLines lines es → IsOneLine line → Spells (header_text ++ (lines ++ line)) fs → IsNext es line fs
next_spelled es fs lines line are one (inl b) =
    next_behind es fs lines line b.whole.lines b.cut are one b.whole.are b.unended (append_cancel_left header_text (lines ++ line) (b.whole.lines ++ b.cut) (begun_behind (header_text ++ (lines ++ line)) fs b))
next_spelled es fs lines line are one (inr u) =
    let short : length header_text ≡ length (header_text ++ (lines ++ line)) + length u.0.rest = ap length u.0.is ∙ length-append (header_text ++ (lines ++ line)) u.0.rest in
    absurd (omega (arith, short, length-append header_text (lines ++ line), length-append lines line, ap length one.is, length-append one.body (10 ∷ [])))

record IsBookedNext (es : List Entry) (line : List ℕ) : Type 0 where
  pub entry : Entry
  pub here : IsLineOf line entry
  pub ok : refusal_of entry (books_of es) ≡ None

-- where octets spell a ledger, the line after a prefix of it is an entry's that may follow
next_in : (P : State → List ℕ → Type 0) (place : ℕ) (text behind : List ℕ) (s : State) → text ≡ header_text ++ behind → (at : IsAt place behind P) → IsFileOf text s → IsBookedNext at.entries at.line
next_in P place text behind s is at file =
    let begun : text ≡ (header_text ++ (at.lines ++ at.line)) ++ at.rest =
    is ∙ ap (λ (l : List ℕ). header_text ++ l) (at.is ∙ ap (λ (l : List ℕ). at.lines ++ l) at.begins.is ∙ sym (append_assoc at.lines at.line at.rest)) ∙ sym (append_assoc header_text (at.lines ++ at.line) at.rest)
    in
    let f = prefixes_spell_prefixes (header_text ++ (at.lines ++ at.line)) at.rest file.entries (subst (λ (l : List ℕ). Spells l file.entries) begun file.spells) in
    let n = next_spelled at.entries f.front at.lines at.line at.are at.begins.one f.spells in
    let all : file.entries ≡ at.entries ++ n.entry ∷ f.rest = f.is ∙ ap (λ (l : List Entry). l ++ f.rest) n.is ∙ append_assoc at.entries (n.entry ∷ []) f.rest in
    record { entry = n.entry; here = n.here; ok = booked_next at.entries n.entry f.rest nothing (subst IsLedger all file.booked) }

header_there : (text : List ℕ) (s : State) → HasNoHeader text → IsFileOf text s → ⊥
header_there text s none file = spells file.entries file.spells
  where
    spells : (es : List Entry) → Spells text es → ⊥
    spells es (inl b) = none.begun (b.whole.lines ++ b.cut) (begun_behind text es b)
    spells es (inr u) = none.unbegun u.0.rest u.0.is

pub faults_spell_none : FaultsSpellNone
faults_spell_none text (Unreadable place) s of (inl bad) file = header_there text s bad.1 file
faults_spell_none text (Unreadable place) s of (inr bad) file = let n = next_in IsUnreadLine place text bad.0 s bad.1 bad.2 file in bad.2.says n.entry n.here
faults_spell_none text (Refused place r) s of bad file =
    let n = next_in (IsRefusedLine r) place text bad.0 s bad.1 bad.2 file in
    let says = bad.2.says in
    let same : says.0 ≡ n.entry = line_once bad.2.line says.0 n.entry says.1 n.here in
    let e : Some r ≡ None = sym says.2 ∙ ap (λ (x : Entry). refusal_of x (books_of bad.2.entries)) same ∙ n.ok in
    absurd (cc)
faults_spell_none text (Memory refused) s of bad file = of

pub books_are_one : BooksAreOne
books_are_one text s t f g = f.books ∙ ap books_of (texts_spell_once text f.entries g.entries f.spells g.spells) ∙ sym g.books

-- ---- where a line that was truncated begins

ends_behind : (a b : List ℕ) → EndsLine b → EndsLine (a ++ b)
ends_behind a b e = record { body = a ++ e.body; is = ap (λ (l : List ℕ). a ++ l) e.is ∙ sym (append_assoc a e.body (10 ∷ [])) }

pub one_ends : (line : List ℕ) → IsOneLine line → EndsLine line
one_ends line one = record { body = one.body; is = one.is }

lines_end : (es : List Entry) (front lines : List ℕ) → EndsLine front → AreLines lines es → EndsLine (front ++ lines)
lines_end [] front lines e are = subst EndsLine (sym (append-nil front) ∙ ap (λ (l : List ℕ). front ++ l) (sym are)) e
lines_end (x ∷ es) front lines e are =
    subst EndsLine (append_assoc front are.0 are.1 ∙ ap (λ (l : List ℕ). front ++ l) (sym are.2)) (lines_end es (front ++ are.0) are.1 (ends_behind front are.0 (one_ends are.0 (line_one are.0 x are.3))) are.4)

-- a text that ends with a line feed has one
ends_not : (a b : List ℕ) → EndsLine a → HasNoFeed (a ++ b) → ⊥
ends_not a b e none = no_line_within e.body (subst (λ (l : List ℕ). HasNoFeed (l ++ b)) e.is none)
  where
    no_line_within : (body : List ℕ) → HasNoFeed ((body ++ 10 ∷ []) ++ b) → ⊥
    no_line_within [] h = true≢false h.0
    no_line_within (x ∷ body) h = no_line_within body h.1

-- so does what is left of it after a prefix
rest_ends : (c : List ℕ) (next : ℕ) (more : List ℕ) → EndsLine (c ++ next ∷ more) → EndsLine (next ∷ more)
rest_ends [] next more e = e
rest_ends (x ∷ c) next more e = here e.body e.is (rest_ends c next more)
  where
    here : (body : List ℕ) → x ∷ (c ++ next ∷ more) ≡ body ++ 10 ∷ [] → (EndsLine (c ++ next ∷ more) → EndsLine (next ∷ more)) → EndsLine (next ∷ more)
    here [] is later = let tails : c ++ next ∷ more ≡ [] = cc in absurd (omega (arith, ap length tails, length-append c (next ∷ more)))
    here (y ∷ body) is later = let tails : c ++ next ∷ more ≡ body ++ 10 ∷ [] = cc in later (record { body = body; is = tails })

same_front : (a b c d : List ℕ) → (a ≡ []) ⊎ EndsLine a → HasNoFeed b → EndsLine c → HasNoFeed d → a ++ b ≡ c ++ d → a ≡ c
same_front a b c d (inl none) nb ec nd e = absurd (ends_not c d ec (subst HasNoFeed (sym (ap (λ (l : List ℕ). l ++ b) none) ∙ e) nb))
same_front a b c d (inr ea) nb ec nd e =
    elim (fronts a b c d e) [ inl o ↦ over o.more o.is o.rest | inr w ↦ absurd (within w.next w.more w.is) ]
  where
    over : (more : List ℕ) → a ≡ c ++ more → more ++ b ≡ d → a ≡ c
    over [] is rest = is ∙ append-nil c
    over (x ∷ more) is rest = absurd (ends_not (x ∷ more) b (rest_ends c x more (subst EndsLine is ea)) (subst HasNoFeed (sym rest) nd))

    within : (next : ℕ) (more : List ℕ) → c ≡ a ++ next ∷ more → ⊥
    within next more is =
        let rest : b ≡ (next ∷ more) ++ d = append_cancel_left a b ((next ∷ more) ++ d) (e ∙ ap (λ (l : List ℕ). l ++ d) is ∙ append_assoc a (next ∷ more) d) in
        ends_not (next ∷ more) d (rest_ends a next more (subst EndsLine is ec)) (subst HasNoFeed rest nb)

header_ends : EndsLine header_text
header_ends = record { body = codes "ledger,1"; is = refl }

pub whole_lines : WholeLinesAreWhole
whole_lines text n es w b =
    let ends : EndsLine b.front = subst EndsLine (sym b.whole.is) (lines_end es header_text b.whole.lines header_ends b.whole.are) in
    let same : w.front ≡ b.front = same_front w.front w.cut b.front b.cut w.ended w.unended ends b.unended (sym w.is ∙ b.is) in
    let taken : take n text ≡ w.front = ap (take n) w.is ∙ ap (λ (k : ℕ). take k (w.front ++ w.cut)) (sym w.long) ∙ take-append_seam w.front w.cut in
    subst (λ (l : List ℕ). IsWholeText l es) (sym (taken ∙ same)) b.whole

pub unbegun_none : UnbegunHasNone
unbegun_none text n next more w is =
    elim w.ended [
      | inl none ↦ sym w.long ∙ ap length none
      | inr e ↦
          let whole : codes "ledger,1" ++ 10 ∷ [] ≡ w.front ++ (w.cut ++ next ∷ more) = is ∙ ap (λ (l : List ℕ). l ++ next ∷ more) w.is ∙ append_assoc w.front w.cut (next ∷ more) in
          absurd (ends_not w.front [] e (rw append-nil (front_of w.cut whole)))
    ]
  where
    front_of : (cut : List ℕ) → codes "ledger,1" ++ 10 ∷ [] ≡ w.front ++ (cut ++ next ∷ more) → HasNoFeed w.front
    front_of [] h = within_body w.front (codes "ledger,1") next more h (search rules)
    front_of (x ∷ cut) h = within_body w.front (codes "ledger,1") x (cut ++ next ∷ more) h (search rules)

-- what a reader has gone over
pub record IsWholeTo (text left : List ℕ) (n : ℕ) : Type 0 where
  pub front : List ℕ
  pub is : text ≡ front ++ left
  pub long : length front ≡ n
  pub ended : (front ≡ []) ⊎ EndsLine front

pub whole_none : (text : List ℕ) → IsWholeTo text text 0
whole_none text = record { front = []; is = refl; long = refl; ended = inl refl }

pub whole_more : (text left line rest : List ℕ) (n m : ℕ) → IsWholeTo text left n → BeginsWith line rest left → m ≡ n + length line → IsWholeTo text rest m
whole_more text left line rest n m so begins sum = record {
  front = so.front ++ line;
  is = so.is ∙ ap (λ (l : List ℕ). so.front ++ l) begins.is ∙ sym (append_assoc so.front line rest);
  long = omega (arith, length-append so.front line, so.long, sum);
  ended = inr (ends_behind so.front line (one_ends line begins.one));
}

pub whole_fits : (text left line rest : List ℕ) (n : ℕ) → IsWholeTo text left n → BeginsWith line rest left → n + length line ≤ length text
whole_fits text left line rest n so begins =
    omega (arith, so.long, ap length so.is, length-append so.front left, ap length begins.is, length-append line rest)

pub whole_all : (text left : List ℕ) (n : ℕ) → IsWholeTo text left n → HasNoFeed left → IsWholeLength text n
whole_all text left n so none = record { front = so.front; cut = left; is = so.is; long = so.long; ended = so.ended; unended = none }
