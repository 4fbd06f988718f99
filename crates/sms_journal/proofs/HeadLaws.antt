-- A text is the journal of one run of a ledger, and no truncated head; whatever was truncated of a head is one.
use Rattle.std.proofs.Common.{◌≡◌, ℕ, Bool, false, List, [], ◌∷◌, ◌++◌, Some, None, inl, inr, refl, sym, ap, ◌∙◌, subst, arith, rules, append_assoc, append-nil, length, length-append, ◌<◌}
use Rattle.std.specs.Prelude.{◌==◌, ◌≢◌, ◌⊎◌, codes, decimal, nat_lt, if◌then◌else◌}
use Rattle.std.specs.List.{position_or_len}
use Rattle.std.proofs.lemmas.Bool.Decides.{nat_tests}
use Rattle.sms_ledger.specs.Names.{IsRun}
use Rattle.sms_ledger.specs.Lines.{IsU64}
use Rattle.sms_journal.specs.Lines.{feed_at}
use Rattle.sms_journal.specs.OfLedger.{BeginsSo, IsCutHead, IsCutLine, IsRunText, run_line}
use Rattle.sms_journal.specs.RunHeads.{NoRunTextIsCut, RunTextsAreUnique, TruncatedHeadsAreCut, run_said, size_said}
use Rattle.sms_journal.specs.Text.{number_field}
use Rattle.sms_journal.proofs.Apart.{HasNoFeed, IsLine, no_cut, no_feed, no_feed_append}
use Rattle.sms_journal.proofs.Fields.{no_end_number}
use Rattle.sms_journal.proofs.DigestTexts.{same_some}
use Rattle.sms_journal.proofs.RunHeads.{behind_head, run_ends_none, run_is_said, size_is_said}

-- ---- what a text says is one

says_run : (run accounts journal text : List ℕ) → IsRunText run accounts journal text → run_said text ≡ Some run
says_run run accounts journal text is = ap run_said (is.is ∙ behind_head run accounts journal) ∙ run_is_said run (length accounts) (accounts ++ journal) is.named is.small

says_size : (run accounts journal text : List ℕ) → IsRunText run accounts journal text → size_said text ≡ Some (length accounts)
says_size run accounts journal text is = ap size_said (is.is ∙ behind_head run accounts journal) ∙ size_is_said run (length accounts) (accounts ++ journal) is.named is.small

-- fronts of one length of one list
fronts_are_one : (a b r s : List ℕ) → length a ≡ length b → a ++ r ≡ b ++ s → (a ≡ b) × (r ≡ s)
fronts_are_one [] [] r s long e = (refl, e)
fronts_are_one [] (y ∷ b) r s long e = absurd (cc)
fronts_are_one (x ∷ a) [] r s long e = absurd (cc)
fronts_are_one (x ∷ a) (y ∷ b) r s long e =
    let head : x ≡ y = cc in
    let tail : a ++ r ≡ b ++ s = cc in
    let rest = fronts_are_one a b r s (omega (arith, long)) tail in
    (ap (λ (z : ℕ). z ∷ a) head ∙ ap (λ (l : List ℕ). y ∷ l) rest.0, rest.1)

pub one_run : RunTextsAreUnique
one_run text run accounts journal other others rest is so =
    let same_run : other ≡ run = same_some other run (sym (says_run other others rest text so) ∙ says_run run accounts journal text is) in
    let same_size : length others ≡ length accounts = same_some (length others) (length accounts) (sym (says_size other others rest text so) ∙ says_size run accounts journal text is) in
    let line : run_line other (length others) ≡ run_line run (length accounts) = ap (λ (n : ℕ). run_line other n) same_size ∙ ap (λ (l : List ℕ). run_line l (length accounts)) same_run in
    let e : run_line other (length others) ++ (others ++ rest) ≡ run_line run (length accounts) ++ (accounts ++ journal) = sym (so.is ∙ behind_head other others rest) ∙ is.is ∙ behind_head run accounts journal in
    let behind = fronts_are_one (run_line other (length others)) (run_line run (length accounts)) (others ++ rest) (accounts ++ journal) (ap length line) e in
    let both = fronts_are_one others accounts rest journal same_size behind.1 in
    (same_run, both.0, both.1)

-- ---- its first line is a line

abbrev body_of : List ℕ → ℕ → List ℕ
body_of run size = codes "run,1," ++ (run ++ number_field size)

regroup : (a b c d : List ℕ) → ((a ++ b) ++ c) ++ d ≡ (a ++ (b ++ c)) ++ d
regroup a b c d = simp append_assoc

body_whole : (run : List ℕ) (size : ℕ) → IsRun run → IsU64 size → HasNoFeed (body_of run size)
body_whole run size named small =
    no_feed_append (codes "run,1,") (run ++ number_field size) (search rules) (no_feed_append run (number_field size) (no_feed run (run_ends_none run named)) (refl, no_feed (decimal size) (no_end_number size small)))

first_line : (run : List ℕ) (size : ℕ) → IsRun run → IsU64 size → IsLine (run_line run size)
first_line run size named small = record { body = body_of run size; whole = body_whole run size named small; is = regroup (codes "run,1,") run (number_field size) (codes "\n") }

pub whole_or_cut : NoRunTextIsCut
whole_or_cut run accounts journal text is (inl cut) =
    no_cut (run_line run (length accounts)) (accounts ++ journal) text (first_line run (length accounts) is.named is.small) (is.is ∙ behind_head run accounts journal) cut.0
whole_or_cut run accounts journal text is (inr cut) =
    let same_run : cut.run ≡ run = same_some cut.run run (sym (ap run_said cut.is ∙ run_is_said cut.run cut.size cut.accounts cut.named cut.small) ∙ says_run run accounts journal text is) in
    let same_size : cut.size ≡ length accounts = same_some cut.size (length accounts) (sym (ap size_said cut.is ∙ size_is_said cut.run cut.size cut.accounts cut.named cut.small) ∙ says_size run accounts journal text is) in
    let line : run_line cut.run cut.size ≡ run_line run (length accounts) = ap (λ (n : ℕ). run_line cut.run n) same_size ∙ ap (λ (l : List ℕ). run_line l (length accounts)) same_run in
    let e : run_line cut.run cut.size ++ cut.accounts ≡ run_line run (length accounts) ++ (accounts ++ journal) = sym cut.is ∙ is.is ∙ behind_head run accounts journal in
    let behind = fronts_are_one (run_line cut.run cut.size) (run_line run (length accounts)) cut.accounts (accounts ++ journal) (ap length line) e in
    absurd (omega (arith, cut.short, same_size, ap length behind.1, length-append accounts journal))

-- ---- what was truncated of a head

-- of two fronts of one list one begins with the other
abbrev Overlap : List ℕ → List ℕ → List ℕ → List ℕ → Type 0
Overlap a b c d = ((e : List ℕ) × (c ≡ a ++ e) × (b ≡ e ++ d)) ⊎ ((e : List ℕ) × (a ≡ c ++ e) × (d ≡ e ++ b))

overlap : (a b c d : List ℕ) → a ++ b ≡ c ++ d → Overlap a b c d
overlap [] b c d e = inl (c, refl, e)
overlap (x ∷ a) b [] d e = inr (x ∷ a, refl, sym e)
overlap (x ∷ a) b (y ∷ c) d e =
    let head : x ≡ y = cc in
    let tail : a ++ b ≡ c ++ d = cc in
    more head (overlap a b c d tail)
  where
    more : x ≡ y → Overlap a b c d → Overlap (x ∷ a) b (y ∷ c) d
    more head (inl (f, is, rest)) = inl (f, ap (λ (z : ℕ). z ∷ c) (sym head) ∙ ap (λ (l : List ℕ). x ∷ l) is, rest)
    more head (inr (f, is, rest)) = inr (f, ap (λ (z : ℕ). z ∷ a) head ∙ ap (λ (l : List ℕ). y ∷ l) is, rest)

feedless : (b : List ℕ) → HasNoFeed b → position_or_len (λ (c : ℕ). c == 10) b ≡ length b
feedless [] h = refl
feedless (x ∷ b) h = search (rules, feedless b h.1)

not_less : (n : ℕ) → nat_lt n n ≡ false
not_less n = grind (arith, nat_tests)

none_fed : (b : List ℕ) → HasNoFeed b → feed_at b ≡ None
none_fed b h =
    ap (λ (n : ℕ). if nat_lt n (length b) then Some n else None) (feedless b h) ∙ ap (λ (t : Bool). if t then Some (length b) else None) (not_less (length b))

front_unfed : (a b : List ℕ) → HasNoFeed (a ++ b) → HasNoFeed a
front_unfed [] b h = tt
front_unfed (x ∷ a) b h = (h.0, front_unfed a b h.1)

-- a front of the octets of a first line before its line feed
short_line : (run : List ℕ) (size : ℕ) (text rest : List ℕ) → IsRun run → IsU64 size → body_of run size ≡ text ++ rest → IsCutLine text
short_line run size text rest named small is =
    (none_fed text (front_unfed text rest (subst HasNoFeed is (body_whole run size named small))), by (overlap (codes "run,1,") (run ++ number_field size) text rest is))
  where
    by : Overlap (codes "run,1,") (run ++ number_field size) text rest → BeginsSo text (codes "run,1,") ⊎ BeginsSo (codes "run,1,") text
    by (inl (e, longer, more)) = inr (e, longer)
    by (inr (e, shorter, more)) = inl (e, shorter)

less : (a b c : List ℕ) → a ≡ b ++ c → c ≢ [] → length b < length a
less a b [] is some = absurd (some refl)
less a b (x ∷ c) is some = omega (arith, ap length is, length-append b (x ∷ c))

module _ (run accounts text rest : List ℕ) (named : IsRun run) (small : IsU64 (length accounts)) (some : rest ≢ []) where
  abbrev line : List ℕ
  line = run_line run (length accounts)

  abbrev body : List ℕ
  body = body_of run (length accounts)

  cut_behind : (more : List ℕ) → text ≡ line ++ more → accounts ≡ more ++ rest → IsCutHead text
  cut_behind more is so = inr (record { run = run; size = length accounts; accounts = more; named = named; small = small; is = is; short = less accounts more rest so some })

  -- where the text is a front of the first line
  cut_within : (e : List ℕ) → line ≡ text ++ e → rest ≡ e ++ accounts → Overlap body (10 ∷ []) text e → IsCutHead text
  cut_within e front so (inr (f, is, last)) = inl (short_line run (length accounts) text f named small is)
  cut_within e front so (inl ([], is, last)) = inl (short_line run (length accounts) text [] named small (sym (append-nil body) ∙ sym is ∙ sym (append-nil text)))
  cut_within [] front so (inl (x ∷ f, is, last)) = cut_behind [] (sym (append-nil text) ∙ sym front ∙ sym (append-nil line)) (sym so)
  cut_within (y ∷ e) front so (inl (x ∷ f, is, last)) = absurd (omega (arith, ap length last, length-append f (y ∷ e)))

  cut_by : Overlap line accounts text rest → IsCutHead text
  cut_by (inl (e, is, so)) = cut_behind e is so
  cut_by (inr (e, is, so)) = cut_within e is so (overlap body (10 ∷ []) text e (sym (regroup (codes "run,1,") run (number_field (length accounts)) (codes "\n")) ∙ is))

pub truncated_is_cut : TruncatedHeadsAreCut
truncated_is_cut run accounts text rest named small is some = cut_by run accounts text rest named small some (overlap (run_line run (length accounts)) accounts text rest is)
