-- Where no message is quoted as one without credit, one worker refuses none for it.
use Rattle.std.proofs.Common.{◌≡◌, ℕ, zero, suc, ◌+◌, ◌-◌, ◌*◌, ◌<◌, ◌≤◌, Bool, true, false, List, [], ◌∷◌, length, take, Some, None, inl, inr, refl, ap, ◌∙◌, subst, arith}
use Rattle.std.specs.Prelude.{◌≢◌, ◌⊎◌, ◌==◌, ◌&&◌, Option, if◌then◌else◌, slice_get, string_bytes}
use Rattle.std.specs.List.{AllZip}
use Rattle.std.proofs.lemmas.Bool.{eqb-true}
use Rattle.sms_core.specs.Rows.{reserved_of, charged_of, returned_of}
use Rattle.sms_book.specs.declared.amounts.Amounts.{Amounts}
use Rattle.sms_book.specs.declared.opening.Opening.{Opening}
use Rattle.sms_book.specs.Alone.{opening_at}
use Rattle.sms_book.specs.Openings.{credits_of}
use Rattle.sms_book.specs.Portions.{topped_at}
use Rattle.sms_book.specs.Tariffs.{cost_of}
use Rattle.sms_message.specs.declared.message.Message.{Message}
use Rattle.sms_message.specs.declared.rules.Rules.{Rules}
use Rattle.sms_message.specs.declared.ends.MessageRefusal.{MessageRefusal}
use Rattle.sms_message.specs.declared.ends.MessageRefusal.TheVariants as refusal
use Rattle.sms_message.specs.declared.ends.MessageResult.TheVariants.{Refused, Sent}
use Rattle.sms_message.specs.declared.ends.Outcome.{Outcome}
use Rattle.sms_message.specs.declared.ends.Outcome.TheVariants as outcome
use Rattle.sms_message.specs.Ends.{credit, credits, phase_of, segments_in, total_in}
use Rattle.sms_message.specs.Submits.{HasAddresses}
use Rattle.sms_message.specs.Results.{HasSegments, IsResultOf}
use Rattle.sms_message.specs.Admission.{IsKnown}
use Rattle.sms_message.specs.Admission as told
use Rattle.sms_files.specs.SentEnds.{IsEndOf, MessageEnd, MessageResult, SegmentEnd, price_of}
use Rattle.sms_files.specs.declared.report.quote.quote.Quote.{Quote}
use Rattle.sms_files.specs.declared.report.quote.quote.Verdict.{Verdict}
use Rattle.sms_files.specs.declared.report.quote.quote.Verdict.TheVariants.{Passes, NoAccount, BadAddress, TooLong, NoCredit}
use Rattle.sms_files.specs.Credit.{CreditIsQuoted}
use Rattle.sms_files.specs.QuoteLaws.{HasParts}
use Rattle.sms_files.specs.Quotes.{IsQuoteOf, Says, credits_at, free_at, is_account, passes, share, taken}
use Rattle.sms_files.proofs.CountingQuotes.{share_none, share_other, share_its}
use Rattle.sms_files.proofs.Quoted.{sent_quoted}

-- ---- lists

module _ {X : Type 0} where
  there_is : (xs : List X) (k : ℕ) → k < length xs → (x : X) × (slice_get xs k ≡ Some x)
  there_is [] k low = absurd (omega arith)
  there_is (x ∷ xs) zero low = (x, refl)
  there_is (x ∷ xs) (suc k) low = there_is xs k (omega arith)

  low_is : (xs : List X) (k : ℕ) (x : X) → slice_get xs k ≡ Some x → k < length xs
  low_is [] k x at = absurd (cc)
  low_is (y ∷ xs) zero x at = omega arith
  low_is (y ∷ xs) (suc k) x at = let h = low_is xs k x at in omega arith

module _ {X Y : Type 0} (P : X → Y → Type 0) where
  -- what stands beside an element
  beside : (xs : List X) (ys : List Y) (k : ℕ) (y : Y) → AllZip P xs ys → slice_get ys k ≡ Some y → (x : X) × (slice_get xs k ≡ Some x) × P x y
  beside [] [] k y all at = absurd (cc)
  beside [] (z ∷ ys) k y all at = absurd all
  beside (x ∷ xs) [] k y all at = absurd (cc)
  beside (x ∷ xs) (z ∷ ys) zero y all at = let same : z ≡ y = cc in (x, refl, subst (P x) same all.0)
  beside (x ∷ xs) (z ∷ ys) (suc k) y all at = beside xs ys k y all.1 at

opening_is : (os : List Opening) (a : ℕ) → topped_at (credits_of os) a ≡ credits_at os a
opening_is [] a = refl
opening_is (o ∷ os) zero = refl
opening_is (o ∷ os) (suc a) = opening_is os a

-- ---- what quotes take of an account is no more than it has

-- a message takes nothing of the account, or it passes and has it
takes : (i : ℕ) (account : Option ℕ) (q : Quote) (v : Verdict) → q.verdict ≡ v → (share (λ s. s.cost) i account q ≡ 0) ⊎ ((q.verdict ≡ Passes) × (account ≡ Some i) × (share (λ s. s.cost) i account q ≡ q.cost))
takes i account q NoAccount is = inl (share_none (λ s. s.cost) i account q NoAccount is refl)
takes i account q BadAddress is = inl (share_none (λ s. s.cost) i account q BadAddress is refl)
takes i account q TooLong is = inl (share_none (λ s. s.cost) i account q TooLong is refl)
takes i account q NoCredit is = inl (share_none (λ s. s.cost) i account q NoCredit is refl)
takes i None q Passes is = inl (ap (λ (v : Verdict). if passes v && false then q.cost else 0) is)
takes i (Some a) q Passes is = here (a == i) refl
  where
    here : (b : Bool) → (a == i) ≡ b → (share (λ s. s.cost) i (Some a) q ≡ 0) ⊎ ((q.verdict ≡ Passes) × (Some a ≡ Some i) × (share (λ s. s.cost) i (Some a) q ≡ q.cost))
    here true e =
        let same : a ≡ i = eqb-true a i e in
        inr (is, ap Some same, ap (λ x. share (λ s. s.cost) i (Some x) q) same ∙ share_its (λ s. s.cost) i q is)
    here false e = inl (share_other (λ s. s.cost) i a q is e)

-- the credits are enough for each message that passes, behind those before it and so much more
abbrev Suffices : ℕ → ℕ → ℕ → List Message → List Quote → Type 0
Suffices all i base ms qs = (k : ℕ) (m : Message) (q : Quote) → slice_get ms k ≡ Some m → slice_get qs k ≡ Some q → q.verdict ≡ Passes → m.account ≡ Some i → q.cost ≤ all - (base + taken (λ s. s.cost) i (take k ms) (take k qs))

within : (all i base : ℕ) (ms : List Message) (qs : List Quote) → base ≤ all → Suffices all i base ms qs → base + taken (λ s. s.cost) i ms qs ≤ all
within all i base [] qs low enough = omega arith
within all i base (m ∷ ms) [] low enough = omega arith
within all i base (m ∷ ms) (q ∷ qs) low enough =
    let s : ℕ = share (λ s. s.cost) i m.account q in
    let more : base + s ≤ all = elim (takes i m.account q q.verdict refl) [
      | inl not_taken ↦ omega arith
      | inr its ↦ (let fits = enough 0 m q refl refl its.0 its.1 in let is = its.2 in omega arith)
    ] in
    let rest = within all i (base + s) ms qs more (λ k n p at there passed account. let fits = enough (suc k) n p at there passed account in omega arith) in
    omega arith

-- ---- what the ends take of it is what their quotes do

one_part : (b : Bool) (o : Outcome) (c : ℕ) → (if b then reserved_of (phase_of o) c else 0) + (if b then charged_of (phase_of o) c else 0) + (if b then returned_of (phase_of o) c else 0) ≡ (if b then c else 0)
one_part true outcome.Charged c = omega arith
one_part true outcome.Refused c = omega arith
one_part true outcome.Unanswered c = omega arith
one_part true outcome.Unsent c = omega arith
one_part false o c = refl

one_credit : (i : ℕ) (account : Option ℕ) (s : SegmentEnd) → credit reserved_of i account s + credit charged_of i account s + credit returned_of i account s ≡ (if is_account i account then s.cost else 0)
one_credit i None s = refl
one_credit i (Some a) s = one_part (a == i) s.outcome s.cost

-- all that segments take of an account
abbrev in_all : ℕ → Option ℕ → List SegmentEnd → ℕ
in_all i account ss = total_in (credit reserved_of i account) ss + total_in (credit charged_of i account) ss + total_in (credit returned_of i account) ss

in_all_is : (b : Bool) (i : ℕ) (account : Option ℕ) (ss : List SegmentEnd) → is_account i account ≡ b → in_all i account ss ≡ (if b then total_in (λ s. s.cost) ss else 0)
in_all_is true i account [] is = refl
in_all_is false i account [] is = refl
in_all_is true i account (s ∷ ss) is =
    let here : credit reserved_of i account s + credit charged_of i account s + credit returned_of i account s ≡ s.cost = one_credit i account s ∙ ap (λ (b : Bool). if b then s.cost else 0) is in
    let rest = in_all_is true i account ss is in
    omega arith
in_all_is false i account (s ∷ ss) is =
    let here : credit reserved_of i account s + credit charged_of i account s + credit returned_of i account s ≡ 0 = one_credit i account s ∙ ap (λ (b : Bool). if b then s.cost else 0) is in
    let rest = in_all_is false i account ss is in
    omega arith

-- a message that passes its checks is quoted as one that passes
passing : (rules : Rules) (accounts free : ℕ) (m : Message) (q : Quote) (v : Verdict) → Says accounts rules.long_reference rules.tariff free m q v → v ≢ NoCredit → IsKnown accounts m.account → HasAddresses m → told.IsShort rules m → v ≡ Passes
passing rules accounts free m q NoAccount says credit known good short = absurd (says.0 known)
passing rules accounts free m q BadAddress says credit known good short = absurd (says.1 good)
passing rules accounts free m q TooLong says credit known good short = absurd (short says.2)
passing rules accounts free m q NoCredit says credit known good short = absurd (credit refl)
passing rules accounts free m q Passes says credit known good short = refl

-- and takes its cost of its account
share_of : (i : ℕ) (account : Option ℕ) (q : Quote) → q.verdict ≡ Passes → share (λ s. s.cost) i account q ≡ (if is_account i account then q.cost else 0)
share_of i account q is = ap (λ (v : Verdict). if passes v && is_account i account then q.cost else 0) is

-- what an end takes is no more than what its quote takes
module _ (rules : Rules) (accounts free i : ℕ) (m : Message) (q : Quote) (e : MessageEnd) (quoted : IsQuoteOf accounts rules.long_reference rules.tariff free m q) (credit_is : q.verdict ≢ NoCredit) (end : IsEndOf rules accounts m e) where
  at_most : (r : MessageResult) → e.result ≡ r → in_all i m.account (segments_in e.result) ≤ share (λ s. s.cost) i m.account q
  at_most (Refused why) is = let nothing_in : in_all i m.account (segments_in e.result) ≡ 0 = ap (λ (r : MessageResult). in_all i m.account (segments_in r)) is in omega arith
  at_most (Sent segments) is =
      let has : HasSegments rules accounts m segments = subst (IsResultOf rules accounts m) is end.result in
      let passed : q.verdict ≡ Passes = passing rules accounts free m q q.verdict quoted credit_is has.known has.addresses has.short in
      let parts : HasParts q segments = sent_quoted rules accounts free m q e segments quoted end is in
      let all : in_all i m.account (segments_in e.result) ≡ (if is_account i m.account then total_in (λ s. s.cost) segments else 0) =
      ap (λ (r : MessageResult). in_all i m.account (segments_in r)) is ∙ in_all_is (is_account i m.account) i m.account segments refl in
      let its : share (λ s. s.cost) i m.account q ≡ (if is_account i m.account then total_in (λ s. s.cost) segments else 0) = share_of i m.account q passed ∙ ap (λ n. if is_account i m.account then n else 0) parts.cost in
      omega arith

abbrev spent : ℕ → List Message → List MessageEnd → ℕ
spent i ms es = credits reserved_of i ms es + credits charged_of i ms es + credits returned_of i ms es

abbrev AtMost : ℕ → List Message → List Quote → List MessageEnd → Type 0
AtMost i ms qs es = (k : ℕ) (m : Message) (q : Quote) (e : MessageEnd) → slice_get ms k ≡ Some m → slice_get qs k ≡ Some q → slice_get es k ≡ Some e → in_all i m.account (segments_in e.result) ≤ share (λ s. s.cost) i m.account q

spent_at_most : (i : ℕ) (ms : List Message) (qs : List Quote) (es : List MessageEnd) → length qs ≡ length ms → AtMost i ms qs es → spent i ms es ≤ taken (λ s. s.cost) i ms qs
spent_at_most i [] qs es long each = omega arith
spent_at_most i (m ∷ ms) [] es long each = absurd (omega arith)
spent_at_most i (m ∷ ms) (q ∷ qs) [] long each = omega arith
spent_at_most i (m ∷ ms) (q ∷ qs) (e ∷ es) long each =
    let here = each 0 m q e refl refl refl in
    let rest = spent_at_most i ms qs es (omega arith) (λ k n p d. each (suc k) n p d) in
    omega arith

-- and with one that is refused it is so by as much as that one's quote takes
spent_beside : (i : ℕ) (ms : List Message) (qs : List Quote) (es : List MessageEnd) (j : ℕ) (m : Message) (q : Quote) (e : MessageEnd) (r : MessageRefusal) → length qs ≡ length ms → AtMost i ms qs es → slice_get ms j ≡ Some m → slice_get qs j ≡ Some q
    → slice_get es j ≡ Some e → e.result ≡ Refused r → spent i ms es + share (λ s. s.cost) i m.account q ≤ taken (λ s. s.cost) i ms qs
spent_beside i [] qs es j m q e r long each at there got is = absurd (cc)
spent_beside i (x ∷ ms) [] es j m q e r long each at there got is = absurd (cc)
spent_beside i (x ∷ ms) (y ∷ qs) [] j m q e r long each at there got is = absurd (cc)
spent_beside i (x ∷ ms) (y ∷ qs) (z ∷ es) zero m q e r long each at there got is =
    let message : x ≡ m = cc in
    let quote : y ≡ q = cc in
    let end : z ≡ e = cc in
    let nothing_in : in_all i x.account (segments_in z.result) ≡ 0 = ap (λ (d : MessageEnd). in_all i x.account (segments_in d.result)) end ∙ ap (λ (d : MessageResult). in_all i x.account (segments_in d)) is in
    let same : share (λ s. s.cost) i x.account y ≡ share (λ s. s.cost) i m.account q = (λ t. share (λ s. s.cost) i ((message t).account) (quote t)) in
    let rest = spent_at_most i ms qs es (omega arith) (λ k n p d. each (suc k) n p d) in
    omega arith
spent_beside i (x ∷ ms) (y ∷ qs) (z ∷ es) (suc j) m q e r long each at there got is =
    let here = each 0 x y z refl refl refl in
    let rest = spent_beside i ms qs es j m q e r (omega arith) (λ k n p d. each (suc k) n p d) at there got is in
    omega arith

-- an account that is known is there
known_is : (accounts : ℕ) (account : Option ℕ) → IsKnown accounts account → (a : ℕ) × (account ≡ Some a)
known_is accounts None known = absurd known
known_is accounts (Some a) known = (a, refl)

pub credit_quoted : CreditIsQuoted
credit_quoted os book rules before after ms es qs quotes none_lacks ran k e at refused =
    let (m, there, end) = beside (IsEndOf rules (length os)) ms es k e ran.each at in
    let stood = subst (IsResultOf rules (length os) m) refused end.result in
    let (q, got) = there_is qs k (let low = low_is ms k m there in let long = quotes.count in omega arith) in
    let quoted = quotes.each k m q there got in
    let (a, account) = known_is (length os) m.account stood.0 in
    let passed : q.verdict ≡ Passes = passing rules (length os) (free_at os m.account (take k ms) (take k qs)) m q q.verdict quoted (none_lacks k q got) stood.0 stood.1 stood.2 in
    let says = subst (Says (length os) rules.long_reference rules.tariff (free_at os m.account (take k ms) (take k qs)) m q) passed quoted in
    let price : q.cost ≡ price_of rules m = says.3.cost ∙ ap (λ n. n * cost_of rules.tariff (string_bytes m.dest)) says.3.parts in
    let its : share (λ s. s.cost) a m.account q ≡ q.cost = ap (λ x. share (λ s. s.cost) a x q) account ∙ share_its (λ s. s.cost) a q passed in
    let each : AtMost a ms qs es = λ j n p d n_at p_at d_at.
    let (o, o_at, d_end) = beside (IsEndOf rules (length os)) ms es j d ran.each d_at in
    let same : o ≡ n = cc in
    at_most rules (length os) (free_at os n.account (take j ms) (take j qs)) a n p d (quotes.each j n p n_at p_at) (none_lacks j p p_at) (subst (λ (x : Message). IsEndOf rules (length os) x d) same d_end) d.result refl in
    let spent_is = spent_beside a ms qs es k m q e refusal.NoCredit quotes.count each there got at refused in
    let enough : Suffices (credits_at os a) a 0 ms qs = λ j n p n_at p_at p_passes n_account.
    let p_says = subst (Says (length os) rules.long_reference rules.tariff (free_at os n.account (take j ms) (take j qs)) n p) p_passes (quotes.each j n p n_at p_at) in
    let fits = subst (λ x. p.cost ≤ free_at os x (take j ms) (take j qs)) n_account p_says.4 in
    omega arith in
    let all = within (credits_at os a) a 0 ms qs (omega arith) enough in
    let lacks = ran.lacking k a m e there at refused account in
    let opened : opening_at book a ≡ credits_at os a = ap (λ l. topped_at l a) ran.opening ∙ opening_is os a in
    let grew = ran.credits a in
    let nothing = ran.nothing a in
    let nr = ap (λ (x : Amounts). x.reserved) nothing in
    let nc = ap (λ (x : Amounts). x.charged) nothing in
    let nt = ap (λ (x : Amounts). x.returned) nothing in
    let r = grew.0 in
    let c = grew.1 in
    let t = grew.2 in
    absurd (omega arith)
