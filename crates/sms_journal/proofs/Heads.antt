-- What is read of a header that was written.
use Rattle.std.proofs.Common.{◌≡◌, ℕ, ◌≤◌, Bool, List, [], ◌∷◌, ◌++◌, Option, Some, None, inl, inr, refl, sym, ap, ◌∙◌, subst, arith, rules, append_assoc}
use Rattle.std.specs.Prelude.{◌&&◌, nat_le, true, decimal, if◌then◌else◌, codes, option_map, option_and_then}
use Rattle.std.specs.Str.{bytes_eq}
use Rattle.std.proofs.lemmas.Bool.{and_parts, cases_Bool, le-leb, leb-true}
use Rattle.sms_journal.specs.declared.text.header.ConfigTie.{ConfigTie}
use Rattle.sms_journal.specs.declared.text.header.ConfigTie.TheVariants.{Keys, Octets}
use Rattle.sms_journal.specs.declared.text.header.Digests.{Digests}
use Rattle.sms_journal.specs.declared.text.header.ReportKeys.{ReportKeys}
use Rattle.sms_journal.specs.declared.text.header.JournalKind.{JournalKind}
use Rattle.sms_journal.specs.declared.text.header.JournalKind.TheVariants.{Run, Trial}
use Rattle.sms_journal.specs.Digests.{AreDigests, AreKeys, IsTie}
use Rattle.sms_journal.specs.Heads.{behind_keys, digest_in, digests_in, digests_with, head_in, keys_in, keys_with, kind_in, likely, tariff_in, tie_in}
use Rattle.sms_journal.specs.Lines.{IsU64}
use Rattle.sms_journal.specs.Reading.{behind_field, field_in, flag_in, u32_in}
use Rattle.sms_journal.specs.Text.{digest_field, flag, header_text, hex_text, kind_word, number_field, tariff_field, tie_text}
use Rattle.sms_journal.proofs.Fields.{HasNoEnd, behind_is, behind_number_is, comma, feed, field_is, flag_found, flag_low, number_field_is, u32_found}
use Rattle.sms_journal.proofs.DigestTexts.{digest_found, is_digest, is_tariff, no_end_hexes, no_end_tariff, none_some, same_some, some_none, tariff_found, tariff_hex, tariff_hex_is}

-- ---- headers

kind_found : (kind : JournalKind) → kind_in (kind_word kind) ≡ Some kind
kind_found Run = refl
kind_found Trial = refl

no_end_kind : (kind : JournalKind) → HasNoEnd (kind_word kind)
no_end_kind Run = search rules
no_end_kind Trial = search rules

regroup : (a b c d e f g : List ℕ) → (((((a ++ b) ++ c) ++ d) ++ e) ++ f) ++ g ≡ a ++ (b ++ (c ++ (d ++ (e ++ (f ++ g)))))
regroup a b c d e f g = simp append_assoc

-- the version, and the fields of the tie to a config before what follows them
abbrev version_of : ConfigTie → List ℕ
version_of (Octets digest) = 49 ∷ []
version_of (Keys keys) = 50 ∷ []

no_end_version : (tie : ConfigTie) → HasNoEnd (version_of tie)
no_end_version (Octets digest) = search rules
no_end_version (Keys keys) = search rules

abbrev keys_text : ReportKeys → List ℕ → List ℕ
keys_text k behind = decimal k.attempts ++ 44 ∷ (decimal (flag k.long_reference) ++ 44 ∷ (decimal k.binds ++ 44 ∷ (decimal k.workers ++ 44 ∷ behind)))

abbrev tie_fields : ConfigTie → List ℕ → List ℕ
tie_fields (Octets digest) behind = hex_text digest ++ 44 ∷ behind
tie_fields (Keys keys) behind = keys_text keys behind

tie_line : (tie : ConfigTie) (behind : List ℕ) → tie_text tie ++ 44 ∷ behind ≡ 44 ∷ (version_of tie ++ 44 ∷ tie_fields tie behind)
tie_line (Octets digest) behind = refl
tie_line (Keys k) behind = fields (codes ",2") (number_field k.attempts) (number_field (flag k.long_reference)) (number_field k.binds) (number_field k.workers) (44 ∷ behind)
  where
    fields : (a b c d e f : List ℕ) → ((((a ++ b) ++ c) ++ d) ++ e) ++ f ≡ a ++ (b ++ (c ++ (d ++ (e ++ f))))
    fields a b c d e f = simp append_assoc

-- the fields after that
abbrev digests_text : Digests → List ℕ → List ℕ
digests_text d behind = hex_text d.accounts ++ 44 ∷ (hex_text d.messages ++ 44 ∷ (tariff_hex d.tariff ++ 10 ∷ behind))

header_line : (kind : JournalKind) (d : Digests) (behind : List ℕ) → header_text kind d ++ behind ≡ kind_word kind ++ 44 ∷ (version_of d.config ++ 44 ∷ tie_fields d.config (digests_text d behind))
header_line kind d behind =
    regroup (kind_word kind) (tie_text d.config) (digest_field d.accounts) (digest_field d.messages) (tariff_field d.tariff) (codes "\n") behind
    ∙ ap (λ (l : List ℕ). kind_word kind ++ (tie_text d.config ++ 44 ∷ (hex_text d.accounts ++ 44 ∷ (hex_text d.messages ++ (l ++ 10 ∷ behind))))) (tariff_hex_is d.tariff)
    ∙ ap (λ (l : List ℕ). kind_word kind ++ l) (tie_line d.config (digests_text d behind))

-- ---- keys

within : (n most : ℕ) → 1 ≤ n → n ≤ most → (nat_le 1 n && nat_le n most) ≡ true
within n most low high = rw (le-leb 1 n low, le-leb n most high) refl

likely_found : (k : ReportKeys) → AreKeys k → likely k ≡ Some k
likely_found k h = rw (within k.attempts 10 h.some_attempts h.few_attempts, within k.binds 4 h.some_binds h.few_binds, within k.workers 8 h.some_workers h.few_workers) refl

likely_keys : (k l : ReportKeys) → likely k ≡ Some l → AreKeys l
likely_keys k l is = elim (cases_Bool ((nat_le 1 k.attempts && nat_le k.attempts 10) && ((nat_le 1 k.binds && nat_le k.binds 4) && (nat_le 1 k.workers && nat_le k.workers 8)))) [
  | inl e ↦
      let parts = and_parts (nat_le 1 k.attempts && nat_le k.attempts 10) ((nat_le 1 k.binds && nat_le k.binds 4) && (nat_le 1 k.workers && nat_le k.workers 8)) e in
      let others = and_parts (nat_le 1 k.binds && nat_le k.binds 4) (nat_le 1 k.workers && nat_le k.workers 8) parts.1 in
      let a = and_parts (nat_le 1 k.attempts) (nat_le k.attempts 10) parts.0 in
      let b = and_parts (nat_le 1 k.binds) (nat_le k.binds 4) others.0 in
      let w = and_parts (nat_le 1 k.workers) (nat_le k.workers 8) others.1 in
      let are : AreKeys k = record {
        some_attempts = leb-true 1 k.attempts a.0;
        few_attempts = leb-true k.attempts 10 a.1;
        some_binds = leb-true 1 k.binds b.0;
        few_binds = leb-true k.binds 4 b.1;
        some_workers = leb-true 1 k.workers w.0;
        few_workers = leb-true k.workers 8 w.1;
      } in
      subst AreKeys (same_some k l (sym (ap (λ (t : Bool). if t then Some k else None) e) ∙ is)) are
  | inr e ↦ absurd (none_some l (sym (ap (λ (t : Bool). if t then Some k else None) e) ∙ is))
]

keys_with_are : (a f b w : List ℕ) (k : ReportKeys) → u32_in a ≡ Some k.attempts → flag_in f ≡ k.long_reference → u32_in b ≡ Some k.binds → u32_in w ≡ Some k.workers
    → keys_with (u32_in a) (flag_in f) (u32_in b) (u32_in w) ≡ Some k
keys_with_are a f b w k ha hf hb hw =
    rw (ha, hb, hw) (ap (λ (long : Bool). Some (record { attempts = k.attempts; long_reference = long; binds = k.binds; workers = k.workers })) hf)

module _ (k : ReportKeys) (behind : List ℕ) (h : AreKeys k) where
  abbrev X3 : List ℕ
  X3 = decimal k.workers ++ 44 ∷ behind

  abbrev X2 : List ℕ
  X2 = decimal k.binds ++ 44 ∷ X3

  abbrev X1 : List ℕ
  X1 = decimal (flag k.long_reference) ++ 44 ∷ X2

  low_attempts : IsU64 k.attempts
  low_attempts = let e = h.few_attempts in omega (arith, e)

  low_binds : IsU64 k.binds
  low_binds = let e = h.few_binds in omega (arith, e)

  low_workers : IsU64 k.workers
  low_workers = let e = h.few_workers in omega (arith, e)

  behind_1 : behind_field (keys_text k behind) ≡ X1
  behind_1 = behind_number_is k.attempts 44 X1 low_attempts comma

  behind_2 : behind_field (behind_field (keys_text k behind)) ≡ X2
  behind_2 = ap behind_field behind_1 ∙ behind_number_is (flag k.long_reference) 44 X2 (flag_low k.long_reference) comma

  behind_3 : behind_field (behind_field (behind_field (keys_text k behind))) ≡ X3
  behind_3 = ap behind_field behind_2 ∙ behind_number_is k.binds 44 X3 low_binds comma

  keys_behind : behind_keys (keys_text k behind) ≡ behind
  keys_behind = ap behind_field behind_3 ∙ behind_number_is k.workers 44 behind low_workers comma

  keys_found : keys_in (keys_text k behind) ≡ Some k
  keys_found =
      let a : u32_in (field_in (keys_text k behind)) ≡ Some k.attempts = ap u32_in (number_field_is k.attempts 44 X1 low_attempts comma) ∙ u32_found k.attempts (let e = h.few_attempts in omega (arith, e)) in
      let f : flag_in (field_in (behind_field (keys_text k behind))) ≡ k.long_reference =
      ap (λ (l : List ℕ). flag_in (field_in l)) behind_1 ∙ ap flag_in (number_field_is (flag k.long_reference) 44 X2 (flag_low k.long_reference) comma) ∙ flag_found k.long_reference in
      let b : u32_in (field_in (behind_field (behind_field (keys_text k behind)))) ≡ Some k.binds =
      ap (λ (l : List ℕ). u32_in (field_in l)) behind_2 ∙ ap u32_in (number_field_is k.binds 44 X3 low_binds comma) ∙ u32_found k.binds (let e = h.few_binds in omega (arith, e)) in
      let w : u32_in (field_in (behind_field (behind_field (behind_field (keys_text k behind))))) ≡ Some k.workers =
      ap (λ (l : List ℕ). u32_in (field_in l)) behind_3 ∙ ap u32_in (number_field_is k.workers 44 behind low_workers comma) ∙ u32_found k.workers (let e = h.few_workers in omega (arith, e)) in
      ap (option_and_then likely)
      (keys_with_are (field_in (keys_text k behind)) (field_in (behind_field (keys_text k behind))) (field_in (behind_field (behind_field (keys_text k behind))))
      (field_in (behind_field (behind_field (behind_field (keys_text k behind))))) k a f b w)
      ∙ likely_found k h

-- what is read are keys of a config
are_keys : (text : List ℕ) (k : ReportKeys) → keys_in text ≡ Some k → AreKeys k
are_keys text k e = by (keys_with (u32_in (field_in text)) (flag_in (field_in (behind_field text))) (u32_in (field_in (behind_field (behind_field text)))) (u32_in (field_in (behind_field (behind_field (behind_field text)))))) e
  where
    by : (o : Option ReportKeys) → option_and_then likely o ≡ Some k → AreKeys k
    by None e = absurd (none_some k e)
    by (Some l) e = likely_keys l k e

-- ---- ties to configs

tie_found : (tie : ConfigTie) (behind : List ℕ) → IsTie tie → tie_in (version_of tie) (tie_fields tie behind) ≡ Some (tie, behind)
tie_found (Octets d) behind h =
    let f : field_in (hex_text d ++ 44 ∷ behind) ≡ hex_text d = field_is (hex_text d) 44 behind (no_end_hexes d h.1) comma in
    let b : behind_field (hex_text d ++ 44 ∷ behind) ≡ behind = behind_is (hex_text d) 44 behind (no_end_hexes d h.1) comma in
    rw (f, b) (ap (option_map (λ (digest : List ℕ). (Octets digest, behind))) (digest_found d h))
tie_found (Keys k) behind h =
    ap (option_map (λ (keys : ReportKeys). (Keys keys, behind_keys (keys_text k behind)))) (keys_found k behind h) ∙ ap (λ (l : List ℕ). Some (Keys k, l)) (keys_behind k behind h)

-- what is read is one
module _ (version text : List ℕ) (tie : ConfigTie) (rest : List ℕ) where
  of_octets : (o : Option (List ℕ)) → digest_in (field_in text) ≡ o → option_map {U = ConfigTie × List ℕ} (λ (digest : List ℕ). (Octets digest, behind_field text)) o ≡ Some (tie, rest) → IsTie tie
  of_octets None is e = absurd (none_some (tie, rest) e)
  of_octets (Some d) is e =
      let pair = same_some (Octets d, behind_field text) (tie, rest) e in
      subst IsTie (ap (λ (p : ConfigTie × List ℕ). p.0) pair) (is_digest (field_in text) d is)

  of_keys : (o : Option ReportKeys) → keys_in text ≡ o → option_map {U = ConfigTie × List ℕ} (λ (keys : ReportKeys). (Keys keys, behind_keys text)) o ≡ Some (tie, rest) → IsTie tie
  of_keys None is e = absurd (none_some (tie, rest) e)
  of_keys (Some k) is e =
      let pair = same_some (Keys k, behind_keys text) (tie, rest) e in
      subst IsTie (ap (λ (p : ConfigTie × List ℕ). p.0) pair) (are_keys text k is)

  abbrev by_octets : Option (ConfigTie × List ℕ)
  by_octets = option_map (λ (digest : List ℕ). (Octets digest, behind_field text)) (digest_in (field_in text))

  abbrev by_keys : Option (ConfigTie × List ℕ)
  by_keys = option_map (λ (keys : ReportKeys). (Keys keys, behind_keys text)) (keys_in text)

  abbrev by_second : Option (ConfigTie × List ℕ)
  by_second = if bytes_eq version (codes "2") then by_keys else None

  is_tie : tie_in version text ≡ Some (tie, rest) → IsTie tie
  is_tie is = elim (cases_Bool (bytes_eq version (codes "1"))) [
    | inl e ↦ of_octets (digest_in (field_in text)) refl (sym (ap (λ (t : Bool). if t then by_octets else by_second) e) ∙ is)
    | inr e ↦
        let so = sym (ap (λ (t : Bool). if t then by_octets else by_second) e) ∙ is in
        elim (cases_Bool (bytes_eq version (codes "2"))) [
          | inl s ↦ of_keys (keys_in text) refl (sym (ap (λ (t : Bool). if t then by_keys else None) s) ∙ so)
          | inr n ↦ absurd (none_some (tie, rest) (sym (ap (λ (t : Bool). if t then by_keys else None) n) ∙ so))
        ]
  ]

-- ---- whole headers

abbrev digests_by : ConfigTie → List ℕ → List ℕ → List ℕ → Option Digests
digests_by tie accounts messages tariff =
    option_and_then (λ a. option_and_then (λ m. option_map (λ t. record { config = tie; accounts = a; messages = m; tariff = t }) (tariff_in tariff)) (digest_in messages)) (digest_in accounts)

others_found : (d : Digests) (behind : List ℕ) → AreDigests d → digests_with d.config (digests_text d behind) ≡ Some d
others_found d behind h =
    let X2 = tariff_hex d.tariff ++ 10 ∷ behind in
    let X1 = hex_text d.messages ++ 44 ∷ X2 in
    let n1 = no_end_hexes d.accounts h.1.1 in
    let n2 = no_end_hexes d.messages h.2.1 in
    let f1 : field_in (hex_text d.accounts ++ 44 ∷ X1) ≡ hex_text d.accounts = field_is (hex_text d.accounts) 44 X1 n1 comma in
    let b1 : behind_field (hex_text d.accounts ++ 44 ∷ X1) ≡ X1 = behind_is (hex_text d.accounts) 44 X1 n1 comma in
    let f2 : field_in X1 ≡ hex_text d.messages = field_is (hex_text d.messages) 44 X2 n2 comma in
    let b2 : behind_field X1 ≡ X2 = behind_is (hex_text d.messages) 44 X2 n2 comma in
    let f3 : field_in X2 ≡ tariff_hex d.tariff = field_is (tariff_hex d.tariff) 10 behind (no_end_tariff d.tariff h.3) feed in
    rw (b1, b2, f1, f2, f3) (of_is (hex_text d.accounts) (hex_text d.messages) (tariff_hex d.tariff) (digest_found d.accounts h.1) (digest_found d.messages h.2) (tariff_found d.tariff h.3))
  where
    of_is : (b c t : List ℕ) → digest_in b ≡ Some d.accounts → digest_in c ≡ Some d.messages → tariff_in t ≡ Some d.tariff → digests_by d.config b c t ≡ Some d
    of_is b c t hb hc ht = rw (hb, hc, ht) refl

digests_found : (d : Digests) (behind : List ℕ) → AreDigests d → digests_in (version_of d.config) (tie_fields d.config (digests_text d behind)) ≡ Some d
digests_found d behind h =
    ap (option_and_then (λ (found : ConfigTie × List ℕ). digests_with found.0 found.1)) (tie_found d.config (digests_text d behind) h.0) ∙ others_found d behind h

pub head_found : (kind : JournalKind) (d : Digests) (behind : List ℕ) → AreDigests d → head_in (header_text kind d ++ behind) ≡ Some (kind, d)
head_found kind d behind h =
    let X2 = tie_fields d.config (digests_text d behind) in
    let X1 = version_of d.config ++ 44 ∷ X2 in
    let X0 = kind_word kind ++ 44 ∷ X1 in
    let f0 : field_in X0 ≡ kind_word kind = field_is (kind_word kind) 44 X1 (no_end_kind kind) comma in
    let b0 : behind_field X0 ≡ X1 = behind_is (kind_word kind) 44 X1 (no_end_kind kind) comma in
    let f1 : field_in X1 ≡ version_of d.config = field_is (version_of d.config) 44 X2 (no_end_version d.config) comma in
    let b1 : behind_field X1 ≡ X2 = behind_is (version_of d.config) 44 X2 (no_end_version d.config) comma in
    ap head_in (header_line kind d behind)
    ∙ ap (λ (l : List ℕ). option_and_then (λ (k : JournalKind). option_map (λ (e : Digests). (k, e)) (digests_in (field_in (behind_field X0)) (behind_field (behind_field X0)))) (kind_in l)) f0
    ∙ ap (option_and_then (λ (k : JournalKind). option_map (λ (e : Digests). (k, e)) (digests_in (field_in (behind_field X0)) (behind_field (behind_field X0))))) (kind_found kind)
    ∙ ap (λ (l : List ℕ). option_map (λ (e : Digests). (kind, e)) (digests_in (field_in l) (behind_field l))) b0
    ∙ ap (λ (l : List ℕ). option_map (λ (e : Digests). (kind, e)) (digests_in l (behind_field X1))) f1
    ∙ ap (λ (l : List ℕ). option_map (λ (e : Digests). (kind, e)) (digests_in (version_of d.config) l)) b1
    ∙ ap (option_map (λ (e : Digests). (kind, e))) (digests_found d behind h)

-- what is read are digests
of_fields : (tie : ConfigTie) (a b t : List ℕ) (d : Digests) → IsTie tie → digests_by tie a b t ≡ Some d → AreDigests d
of_fields tie a b t d h e = by (digest_in a) (digest_in b) (tariff_in t) refl refl refl e
  where
    by : (p q : Option (List ℕ)) (s : Option (Option (List ℕ))) → digest_in a ≡ p → digest_in b ≡ q → tariff_in t ≡ s
        → option_and_then (λ x. option_and_then (λ y. option_map (λ w. record { config = tie; accounts = x; messages = y; tariff = w }) s) q) p ≡ Some d → AreDigests d
    by None q s hp hq hs e = absurd (none_some d e)
    by (Some x) None s hp hq hs e = absurd (none_some d e)
    by (Some x) (Some y) None hp hq hs e = absurd (none_some d e)
    by (Some x) (Some y) (Some w) hp hq hs e = subst AreDigests (same_some (record { config = tie; accounts = x; messages = y; tariff = w }) d e) (h, is_digest a x hp, is_digest b y hq, is_tariff t w hs)

of_version : (version text : List ℕ) (d : Digests) → digests_in version text ≡ Some d → AreDigests d
of_version version text d e = by (tie_in version text) refl e
  where
    by : (o : Option (ConfigTie × List ℕ)) → tie_in version text ≡ o → option_and_then (λ (found : ConfigTie × List ℕ). digests_with found.0 found.1) o ≡ Some d → AreDigests d
    by None is e = absurd (none_some d e)
    by (Some found) is e = of_fields found.0 (field_in found.1) (field_in (behind_field found.1)) (field_in (behind_field (behind_field found.1))) d (is_tie version text found.0 found.1 is) e

pub are_digests : (text : List ℕ) (kind : JournalKind) (d : Digests) → head_in text ≡ Some (kind, d) → AreDigests d
are_digests text kind d e = by (kind_in (field_in text)) (digests_in (field_in (behind_field text)) (behind_field (behind_field text))) refl e
  where
    by : (k : Option JournalKind) (o : Option Digests) → digests_in (field_in (behind_field text)) (behind_field (behind_field text)) ≡ o
        → option_and_then {U = JournalKind × Digests} (λ (x : JournalKind). option_map (λ (y : Digests). (x, y)) o) k ≡ Some (kind, d) → AreDigests d
    by None o is e = absurd (none_some (kind, d) e)
    by (Some x) None is e = absurd (none_some (kind, d) e)
    by (Some x) (Some y) is e =
        let pair = same_some (x, y) (kind, d) e in
        let same : y ≡ d = ap (λ (p : JournalKind × Digests). p.1) pair in
        subst AreDigests same (of_version (field_in (behind_field text)) (behind_field (behind_field text)) y is)

-- a text begins with one header at most
pub one_head : (text : List ℕ) (kind other : JournalKind) (d e : Digests) (behind : List ℕ) → head_in text ≡ Some (kind, d) → AreDigests e → text ≡ header_text other e ++ behind → (other ≡ kind) × (e ≡ d)
one_head text kind other d e behind read are is =
    let pair = same_some (other, e) (kind, d) (sym (head_found other e behind are) ∙ ap head_in (sym is) ∙ read) in
    (ap (λ (p : JournalKind × Digests). p.0) pair, ap (λ (p : JournalKind × Digests). p.1) pair)

pub no_head : (text : List ℕ) (kind : JournalKind) (d : Digests) (behind : List ℕ) → head_in text ≡ None → AreDigests d → text ≡ header_text kind d ++ behind → ⊥
no_head text kind d behind none are is = some_none (kind, d) (sym (head_found kind d behind are) ∙ ap head_in (sym is) ∙ none)

pub one_header : (text : List ℕ) (kind other : JournalKind) (digests others : Digests) (behind rest : List ℕ) → AreDigests digests → AreDigests others → text ≡ header_text kind digests ++ behind → text ≡ header_text other others ++ rest
    → (other ≡ kind) × (others ≡ digests)
one_header text kind other digests others behind rest are also is so = one_head text kind other digests others rest (ap head_in is ∙ head_found kind digests behind are) also so

pub other_head : (kind other : JournalKind) (digests others : Digests) → other ≡ kind → others ≡ digests → header_text other others ≡ header_text kind digests
other_head kind other digests others k d = ap (λ (x : JournalKind). header_text x others) k ∙ ap (header_text kind) d
