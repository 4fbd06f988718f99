-- What is read of a digest that was written in hexadecimal digits.
use Rattle.std.proofs.Common.{◌≡◌, ℕ, zero, suc, ◌+◌, ◌/◌, ◌%◌, ◌<◌, ◌≤◌, Bool, List, [], ◌∷◌, ◌++◌, length, take, slice_set, Option, Some, None, inl, inr, refl, sym, ap, ◌∙◌, subst, get_or, arith}
use Rattle.std.specs.Prelude.{◌==◌, if◌then◌else◌, option_map}
use Rattle.std.proofs.lemmas.List.{take_more, take_more_set}
use Rattle.std.proofs.lemmas.List.Concat.{flat_map-cons}
use Rattle.std.proofs.lemmas.Bool.{cases_Bool, eqb-true}
use Rattle.sms_journal.specs.Digests.{AreOctets, IsDigest, IsTariffDigest}
use Rattle.sms_journal.specs.Heads.{digest_in, octet_at, octet_of, octets_in, tariff_in}
use Rattle.sms_journal.specs.Text.{hex_digit, hex_octet, hex_text, tariff_field}
use Rattle.sms_files.proofs.Lists.{take_whole}
use Rattle.sms_journal.proofs.Fields.{HasNoEnd, digit_back, no_end_hex}

module _ {A : Type 0} where
  pub same_some : (x y : A) → Some x ≡ Some y → x ≡ y
  same_some x y e = cc

  pub some_none : (x : A) → Some x ≡ None → ⊥
  some_none x e = absurd (cc)

  pub none_some : (x : A) → None ≡ Some x → ⊥
  none_some x e = absurd (cc)

-- ---- digests

octet_back : (c : ℕ) → c < 256 → octet_of (hex_digit (c / 16)) (hex_digit (c % 16)) ≡ c
octet_back c low =
    let a = digit_back (c / 16) (omega arith) in
    let b = digit_back (c % 16) (omega arith) in
    omega (arith, a, b)

octets_back : (d : List ℕ) → AreOctets d → octets_in (hex_text d) ≡ d
octets_back [] h = refl
octets_back (c ∷ cs) h =
    ap octets_in (flat_map-cons hex_octet c cs) ∙ ap (λ (n : ℕ). n ∷ octets_in (hex_text cs)) (octet_back c h.0) ∙ ap (λ (l : List ℕ). c ∷ l) (octets_back cs h.1)

pub hex_length : (d : List ℕ) → length (hex_text d) ≡ length d + length d
hex_length [] = refl
hex_length (c ∷ cs) = let e = ap length (flat_map-cons hex_octet c cs) in let f = hex_length cs in omega (arith, e, f)

pub no_end_hexes : (d : List ℕ) → AreOctets d → HasNoEnd (hex_text d)
no_end_hexes [] h = tt
no_end_hexes (c ∷ cs) h =
    subst HasNoEnd (sym (flat_map-cons hex_octet c cs)) (no_end_hex (c / 16) (omega (arith, h.0)), (no_end_hex (c % 16) (omega (arith, h.0)), no_end_hexes cs h.1))

pub digest_found : (d : List ℕ) → IsDigest d → digest_in (hex_text d) ≡ Some d
unfolding digest_in
digest_found d h =
    let long : length (hex_text d) ≡ 64 = omega (arith, hex_length d, h.0) in
    ap (λ (n : ℕ). if n == 64 then Some (octets_in (hex_text d)) else None) long ∙ ap (λ (l : List ℕ). Some l) (octets_back d h.1)

-- what is read is a digest
octet_low : (high low : ℕ) → octet_of high low < 256
octet_low high low = omega arith

octets_low : (field : List ℕ) → AreOctets (octets_in field)
octets_low [] = tt
octets_low (high ∷ []) = tt
octets_low (high ∷ low ∷ rest) = (octet_low high low, octets_low rest)

octets_length : (field : List ℕ) (n : ℕ) → length field ≡ n + n → length (octets_in field) ≡ n
octets_length [] n e = omega (arith, e)
octets_length (high ∷ []) n e = absurd (omega (arith, e))
octets_length (high ∷ low ∷ rest) zero e = absurd (omega (arith, e))
octets_length (high ∷ low ∷ rest) (suc n) e = ap suc (octets_length rest n (omega (arith, e)))

pub is_digest : (field d : List ℕ) → digest_in field ≡ Some d → IsDigest d
unfolding digest_in
is_digest field d is = elim (cases_Bool (length field == 64)) [
  | inl e ↦
      let it = same_some (octets_in field) d (sym (ap (λ (b : Bool). if b then Some (octets_in field) else None) e) ∙ is) in
      subst IsDigest it (octets_length field 32 (eqb-true (length field) 64 e), octets_low field)
  | inr e ↦
      absurd (none_some d (sym (ap (λ (b : Bool). if b then Some (octets_in field) else None) e) ∙ is))
]

-- the octet at a place is that of its two digits
pub octet_there : (field : List ℕ) (k : ℕ) → k + k + 1 < length field → get_or (octets_in field) k 0 ≡ octet_at field k
octet_there [] k low = absurd (omega (arith, low))
octet_there (high ∷ []) k low = absurd (omega (arith, low))
octet_there (high ∷ next ∷ rest) zero low = refl
octet_there (high ∷ next ∷ rest) (suc k) low =
    let field = high ∷ next ∷ rest in
    let one : suc k + suc k ≡ suc (suc (k + k)) = omega arith in
    let two : suc k + suc k + 1 ≡ suc (suc (k + k + 1)) = omega arith in
    octet_there rest k (omega (arith, low))
    ∙ sym (ap (λ (n : ℕ). octet_of (get_or field n 0) (get_or field (suc k + suc k + 1) 0)) one ∙ ap (λ (n : ℕ). octet_of (get_or field (suc (suc (k + k))) 0) (get_or field n 0)) two)

-- a digest of which the first octets were read
pub more_octets : (field digest : List ℕ) (k : ℕ) → length field ≡ 64 → length digest ≡ 32 → k < 32 → take k digest ≡ take k (octets_in field) → take (k + 1) (slice_set digest k (octet_at field k)) ≡ take (k + 1) (octets_in field)
more_octets field digest k long room low h =
    let value = octet_at field k in
    let there : get_or (octets_in field) k 0 ≡ value = octet_there field k (omega (arith, long, low)) in
    let within : k < length (octets_in field) = omega (arith, octets_length field 32 long, low) in
    take_more_set digest k value (omega (arith, room, low))
    ∙ ap (λ (l : List ℕ). l ++ value ∷ []) h
    ∙ ap (λ (n : ℕ). take k (octets_in field) ++ n ∷ []) (sym there)
    ∙ sym (take_more (octets_in field) k 0 within)

pub all_octets : (field digest : List ℕ) (k : ℕ) → length field ≡ 64 → length digest ≡ 32 → 32 ≤ k → take k digest ≡ take k (octets_in field) → digest ≡ octets_in field
all_octets field digest k long room high h =
    sym (take_whole digest k (omega (arith, room, high))) ∙ h ∙ take_whole (octets_in field) k (omega (arith, octets_length field 32 long, high))

pub digest_read : (field digest : List ℕ) → length field ≡ 64 → digest ≡ octets_in field → Some digest ≡ digest_in field
unfolding digest_in
digest_read field digest long is = ap (λ (l : List ℕ). Some l) is ∙ sym (ap (λ (n : ℕ). if n == 64 then Some (octets_in field) else None) long)

-- ---- of a file that there may be

abbrev pub tariff_hex : Option (List ℕ) → List ℕ
tariff_hex None = []
tariff_hex (Some d) = hex_text d

pub tariff_hex_is : (t : Option (List ℕ)) → tariff_field t ≡ 44 ∷ tariff_hex t
tariff_hex_is None = refl
tariff_hex_is (Some d) = refl

pub no_end_tariff : (t : Option (List ℕ)) → IsTariffDigest t → HasNoEnd (tariff_hex t)
no_end_tariff None h = tt
no_end_tariff (Some d) h = no_end_hexes d h.1

tariff_of_some : (field d : List ℕ) → digest_in field ≡ Some d → 0 < length field → tariff_in field ≡ Some (Some d)
tariff_of_some [] d e low = absurd (omega (arith, low))
tariff_of_some (c ∷ cs) d e low = ap (option_map (λ (digest : List ℕ). Some digest)) e

pub tariff_found : (t : Option (List ℕ)) → IsTariffDigest t → tariff_in (tariff_hex t) ≡ Some t
tariff_found None h = refl
tariff_found (Some d) h = tariff_of_some (hex_text d) d (digest_found d h) (omega (arith, hex_length d, h.0))

pub is_tariff : (field : List ℕ) (t : Option (List ℕ)) → tariff_in field ≡ Some t → IsTariffDigest t
is_tariff [] t e = let same = same_some None t e in subst IsTariffDigest same tt
is_tariff (c ∷ cs) t e = by (digest_in (c ∷ cs)) refl e
  where
    by : (o : Option (List ℕ)) → digest_in (c ∷ cs) ≡ o → option_map (λ (digest : List ℕ). Some digest) o ≡ Some t → IsTariffDigest t
    by None is e = absurd (none_some t e)
    by (Some d) is e = let same = same_some (Some d) t e in subst IsTariffDigest same (is_digest (c ∷ cs) d is)
