-- A header read from its text: what its fields say. A text that only resembles a header is read as one too: writing it again and
-- comparing shows the difference.
use Rattle.std.specs.Prelude.{ℕ, ◌+◌, ◌*◌, ◌==◌, ◌&&◌, nat_le, Bool, List, [], ◌∷◌, length, Option, Some, None, option_map, option_and_then, if◌then◌else◌, codes, get_or}
use Rattle.std.specs.Str.{bytes_eq}
use Rattle.sms_journal.specs.declared.text.header.ConfigTie.{ConfigTie}
use Rattle.sms_journal.specs.declared.text.header.ConfigTie.TheVariants.{Keys, Octets}
use Rattle.sms_journal.specs.declared.text.header.Digests.{Digests}
use Rattle.sms_journal.specs.declared.text.header.ReportKeys.{ReportKeys}
use Rattle.sms_journal.specs.declared.text.header.JournalKind.{JournalKind}
use Rattle.sms_journal.specs.declared.text.header.JournalKind.TheVariants.{Run, Trial}
use Rattle.sms_journal.specs.Reading.{behind_field, digit_in, field_in, flag_in, u32_in}

-- two digits, the greater half first
abbrev pub octet_of : ℕ → ℕ → ℕ
octet_of high low = digit_in high * 16 + digit_in low

-- those of the octet at this place
abbrev pub octet_at : List ℕ → ℕ → ℕ
octet_at field place = octet_of (get_or field (place + place) 0) (get_or field (place + place + 1) 0)

-- two digits for each octet
abbrev pub octets_in : List ℕ → List ℕ
octets_in [] = []
octets_in (high ∷ []) = []
octets_in (high ∷ low ∷ rest) = octet_of high low ∷ octets_in rest

unfoldable pub digest_in : List ℕ → Option (List ℕ)
digest_in field = if length field == 64 then Some (octets_in field) else None

abbrev pub tariff_in : List ℕ → Option (Option (List ℕ))
tariff_in [] = Some None
tariff_in (c ∷ cs) = option_map (λ digest. Some digest) (digest_in (c ∷ cs))

-- a number as an unsigned one of 32 bits, and a flag
abbrev pub keys_with : Option ℕ → Bool → Option ℕ → Option ℕ → Option ReportKeys
keys_with attempts long binds workers = option_and_then (λ a. option_and_then (λ b. option_map (λ w. record { attempts = a; long_reference = long; binds = b; workers = w }) workers) binds) attempts

-- the keys that a config can have
abbrev pub likely : ReportKeys → Option ReportKeys
likely k = if (nat_le 1 k.attempts && nat_le k.attempts 10) && ((nat_le 1 k.binds && nat_le k.binds 4) && (nat_le 1 k.workers && nat_le k.workers 8)) then Some k else None

abbrev pub keys_in : List ℕ → Option ReportKeys
keys_in text =
    option_and_then likely
    (keys_with (u32_in (field_in text)) (flag_in (field_in (behind_field text))) (u32_in (field_in (behind_field (behind_field text)))) (u32_in (field_in (behind_field (behind_field (behind_field text))))))

-- what follows them
abbrev pub behind_keys : List ℕ → List ℕ
behind_keys text = behind_field (behind_field (behind_field (behind_field text)))

-- the tie to the config that a header of this version says, and what follows it
abbrev pub tie_in : List ℕ → List ℕ → Option (ConfigTie × List ℕ)
tie_in version text =
    if bytes_eq version (codes "1") then option_map (λ digest. (Octets digest, behind_field text)) (digest_in (field_in text))
    else (if bytes_eq version (codes "2") then option_map (λ keys. (Keys keys, behind_keys text)) (keys_in text) else None)

abbrev pub digests_with : ConfigTie → List ℕ → Option Digests
digests_with tie text =
    option_and_then (λ a. option_and_then (λ m. option_map (λ t. record { config = tie; accounts = a; messages = m; tariff = t }) (tariff_in (field_in (behind_field (behind_field text))))) (digest_in (field_in (behind_field text)))) (digest_in (field_in text))

abbrev pub digests_in : List ℕ → List ℕ → Option Digests
digests_in version text = option_and_then (λ found. digests_with found.0 found.1) (tie_in version text)

abbrev pub kind_in : List ℕ → Option JournalKind
kind_in word = if bytes_eq word (codes "journal") then Some Run else (if bytes_eq word (codes "trial") then Some Trial else None)

abbrev pub head_in : List ℕ → Option (JournalKind × Digests)
head_in text = option_and_then (λ kind. option_map (λ digests. (kind, digests)) (digests_in (field_in (behind_field text)) (behind_field (behind_field text)))) (kind_in (field_in text))
