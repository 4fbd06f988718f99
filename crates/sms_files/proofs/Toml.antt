-- The table that octets spell, where they are text, and where they are none.
use Rattle.std.proofs.Common.{◌≡◌, ℕ, List, Option, None, Bool, true, false, refl}
use Rattle.std.specs.Prelude.{IsUtf8}
use Rattle.std.specs.Str.{is_utf8}
use Rattle.std.proofs.lemmas.Str.{IsUtf8-from_is_utf8, is_utf8-from_IsUtf8}
use Rattle.toml.specs.Data.{Members}
use Rattle.toml.specs.Parse.{parse_document}
use Rattle.sms_files.specs.ConfigFaults.{toml_of}

pub text_toml : (octets text : List ℕ) (o : Option Members) → text ≡ octets → IsUtf8 octets → parse_document text ≡ o → toml_of octets ≡ o
text_toml octets text o e u h = rw (is_utf8-from_IsUtf8 octets u) (rw e at h)

pub no_toml : (octets : List ℕ) → ¬ (IsUtf8 octets) → toml_of octets ≡ None
no_toml octets u = by (is_utf8 octets) refl
  where
    by : (b : Bool) → is_utf8 octets ≡ b → toml_of octets ≡ None
    by true h = absurd (u (IsUtf8-from_is_utf8 octets h))
    by false h = rw h refl
