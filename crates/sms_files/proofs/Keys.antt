-- The keys of a config's table, and what a fault says of the first faulty one.
use Rattle.std.proofs.Common.{◌≡◌, ℕ, List, [], ◌∷◌, Option, Some, None, map, refl, ap, string_bytes, String}
use Rattle.std.specs.Prelude.{if◌then◌else◌}
use Rattle.std.specs.declared.alloc.Global.{Global}
use Rattle.toml.specs.declared.value.Value.{Value}
use Rattle.toml.specs.Data.{Members}
use Rattle.toml.specs.View.{members_view}
use Rattle.sms_files.specs.Config.{Key, fault_at, first_of, is_among, known_keys, unknown_key}
use Rattle.sms_files.specs.ConfigFaults.{TellsConfig, TellsKey, TellsToml}
use Rattle.sms_files.specs.declared.fault.InputFault.{InputFault}
use Rattle.sms_files.specs.declared.fault.InputFault.TheVariants.{BadKey, NotToml, OutOfMemory}

-- the least unknown of keys that ascend
abbrev pub first_unknown : List (String Global) → Option Key
first_unknown [] = None
first_unknown (k ∷ ks) = if is_among (string_bytes k) known_keys then first_unknown ks else Some (string_bytes k)

pub unknown_first : (es : List (String Global × Value)) → unknown_key (members_view es) ≡ first_unknown (map (λ e. e.0) es)
unknown_first [] = refl
unknown_first (e ∷ es) = ap (λ (o : Option Key). if is_among (string_bytes e.0) known_keys then o else Some (string_bytes e.0)) (unknown_first es)

-- a key with a good value has no fault
pub no_fault : {A : Type 0} (key : Key) (o : Option A) (x : A) → o ≡ Some x → fault_at key o ≡ None
no_fault key o x e = rw e refl

-- what a fault says of a key without a good value
pub told : {A : Type 0} (t : Members) (key : Key) (o : Option A) (f : InputFault) → o ≡ None → TellsKey t (Some key) f → TellsKey t (fault_at key o) f
told t key o f e h = rw e h

-- what it says of the first of two faults it says of both
pub tells_first : (t : Members) (a b : Option Key) (f : InputFault) → TellsKey t a f → TellsKey t (first_of a b) f
tells_first t (Some k) b f h = h
tells_first t None b (OutOfMemory _) h = tt
tells_first t None b (BadKey k shown) h = let bad = h.0 in cc
tells_first t None b f h = absurd h

-- and so is that of the later, where the first is none
pub tells_later : (t : Members) (a b : Option Key) (f : InputFault) → a ≡ None → TellsKey t b f → TellsKey t (first_of a b) f
tells_later t a b f e h = rw e h

pub none_later : (a b : Option Key) → a ≡ None → b ≡ None → first_of a b ≡ None
none_later a b e h = rw e h

-- a fault of octets that are no table is one of the config
pub toml_tells : (octets : List ℕ) (f : InputFault) → TellsToml octets f → TellsConfig octets f
toml_tells octets (NotToml why) h = h
toml_tells octets (OutOfMemory _) h = tt
toml_tells octets f h = absurd h
