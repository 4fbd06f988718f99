-- The keys of a fields file's table, and what a fault says of the first faulty one.
use Rattle.std.proofs.Common.{◌≡◌, ℕ, List, [], ◌∷◌, Option, Some, None, Bool, true, false, map, refl, ap, sym, subst, ◌∙◌, string_bytes, String, true≢false}
use Rattle.std.specs.Prelude.{◌&&◌, ◌||◌, is_some, option_and_then, if◌then◌else◌, codes}
use Rattle.std.specs.Str.{bytes_eq}
use Rattle.std.specs.declared.alloc.Global.{Global}
use Rattle.toml.specs.declared.value.Value.{Value}
use Rattle.toml.specs.Data.{Data, Members, no_members, member, get_member}
use Rattle.toml.specs.View.{members_view}
use Rattle.sms_files.specs.Config.{Key, fault_at, first_of, is_among}
use Rattle.sms_files.specs.ConfigFaults.{TellsKey, TellsToml}
use Rattle.sms_pdu.specs.declared.parameter.Parameter.{Parameter}
use Rattle.sms_files.specs.ParametersRead.{IsBadParameters}
use Rattle.sms_files.specs.declared.config.config_value.ConfigValue.{ConfigValue}
use Rattle.sms_files.specs.SubmitFields.{AreParametersAt, IsFieldAt, IsFieldBy, TellsField, TellsFields, addressing_fault, are_parameters, dest_npi_of, dest_ton_of, handling_fault, known_fields, number_if, parameters_in, params_fault, params_of, priority_of, protocol_id_of, registered_of, replace_of, schedule_of, seconds_in, seconds_of, service_type_of, source_npi_of, source_ton_of, times_fault, unknown_field, validity_of}
use Rattle.sms_files.specs.declared.fault.InputFault.{InputFault}
use Rattle.sms_files.specs.declared.fault.InputFault.TheVariants.{BadKey, NotToml, OutOfMemory}

-- the least unknown of keys that ascend
abbrev pub first_unknown : List (String Global) → Option Key
first_unknown [] = None
first_unknown (k ∷ ks) = if is_among (string_bytes k) known_fields then first_unknown ks else Some (string_bytes k)

pub unknown_first : (es : List (String Global × Value)) → unknown_field (members_view es) ≡ first_unknown (map (λ e. e.0) es)
unknown_first [] = refl
unknown_first (e ∷ es) = ap (λ (o : Option Key). if is_among (string_bytes e.0) known_fields then o else Some (string_bytes e.0)) (unknown_first es)

-- the faulty key, if there is one, isn't that of the parameters
abbrev pub IsOther : Option Key → Type 0
IsOther None = Unit {0}
IsOther (Some key) = are_parameters key ≡ false

other_at : {A : Type 0} (key : Key) (o : Option A) → are_parameters key ≡ false → IsOther (fault_at key o)
other_at key None e = e
other_at key (Some x) e = tt

-- nor is it where the first key isn't, and the later ones aren't
other_then : {A : Type 0} (key : Key) (o : Option A) (later : Option Key) → are_parameters key ≡ false → IsOther later → IsOther (first_of (fault_at key o) later)
other_then key None later e h = e
other_then key (Some x) later e h = h

pub addressing_other : (t : Members) → IsOther (addressing_fault t)
addressing_other t =
    let dest_npi = fault_at (codes "destination_npi") (dest_npi_of t) in
    let dest_ton = first_of (fault_at (codes "destination_ton") (dest_ton_of t)) dest_npi in
    let source_npi = first_of (fault_at (codes "source_npi") (source_npi_of t)) dest_ton in
    let source_ton = first_of (fault_at (codes "source_ton") (source_ton_of t)) source_npi in
    other_then (codes "service_type") (service_type_of t) source_ton refl
    (other_then (codes "source_ton") (source_ton_of t) source_npi refl
    (other_then (codes "source_npi") (source_npi_of t) dest_ton refl
    (other_then (codes "destination_ton") (dest_ton_of t) dest_npi refl
    (other_at (codes "destination_npi") (dest_npi_of t) refl))))

pub handling_other : (t : Members) → IsOther (handling_fault t)
handling_other t =
    let replace = fault_at (codes "replace") (replace_of t) in
    let registered = first_of (fault_at (codes "registered_delivery") (registered_of t)) replace in
    let priority = first_of (fault_at (codes "priority") (priority_of t)) registered in
    other_then (codes "protocol_id") (protocol_id_of t) priority refl
    (other_then (codes "priority") (priority_of t) registered refl
    (other_then (codes "registered_delivery") (registered_of t) replace refl
    (other_at (codes "replace") (replace_of t) refl)))

pub times_other : (t : Members) → IsOther (times_fault t)
times_other t =
    let seconds = fault_at (codes "validity_s") (seconds_of t) in
    let validity = first_of (fault_at (codes "validity") (validity_of t)) seconds in
    other_then (codes "schedule") (schedule_of t) validity refl
    (other_then (codes "validity") (validity_of t) seconds refl
    (other_at (codes "validity_s") (seconds_of t) refl))

none_of : (a b : Bool) → (a || b) ≡ false → a ≡ false
none_of true b e = absurd (true≢false e)
none_of false b e = refl

other_unknown : (b : Bool) (key : Key) (later : Option Key) → b ≡ is_among key known_fields → IsOther later → IsOther (if b then later else Some key)
other_unknown true key later e h = h
other_unknown false key later e h = none_of (bytes_eq key (codes "parameters")) _ (sym e)

pub unknown_other : (t : Members) → IsOther (unknown_field t)
unknown_other no_members = tt
unknown_other (member key value ms) = other_unknown (is_among key known_fields) key (unknown_field ms) refl (unknown_other ms)

-- what a fault says of another key
pub tells_field : (t : Members) (faulty : Option Key) (f : InputFault) → IsOther faulty → TellsKey t faulty f → TellsField t faulty f
tells_field t faulty (BadKey key value) other h =
    let e : are_parameters (string_bytes key) ≡ false = subst IsOther h.0 other in
    (h.0, subst (λ (b : Bool). IsFieldBy b (string_bytes key) t value) (sym e) h.1)
tells_field t faulty (OutOfMemory _) other h = tt
tells_field t faulty f other h = absurd h

-- what it says of the first of two faults it says of both
pub field_first : (t : Members) (a b : Option Key) (f : InputFault) → TellsField t a f → TellsField t (first_of a b) f
field_first t (Some k) b f h = h
field_first t None b (OutOfMemory _) h = tt
field_first t None b (BadKey k shown) h = let bad = h.0 in cc
field_first t None b f h = absurd h

-- and so is that of the later, where the first is none
pub field_later : (t : Members) (a b : Option Key) (f : InputFault) → a ≡ None → TellsField t b f → TellsField t (first_of a b) f
field_later t a b f e h = rw e h

-- a fault of octets that are no table is one of the fields
pub toml_tells : (octets : List ℕ) (f : InputFault) → TellsToml octets f → TellsFields octets f
toml_tells octets (NotToml why) h = h
toml_tells octets (OutOfMemory _) h = tt
toml_tells octets f h = absurd h

-- a fault of what is read of a value is one of what is made of that
pub still_told : {A B : Type 0} (t : Members) (key : Key) (o : Option A) (f : A → Option B) (fault : InputFault) → TellsKey t (fault_at key o) fault → TellsKey t (fault_at key (option_and_then f o)) fault
still_told t key None f fault h = h
still_told t key (Some x) f (BadKey k shown) h = let bad = h.0 in cc
still_told t key (Some x) f (OutOfMemory _) h = tt
still_told t key (Some x) f fault h = absurd h

-- both validities, and not both
pub seconds_both : (a : Bool) (o : Option Data) → (a && is_some o) ≡ true → seconds_in a o ≡ None
seconds_both true None e = absurd (true≢false (sym e))
seconds_both true (Some d) e = refl
seconds_both false o e = absurd (true≢false (sym e))

pub seconds_one : (a : Bool) (o : Option Data) → (a && is_some o) ≡ false → seconds_in a o ≡ number_if 1 2_592_000 o
seconds_one a None e = refl
seconds_one true (Some d) e = absurd (true≢false e)
seconds_one false (Some d) e = refl

-- what a fault says of parameters that aren't good
told_there : (t : Members) (name : Key) (at value : ConfigValue) → name ≡ codes "parameters" → at ≡ value → params_of t ≡ None → AreParametersAt (get_member (codes "parameters") t) value
    → (params_fault t ≡ Some name) × IsFieldAt name t at
told_there t name at value is same none shows =
    subst (λ (n : Key). (params_fault t ≡ Some n) × IsFieldAt n t at) (sym is)
    (ap (λ (o : Option (List Parameter)). fault_at (codes "parameters") o) none, subst (λ (v : ConfigValue). AreParametersAt (get_member (codes "parameters") t) v) (sym same) shows)

pub bad_tells : (t : Members) (o : Option Data) (value : ConfigValue) (f : InputFault) → get_member (codes "parameters") t ≡ o → parameters_in o ≡ None → AreParametersAt o value → IsBadParameters value f → TellsField t (params_fault t) f
bad_tells t o value (BadKey key at) there none shows told =
    told_there t (string_bytes key) at value told.0 told.1 (ap parameters_in there ∙ none) (subst (λ (d : Option Data). AreParametersAt d value) (sym there) shows)
bad_tells t o value (OutOfMemory _) there none shows told = tt
bad_tells t o value f there none shows told = absurd told
