-- A sending was to its target, with a journal or without.
use Rattle.std.proofs.Common.{◌≡◌, ◌∙◌, ap, sym, subst, ℕ, Bool, List, String, Vec, Global}
use Rattle.std.specs.Prelude.{map, string_bytes}
use Rattle.sms_devices.specs.Centres.{CentreAt}
use Rattle.sms_files.specs.Inputs.{Told}
use Rattle.sms_send.specs.Reached.{centre_of}
use Rattle.sms_send.specs.declared.sending.target.Target.{Target}
use Rattle.sms_send.specs.declared.sending.target.Target.TheVariants.{Loopback, Remote}

-- what holds of connections to a centre holds of those to a target, which is that centre
at_target : (tells : CentreAt → Bool → ℕ → ℕ → Told) (target : Target) (P : (ℕ → ℕ → Told) → Type 0) (centre : CentreAt) (has noted : Bool)
    → centre ≡ centre_of target → has ≡ noted → P (tells centre has) → P (tells (centre_of target) noted)
at_target tells target P centre has noted same one holds = subst (λ (b : Bool). P (tells (centre_of target) b)) one (subst (λ (c : CentreAt). P (tells c has)) same holds)

-- at the host and port that it names
pub over_remote : (tells : CentreAt → Bool → ℕ → ℕ → Told) (target : Target) (P : (ℕ → ℕ → Told) → Type 0) (host : String Global) (port : ℕ) (shown : List ℕ) (has noted : Bool)
    → target ≡ Remote host port → shown ≡ string_bytes host → has ≡ noted → P (tells (CentreAt.Named shown port) has) → P (tells (centre_of target) noted)
over_remote tells target P host port shown has noted is same one holds =
    at_target tells target P (CentreAt.Named shown port) has noted (ap (λ (h : List ℕ). CentreAt.Named h port) same ∙ ap centre_of (sym is)) one holds

-- one of the program's own with that script
pub over_loopback : (tells : CentreAt → Bool → ℕ → ℕ → Told) (target : Target) (P : (ℕ → ℕ → Told) → Type 0) (bind_status : ℕ) (texts : Vec (String Global) Global) (answers : List (List ℕ)) (has noted : Bool)
    → target ≡ Loopback bind_status texts → answers ≡ map string_bytes texts.items → has ≡ noted → P (tells (CentreAt.Own bind_status answers) has) → P (tells (centre_of target) noted)
over_loopback tells target P bind_status texts answers has noted is same one holds =
    at_target tells target P (CentreAt.Own bind_status answers) has noted (ap (λ (a : List (List ℕ)). CentreAt.Own bind_status a) same ∙ ap centre_of (sym is)) one holds
