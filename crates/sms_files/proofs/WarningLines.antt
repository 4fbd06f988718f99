-- How the line of a warning comes about.
use Rattle.std.proofs.Common.{◌≡◌, ◌∙◌, refl, ap, ℕ, List, ◌++◌, append_assoc, codes, true, Result, Ok, Err}
use Rattle.std.specs.Prelude.{OnOk, decimal, if◌then◌else◌, is_ok, string_bytes}
use Rattle.sms_message.specs.declared.message.Message.{Message}
use Rattle.sms_files.specs.Warnings.{looks_open, warning_line}

regrouped : (old label digits behind : List ℕ) → old ++ label ++ digits ++ behind ≡ old ++ (label ++ digits ++ behind)
regrouped old label digits behind = ap (λ (k : List ℕ). k ++ behind) (append_assoc old label digits) ∙ append_assoc old (label ++ digits) behind

-- a label with a number was appended, and then what comes behind them, if it was
pub line_appended : {T E : Type 0} (r : Result T E) (new old between label digits behind line : List ℕ)
    → between ≡ old ++ label ++ digits → new ≡ (if is_ok r then (between ++ behind) else between) → label ++ digits ++ behind ≡ line
    → OnOk r (new ≡ old ++ line)
line_appended (Ok x) new old between label digits behind line b h e =
    h ∙ ap (λ (k : List ℕ). k ++ behind) b ∙ regrouped old label digits behind ∙ ap (λ (k : List ℕ). old ++ k) e
line_appended (Err x) new old between label digits behind line b h e = tt

pub open_line : (m : Message) → looks_open (string_bytes m.text) ≡ true
    → codes "warning: message " ++ decimal m.index ++ codes ": its text has a line end and commas: is a quote left open?\n" ≡ warning_line m
open_line m looks = rw looks refl
